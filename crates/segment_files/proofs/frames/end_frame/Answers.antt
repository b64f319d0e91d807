use Rattle.std.proofs.Common.{◌≡◌, ◌++◌, ◌+◌, ◌-◌, ℕ, List, [], ◌∷◌, length, sym, ap, ◌∙◌, arith, append_assoc, length-append}
use Rattle.std.specs.Int.{w32, to_be_bytes}
use Rattle.disk_model.specs.Image.{written}
use Rattle.segment_files.proofs.Writing.{frame_put}
use Rattle.segment_files.proofs.frames.end_frame.Goals as goal

pub returns : goal.returns
returns c = λ ahead body start out_is.
    let out = c.args.out.now.items in
    let head : List ℕ = 1 ∷ 0 ∷ 0 ∷ 0 ∷ 0 ∷ [] in
    let split : out ≡ (ahead ++ head) ++ body = out_is ∙ sym (append_assoc ahead head body) in
    let count : c.len.result - c.args.start - 5 ≡ length body = omega (arith, c.len.ensures, c.args.out.now.ok.0, ap length split, length-append (ahead ++ head) body, length-append ahead head, start) in
    let size_is : c.to_be_bytes.result ≡ to_be_bytes w32 (length body) = c.to_be_bytes.ensures ∙ ap (to_be_bytes w32) count in
    frame_put ahead out c.put.new.bytes c.to_be_bytes.result body c.args.start c.args.out.now.len start split (sym c.args.out.now.ok.0) (ap length size_is)
    (c.put.ensures ∙ ap (λ (l : List ℕ). written l (c.args.start + 1) c.to_be_bytes.result) c.deref_mut.ensures.value) (c.put.auto.bytes ∙ c.deref_mut.ensures.len)
    ∙ ap (λ (l : List ℕ). ahead ++ (1 ∷ (l ++ body))) size_is
