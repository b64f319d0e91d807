use Rattle.std.proofs.Common.{◌≡◌, ◌++◌, ◌+◌, ◌-◌, ℕ, List, [], ◌∷◌, length, take, sym, ap, ◌∙◌, arith, append_assoc, length-append}
use Rattle.std.proofs.lemmas.List.{take-append-le}
use Rattle.entry_codec.specs.Spelled.{spelled}
use Rattle.segment_files.specs.Contents.{body_bytes, lent, places_from}
use Rattle.segment_files.proofs.Writing.{body-push, places-push, one_lent_more}
use Rattle.segment_files.proofs.frames.put_entries.Goals as goal

pub loop-index-preserved : goal.loop-index-preserved
loop-index-preserved c =
    let entries = lent c.args.entries.now in
    let n = c.loop-index.index-index in
    let item = c.loop-index-item.result in
    let old = c.loop-index.out.items in
    let new = c.write.new.out.items in
    let more : take (n + 1) entries ≡ take n entries ++ (item.0, item.1.now) ∷ [] = one_lent_more c.args.entries.now n item c.loop-index-test.true c.loop-index-item.is in
    let written : new ≡ old ++ spelled item.0 item.1.now = c.in_ok-write.ensures.ok in
    let so_far = c.loop-index.invariant in
    let place : c.len.result - c.args.start ≡ 5 + length (body_bytes (take n entries)) =
    omega (arith, c.len.ensures, c.loop-index.out.ok.0, ap length so_far.body, length-append c.args.out.now.items (body_bytes (take n entries)), c.requires.start) in
    record {
      body = written
          ∙ ap (λ (l : List ℕ). l ++ spelled item.0 item.1.now) so_far.body
          ∙ append_assoc c.args.out.now.items (body_bytes (take n entries)) (spelled item.0 item.1.now)
          ∙ ap (λ (l : List ℕ). c.args.out.now.items ++ l) (sym (body-push (take n entries) item.0 item.1.now) ∙ ap body_bytes (sym more));
      places = c.in_ok-push.ensures.items
          ∙ ap (λ (l : List ℕ). l ++ (c.len.result - c.args.start) ∷ []) so_far.places
          ∙ append_assoc c.args.places.now.items (places_from 5 (take n entries)) ((c.len.result - c.args.start) ∷ [])
          ∙ ap (λ (k : ℕ). c.args.places.now.items ++ (places_from 5 (take n entries) ++ k ∷ [])) place
          ∙ ap (λ (l : List ℕ). c.args.places.now.items ++ l) (sym (places-push 5 (take n entries) item.0 item.1.now) ∙ ap (places_from 5) (sym more));
      short = omega (arith, so_far.short, c.in_ok-write.ensures.most);
      long = omega (arith, so_far.long, c.in_ok-write.ensures.least);
      ahead = ap (take c.args.start) written ∙ take-append-le c.args.start old (spelled item.0 item.1.now) (omega (arith, so_far.long)) ∙ so_far.ahead;
    }
