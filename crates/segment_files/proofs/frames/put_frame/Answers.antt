use Rattle.std.proofs.Common.{◌++◌, ℕ, List, [], ◌∷◌, ap, ◌∙◌, append_assoc}
use Rattle.segment_files.specs.Contents.{body_bytes, lent}
use Rattle.segment_files.proofs.frames.put_frame.Goals as goal

pub returns-clause-frame : goal.returns-clause-frame
returns-clause-frame c =
    let old = c.args.out.now.items in
    let body = body_bytes (lent c.args.entries.now) in
    c.end_frame.ensures old body c.requires.start
    (c.in_ok-put_entries.ensures.body ∙ ap (λ (l : List ℕ). l ++ body) c.in_ok-begin_frame.ensures.ok.1 ∙ append_assoc old (1 ∷ 0 ∷ 0 ∷ 0 ∷ 0 ∷ []) body)
