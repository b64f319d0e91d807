use Rattle.std.proofs.Common.{◌≡◌, ℕ, List, [], ◌∷◌, ◌++◌, take, drop, ap, ◌∙◌}
use Rattle.segment_files.specs.Contents.{appended_descriptor, descriptor_bytes}
use Rattle.segment_files.specs.declared.descriptor.Descriptor.{Descriptor}
use Rattle.segment_set.proofs.appends.behind_gate.Goals as goal

pub returns : goal.returns
returns c =
    let head : c.bytes-head.result ≡ descriptor_bytes (appended_descriptor c.args.id c.args.size) = c.bytes-head.ensures ∙ ap (λ (d : Descriptor). descriptor_bytes d) c.appended.ensures in
    ap (λ (l : List ℕ). 1 ∷ (l ++ 0 ∷ [])) (c.copy_from_slice.ensures.after ∙ ap (λ (l : List ℕ). take 63 (drop 1 l)) head)
