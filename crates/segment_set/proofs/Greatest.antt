-- The greatest cut and floor of the first files.
use Rattle.std.proofs.Common.{◌≡◌, ℕ, ◌+◌, ◌<◌, max, List, [], ◌∷◌, ◌++◌, length, take, get_or, ap, ◌∙◌, arith}
use Rattle.std.proofs.lemmas.List.{take_more}
use Rattle.segment_set.specs.declared.opened.Opened.{Opened}
use Rattle.segment_set.specs.Fits.{cut_by, floor_by}

cut_push : (files : List Opened) (one : Opened) → cut_by (files ++ one ∷ []) ≡ max (cut_by files) one.part.descriptor.cut
cut_push [] one = omega arith
cut_push (x ∷ files) one = omega (arith, cut_push files one)

floor_push : (files : List Opened) (one : Opened) → floor_by (files ++ one ∷ []) ≡ max (floor_by files) one.part.descriptor.floor
floor_push [] one = omega arith
floor_push (x ∷ files) one = omega (arith, floor_push files one)

pub cut_more : (files : List Opened) (n : ℕ) (d : Opened) → n < length files → cut_by (take (n + 1) files) ≡ max (cut_by (take n files)) (get_or files n d).part.descriptor.cut
cut_more files n d lt = ap cut_by (take_more files n d lt) ∙ cut_push (take n files) (get_or files n d)

pub floor_more : (files : List Opened) (n : ℕ) (d : Opened) → n < length files → floor_by (take (n + 1) files) ≡ max (floor_by (take n files)) (get_or files n d).part.descriptor.floor
floor_more files n d lt = ap floor_by (take_more files n d lt) ∙ floor_push (take n files) (get_or files n d)
