-- What an entry that is stored leaves of a host's files, and what a crash leaves on the way.
use Rattle.std.proofs.Common.{◌≡◌, ℕ, ◌+◌, ◌<◌, Bool, true, false, nat_le, is_none, Option, None, List, [], ◌∷◌, inl, refl, sym, subst, ◌∙◌, ap, arith}
use Rattle.std.proofs.lemmas.Bool.{leb-false}
use Rattle.std.proofs.lemmas.List.Elements.{All-cons, All-nil}
use Rattle.host_types.specs.Limits.{index_limit}
use Rattle.host_types.specs.declared.entry.Refusal.TheVariants as refusals
use Rattle.host_types.specs.declared.entry.Entry.{Entry}
use Rattle.host_types.specs.Ranges.{EntryFits, IsInRange}
use Rattle.disk_model.specs.View.{View, IsSound, LeavesOnly}
use Rattle.disk_model.proofs.Moments.{started}
use Rattle.segment_files.specs.Contents.{MayStandAt, shut_frame_bytes}
use Rattle.segment_set.specs.declared.parts.Parts.{Parts}
use Rattle.segment_files.specs.Folder.{EachHas}
use Rattle.segment_set.specs.Fits.{Fits, IsEmptyWhereNone, IsHeld, parts_in}
use Rattle.segment_set.specs.Growth.{HasOrGains, IsFrameFor}
use Rattle.segment_set.specs.declared.tail.Tail.{Tail}
use Rattle.segment_set.proofs.Known.{no_parts}
use Rattle.log_model.specs.plain.Admission.{Admitted, refused_if}
use Rattle.host_recovery.specs.Answers.{admits_file, finds_file}

-- the frame is one for the entry behind the last
pub frame_for : (last index : ℕ) (frame : List ℕ) (entry : Entry) → index ≡ last → IsInRange (index + 1) entry → EntryFits entry → frame ≡ shut_frame_bytes ((index + 1, entry) ∷ []) → IsFrameFor last frame (entry ∷ [])
frame_for last index frame entry is range fits bytes =
    let P : ℕ × Entry → Type 0 = λ e. MayStandAt e.0 e.1 in
    record {
      some = omega arith;
      few = omega arith;
      fit = All-cons P (last + 1, entry) [] (subst (λ (n : ℕ). IsInRange (n + 1) entry) is range, fits) (All-nil P);
      bytes = bytes ∙ ap (λ (n : ℕ). shut_frame_bytes ((n + 1, entry) ∷ [])) is;
    }

-- nothing was done yet
pub not_yet : (v : View) (parts : Parts) (size : ℕ) (entry : Entry) → IsSound v → IsHeld v parts → LeavesOnly v v (HasOrGains parts.name size parts.greatest (parts_in v.reading parts) (entry ∷ []))
not_yet v parts size entry sound held =
    started v (HasOrGains parts.name size parts.greatest (parts_in v.reading parts) (entry ∷ [])) sound (λ c may. inl (held c may))

-- a listed file is a part, and where none is listed there is none
pub stays_empty : (v : View) (parts : Parts) → Fits v parts → IsHeld v parts → IsEmptyWhereNone v parts.name
stays_empty v parts fits held none = subst (EachHas v parts.name) (no_parts v parts fits none) held

-- where an entry finds a file, and a new one is needed, a generation is left for it
pub file_left : (parts : Parts) → admits_file parts ≡ Admitted → parts.tail ≡ None → parts.greatest < index_limit
file_left parts admitted none = by (nat_le index_limit parts.greatest) refl (sym (ap (λ (o : Option Tail). finds_file (is_none o) parts.greatest) none) ∙ admitted)
  where
    by : (t : Bool) → nat_le index_limit parts.greatest ≡ t → refused_if t (refusals.GenEnd parts.greatest) ≡ Admitted → parts.greatest < index_limit
    by true is refused = absurd (cc refused)
    by false is found = leb-false index_limit parts.greatest is
