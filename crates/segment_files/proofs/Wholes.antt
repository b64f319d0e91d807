-- What a file is, by its first bytes and its frames.
use Rattle.std.proofs.Common.{◌≡◌, ℕ, ◌+◌, ◌-◌, ◌≤◌, Bool, true, false, if◌then◌else◌, List, length, take, drop, None, Result, Err, IsErrOf, refl, sym, ap, subst, ◌∙◌, arith}
use Rattle.disk_model.specs.declared.file_id.FileId.{FileId}
use Rattle.segment_files.specs.declared.descriptor.Descriptor.{Descriptor}
use Rattle.segment_files.specs.declared.reading.FileFault.{FileFault}
use Rattle.segment_files.specs.declared.reading.FileFault.TheVariants.{Failed, NoMemory, Damaged as Is_damaged_at}
use Rattle.segment_files.specs.declared.reading.Contents.TheVariants.{Open}
use Rattle.segment_files.specs.declared.reading.Found.TheVariants.{Part as Is_part}
use Rattle.segment_files.specs.declared.reading.Frames.TheVariants.{End, Damaged as Are_damaged}
use Rattle.segment_files.specs.Files.{is_open}
use Rattle.segment_files.specs.Numbers.{Four, Eight, number_at}
use Rattle.segment_files.specs.declared.rule.Rule.{Rule}
use Rattle.segment_files.specs.Parse.{Numbered, Part, Found, Closed, Whole, Damaged, Walk, Ends, Fails, Appended, Rewritten, walk, rule_of, part_of, appended_part, rewritten_part, is_rewritten, last_place, descriptor_fields, first_wrong, parse}
use Rattle.segment_files.specs.Contents.{AreAt, Fills, Offset_list, appended_descriptor, rewritten_descriptor, descriptor_in, rule_by, last_by, HasFrames, IsContents, IsFound, IsOpened, IsNoDamage, IsTrueFault, HasFileCause}
use Rattle.offset_index.specs.Indexed.{Indexed}
use Rattle.segment_files.proofs.Placing.{at_length}
use Rattle.segment_files.proofs.Scanning.{good_head}

-- the rule of what was read is that of the file
pub rule_read : (id : FileId) (head : List ℕ) (descriptor : Descriptor) → descriptor ≡ descriptor_in id head → rule_by descriptor ≡ rule_of head
rule_read id head descriptor is = ap rule_by is ∙ by (is_rewritten head) refl
  where
    by : (t : Bool) → is_rewritten head ≡ t → rule_by (descriptor_in id head) ≡ rule_of head
    by true t_is = ap (λ (x : Bool). rule_by (if x then rewritten_descriptor id head else appended_descriptor id (number_at Four 56 head))) t_is ∙ sym (ap (λ (x : Bool). if x then Rewritten (number_at Eight last_place head) (number_at Eight 48 head) else Appended) t_is)
    by false t_is = ap (λ (x : Bool). rule_by (if x then rewritten_descriptor id head else appended_descriptor id (number_at Four 56 head))) t_is ∙ sym (ap (λ (x : Bool). if x then Rewritten (number_at Eight last_place head) (number_at Eight 48 head) else Appended) t_is)

module _ (id : FileId) (bytes : List ℕ) (is : is_open bytes ≡ true) (right : first_wrong (descriptor_fields id (take 64 bytes)) (take 64 bytes) ≡ None) where
  abbrev head : List ℕ
  head = take 64 bytes

  by_kind : (t : Bool) (w : Walk) → is_rewritten head ≡ t → part_of id head w ≡ (if t then rewritten_part id head w else appended_part id head w)
  by_kind t w t_is = ap (λ (x : Bool). if x then rewritten_part id head w else appended_part id head w) t_is

  -- frames that aren't right
  pub bad_frames : (rule : Rule) (offsets : Offset_list) (at : ℕ) → rule ≡ rule_of head → HasFrames rule bytes id.base offsets (Are_damaged at) → parse id bytes ≡ Damaged at
  bad_frames rule offsets at rule_is fails =
      good_head id bytes is right
      ∙ ap (λ (r : Rule). part_of id head (walk r 0 (id.base - 1) (drop 64 bytes))) (sym rule_is)
      ∙ ap (part_of id head) fails.1
      ∙ either (is_rewritten head) refl
      ∙ ap (λ (k : ℕ). Damaged k) (let le = fails.0 in omega (arith, le))
    where
      either : (t : Bool) → is_rewritten head ≡ t → part_of id head (Fails (at - 64)) ≡ Damaged (64 + (at - 64))
      either true t_is = by_kind true (Fails (at - 64)) t_is
      either false t_is = by_kind false (Fails (at - 64)) t_is

  module _ (gate : ℕ) (entries : Numbered) where
    abbrev as_appended : Part
    as_appended = record { id = id; rewritten = false; last = id.base - 1 + length entries; cut = 0; floor = 0; size = number_at Four 56 head; entries = entries; gate = gate }

    abbrev as_rewritten : Part
    as_rewritten = record {
      id = id;
      rewritten = true;
      last = number_at Eight last_place head;
      cut = number_at Eight 32 head;
      floor = number_at Eight 40 head;
      size = 0;
      entries = entries;
      gate = gate;
    }

    -- what the file is, by what wrote it
    is_whole : (t : Bool) → is_rewritten head ≡ t → 64 ≤ gate → walk (rule_of head) 0 (id.base - 1) (drop 64 bytes) ≡ Ends entries (gate - 64) → parse id bytes ≡ Whole (if t then as_rewritten else as_appended)
    is_whole t t_is le walks = good_head id bytes is right ∙ ap (part_of id head) walks ∙ by_kind t (Ends entries (gate - 64)) t_is ∙ placed t
      where
        place : 64 + (gate - 64) ≡ gate
        place = omega (arith, le)

        placed : (u : Bool) → (if u then rewritten_part id head (Ends entries (gate - 64)) else appended_part id head (Ends entries (gate - 64))) ≡ Whole (if u then as_rewritten else as_appended)
        placed true = ap (λ (k : ℕ). Whole (record {
          id = id;
          rewritten = true;
          last = number_at Eight last_place head;
          cut = number_at Eight 32 head;
          floor = number_at Eight 40 head;
          size = 0;
          entries = entries;
          gate = k;
        })) place
        placed false = ap (λ (k : ℕ). Whole (record { id = id; rewritten = false; last = id.base - 1 + length entries; cut = 0; floor = 0; size = number_at Four 56 head; entries = entries; gate = k })) place

  -- frames that are
  pub is_part : (offsets : Offset_list) (gate : ℕ) (rule : Rule) → rule ≡ rule_of head → HasFrames rule bytes id.base offsets (End gate) → (descriptor : Descriptor) → descriptor ≡ descriptor_in id head
      → (part : Part) × (parse id bytes ≡ Whole part) × (part.id ≡ id) × IsOpened bytes part descriptor offsets gate
  is_part offsets gate rule rule_is (entries, le, walks, fills, laid) descriptor described = by (is_rewritten head) refl
    where
      told : walk (rule_of head) 0 (id.base - 1) (drop 64 bytes) ≡ Ends entries (gate - 64)
      told = ap (λ (r : Rule). walk r 0 (id.base - 1) (drop 64 bytes)) (sym rule_is) ∙ walks

      kind : (t : Bool) → is_rewritten head ≡ t → descriptor ≡ (if t then rewritten_descriptor id head else appended_descriptor id (number_at Four 56 head))
      kind t t_is = described ∙ ap (λ (x : Bool). if x then rewritten_descriptor id head else appended_descriptor id (number_at Four 56 head)) t_is

      by : (t : Bool) → is_rewritten head ≡ t → (part : Part) × (parse id bytes ≡ Whole part) × (part.id ≡ id) × IsOpened bytes part descriptor offsets gate
      by true t_is =
          let d = kind true t_is in
          let many : length entries ≡ number_at Eight 48 head = subst (λ (r : Rule). Fills r (length entries)) (rule_is ∙ ap (λ (x : Bool). if x then Rewritten (number_at Eight last_place head) (number_at Eight 48 head) else Appended) t_is) fills in (
            as_rewritten gate entries,
            is_whole gate entries true t_is le told,
            refl,
            record {
              described = d ∙ ap (λ (k : ℕ). record {
                rewritten = true;
                generation = id.generation;
                base = id.base;
                last = number_at Eight last_place head;
                cut = number_at Eight 32 head;
                floor = number_at Eight 40 head;
                count = k;
                size = 0;
              }) (sym many);
              last = sym (ap (λ (x : Descriptor). last_by x (length entries)) d);
              gate_is = refl;
              offsets_are = laid;
            },
          )
      by false t_is =
          let d = kind false t_is in (
            as_appended gate entries,
            is_whole gate entries false t_is le told,
            refl,
            record { described = d; last = sym (ap (λ (x : Descriptor). last_by x (length entries)) d); gate_is = refl; offsets_are = laid },
          )

-- what was read of a part is told of it
pub part_found : (id : FileId) (file : List ℕ) (found : Found) (descriptor : Descriptor) (offsets : Indexed) (gate last count : ℕ) → IsContents id file found (Open descriptor offsets gate) → count ≡ length offsets.items → last ≡ last_by descriptor count
    → IsFound file (Is_part (record { descriptor = descriptor; last = last; gate = gate; offsets = offsets })) found
part_found id file Closed descriptor offsets gate last count contents count_is last_is = absurd contents
part_found id file (Damaged place) descriptor offsets gate last count contents count_is last_is = absurd contents
part_found id file (Whole part) descriptor offsets gate last count (id_is, opened) count_is last_is =
    let many : count ≡ length part.entries = count_is ∙ at_length part.id.base file 64 gate part.entries offsets.items opened.offsets_are in (
      record { descriptor = opened.described; last = last_is ∙ ap (last_by descriptor) many ∙ sym opened.last; gate = sym opened.gate_is },
      subst (λ (k : ℕ). AreAt part.id.base file 64 part.entries offsets.items k) (sym opened.gate_is) opened.offsets_are,
    )

-- a fault that says nothing of the file is right
pub other_fault : (found : Found) (fault : FileFault) → IsNoDamage fault → IsTrueFault found fault
other_fault found Failed none = tt
other_fault found NoMemory none = tt
other_fault found (Is_damaged_at at) none = absurd none

-- CAUSES

pub cause_after : {T : Type 0} (a b d : ℕ) (r : Result T FileFault) → a ≤ b → HasFileCause b d r → HasFileCause a d r
cause_after a b d r le cause = record { later = omega (arith, le, cause.later); failed = λ is. omega (arith, le, cause.failed is) }

pub cause_passed : {T U : Type 0} (a b d : ℕ) (fault : FileFault) → a ≤ b → HasFileCause {T = T} b d (Err fault) → HasFileCause {T = U} a d (Err fault)
cause_passed a b d fault le cause = record {
  later = omega (arith, le, cause.later);
  failed = λ is. let which : fault ≡ Failed = cc in omega (arith, le, cause.failed (ap (λ (f : FileFault). Err f) which));
}

pub no_cause : {T : Type 0} (a b : ℕ) (r : Result T FileFault) → a ≤ b → (IsErrOf r Failed → ⊥) → HasFileCause a b r
no_cause a b r le none = record { later = le; failed = λ is. absurd (none is) }
