-- What the reading of a file comes to, from its first bytes to the end of its frames.
use Rattle.std.proofs.Common.{◌≡◌, ⊎_elim, ℕ, ◌+◌, ◌-◌, ◌<◌, ◌≤◌, Bool, true, false, List, [], ◌++◌, length, take, drop, get_or, Option, Some, None, refl, sym, ap, subst, ◌∙◌, arith, if◌then◌else◌, length-append, length-drop, take-append-drop}
use Rattle.std.proofs.lemmas.List.{append-nil, drop-drop, drop_all, take_all, get_or-take}
use Rattle.std.proofs.lemmas.Bool.{and_from, cases_lt, eq-eqb, le-leb}
use Rattle.disk_model.specs.declared.file_id.FileId.{FileId}
use Rattle.disk_model.specs.Calls.{ReadsInto}
use Rattle.segment_files.specs.declared.windows.Walked.{Walked}
use Rattle.segment_files.specs.declared.windows.Walked.TheVariants.{Gate, Rest, Damaged as Is_damaged}
use Rattle.segment_files.specs.declared.reading.Frames.TheVariants.{End, Damaged as Are_damaged}
use Rattle.segment_files.specs.Files.{is_open}
use Rattle.segment_files.specs.declared.rule.Rule.{Rule}
use Rattle.segment_files.specs.Parse.{Numbered, Closed, Damaged, Ends, Fails, behind, index_behind, is_full, walk, rule_of, part_of, described, descriptor_fields, first_wrong, parse, parse_open}
use Rattle.segment_files.specs.Contents.{AreAt, AreIn, Fills, Gained, HasRoom, IfRight, IsWalked, Offset_list, ReadsWindow, ReadsPiece, HasFrames, extended, last_read}
use Rattle.segment_files.proofs.Placing.{at_join}
use Rattle.segment_files.proofs.PuttingDown.{behind_behind, behind_none, gained_length, index_same}
use Rattle.segment_files.proofs.Walks.{extended_none, extended_more, fills, walk_full, walk_none}

-- THE FIRST BYTES

module _ (bytes old new : List ℕ) (n : ℕ) (size : length old ≡ 64) (kept : length new ≡ length old) (reads : ReadsInto bytes 0 old new n) where
  pub opened : 2 ≤ n → get_or new 0 0 ≡ 1 → is_open bytes ≡ true
  opened some gate =
      let byte : get_or bytes 0 0 ≡ 1 =
      sym (get_or-take n bytes 0 0 (omega (arith, some))) ∙ sym (ap (λ (l : List ℕ). get_or l 0 0) reads.front) ∙ get_or-take n new 0 0 (omega (arith, some)) ∙ gate in
      and_from _ _ (eq-eqb (get_or bytes 0 0) 1 byte) (le-leb 2 (length bytes) (omega (arith, some, reads.count)))

  -- what was read is all that is there of the first 64 bytes
  pub filled : take n new ≡ take 64 bytes
  filled = reads.front ∙ ⊎_elim
      (λ less. take_all n bytes (omega (arith, less, reads.count, size)) ∙ sym (take_all 64 bytes (omega (arith, less, reads.count, size))))
      (λ more. let all : n ≡ 64 = omega (arith, more, reads.count, size) in ap (λ (k : ℕ). take k bytes) all)
      (cases_lt n 64)

module _ (id : FileId) (bytes : List ℕ) (is : is_open bytes ≡ true) where
  pub open_parse : parse id bytes ≡ described id (take 64 bytes) (drop 64 bytes) (first_wrong (descriptor_fields id (take 64 bytes)) (take 64 bytes))
  unfolding parse_open
  open_parse = ap (λ (t : Bool). if t then parse_open id (take 64 bytes) (drop 64 bytes) else Closed) is

  -- a field that isn't right, or isn't whole
  pub bad_head : (at : ℕ) → first_wrong (descriptor_fields id (take 64 bytes)) (take 64 bytes) ≡ Some at → parse id bytes ≡ Damaged at
  bad_head at wrong = open_parse ∙ ap (λ (o : Option ℕ). described id (take 64 bytes) (drop 64 bytes) o) wrong

  pub good_head : first_wrong (descriptor_fields id (take 64 bytes)) (take 64 bytes) ≡ None → parse id bytes ≡ part_of id (take 64 bytes) (walk (rule_of (take 64 bytes)) 0 (id.base - 1) (drop 64 bytes))
  good_head right = open_parse ∙ ap (λ (o : Option ℕ). described id (take 64 bytes) (drop 64 bytes) o) right

-- A PIECE

pub piece : (rule : Rule) (base : ℕ) (bytes old_window window : List ℕ) (is_end : Bool) (at end n : ℕ) (old new : Offset_list) (walked : Walked) → end ≡ length bytes → at < end → length old_window ≡ length window → length old_window ≤ n
    → (is_end ≡ true → length window ≡ end - at) → ReadsInto bytes at old_window window n → ReadsWindow rule base window is_end at old new walked → ReadsPiece rule base bytes at old new walked
piece rule base bytes old_window window is_end at end n old new walked end_is within same full last reads r =
    let n_is : n ≡ length window = omega (arith, full, same, reads.count) in
    let front : window ≡ take (length window) (drop at bytes) =
    sym (take_all (length window) window (omega arith)) ∙ subst (λ (k : ℕ). take k window ≡ take k (drop at bytes)) n_is reads.front in
    let rest = drop (length window) (drop at bytes) in
    let whole : drop at bytes ≡ window ++ rest = sym (take-append-drop (length window) (drop at bytes)) ∙ ap (λ (l : List ℕ). l ++ rest) (sym front) in
    record {
      gained = r.gained;
      walk = subst (λ (l : List ℕ). IsWalked (behind rule (length old)) l (last_read base old) r.gained.more walked) (sym whole)
          (r.walk rest (λ is. let size = last is in drop_all (length window) (drop at bytes) (omega (arith, size, end_is, length-drop at bytes))));
      full = r.full;
      laid = laid_in walked whole r.laid;
    }
  where
    laid_in : (w : Walked) → drop at bytes ≡ window ++ drop (length window) (drop at bytes) → IfRight (AreIn base window at r.gained.more r.gained.offsets) w
        → IfRight (λ to. AreAt base bytes at r.gained.more r.gained.offsets (at + to)) w
    laid_in (Gate to) whole laid = laid bytes (drop (length window) (drop at bytes), whole)
    laid_in (Rest to) whole laid = laid bytes (drop (length window) (drop at bytes), whole)
    laid_in (Is_damaged to) whole laid = tt

-- THE FRAMES, as far as they were read.
pub record ScannedTo (rule : Rule) (bytes : List ℕ) (base : ℕ) (offsets : Offset_list) (at : ℕ) : Type 0 where
  pub entries : Numbered
  pub as_many : length offsets ≡ length entries
  pub start : 64 ≤ at
  pub walk : walk rule 0 (base - 1) (drop 64 bytes) ≡ extended entries (at - 64) (walk (behind rule (length offsets)) 0 (last_read base offsets) (drop at bytes))
  pub laid : AreAt base bytes 64 entries offsets at

pub scanned_none : (rule : Rule) (bytes : List ℕ) (base : ℕ) (offsets : Offset_list) → offsets ≡ [] → ScannedTo rule bytes base offsets 64
scanned_none rule bytes base offsets none = subst (λ (l : Offset_list). ScannedTo rule bytes base l 64) (sym none) (record {
  entries = [];
  as_many = refl;
  start = omega arith;
  walk = extended_none (walk rule 0 (base - 1) (drop 64 bytes)) ∙ ap (λ (r : Rule). extended [] 0 (walk r 0 (base - 1) (drop 64 bytes))) (sym (behind_none rule));
  laid = omega arith;
})

module _ (rule : Rule) (bytes : List ℕ) (base : ℕ) (old new : Offset_list) (at : ℕ) (scanned : ScannedTo rule bytes base old at) where
  abbrev es : Numbered
  es = scanned.entries

  -- what is left of the rule, and the index before the next
  abbrev here : Rule
  here = behind rule (length old)

  abbrev now : ℕ
  now = last_read base old

  count : (more : Numbered) (r : Gained rule base old new) → r.more ≡ more → length (es ++ more) ≡ length new
  count more r is = length-append es more ∙ omega (arith, scanned.as_many, gained_length rule base old new r, ap length is)

  ends_here : walk here 0 now (drop at bytes) ≡ Ends [] 0 → walk rule 0 (base - 1) (drop 64 bytes) ≡ Ends es (at - 64)
  ends_here is = scanned.walk ∙ ap (extended es (at - 64)) is ∙ ap (λ (l : Numbered). Ends l (at - 64 + 0)) (append-nil es) ∙ ap (λ (k : ℕ). Ends es k) {x = at - 64 + 0} {y = at - 64} (omega arith)

  -- at the end of the file
  pub scanned_end : length bytes ≤ at → is_full here ≡ false → HasFrames rule bytes base old (Are_damaged at)
  scanned_end le more =
      let end : walk here 0 now (drop at bytes) ≡ Fails 0 = ap (walk here 0 now) (drop_all at bytes le) ∙ walk_none here now ∙ ap (λ (t : Bool). if t then Ends [] 0 else Fails 0) more in
      (scanned.start, scanned.walk ∙ ap (extended es (at - 64)) end ∙ ap (λ (k : ℕ). Fails k) {x = at - 64 + 0} {y = at - 64} (omega arith))

  -- all entries were read
  pub scanned_full : HasRoom rule (length old) → is_full here ≡ true → HasFrames rule bytes base old (End at)
  scanned_full has full = (
    es,
    scanned.start,
    ends_here (walk_full here now (drop at bytes) full),
    subst (Fills rule) scanned.as_many (fills rule (length old) has full),
    scanned.laid,
  )

  pub scanned_bad : (place : ℕ) → ReadsPiece rule base bytes at old new (Is_damaged place) → HasFrames rule bytes base new (Are_damaged (at + place))
  scanned_bad place r = (
    omega (arith, scanned.start),
    scanned.walk ∙ ap (extended es (at - 64)) r.walk ∙ ap (λ (k : ℕ). Fails k) (omega (arith, scanned.start)),
  )

  joined : (to : ℕ) (more : Numbered) (offsets : Offset_list) → new ≡ old ++ offsets → AreAt base bytes at more offsets to → AreAt base bytes 64 (es ++ more) new to
  joined to more offsets items behind = subst (λ (l : Offset_list). AreAt base bytes 64 (es ++ more) l to) (sym items) (at_join base bytes 64 at to es more old offsets scanned.laid behind)

  pub scanned_gate : (behind : ℕ) → ReadsPiece rule base bytes at old new (Gate behind) → HasFrames rule bytes base new (End (at + behind))
  scanned_gate behind r =
      let place : at - 64 + behind ≡ at + behind - 64 = omega (arith, scanned.start) in (
        es ++ r.gained.more,
        omega (arith, scanned.start),
        scanned.walk ∙ ap (extended es (at - 64)) r.walk ∙ ap (λ (k : ℕ). Ends (es ++ r.gained.more) k) place,
        subst (Fills rule) (sym (count r.gained.more r.gained refl)) r.full,
        joined (at + behind) r.gained.more r.gained.offsets r.gained.items r.laid,
      )

  pub scanned_more : (place : ℕ) → ReadsPiece rule base bytes at old new (Rest place) → ScannedTo rule bytes base new (at + place)
  scanned_more place r =
      let more = r.gained.more in
      let all = es ++ more in
      let to : at - 64 + place ≡ at + place - 64 = omega (arith, scanned.start) in
      let rule_next : behind here (length more) ≡ behind rule (length new) = behind_behind rule (length old) (length more) ∙ ap (behind rule) (sym (gained_length rule base old new r.gained)) in
      let last_next : index_behind here now more ≡ last_read base new = index_same rule (length old) now more ∙ sym r.gained.last in
      let goes = walk (behind here (length more)) 0 (index_behind here now more) (drop place (drop at bytes)) in
      record {
        entries = all;
        as_many = sym (count more r.gained refl);
        start = omega (arith, scanned.start);
        walk = scanned.walk
            ∙ ap (extended es (at - 64)) r.walk
            ∙ extended_more es more (at - 64) place goes
            ∙ ap (λ (k : ℕ). extended all k goes) to
            ∙ ap (λ (x : Rule). extended all (at + place - 64) (walk x 0 (index_behind here now more) (drop place (drop at bytes)))) rule_next
            ∙ ap (λ (k : ℕ). extended all (at + place - 64) (walk (behind rule (length new)) 0 k (drop place (drop at bytes)))) last_next
            ∙ ap (λ (l : List ℕ). extended all (at + place - 64) (walk (behind rule (length new)) 0 (last_read base new) l)) (drop-drop place at bytes);
        laid = joined (at + place) more r.gained.offsets r.gained.items r.laid;
      }
