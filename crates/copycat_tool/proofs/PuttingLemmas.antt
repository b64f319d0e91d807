-- Some lines, written one after the other.
use Rattle.std.proofs.Common.{◌≡◌, inr, ℕ, zero, suc, ◌+◌, ◌≤◌, List, [], ◌∷◌, ◌++◌, length, map, take, Option, Some, Err, refl, ap, sym, ◌∙◌, subst, arith, append_assoc, length-append}
use Rattle.std.proofs.lemmas.List.{append-nil, take-append-le, take_all}
use Rattle.std.proofs.lemmas.Option.{slice_get-map, slice_get_within}
use Rattle.std.proofs.Math.Seq.{take-append-add}
use Rattle.std.specs.List.{slice_get}
use Rattle.std.specs.Option.{option_map}
use Rattle.host_types.specs.declared.entry.Event.{Event}
use Rattle.script_text.specs.declared.printed.Printed.TheVariants as prints
use Rattle.script_text.specs.Printing.{printed_text}
use Rattle.log_model.specs.serving.Batches.{Batch}
use Rattle.copycat_tool.specs.declared.ending.Ending.{Ending}
use Rattle.copycat_tool.specs.declared.ending.Ending.TheVariants.{Done, Fault, TooLong, ReadFault, WriteFault, DiskFault, NoMemory, Damaged}
use Rattle.copycat_tool.specs.Report.{printed_lines}
use Rattle.copycat_tool.specs.Runs.{Wrote}
use Rattle.copycat_tool.specs.ClientTakes.{ArePut, event_lines}
use Rattle.copycat_tool.specs.Turning.{IsPut}
use Rattle.copycat_tool.proofs.Writing.{wrote_as, wrote_more}

length_map : {A B : Type 0} (f : A → B) (xs : List A) → length (map f xs) ≡ length xs
length_map f [] = refl
length_map f (x ∷ xs) = ap suc (length_map f xs)

-- the line of an event
pub event_line : (session : ℕ) (b : Batch) (place : ℕ) (event : Event) → slice_get b.events place ≡ Some event → slice_get (event_lines session b) place ≡ Some (printed_text (prints.Event session b.index b.previous event))
event_line session b place event is = slice_get-map (λ event. printed_text (prints.Event session b.index b.previous event)) b.events place ∙ ap (option_map (λ event. printed_text (prints.Event session b.index b.previous event))) is

pub count_lines : (session : ℕ) (b : Batch) → length (event_lines session b) ≡ length b.events
count_lines session b = length_map (λ event. printed_text (prints.Event session b.index b.previous event)) b.events

-- what is printed of the first lines, with the next one, and what is left
lines_cut : (k : ℕ) (lines : List (List ℕ)) (line : List ℕ) → slice_get lines k ≡ Some line
    → (printed_lines (take (suc k) lines) ≡ printed_lines (take k lines) ++ (line ++ 10 ∷ [])) × ((rest : List ℕ) × (printed_lines lines ≡ printed_lines (take k lines) ++ ((line ++ 10 ∷ []) ++ rest)))
lines_cut k [] line is = absurd (cc is)
lines_cut zero (x ∷ lines) line is =
    let same : x ≡ line = cc is in
    let P : List ℕ → Type 0 = λ l. ((x ++ 10 ∷ []) ++ [] ≡ l ++ 10 ∷ []) × ((rest : List ℕ) × ((x ++ 10 ∷ []) ++ printed_lines lines ≡ (l ++ 10 ∷ []) ++ rest)) in
    subst P same (append-nil (x ++ 10 ∷ []), (printed_lines lines, refl))
lines_cut (suc k) (x ∷ lines) line is =
    let more = lines_cut k lines line is in (
      ap (λ (l : List ℕ). (x ++ 10 ∷ []) ++ l) more.0 ∙ sym (append_assoc (x ++ 10 ∷ []) (printed_lines (take k lines)) (line ++ 10 ∷ [])),
      (more.1.0, ap (λ (l : List ℕ). (x ++ 10 ∷ []) ++ l) more.1.1 ∙ sym (append_assoc (x ++ 10 ∷ []) (printed_lines (take k lines)) ((line ++ 10 ∷ []) ++ more.1.0))),
    )

module _ (lines : List (List ℕ)) (k : ℕ) (line : List ℕ) (is : slice_get lines k ≡ Some line) (written mid new : Option (List ℕ)) (before : Wrote written mid (printed_lines (take k lines))) where
  -- one line more was written
  pub put_next : (next : ℕ) → next ≡ k + 1 → Wrote mid new (line ++ 10 ∷ []) → Wrote written new (printed_lines (take next lines))
  put_next next same wrote =
      let at : next ≡ suc k = omega (arith, same) in
      wrote_as written new _ _ (sym (ap (λ (n : ℕ). printed_lines (take n lines)) at ∙ (lines_cut k lines line is).0)) (wrote_more written mid new (printed_lines (take k lines)) (line ++ 10 ∷ []) before wrote)

  -- or a part of it
  pub put_part : (sink sink' sink'' : ℕ) → sink ≤ sink' → (T : Type 0) (ending : Ending) → IsPut mid new sink' sink'' (line ++ 10 ∷ []) {T = T} (Err ending) → ArePut written new sink sink'' lines {T = T} (Err ending)
  put_part sink sink' sink'' le T WriteFault put =
      let cut = (lines_cut k lines line is).1 in
      let front = printed_lines (take k lines) in
      let whole : length (printed_lines lines) ≡ length front + (length (line ++ 10 ∷ []) + length cut.0) = ap length cut.1 ∙ length-append front ((line ++ 10 ∷ []) ++ cut.0) ∙ ap (λ (n : ℕ). length front + n) (length-append (line ++ 10 ∷ []) cut.0) in
      let part : take (length front + put.0.0) (printed_lines lines) ≡ front ++ take put.0.0 (line ++ 10 ∷ []) =
      ap (λ (l : List ℕ). take (length front + put.0.0) l) cut.1 ∙ take-append-add front ((line ++ 10 ∷ []) ++ cut.0) put.0.0
      ∙ ap (λ (l : List ℕ). front ++ l) (take-append-le put.0.0 (line ++ 10 ∷ []) cut.0 (omega (arith, put.0.1))) in (
        (length front + put.0.0, omega (arith, whole, put.0.1), wrote_as written new _ _ (sym part) (wrote_more written mid new front (take put.0.0 (line ++ 10 ∷ [])) before put.0.2)),
        omega (arith, le, put.1),
      )
  put_part sink sink' sink'' le T NoMemory put =
      inr (k, slice_get_within lines k line is, wrote_as written new _ _ (append-nil (printed_lines (take k lines))) (wrote_more written mid new (printed_lines (take k lines)) [] before put))
  put_part sink sink' sink'' le T Done put = absurd put
  put_part sink sink' sink'' le T (Fault n) put = absurd put
  put_part sink sink' sink'' le T TooLong put = absurd put
  put_part sink sink' sink'' le T ReadFault put = absurd put
  put_part sink sink' sink'' le T DiskFault put = absurd put
  put_part sink sink' sink'' le T (Damaged base generation at) put = absurd put

-- all of them
pub put_whole : (lines : List (List ℕ)) (k : ℕ) (written new : Option (List ℕ)) → length lines ≤ k → Wrote written new (printed_lines (take k lines)) → Wrote written new (printed_lines lines)
put_whole lines k written new all wrote = wrote_as written new _ _ (ap printed_lines (take_all k lines all)) wrote
