-- A host over a machine that decides as the rows do is as the plain state. For `plain_machines_are_plain`.
use Rattle.std.proofs.Common.{◌≡◌, ℕ, ◌+◌, true, false, ◌&&◌, List, [], ◌∷◌, length, refl, sym, ap, subst, ◌∙◌, arith}
use Rattle.std.proofs.lemmas.Bool.{and_parts}
use Rattle.std.specs.List.{enumerate_from}
use Rattle.host_types.specs.declared.entry.Ask.{Ask}
use Rattle.host_types.specs.declared.entry.Ask.TheVariants.{Register, Alive, Unregister, Tick, Command}
use Rattle.host_types.specs.declared.entry.Entry.{Entry}
use Rattle.host_types.specs.declared.entry.Offer.{Offer}
use Rattle.host_types.specs.declared.entry.Op.{Op}
use Rattle.host_types.specs.Cells.{Name_at, Cell_at, Cells}
use Rattle.host_types.specs.Decision.{MachineDecision}
use Rattle.log_model.specs.cleaning.Cells.{after, cells_from}
use Rattle.log_model.specs.cleaning.Cleaning.{numbered}
use Rattle.log_model.specs.plain.Plain.{State, nothing_yet}
use Rattle.log_model.specs.plain.Admission.{Item, Offered, Expired, admits_offer, declined_by, refused_outcome, admits}
use Rattle.log_model.specs.plain.Commands.{Outcome, Decided, Declined, outcome}
use Rattle.log_model.specs.plain.Step.{step, fold_from, folded}
use Rattle.log_model.specs.plain.Stored.{entry_with, decided_body, asked_body, entry_of, stored_from, stored, is_admission, is_admitted, is_log_from}
use Rattle.log_model.specs.serving.Batches.{told, told_ask, told_outcome}
use Rattle.log_model.specs.plain.Quiet.{kept_of, greatest_below}
use Rattle.log_model.specs.hosted.Hosted.{Hosted, hosted_nothing, machine_cells, refused_choice, hosted_declined, hosted_admits, hosted_expires, is_hosted_admitted, choice_body, hosted_entry, hosted_told, sessions_after, hosted_after, hosted_step, hosted_from, hosted_folded, hosted_stored_from, is_hosted_log_from}
use Rattle.log_model.specs.replay.Telling.{ShowsState}
use Rattle.log_model.specs.kinds.Shows.{Shows}
use Rattle.log_model.specs.hosted.PlainMachine.{choice_of, IsPlainMachine, HostsArePlain}
use Rattle.log_model.proofs.Lookups.{T_from, from_T}
use Rattle.log_model.proofs.cleaning.Growth.{last_step}
use Rattle.log_model.proofs.hosted.Parts.{at_machine, sorted_machine}
use Rattle.log_model.proofs.replay.WholeFold.{step_sessions, now_step, seen}
use Rattle.log_model.proofs.hosted.OfMachines.{last-hosted}
use Rattle.log_model.proofs.kinds.ShownCloses.{others_shown}
use Rattle.log_model.proofs.replay.Shown.{Whole, each_name, shows_state, whole_next, whole_nothing}

-- the machine's part of the cells shows what they show
machine_shows : (c : Cells) (s : State) → ShowsState c s → ShowsState (machine_cells c) s
machine_shows c s h = record {
  sorted = from_T _ (sorted_machine c (T_from _ h.sorted));
  names = λ x. at_machine c (Name_at x) ∙ h.names x;
  rising = h.rising;
  distinct = h.distinct;
  shown = each_name (λ n. Shows n.instance c n.plain) (λ n. Shows n.instance (machine_cells c) n.plain) (λ n k. others_shown c (machine_cells c) n.instance n.plain (λ cell. at_machine c (Cell_at n.instance cell)) k) s.names h.shown;
}

refused_same : (out : Outcome) → refused_choice (choice_of out) ≡ refused_outcome out
refused_same (Decided effect reply names told) = refl
refused_same (Declined refusal) = refl

body_same : (session seq : ℕ) (out : Outcome) → choice_body session seq (choice_of out) ≡ decided_body session seq out
body_same session seq (Decided effect reply names told) = refl
body_same session seq (Declined refusal) = refl

module _ (d : MachineDecision) (plain : IsPlainMachine d) where
  module _ (s : State) (c : Cells) (shown : ShowsState (machine_cells c) s) where
    declined_same : hosted_declined d (seen s c) ≡ declined_by s
    declined_same = λ j session name op. (ap refused_choice (plain.resolves s (machine_cells c) name op session shown) ∙ refused_same (outcome s name session op)) j

    pub admits_same : (o : Offer) → hosted_admits d (seen s c) o ≡ admits s o
    admits_same o = ap (λ f. admits_offer s.last s.now s.sessions f o) declined_same

    admitted_same : (item : Item) → is_hosted_admitted d (seen s c) item ≡ is_admitted s item
    admitted_same (Offered o) = ap is_admission (admits_same o)
    admitted_same (Expired time session) = refl

    entry_same : (item : Item) → hosted_entry d (seen s c) item ≡ entry_of s item
    entry_same item = ap (λ f. entry_with f item) (λ j session seq name op. (ap (choice_body session seq) (plain.resolves s (machine_cells c) name op session shown) ∙ body_same session seq (outcome s name session op)) j)

    told_same : (item : Item) → hosted_told d c (s.last + 1) (entry_of s item).body ≡ told s item
    told_same (Expired time session) = plain.tells_close s (machine_cells c) session shown
    told_same (Offered o) = go o.ask
      where
        command : (session seq : ℕ) (name : List ℕ) (op : Op) (out : Outcome) → outcome s name session op ≡ out → hosted_told d c (s.last + 1) (decided_body session seq out) ≡ told_outcome out
        command session seq name op (Decided effect reply names told) e = plain.tells s (machine_cells c) name op session effect reply names told shown e
        command session seq name op (Declined refusal) e = refl

        go : (a : Ask) → hosted_told d c (s.last + 1) (asked_body s a) ≡ told_ask s a
        go (Register timeout) = refl
        go (Alive session seq event) = refl
        go (Unregister session) = plain.tells_close s (machine_cells c) session shown
        go Tick = refl
        go (Command session seq name op) = command session seq name op (outcome s name session op) refl

    step_same : (item : Item) → hosted_step d (seen s c) item ≡ seen (step s item) (after c (s.last + 1) (entry_of s item))
    step_same item =
        let e = entry_of s item in
        ap (hosted_after d (seen s c)) (entry_same item)
        ∙ (λ j. record {
          last = sym (last_step s item) j;
          now = sym (now_step s item) j;
          sessions = (ap (λ l. sessions_after (s.last + 1) e.time l e.body s.sessions) (told_same item) ∙ sym (step_sessions s item)) j;
          cells = after c (s.last + 1) e;
        })

  abbrev entries : State → List Item → List (ℕ × Entry)
  entries s items = enumerate_from (s.last + 1) (stored_from s items)

  record Same (s : State) (c : Cells) (items : List Item) : Type 0 where
    fold_same : hosted_from d (seen s c) items ≡ seen (fold_from s items) (cells_from c (entries s items))
    entries_same : hosted_stored_from d (seen s c) items ≡ stored_from s items
    shown : ShowsState (machine_cells (cells_from c (entries s items))) (fold_from s items)

  plain_from : (s : State) (c : Cells) (items : List Item) → Whole s c → (is_hosted_log_from d (seen s c) items ≡ is_log_from s items) × (is_log_from s items ≡ true → Same s c items)
  plain_from s c [] w = (refl, λ log. record { fold_same = refl; entries_same = refl; shown = machine_shows c s (shows_state s c w) })
  plain_from s c (item ∷ items) w =
      let shown = machine_shows c s (shows_state s c w) in
      let same = admitted_same s c shown item in
      let next = step_same s c shown item in
      let d' = after c (s.last + 1) (entry_of s item) in
      let rest : is_admitted s item ≡ true → (is_hosted_log_from d (seen (step s item) d') items ≡ is_log_from (step s item) items) × (is_log_from (step s item) items ≡ true → Same (step s item) d' items) = λ ok. plain_from (step s item) d' items (whole_next s c w item ok) in (
        ap (λ b. b && is_hosted_log_from d (hosted_step d (seen s c) item) items) same
            ∙ elim (is_admitted s item) as (λ b. is_admitted s item ≡ b → (b && is_hosted_log_from d (hosted_step d (seen s c) item) items) ≡ (b && is_log_from (step s item) items)) [
              | true ↦ λ ok. ap (λ st. is_hosted_log_from d st items) next ∙ (rest ok).0
              | false ↦ λ ok. refl
            ] refl,
        λ log.
            let p = and_parts (is_admitted s item) (is_log_from (step s item) items) log in
            let r = (rest p.0).1 p.1 in
            let late : (n : ℕ) → n ≡ (step s item).last + 1 → cells_from d' (entries (step s item) items) ≡ cells_from d' (enumerate_from n (stored_from (step s item) items)) = λ n e. ap (λ m. cells_from d' (enumerate_from m (stored_from (step s item) items))) (sym e) in
            let cells_same = late (s.last + 1 + 1) (ap (λ n. n + 1) (sym (last_step s item))) in
            record {
              fold_same = ap (λ st. hosted_from d st items) next ∙ r.fold_same ∙ ap (seen (fold_from (step s item) items)) cells_same;
              entries_same = (λ j. entry_same s c shown item j ∷ (ap (λ st. hosted_stored_from d st items) next ∙ r.entries_same) j);
              shown = subst (λ k. ShowsState (machine_cells k) (fold_from (step s item) items)) cells_same r.shown;
            },
      )

  shown_in : (st : Hosted) (s : State) (c : Cells) → st ≡ seen s c → ShowsState (machine_cells c) s → ShowsState (machine_cells st.cells) s
  shown_in st s c same h = subst (λ (z : Hosted). ShowsState (machine_cells z.cells) s) (sym same) h

  pub plain_machine : HostsArePlain d
  plain_machine items =
      let r = plain_from nothing_yet [] items whole_nothing in (
        r.0,
        λ log.
            let k = r.1 log in
            let c = cells_from [] (numbered (stored items)) in
            let s = folded items in
            let same : hosted_folded d items ≡ seen s c = k.fold_same in
            record {
              same_fold = same;
              same_entries = k.entries_same;
              same_admission = λ o. ap (λ st. hosted_admits d st o) same ∙ admits_same s c k.shown o;
              same_entry = λ item. ap (λ st. hosted_entry d st item) same ∙ entry_same s c k.shown item;
              same_expiry = λ time. ap (λ st. hosted_expires st time) same;
              shows = shown_in (hosted_folded d items) s c same k.shown;
              same_look = λ name op looking. plain.looks (folded items) (machine_cells (hosted_folded d items).cells) name op looking (shown_in (hosted_folded d items) s c same k.shown);
              same_quiet = (let n = last-hosted d hosted_nothing items in
                  let last : (hosted_folded d items).last ≡ length items = omega arith in
                  (λ j. greatest_below (last j) (kept_of (same j).sessions)));
            },
      )
