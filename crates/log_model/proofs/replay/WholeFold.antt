-- The replay of a whole log with no cut is its fold. For `replay_gives_fold`, `replay_gives_hosted_fold`.
use Rattle.std.proofs.Common.{◌≡◌, ℕ, ◌+◌, ◌-◌, ◌<◌, ◌≤◌, true, ◌&&◌, List, [], ◌∷◌, ◌++◌, map, length, refl, sym, ap, subst, ◌∙◌, arith}
use Rattle.std.proofs.lemmas.Bool.{and_parts, and_from}
use Rattle.std.specs.List.{enumerate_from, AllByRecursion}
use Rattle.host_types.specs.declared.entry.Ask.{Ask}
use Rattle.host_types.specs.declared.entry.Ask.TheVariants.{Register, Alive, Unregister, Tick, Command}
use Rattle.host_types.specs.Cells.{Cells}
use Rattle.host_types.specs.Decision.{MachineDecision, MachineIsLawful, MachineHasOneOwner}
use Rattle.log_model.specs.cleaning.Cells.{Numbered, after, cells_from}
use Rattle.log_model.specs.cleaning.Cleaning.{numbered, Cleaned}
use Rattle.log_model.specs.plain.Plain.{Kept_reply, Kept_batch, Session, State, nothing_yet}
use Rattle.log_model.specs.plain.Admission.{Item, Offered, Expired}
use Rattle.log_model.specs.plain.Commands.{Outcome, Decided, Declined, outcome}
use Rattle.log_model.specs.plain.Step.{commanded, asked, step, fold_from}
use Rattle.log_model.specs.plain.Stored.{asked_body, decided_body, entry_of, stored_from, stored, is_admitted, is_log_from, is_log}
use Rattle.log_model.specs.serving.Batches.{told, told_ask, told_outcome}
use Rattle.log_model.specs.plain.Quiet.{kept_of, quiet, keeps_none_up_to}
use Rattle.log_model.specs.plain.Fitting.{ItemsFit}
use Rattle.log_model.specs.hosted.Hosted.{Hosted, hosted_nothing, hosted_entry, hosted_told, sessions_after, hosted_step, hosted_from, hosted_folded, hosted_stored, is_hosted_admitted, is_hosted_log_from, is_hosted_log, hosted_quiet}
use Rattle.log_model.specs.hosted.Sound.{IsPast, IsSessionSound, Rises}
use Rattle.log_model.specs.hosted.Machines.{IsLogSound}
use Rattle.log_model.specs.replay.Replay.{Telling, replay_sessions, replay_entry, replay_from, replayed}
use Rattle.log_model.specs.replay.ReplayLaws.{is_orderly_from, TellsFrom, TellsAsPlain, as_folded}
use Rattle.log_model.proofs.cleaning.Growth.{EachOf, AllKeep, to_each, below_kept, last_step, length-stored, numbers_above}
use Rattle.log_model.proofs.cleaning.OfLogs.{lawful_log, log_owner, one_owner as log_has_one_owner}
use Rattle.log_model.proofs.hosted.OfMachines.{entries_from, first_owner, one_owner, lawful_from, length-hosted, last-hosted, step_sound, step_is_replay, nothing_sound, logs_sound, quiet_within, placed_all}
use Rattle.log_model.proofs.cleaning.QuietGreatest.{none_up_to, silent_below, quiet_greatest}
use Rattle.log_model.proofs.plain.Timely.{timely, hosted_timely}
use Rattle.log_model.proofs.replay.Rising.{Ready, rising_next}
use Rattle.log_model.proofs.hosted.Admitted.{Placed, placed_after, replay_is_after, orderly_of}
use Rattle.log_model.proofs.replay.Guards.{same_replay}

-- ---- a step of the plain state, as an entry does it to the sessions

pub step_sessions : (s : State) (item : Item) → (step s item).sessions ≡ sessions_after (s.last + 1) (entry_of s item).time (told s item) (entry_of s item).body s.sessions
step_sessions s (Expired time session) = refl
step_sessions s (Offered o) = go o.ask
  where
    commands : (session seq : ℕ) (out : Outcome) → (commanded s o.time session seq out).sessions ≡ sessions_after (s.last + 1) o.time (told_outcome out) (decided_body session seq out) s.sessions
    commands session seq (Decided effect reply ns told) = refl
    commands session seq (Declined refusal) = refl

    go : (a : Ask) → (asked s o.time a).sessions ≡ sessions_after (s.last + 1) o.time (told_ask s a) (asked_body s a) s.sessions
    go (Register timeout) = refl
    go (Alive session seq event) = refl
    go (Unregister session) = refl
    go Tick = refl
    go (Command session seq name op) = commands session seq (outcome s name session op)

pub now_step : (s : State) (item : Item) → (step s item).now ≡ (entry_of s item).time
now_step s (Expired time session) = refl
now_step s (Offered o) = go o.ask
  where
    commands : (session seq : ℕ) (out : Outcome) → (commanded s o.time session seq out).now ≡ o.time
    commands session seq (Decided effect reply ns told) = refl
    commands session seq (Declined refusal) = refl

    go : (a : Ask) → (asked s o.time a).now ≡ o.time
    go (Command session seq name op) = commands session seq (outcome s name session op)
    go (Register timeout) = refl
    go _ = refl

-- the fold and its cells, as a replay shows them
abbrev pub seen : State → Cells → Hosted
seen s c = record { last = s.last; now = s.now; sessions = s.sessions; cells = c }

module _ (telling : Telling) where
  abbrev Whole : State → Cells → List Item → Type 0
  Whole s c items =
      (replay_from telling 0 (seen s c) (enumerate_from (s.last + 1) (stored_from s items)) ≡ seen (fold_from s items) (cells_from c (enumerate_from (s.last + 1) (stored_from s items))))
      × (is_orderly_from telling (seen s c) (enumerate_from (s.last + 1) (stored_from s items)) ≡ true)

  whole : (s : State) (c : Cells) (items : List Item) → is_log_from s items ≡ true → TellsFrom telling s c items → Ready (enumerate_from (s.last + 1) (stored_from s items)) s.sessions → Rises s.sessions → AllByRecursion (Placed s.last) s.sessions → Whole s c items
  whole s c [] log tells d r placed = (refl, refl)
  whole s c (item ∷ items) log tells d r placed =
      let p = and_parts (is_admitted s item) (is_log_from (step s item) items) log in
      let i = s.last + 1 in
      let e = entry_of s item in
      let es = enumerate_from (i + 1) (stored_from (step s item) items) in
      let time = timely s item p.0 in
      let sessions : replay_sessions 0 i e.time (telling c i e.body) e.body s.sessions ≡ (step s item).sessions =
      ap (λ l. replay_sessions 0 i e.time l e.body s.sessions) tells.0
      ∙ replay_is_after s.last i e.time (told s item) e.body s.sessions (omega arith) r placed time
      ∙ sym (step_sessions s item) in
      let next : replay_entry telling 0 (seen s c) (i, e) ≡ seen (step s item) (after c i e) =
      λ j. record { last = sym (last_step s item) j; now = sym (now_step s item) j; sessions = sessions j; cells = after c i e } in
      let q = rising_next 0 e.time (telling c i e.body) e.body i e es s.sessions (numbers_above i (i + 1) (omega arith) (stored_from (step s item) items)) d r in
      let ready : Ready (enumerate_from ((step s item).last + 1) (stored_from (step s item) items)) (step s item).sessions =
      subst (λ n. Ready (enumerate_from (n + 1) (stored_from (step s item) items)) (step s item).sessions) (sym (last_step s item)) (subst (Ready es) sessions q.0) in
      let placed' : AllByRecursion (Placed (step s item).last) (step s item).sessions =
      subst (λ n. AllByRecursion (Placed n) (step s item).sessions) (sym (last_step s item))
      (subst (AllByRecursion (Placed i)) (sym (step_sessions s item)) (placed_after s.last i (omega arith) e.time (told s item) e.body s.sessions time placed)) in
      let rest : Whole (step s item) (after c i e) items = whole (step s item) (after c i e) items p.1 tells.1 ready (subst Rises sessions q.1) placed' in
      let rest' = subst (λ n.
      (replay_from telling 0 (seen (step s item) (after c i e)) (enumerate_from (n + 1) (stored_from (step s item) items)) ≡ seen (fold_from (step s item) items) (cells_from (after c i e) (enumerate_from (n + 1) (stored_from (step s item) items))))
      × (is_orderly_from telling (seen (step s item) (after c i e)) (enumerate_from (n + 1) (stored_from (step s item) items)) ≡ true)) (last_step s item) rest in (
        ap (λ st. replay_from telling 0 st es) next ∙ rest'.0,
        and_from _ _ (orderly_of s.last i s.sessions e.body (omega arith) placed time) (ap (λ st. is_orderly_from telling st es) next ∙ rest'.1),
      )

pub gives_fold : (telling : Telling) (items : List Item) (left : Numbered) (k f : ℕ) → TellsAsPlain telling → is_log items ≡ true → Cleaned left (stored items) (quiet items) k f → replayed telling k left ≡ as_folded items
gives_fold telling items left k f tells log cleaned =
    let all = whole telling nothing_yet [] items log (tells items log) tt tt tt in
    let lawful = lawful_log nothing_yet [] items (record { by_name = λ x. refl; by_session = λ id. refl }) log in
    let n = length-stored nothing_yet items in
    let g = quiet_greatest items in
    let q = cleaned.is_quiet in
    let silent : keeps_none_up_to k (replayed telling 0 (numbered (stored items))).sessions ≡ true =
    ap (λ (s : Hosted). keeps_none_up_to k s.sessions) all.0 ∙ silent_below items k cleaned.is_quiet in
    same_replay telling left (stored items) (quiet items) k f (log_owner (numbered (stored items))) lawful.0 all.1 (log_has_one_owner (numbered (stored items)) lawful.1) cleaned (omega (arith, g.0)) silent
    ∙ all.0

-- ---- the same of a machine

module _ (d : MachineDecision) (lawful : MachineIsLawful d) where
  whole_hosted : (s : Hosted) (items : List Item) → IsLogSound s → ItemsFit items → is_hosted_log_from d s items ≡ true → (replay_from (hosted_told d) 0 s (entries_from d s items) ≡ hosted_from d s items) × (is_orderly_from (hosted_told d) s (entries_from d s items) ≡ true)
  whole_hosted s [] h fit log = (refl, refl)
  whole_hosted s (item ∷ items) h fit log =
      let p = and_parts (is_hosted_admitted d s item) (is_hosted_log_from d (hosted_step d s item) items) log in
      let i = s.last + 1 in
      let e = hosted_entry d s item in
      let es = entries_from d (hosted_step d s item) items in
      let next : replay_entry (hosted_told d) 0 s (i, e) ≡ hosted_step d s item = sym (step_is_replay d s item h.sound h.acks_are_past p.0) in
      let rest = whole_hosted (hosted_step d s item) items (step_sound d s item lawful h fit.0 p.0) fit.1 p.1 in (
        ap (λ st. replay_from (hosted_told d) 0 st es) next ∙ rest.0,
        and_from _ _ (orderly_of s.last i s.sessions e.body (omega arith) (placed_all s h.sound h.acks_are_past) (hosted_timely d s item p.0)) (ap (λ st. is_orderly_from (hosted_told d) st es) next ∙ rest.1),
      )

replies_indexed : (last : ℕ) (rs : List Kept_reply) → AllByRecursion (λ (r : Kept_reply). IsPast last r.index) rs → EachOf (λ i. 1 ≤ i) (map (λ (r : Kept_reply). r.index) rs)
replies_indexed last [] h = tt
replies_indexed last (r ∷ rs) h = (h.0.0, replies_indexed last rs h.1)

batches_indexed : (n last : ℕ) (bs : List Kept_batch) → AllByRecursion (λ (b : Kept_batch). (n < b.index) × (b.index ≤ last)) bs → EachOf (λ i. 1 ≤ i) (map (λ (b : Kept_batch). b.index) bs)
batches_indexed n last [] h = tt
batches_indexed n last (b ∷ bs) h = (omega (arith, h.0.0), batches_indexed n last bs h.1)

all_indexed : (last : ℕ) (ss : List Session) → AllByRecursion (IsSessionSound last) ss → AllKeep (λ i. 1 ≤ i) ss
all_indexed last [] h = tt
all_indexed last (x ∷ ss) h = ((replies_indexed last x.replies h.0.replies, batches_indexed x.acked_event last x.batches h.0.batches), all_indexed last ss h.1)

-- at or below quiet no session keeps anything
pub hosted_silent : (s : Hosted) (k : ℕ) → AllByRecursion (IsSessionSound s.last) s.sessions → k ≤ hosted_quiet s → keeps_none_up_to k s.sessions ≡ true
hosted_silent s k h l =
    let is = kept_of s.sessions in
    ap Rattle.std.proofs.Common.not (none_up_to k (hosted_quiet s) is l (to_each (λ i. 1 ≤ i) s.sessions (all_indexed s.last s.sessions h)) (below_kept s.last is).0)

pub gives_hosted_fold : (d : MachineDecision) (items : List Item) (left : Numbered) (k f : ℕ) → MachineIsLawful d → MachineHasOneOwner d → ItemsFit items → is_hosted_log d items ≡ true → Cleaned left (hosted_stored d items) (hosted_quiet (hosted_folded d items)) k f → replayed (hosted_told d) k left ≡ hosted_folded d items
gives_hosted_fold d items left k f lawful one fit log cleaned =
    let s = hosted_folded d items in
    let all = whole_hosted d lawful hosted_nothing items nothing_sound fit log in
    let r = lawful_from d lawful hosted_nothing items nothing_sound fit log in
    let n = length-hosted d hosted_nothing items in
    let m = last-hosted d hosted_nothing items in
    let q = cleaned.is_quiet in
    let w = quiet_within s in
    let live = logs_sound d items lawful fit log in
    let entries = numbered (hosted_stored d items) in
    let silent : keeps_none_up_to k (replayed (hosted_told d) 0 (numbered (hosted_stored d items))).sessions ≡ true = ap (λ (t : Hosted). keeps_none_up_to k t.sessions) all.0 ∙ hosted_silent s k live.sound.sessions_are q in
    same_replay (hosted_told d) left (hosted_stored d items) (hosted_quiet s) k f (first_owner entries) r.0 all.1 (one_owner d one entries r.1) cleaned (omega arith) silent
    ∙ all.0
