-- A host's log that grows. For `hosted_log_grows`, `hosted_quiet_grows`, `marks_law_of_machines`.
use Rattle.std.proofs.Common.{length, ◌≡◌, ℕ, ◌+◌, ◌-◌, ◌≤◌, Bool, true, false, cond, ◌&&◌, ◌||◌, ◌==◌, List, [], ◌∷◌, ◌++◌, Option, Some, None, refl, sym, ap, subst, ◌∙◌, arith, eq-eqb, eqb-true}
use Rattle.std.proofs.lemmas.Bool.{and_parts, and_from}
use Rattle.std.specs.Option.{option_map}
use Rattle.host_types.specs.declared.entry.Body.{Body}
use Rattle.host_types.specs.declared.entry.Body.TheVariants.{Register, Alive, Close, Tick, Command}
use Rattle.host_types.specs.declared.entry.Entry.{Entry}
use Rattle.host_types.specs.Cells.{Register_at, Alive_at, Held, at, stands, marked, is_owned_by}
use Rattle.host_types.specs.Decision.{MachineDecision, MachineIsLawful, MachineHasOneOwner}
use Rattle.log_model.specs.cleaning.Cells.{puts, after, Numbered, is_released}
use Rattle.log_model.specs.plain.Admission.{Item}
use Rattle.log_model.specs.plain.Quiet.{kept_of}
use Rattle.log_model.specs.hosted.Hosted.{is_hosted_log, hosted_stored, Hosted, hosted_nothing, hosted_entry, hosted_told, hosted_step, hosted_from, hosted_folded, hosted_stored_from, is_hosted_admitted, is_hosted_log_from, hosted_quiet}
use Rattle.log_model.specs.hosted.Parts.{alive_index, alive_after}
use Rattle.log_model.specs.hosted.Sound.{IsSound}
use Rattle.log_model.specs.hosted.Machines.{Grown, Whole}
use Rattle.host_types.proofs.Places.{place_total, exact_places}
use Rattle.log_model.proofs.Lookups.{tied_true}
use Rattle.log_model.proofs.cleaning.Changes.{Change, Written, Taken, Left, change}
use Rattle.log_model.proofs.cleaning.Entries.{single}
use Rattle.log_model.proofs.cleaning.Growth.{AllKeep, to_each, from_each, keep_after, below_kept, greatest}
use Rattle.log_model.proofs.plain.Tracks.{untouched, emptied}
use Rattle.log_model.proofs.hosted.OfMachines.{last-hosted, cells-hosted, length-hosted, lawful_from, nothing_sound, first_owner, one_owner}
use Rattle.log_model.proofs.cleaning.Markings.{marks_law}
use Rattle.log_model.specs.cleaning.Cleaning.{numbered, entry_at, Cleaned}
use Rattle.log_model.specs.plain.Fitting.{ItemsFit}
use Rattle.log_model.specs.cleaning.Released.{mark_of, released_at}
use Rattle.log_model.proofs.hosted.Sounds.{effect_alive, effect_covers_alive}

and_true : (b : Bool) → (b && true) ≡ b
and_true true = refl
and_true false = refl

and_within : (a b c : Bool) → (a && (b && c)) ≡ ((a && b) && c)
and_within true b c = refl
and_within false b c = refl

module _ (d : MachineDecision) where
  pub hosted_from-append : (s : Hosted) (items more : List Item) → hosted_from d s (items ++ more) ≡ hosted_from d (hosted_from d s items) more
  hosted_from-append s [] more = refl
  hosted_from-append s (item ∷ items) more = hosted_from-append (hosted_step d s item) items more

  stored_push : (s : Hosted) (items : List Item) (item : Item) → hosted_stored_from d s (items ++ item ∷ []) ≡ hosted_stored_from d s items ++ hosted_entry d (hosted_from d s items) item ∷ []
  stored_push s [] item = refl
  stored_push s (x ∷ items) item = ap (λ l. hosted_entry d s x ∷ l) (stored_push (hosted_step d s x) items item)

  log_push : (s : Hosted) (items : List Item) (item : Item) → is_hosted_log_from d s (items ++ item ∷ []) ≡ (is_hosted_log_from d s items && is_hosted_admitted d (hosted_from d s items) item)
  log_push s [] item = and_true (is_hosted_admitted d s item)
  log_push s (x ∷ items) item = ap (λ b. is_hosted_admitted d s x && b) (log_push (hosted_step d s x) items item) ∙ and_within (is_hosted_admitted d s x) (is_hosted_log_from d (hosted_step d s x) items) (is_hosted_admitted d (hosted_from d (hosted_step d s x) items) item)

  pub grown : (items : List Item) (item : Item) → Grown d items item
  grown items item = record { folded = hosted_from-append hosted_nothing items (item ∷ []); stored = stored_push hosted_nothing items item; log = log_push hosted_nothing items item }

  pub whole : (items : List Item) → Whole d items
  whole items = let n = last-hosted d hosted_nothing items in record { last = n ∙ omega arith; length = length-hosted d hosted_nothing items; cells = cells-hosted d hosted_nothing items }

  quiet_stays : (k : ℕ) (s : Hosted) (items : List Item) → k ≤ s.last → AllKeep (λ i. k ≤ i - 1) s.sessions → k ≤ hosted_quiet (hosted_from d s items)
  quiet_stays k s [] l h = greatest k s.last (kept_of s.sessions) l (to_each (λ i. k ≤ i - 1) s.sessions h)
  quiet_stays k s (item ∷ items) l h =
      let e = hosted_entry d s item in
      quiet_stays k (hosted_step d s item) items (omega arith) (keep_after (λ i. k ≤ i - 1) (s.last + 1) e.time (hosted_told d s.cells (s.last + 1) e.body) e.body s.sessions (omega arith) h)

  pub quiet_grows_hosted : (items more : List Item) → hosted_quiet (hosted_folded d items) ≤ hosted_quiet (hosted_folded d (items ++ more))
  quiet_grows_hosted items more =
      let s = hosted_folded d items in
      let b = below_kept s.last (kept_of s.sessions) in
      subst (λ t. hosted_quiet s ≤ hosted_quiet t) (sym (hosted_from-append hosted_nothing items more))
      (quiet_stays (hosted_quiet s) s more b.1 (from_each (λ i. hosted_quiet s ≤ i - 1) s.sessions b.0))

-- ---- who is alive

alive_kept : (s : Hosted) (i t : ℕ) (id session seq event : ℕ) → Change s.cells i (record { time = t; body = Alive session seq event }) (Alive_at id) → alive_index (after s.cells i (record { time = t; body = Alive session seq event })) id ≡ cond (session == id && stands s.cells (Register_at id)) (Some i) (alive_index s.cells id)
alive_kept s i t id session seq event (Written h f w a) =
    let r = single (Alive_at session) (marked i) (Alive_at id) h w in
    let same : id ≡ session = (cc r.0) in
    let there : stands s.cells (Register_at id) ≡ true = ap (λ n. stands s.cells (Register_at n)) same ∙ f in
    ap (option_map (λ (g : Held). g.index)) (a ∙ ap Some (sym r.1))
    ∙ ap (λ b. cond b (Some i) (alive_index s.cells id)) (sym (and_from (session == id) (stands s.cells (Register_at id)) (eq-eqb session id (sym same)) there))
alive_kept s i t id session seq event (Taken h w v a) = absurd (cc)
alive_kept s i t id session seq event (Left u v same) =
    ap (option_map (λ (g : Held). g.index)) same
    ∙ elim (session == id && stands s.cells (Register_at id)) as (λ b. (session == id && stands s.cells (Register_at id)) ≡ b → alive_index s.cells id ≡ cond b (Some i) (alive_index s.cells id)) [
      | true ↦ λ q.
          let p = and_parts (session == id) (stands s.cells (Register_at id)) q in
          let is : session ≡ id = eqb-true session id p.0 in
          let none = u (ap (λ n. stands s.cells (Register_at n)) is ∙ p.1) in
          let put : at (puts i (Alive session seq event)) (Alive_at session) ≡ Some (marked i) = ap (λ b. cond b (Some (marked i)) None) (tied_true place_total exact_places (Alive_at session)) in
          let put' : at (puts i (Alive session seq event)) (Alive_at id) ≡ Some (marked i) = subst (λ n. at (puts i (Alive session seq event)) (Alive_at n) ≡ Some (marked i)) is put in
          absurd (cc)
      | false ↦ λ q. refl
    ] refl

pub alives_follow : (s : Hosted) (i : ℕ) (e : Entry) (id : ℕ) → IsSound s → alive_index (after s.cells i e) id ≡ alive_after s.cells i e.body id
alives_follow s i e id h = go e.time e.body
  where
    index_of : Option Held → Option ℕ
    index_of o = option_map (λ (g : Held). g.index) o

    go : (t : ℕ) (b : Body) → alive_index (after s.cells i (record { time = t; body = b })) id ≡ alive_after s.cells i b id
    go t (Register timeout) = ap (option_map (λ (g : Held). g.index)) (untouched s.cells i (record { time = t; body = Register timeout }) (Alive_at id) refl (λ h _. refl))
    go t (Alive session seq event) = alive_kept s i t id session seq event (change s.cells i (record { time = t; body = Alive session seq event }) (Alive_at id))
    go t (Close session expired) =
        elim (session == id) as (λ b. (session == id) ≡ b → alive_index (after s.cells i (record { time = t; body = Close session expired })) id ≡ cond b None (alive_index s.cells id)) [
          | true ↦ λ q. ap (option_map (λ (g : Held). g.index)) (emptied s.cells i (record { time = t; body = Close session expired }) (Alive_at id) refl (λ g f. ap (λ b. b || is_owned_by session g.owner) q))
          | false ↦ λ q. ap (option_map (λ (g : Held). g.index)) (untouched s.cells i (record { time = t; body = Close session expired }) (Alive_at id) refl (λ g f. ap (λ b. b || is_owned_by session g.owner) q ∙ ap (is_owned_by session) (h.heard id g f).1))
        ] refl
    go t Tick = ap (option_map (λ (g : Held). g.index)) (untouched s.cells i (record { time = t; body = Tick }) (Alive_at id) refl (λ h _. refl))
    go t (Command session seq effect reply) = ap (option_map (λ (g : Held). g.index)) (untouched s.cells i (record { time = t; body = Command session seq effect reply }) (Alive_at id) (effect_alive i effect id) (λ h _. effect_covers_alive effect id))

-- ---- marks

pub marks_of_machines : (d : MachineDecision) (items : List Item) (left : Numbered) (k f : ℕ) → MachineIsLawful d → MachineHasOneOwner d → ItemsFit items → is_hosted_log d items ≡ true → Cleaned left (hosted_stored d items) (hosted_quiet (hosted_folded d items)) k f → (j : ℕ) (e : Entry) → entry_at left j ≡ Some e → (cut : ℕ) → k ≤ cut → cut ≤ length items → released_at (mark_of left j) cut ≡ is_released (numbered (hosted_stored d items)) cut j
marks_of_machines d items left k f lawful one fit log cleaned j e there cut low high =
    let n = length-hosted d hosted_nothing items in
    let r = lawful_from d lawful hosted_nothing items nothing_sound fit log in
    let entries = numbered (hosted_stored d items) in
    marks_law left (hosted_stored d items) (hosted_quiet (hosted_folded d items)) k f (first_owner entries) r.0 (one_owner d one entries r.1) cleaned j e there cut low (omega arith)
