-- What a rising list of batches shows.
use Rattle.std.proofs.Common.{append-nil, ◌≡◌, ℕ, suc, ◌-◌, ◌<◌, ◌≤◌, ◌==◌, ◌||◌, Bool, true, false, cond, nat_lt, nat_le, List, [], ◌∷◌, ◌++◌, map, Option, Some, None, refl, sym, ap, subst, ◌∙◌, inl, inr, drop, length, Bor, arith, lt-ltb, ltb-true, eqb-true}
use Rattle.std.proofs.lemmas.Bool.{cases_lt, false_from_ne_true}
use Rattle.std.specs.List.{filter, find, slice_get}
use Rattle.std.specs.Option.{option_map, option_map_or, option_copied}
use Rattle.host_types.specs.declared.entry.Event.{Event}
use Rattle.log_model.specs.plain.Plain.{Kept_batch}
use Rattle.log_model.specs.plain.Step.{one_batch}
use Rattle.log_model.specs.serving.Batches as model
use Rattle.event_batches.specs.Kept.{as_batch, as_kept, above, indexes, pushed, served, trimmed, has_batch, can_confirm}
use Rattle.event_batches.specs.Rising.{Rises, AreBelow, last_of}
use Rattle.log_model.specs.serving.Serving.{chained}
use Rattle.event_batches.specs.Dropping.{lent_has, linked_to}
use Rattle.event_batches.specs.declared.batch.Batch.{Batch}
use Rattle.event_batches.proofs.RisingLists.{over, over_first, over_rest, any_from, find_through, map_twice, any_through, filter_through, map_push, found_passes, below_append, rises_over}

-- ---- lists of batches

abbrev pub IsChain : ℕ → List Batch → Type 0
IsChain acked items = map as_batch items ≡ chained acked (map as_kept items)

pub served_is : (acked confirmed : ℕ) (items : List Batch) (r : Option Batch) → IsChain acked items → r ≡ find (λ b. nat_lt confirmed b.index) items → option_map as_batch r ≡ served acked confirmed (map as_kept items)
served_is acked confirmed items r chain is =
    ap (option_map as_batch) is
    ∙ sym (find_through as_batch (λ (b : model.Batch). nat_lt confirmed b.index) items)
    ∙ ap (λ (bs : List model.Batch). find (λ b. nat_lt confirmed b.index) bs) chain

chained_push : (acked : ℕ) (bs : List Kept_batch) (b : Kept_batch) → chained acked (bs ++ b ∷ []) ≡ chained acked bs ++ record { index = b.index; previous = last_of acked (map (λ b. b.index) bs); events = b.events } ∷ []
chained_push acked [] b = refl
chained_push acked (x ∷ bs) b = ap (λ (l : List model.Batch). record { index = x.index; previous = acked; events = x.events } ∷ l) (chained_push x.index bs b)

pub chain_push : (acked : ℕ) (items : List Batch) (b : Batch) → IsChain acked items → b.previous ≡ last_of acked (map (λ b. b.index) items) → IsChain acked (items ++ b ∷ [])
chain_push acked items b chain previous =
    map_push as_batch items b
    ∙ (λ i. chain i ++ record { index = b.index; previous = (previous ∙ ap (last_of acked) (sym (map_twice as_kept (λ (k : Kept_batch). k.index) items))) i; events = b.events } ∷ [])
    ∙ sym (chained_push acked (map as_kept items) (as_kept b))
    ∙ ap (chained acked) (sym (map_push as_kept items b))

pub kept_push : (items : List Batch) (b : Batch) → map as_kept (items ++ b ∷ []) ≡ map as_kept items ++ as_kept b ∷ []
kept_push items b = map_push as_kept items b

pub indexes_push : (items : List Batch) (b : Batch) → map (λ b. b.index) (items ++ b ∷ []) ≡ map (λ b. b.index) items ++ b.index ∷ []
indexes_push items b = map_push (λ (b : Batch). b.index) items b

-- ---- what goes

abbrev index_of : Batch → ℕ
index_of b = b.index

-- ---- what is left of a chain

indexes_linked : (event : ℕ) (items : List Batch) → map (λ b. b.index) (linked_to event items) ≡ map (λ b. b.index) items
indexes_linked event [] = refl
indexes_linked event (x ∷ items) = refl

kept_linked : (event : ℕ) (items : List Batch) → map as_kept (linked_to event items) ≡ map as_kept items
kept_linked event [] = refl
kept_linked event (x ∷ items) = refl

pub rises_cut : (event low : ℕ) (items : List Batch) → Rises low (map (λ b. b.index) items) → Rises event (map (λ b. b.index) (linked_to event (over index_of event items)))
rises_cut event low items r = subst (Rises event) (sym (indexes_linked event (over index_of event items))) (rises_over index_of event low items r)

abbrev rest_of : List model.Batch → List model.Batch
rest_of bs = drop 1 bs

pub chain_cut : (event low : ℕ) (items : List Batch) → Rises low (map (λ b. b.index) items) → IsChain low items → IsChain event (linked_to event (over index_of event items))
chain_cut event low [] r chain = refl
chain_cut event low (x ∷ items) r chain =
    let rest : IsChain x.index items = ap rest_of chain in
    elim (cases_lt event x.index) [
      | inl up ↦
          subst (λ (l : List Batch). IsChain event (linked_to event l)) (sym (over_first index_of event x items up r.1))
          (ap (λ (l : List model.Batch). record { index = x.index; previous = event; events = x.events } ∷ l) rest)
      | inr out ↦
          subst (λ (l : List Batch). IsChain event (linked_to event l)) (sym (over_rest index_of event x items out))
          (chain_cut event x.index items r.1 rest)
    ]

pub kept_cut : (event : ℕ) (items : List Batch) → map as_kept (linked_to event (over index_of event items)) ≡ filter (λ b. nat_lt event b.index) (map as_kept items)
kept_cut event items = kept_linked event (over index_of event items) ∙ sym (filter_through as_kept (λ (k : Kept_batch). nat_lt event k.index) items)

-- ---- what is found

pub lent_is : (index : ℕ) (r : Option (Bor Batch)) → lent_has index r ≡ option_map_or (λ b. b.index == index) (option_copied r) false
lent_is index None = refl
lent_is index (Some b) = refl

pub has_is : (event low : ℕ) (items : List Batch) (r : Option (Bor Batch)) → Rises low (map (λ b. b.index) items) → option_copied r ≡ find (λ b. nat_le event b.index) items → lent_has event r ≡ has_batch event (map as_kept items)
has_is event low items r rises found =
    lent_is event r ∙ ap (λ o. option_map_or (λ (b : Batch). b.index == event) o false) found ∙ any_from index_of event low items rises
    ∙ sym (any_through as_kept (λ (k : Kept_batch). k.index == event) items)

through_batch : (event : ℕ) (o : Option Batch) → option_map_or (λ (b : Batch). b.index == event) o false ≡ option_map_or (λ (b : model.Batch). b.index == event) (option_map as_batch o) false
through_batch event None = refl
through_batch event (Some b) = refl

-- whether the batch to be served is the one
pub next_is : (event acked confirmed : ℕ) (items : List Batch) (r : Option (Bor Batch)) → IsChain acked items → option_copied r ≡ find (λ b. nat_lt confirmed b.index) items → (event ≡ confirmed → ⊥)
    → lent_has event r ≡ can_confirm event acked confirmed (map as_kept items)
next_is event acked confirmed items r chain found other =
    lent_is event r ∙ through_batch event (option_copied r)
    ∙ ap (λ (o : Option model.Batch). option_map_or (λ b. b.index == event) o false) (served_is acked confirmed items (option_copied r) chain found)
    ∙ ap (λ b. b || option_map_or (λ (b : model.Batch). b.index == event) (served acked confirmed (map as_kept items)) false) (sym (false_from_ne_true (event == confirmed) (λ t. other (eqb-true event confirmed t))))

pub last_is : (low : ℕ) (items : List Batch) (b : Batch) → slice_get items (length items - 1) ≡ Some b → b.index ≡ last_of low (map (λ b. b.index) items)
last_is low [] b e = absurd (cc)
last_is low (x ∷ []) b e = let same : x ≡ b = (cc) in ap index_of (sym same)
last_is low (x ∷ y ∷ items) b e = last_is x.index (y ∷ items) b (let n : suc (length items) - 0 ≡ suc (length (y ∷ items) - 1) = omega arith in ap (λ k. slice_get (x ∷ y ∷ items) k) (let m : suc (length (y ∷ items) - 1) ≡ length (x ∷ y ∷ items) - 1 = omega arith in m) ∙ e)

-- a batch that is confirmed is above the event before
pub next_above : (event confirmed : ℕ) (items : List Batch) (r : Option (Bor Batch)) → option_copied r ≡ find (λ b. nat_lt confirmed b.index) items → lent_has event r ≡ true → confirmed < event
next_above event confirmed items None found t = absurd (cc)
next_above event confirmed items (Some b) found t =
    let up = ltb-true confirmed b.now.index (found_passes (λ (x : Batch). nat_lt confirmed x.index) items b.now (sym found)) in
    let e = eqb-true b.now.index event t in
    omega (arith, up, e)

pub below_pushed : (top acked index : ℕ) (events : List Event) (bs : List Kept_batch) → index < top → AreBelow top (indexes bs) → AreBelow top (indexes (pushed acked index events bs))
below_pushed top acked index events bs l b = go (nat_le index acked) events
  where
    go : (q : Bool) (es : List Event) → AreBelow top (indexes (cond q bs (bs ++ one_batch index es)))
    go true es = b
    go false [] = subst (λ (ks : List Kept_batch). AreBelow top (indexes ks)) (sym (append-nil bs)) b
    go false (e ∷ es) = subst (AreBelow top) (sym (map_push (λ (k : Kept_batch). k.index) bs (record { index = index; events = e ∷ es }))) (below_append top (indexes bs) (index ∷ []) b (l, tt))

-- ---- what is acknowledged

pub trimmed_none : (acked event : ℕ) (bs : List Kept_batch) → event < acked → bs ≡ trimmed acked event bs
trimmed_none acked event bs l = sym (ap (λ q. cond q bs (above event bs)) (lt-ltb event acked l))

pub trimmed_some : (acked event : ℕ) (bs : List Kept_batch) → acked ≤ event → above event bs ≡ trimmed acked event bs
trimmed_some acked event bs l = sym (ap (λ q. cond q bs (above event bs)) (false_from_ne_true (nat_lt event acked) (λ t. let up = ltb-true event acked t in omega (arith, up, l))))
