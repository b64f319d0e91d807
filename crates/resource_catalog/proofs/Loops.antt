-- What the loops over names and instances keep.
use Rattle.std.proofs.Common.{◌≡◌, ℕ, zero, suc, ◌+◌, ◌<◌, ◌≤◌, List, [], ◌∷◌, ◌++◌, length, take, drop, set, get_or, refl, sym, ap, subst, ◌∙◌, append_assoc, append-nil, arith}
use Rattle.std.proofs.lemmas.List.{take_more}
use Rattle.host_types.specs.Cells.{Name_at, Cells}
use Rattle.machine.specs.Listing.{one_listed, listed}
use Rattle.resource_catalog.specs.declared.slots.Slot.{Slot}
use Rattle.resource_catalog.specs.declared.names.Named.{Named}
use Rattle.resource_catalog.specs.Kinds.{any_cells}
use Rattle.resource_catalog.specs.Parts.{Names, Slots, name_held, name_cells, slot_cells}
use Rattle.resource_catalog.specs.Steps.{HasForgotten, Forgot, closes_by, closes_in}
use Rattle.resource_catalog.proofs.Places.{slots_joined, names_joined}

pub listed_joined : (a b : Cells) → listed (a ++ b) ≡ listed a ++ listed b
listed_joined [] b = refl
listed_joined (x ∷ a) b = ap (λ l. one_listed x.0 x.1 ++ l) (listed_joined a b) ∙ sym (append_assoc (one_listed x.0 x.1) (listed a) (listed b))

-- the first so many have forgotten, the rest are as before
abbrev pub ForgotFirst : ℕ → ℕ → Slots → Slots → Type 0
ForgotFirst owner zero old new = new ≡ old
ForgotFirst owner (suc n) [] [] = Unit {0}
ForgotFirst owner (suc n) (e ∷ old) (f ∷ new) = HasForgotten owner e f × ForgotFirst owner n old new
ForgotFirst owner (suc n) _ _ = ⊥

pub forgot_all : (owner n : ℕ) (old new : Slots) → length old ≤ n → ForgotFirst owner n old new → Forgot owner old new
forgot_all owner zero [] new few h = go new h
  where
    go : (new : Slots) → new ≡ [] → Forgot owner [] new
    go [] e = tt
    go (f ∷ new) e = absurd (cc)
forgot_all owner zero (e ∷ old) new few h = absurd (omega (arith, few))
forgot_all owner (suc n) [] [] few h = tt
forgot_all owner (suc n) [] (f ∷ new) few h = absurd h
forgot_all owner (suc n) (e ∷ old) [] few h = absurd h
forgot_all owner (suc n) (e ∷ old) (f ∷ new) few h = (h.0, forgot_all owner n old new (omega (arith, few)) h.1)

pub forgot_lengths : (owner n : ℕ) (old new : Slots) → ForgotFirst owner n old new → length new ≡ length old
forgot_lengths owner zero old new h = ap (λ (l : Slots). length l) h
forgot_lengths owner (suc n) [] [] h = refl
forgot_lengths owner (suc n) [] (f ∷ new) h = absurd h
forgot_lengths owner (suc n) (e ∷ old) [] h = absurd h
forgot_lengths owner (suc n) (e ∷ old) (f ∷ new) h = ap suc (forgot_lengths owner n old new h.1)

-- one more
pub forgot_next : (owner n : ℕ) (old new : Slots) (e f : ℕ × Slot) → ForgotFirst owner n old new → new ≡ take n new ++ e ∷ drop (suc n) new → n < length new → HasForgotten owner e f → ForgotFirst owner (suc n) old (set new n f)
forgot_next owner zero old [] e f h split less done = absurd (omega (arith, less))
forgot_next owner zero [] (g ∷ new) e f h split less done = absurd (cc)
forgot_next owner zero (x ∷ old) (g ∷ new) e f h split less done =
    let here : g ≡ e = (cc) in
    let was : g ≡ x = (cc) in
    let rest : new ≡ old = (cc) in
    (subst (λ y. HasForgotten owner y f) (sym here ∙ was) done, rest)
forgot_next owner (suc n) [] [] e f h split less done = absurd (omega (arith, less))
forgot_next owner (suc n) [] (g ∷ new) e f h split less done = absurd h
forgot_next owner (suc n) (x ∷ old) [] e f h split less done = absurd h
forgot_next owner (suc n) (x ∷ old) (g ∷ new) e f h split less done =
    let rest : new ≡ take n new ++ e ∷ drop (suc n) new = (cc) in
    (h.0, forgot_next owner n old new e f h.1 rest (omega (arith, less)) done)

-- ---- lists of what stands, one entry more

pub listed_names_next : (names : Names) (n : ℕ) (x : List ℕ × Named) → ((d : List ℕ × Named) → get_or names n d ≡ x) → n < length names → listed (name_cells (take (n + 1) names)) ≡ listed (name_cells (take n names)) ++ one_listed (Name_at x.0) (name_held x.1)
listed_names_next names n x read less =
    ap (λ (l : Names). listed (name_cells l)) (take_more names n x less ∙ ap (λ (y : List ℕ × Named). take n names ++ y ∷ []) (read x))
    ∙ ap listed (names_joined (take n names) (x ∷ [])) ∙ listed_joined (name_cells (take n names)) (name_cells (x ∷ []))

pub listed_slots_next : (slots : Slots) (n : ℕ) (x : ℕ × Slot) → ((d : ℕ × Slot) → get_or slots n d ≡ x) → n < length slots → listed (slot_cells (take (n + 1) slots)) ≡ listed (slot_cells (take n slots)) ++ listed (any_cells x.1.resource)
listed_slots_next slots n x read less =
    ap (λ (l : Slots). listed (slot_cells l)) (take_more slots n x less ∙ ap (λ (y : ℕ × Slot). take n slots ++ y ∷ []) (read x))
    ∙ ap listed (slots_joined (take n slots) (x ∷ []) ∙ ap (λ c. slot_cells (take n slots) ++ c) (append-nil (any_cells x.1.resource))) ∙ listed_joined (slot_cells (take n slots)) (any_cells x.1.resource)

closes_joined : (owner : ℕ) (a b : Slots) → closes_in owner (a ++ b) ≡ closes_in owner a ++ closes_in owner b
closes_joined owner [] b = refl
closes_joined owner (e ∷ a) b = ap (λ l. closes_by e.1.resource e.1.name owner ++ l) (closes_joined owner a b) ∙ sym (append_assoc (closes_by e.1.resource e.1.name owner) (closes_in owner a) (closes_in owner b))

pub closes_next : (owner : ℕ) (slots : Slots) (n : ℕ) (x : ℕ × Slot) → ((d : ℕ × Slot) → get_or slots n d ≡ x) → n < length slots → closes_in owner (take (n + 1) slots) ≡ closes_in owner (take n slots) ++ closes_by x.1.resource x.1.name owner
closes_next owner slots n x read less =
    ap (closes_in owner) (take_more slots n x less ∙ ap (λ (y : ℕ × Slot). take n slots ++ y ∷ []) (read x))
    ∙ closes_joined owner (take n slots) (x ∷ []) ∙ ap (λ l. closes_in owner (take n slots) ++ l) (append-nil (closes_by x.1.resource x.1.name owner))
