-- When a row is lawful, with the forms that rows have; and that a cell has one owner, whoever puts it.
use Rattle.std.specs.Prelude.{◌≡◌, ◌≢◌, ◌⊎◌, ℕ, Bool, true, false, cond, ◌&&◌, [], ◌∷◌, Option, Some, None, refl}
use Rattle.std.proofs.Common.{inl, arith, lit<, ap, sym, subst, ◌∙◌}
use Rattle.std.specs.Cmp.{nat_eq_equiv}
use Rattle.std.specs.Ordering.{eq_by_cmp, is_eq}
use Rattle.std.specs.declared.cmp.Ordering.{Ordering}
use Rattle.std.specs.declared.cmp.Ordering.TheVariants.{Less, Equal, Greater}
use Rattle.host_types.specs.Cells.{Place, Cell_at, Held, Cells, place_cmp, at, filled, effect_puts, instance_fits, is_of_kind}
use Rattle.host_types.proofs.Places.{exact_places}
use Rattle.host_types.specs.Ranges.{IsIndex, IsUnsigned, CellFits, IsCellInRange, ContentFits, ReplyFits, IsReplyInRange}
use Rattle.host_types.specs.Decision.{Decides, IsLawful, OwnersAgree}
use Rattle.host_types.specs.declared.entry.Kind.{Kind}
use Rattle.host_types.specs.declared.entry.Cell.{Cell}
use Rattle.host_types.specs.declared.entry.Cell.TheVariants.{One, Named, Member, Pair, At, Waiter, Of}
use Rattle.host_types.specs.declared.entry.Content.{Content}
use Rattle.host_types.specs.declared.entry.Effect.{Effect}
use Rattle.host_types.specs.declared.entry.Effect.TheVariants.{Nothing, Create, Put, Drop}
use Rattle.host_types.specs.declared.entry.Reply.{Reply}
use Rattle.log_model.specs.plain.Rows.{Row, Does, Out_of_range, Of_no_kind, either}
use Rattle.log_model.specs.kinds.Deciding.{chosen}

-- who asks, and where: the kind and the instance, its cells, the session and the index
pub record Asking : Type 0 where
  pub kind : Kind
  pub instance : ℕ
  pub cells : Cells
  pub session : ℕ
  pub index : ℕ

abbrev pub IsLawfulHere : Asking → Effect → Reply → Type 0
IsLawfulHere a effect reply = IsLawful (instance_fits a.kind a.instance effect) a.cells a.session a.index effect reply

-- a lawful decision, where the row gives one
abbrev pub IsLawfulRow : Asking → Row → Type 0
IsLawfulRow a (Does effect reply next told) = IsLawfulHere a effect reply
IsLawfulRow a _ = Unit {0}

pub lawful_either : (a : Asking) (b : Bool) (r s : Row) → IsLawfulRow a r → IsLawfulRow a s → IsLawfulRow a (either b r s)
lawful_either a true r s h k = h
lawful_either a false r s h k = k

-- a reply in its ranges
abbrev pub IsRightReply : Reply → Type 0
IsRightReply reply = ReplyFits reply × IsReplyInRange reply

unsigned : (n : ℕ) → IsIndex n → IsUnsigned n
unsigned n is = omega (arith, is.1)

pub nothing_is_lawful : (a : Asking) (reply : Reply) → IsRightReply reply → IsLawfulHere a Nothing reply
nothing_is_lawful a reply right = record {
  effect_in_range = (tt, tt);
  reply_in_range = right;
  fits_there = refl;
  owns = λ place held found. absurd (cc);
  deletes = refl;
}

pub drop_is_lawful : (a : Asking) (cell : Cell) (reply : Reply) → IsIndex a.instance → CellFits cell → IsCellInRange cell → IsRightReply reply → IsLawfulHere a (Drop a.instance cell) reply
drop_is_lawful a cell reply here cell_fits in_range right = record {
  effect_in_range = ((unsigned a.instance here, cell_fits), (here, in_range));
  reply_in_range = right;
  fits_there = refl;
  owns = λ place held found. absurd (cc);
  deletes = refl;
}

-- what stands at the one place that was written
pub found_owner : (place p : Place) (x held : Held) → at ((p, x) ∷ []) place ≡ Some held → held.owner ≡ x.owner
found_owner place p x held = go (eq_by_cmp place_cmp place p)
  where
    go : (b : Bool) → cond b (Some x) None ≡ Some held → held.owner ≡ x.owner
    go true e = let same : x ≡ held = (cc) in ap (λ (h : Held). h.owner) (sym same)
    go false e = absurd (cc)

-- a put that nobody owns
pub put_is_lawful : (a : Asking) (cell : Cell) (content : Content) (reply : Reply) → IsIndex a.instance → CellFits cell → IsCellInRange cell → ContentFits content → is_of_kind a.kind cell content ≡ true → IsRightReply reply → IsLawfulHere a (Put a.instance cell content None) reply
put_is_lawful a cell content reply here cell_fits in_range content_fits of_kind right = record {
  effect_in_range = ((unsigned a.instance here, cell_fits, content_fits, lit< tt), (here, in_range, tt));
  reply_in_range = right;
  fits_there = ap (λ b. b && is_of_kind a.kind cell content) (nat_eq_equiv.refl a.instance) ∙ of_kind;
  owns = λ place held found. inl (found_owner place (Cell_at a.instance cell) (filled a.index content None) held found);
  deletes = refl;
}

-- what is decided by lawful rows is lawful
pub lawful_choice : (a : Asking) (r : Row) (effect : Effect) (reply : Reply) → IsLawfulRow a r → chosen a.kind r ≡ Decides effect reply → IsLawful (instance_fits a.kind a.instance effect) a.cells a.session a.index effect reply
lawful_choice a (Does effect' reply' next told) effect reply lawful same =
    let same_effect : effect' ≡ effect = (cc) in
    let same_reply : reply' ≡ reply = (cc) in
    subst (λ (p : Effect × Reply). IsLawful (instance_fits a.kind a.instance p.0) a.cells a.session a.index p.0 p.1) (λ i. (same_effect i, same_reply i)) lawful
lawful_choice a (Out_of_range cur) effect reply lawful same = absurd (cc)
lawful_choice a Of_no_kind effect reply lawful same = absurd (cc)

-- ---- a place has one owner

-- the owner of a cell is the one that its place has
abbrev pub OwnerSuits : ℕ → ℕ → Cell → Option ℕ → Type 0
OwnerSuits index session (At i) owner = (i ≡ index) × ((owner ≡ None) ⊎ (owner ≡ Some session))
OwnerSuits index session (Waiter other id) owner = (other ≡ session) × (owner ≡ Some session)
OwnerSuits index session (Of other) owner = (other ≡ session) × (owner ≡ Some session)
OwnerSuits index session _ owner = owner ≡ None

-- so is that of what an effect of a session puts into an instance, at this index
abbrev pub EffectSuits : ℕ → ℕ → Effect → Type 0
EffectSuits index session (Put m cell content owner) = OwnerSuits index session cell owner
EffectSuits index session (Create name kind) = ⊥
EffectSuits index session _ = Unit {0}

abbrev pub SuitsRow : ℕ → ℕ → Row → Type 0
SuitsRow index session (Does effect reply next told) = EffectSuits index session effect
SuitsRow index session _ = Unit {0}

pub suits_choice : (kind : Kind) (index session : ℕ) (r : Row) (effect : Effect) (reply : Reply) → SuitsRow index session r → chosen kind r ≡ Decides effect reply → EffectSuits index session effect
suits_choice kind index session (Does effect' reply' next told) effect reply suits same = let same_effect : effect' ≡ effect = (cc) in subst (EffectSuits index session) same_effect suits
suits_choice kind index session (Out_of_range cur) effect reply suits same = absurd (cc)
suits_choice kind index session Of_no_kind effect reply suits same = absurd (cc)

-- a cell has one owner, whoever puts it, but for the cells of arrivals, which no two indexes share
same_owner : (index index' session session' : ℕ) (cell : Cell) (owner owner' : Option ℕ) → index ≢ index' → OwnerSuits index session cell owner → OwnerSuits index' session' cell owner' → owner ≡ owner'
same_owner index index' session session' (At i) owner owner' apart h h' = absurd (apart (sym h.0 ∙ h'.0))
same_owner index index' session session' (Waiter other id) owner owner' apart h h' = h.1 ∙ ap Some (sym h.0 ∙ h'.0) ∙ sym h'.1
same_owner index index' session session' (Of other) owner owner' apart h h' = h.1 ∙ ap Some (sym h.0 ∙ h'.0) ∙ sym h'.1
same_owner index index' session session' One owner owner' apart h h' = h ∙ sym h'
same_owner index index' session session' (Named key) owner owner' apart h h' = h ∙ sym h'
same_owner index index' session session' (Member word) owner owner' apart h h' = h ∙ sym h'
same_owner index index' session session' (Pair key word) owner owner' apart h h' = h ∙ sym h'

equal : (o : Ordering) → is_eq o ≡ true → o ≡ Equal
equal Less e = absurd (cc)
equal Equal e = refl
equal Greater e = absurd (cc)

-- what stands at the one place that was written stands there
pub found_place : (place p : Place) (x held : Held) → at ((p, x) ∷ []) place ≡ Some held → place ≡ p
found_place place p x held = go (eq_by_cmp place_cmp place p) (λ e. exact_places place p (equal (place_cmp place p) e))
  where
    go : (b : Bool) → (b ≡ true → place ≡ p) → cond b (Some x) None ≡ Some held → place ≡ p
    go true same e = same refl
    go false same e = absurd (cc)

-- what two entries put has one owner
pub suits_agree : (index index' session session' : ℕ) (effect effect' : Effect) → index ≢ index' → EffectSuits index session effect → EffectSuits index' session' effect' → OwnersAgree (effect_puts index effect) (effect_puts index' effect')
suits_agree index index' session session' (Put m cell content owner) (Put m' cell' content' owner') apart h h' = λ place held other found found'.
    let here : Cell_at m cell ≡ Cell_at m' cell' = sym (found_place place (Cell_at m cell) (filled index content owner) held found) ∙ found_place place (Cell_at m' cell') (filled index' content' owner') other found' in
    let same : cell ≡ cell' = (cc) in
    found_owner place (Cell_at m cell) (filled index content owner) held found
    ∙ same_owner index index' session session' cell' owner owner' apart (subst (λ x. OwnerSuits index session x owner) same h) h'
    ∙ sym (found_owner place (Cell_at m' cell') (filled index' content' owner') other found')
suits_agree index index' session session' (Create name kind) effect' apart h h' = absurd h
suits_agree index index' session session' effect (Create name kind) apart h h' = absurd h'
suits_agree index index' session session' effect effect' apart h h' = λ place held other found found'. absurd (cc)
