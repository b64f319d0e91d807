-- The decisions of a catalog are lawful, by those of the kinds.
use Rattle.std.specs.Prelude.{◌≡◌, ◌≢◌, ℕ, ◌==◌, ◌&&◌, nat_le, Bool, true, false, cond, not, is_some, List, Option, Some, None, refl}
use Rattle.std.proofs.Common.{T, inl, arith, ap, sym, subst, ◌∙◌}
use Rattle.std.specs.Option.{option_map_or}
use Rattle.std.specs.Cmp.{nat_eq_equiv}
use Rattle.std.specs.FinMap.Entries.{find-where_key, is_sorted-where_key}
use Rattle.host_types.specs.Cells.{Place, Name_at, Cell_at, Held, Cells, place_cmp, at, named, is_of_kind, is_name_for, effect_puts, effect_fits, instance_fits, deletes_standing}
use Rattle.host_types.specs.Ranges.{IsIndex, IsKey, IsUnsigned}
use Rattle.host_types.specs.Decision.{Decides, Declines, IsAsked, IsLawful, OwnersAgree, MachineIsLawful, MachineHasOneOwner}
use Rattle.host_types.proofs.Places.{place_total, exact_places}
use Rattle.host_types.specs.declared.entry.Kind.{Kind}
use Rattle.host_types.specs.declared.entry.Op.{Op}
use Rattle.host_types.specs.declared.entry.Op.TheVariants.{Create, Delete}
use Rattle.host_types.specs.declared.entry.Effect.{Effect}
use Rattle.host_types.specs.declared.entry.Effect.TheVariants.{Nothing, Create as Creates, Delete as Deletes, Put, Drop, Wipe, WipeKey, Tell}
use Rattle.host_types.specs.declared.entry.Reply.{Reply}
use Rattle.host_types.specs.declared.entry.Reply.TheVariants.{None as No_reply, Index}
use Rattle.host_types.specs.declared.entry.Refusal.TheVariants.{Names as Too_many, Kind as Other_kind}
use Rattle.log_model.specs.plain.Commands.{name_limit, kind_number}
use Rattle.log_model.specs.kinds.LawfulRows.{EffectSuits, suits_agree, found_owner, found_place}
use Rattle.log_model.proofs.Lookups.{any_from_found}
use Rattle.log_model.specs.kinds.Reading.{kind_decision}
use Rattle.log_model.proofs.kinds.KindLaws.{kind_lawful, kind_owner}
use Rattle.resource_catalog.specs.Catalog.{is_place_of, part, names_in, choice_new, choice_there, choice_kind, choice_at, catalog_decision}

unsigned : (n : ℕ) → IsIndex n → IsUnsigned n
unsigned n is = omega (arith, is.1)

to_T : (b : Bool) → b ≡ true → T b
to_T true e = tt
to_T false e = absurd (cc)

from_T : (b : Bool) → T b → b ≡ true
from_T true h = refl
from_T false h = absurd h

-- ---- the cells of one instance

pub at_part : (m : ℕ) (cells : Cells) (place : Place) → at (part m cells) place ≡ cond (is_place_of m place) (at cells place) None
at_part m cells place = find-where_key place_cmp (is_place_of m) place (λ x e. ap (is_place_of m) (sym (exact_places place x e))) cells

part_found : (m : ℕ) (cells : Cells) (place : Place) (held : Held) → at (part m cells) place ≡ Some held → at cells place ≡ Some held
part_found m cells place held found = go (is_place_of m place) (sym (at_part m cells place) ∙ found)
  where
    go : (b : Bool) → cond b (at cells place) None ≡ Some held → at cells place ≡ Some held
    go true e = e
    go false e = absurd (cc)

asked_part : (m : ℕ) (cells : Cells) (op : Op) (session index : ℕ) → IsAsked cells op session index → IsAsked (part m cells) op session index
asked_part m cells op session index asked = record {
  rises = from_T _ (is_sorted-where_key place_cmp (is_place_of m) cells (to_T _ asked.rises));
  in_range = λ place held found. asked.in_range place held (part_found m cells place held found);
  op_fits = asked.op_fits;
  session_in_range = asked.session_in_range;
  index_in_range = asked.index_in_range;
}

-- what fits to a resource fits where its name stands
fits_there : (cells : Cells) (name : List ℕ) (held : Held) (kind : Kind) (effect : Effect) → at cells (Name_at name) ≡ Some held → held.kind ≡ Some kind → instance_fits kind held.index effect ≡ true → effect_fits cells effect ≡ true
fits_there cells name held kind (Creates other k) found is fits = absurd (cc)
fits_there cells name held kind (Put other cell content owner) found is fits =
    any_from_found place_total exact_places (is_name_for other cell content) cells (Name_at name) held found
    (ap (λ (o : Option Kind). held.index == other && option_map_or (λ k. is_of_kind k cell content) o false) is ∙ fits)
fits_there cells name held kind Nothing found is fits = refl
fits_there cells name held kind (Deletes other k) found is fits = refl
fits_there cells name held kind (Drop other cell) found is fits = refl
fits_there cells name held kind (Wipe other) found is fits = refl
fits_there cells name held kind (WipeKey other key) found is fits = refl
fits_there cells name held kind (Tell other word) found is fits = refl

-- a resource deletes no name
deletes_none : (m : ℕ) (cells : Cells) (effect : Effect) → deletes_standing (part m cells) effect ≡ true → deletes_standing cells effect ≡ true
deletes_none m cells (Deletes name other) e = let none = at_part m cells (Name_at name) in absurd (clash (sym (ap (λ (o : Option Held). option_map_or (λ (h : Held). h.index == other) o false) none) ∙ e))
  where
    clash : false ≡ true → ⊥
    clash t = absurd (cc)
deletes_none m cells Nothing e = refl
deletes_none m cells (Creates other k) e = refl
deletes_none m cells (Put other cell content owner) e = refl
deletes_none m cells (Drop other cell) e = refl
deletes_none m cells (Wipe other) e = refl
deletes_none m cells (WipeKey other key) e = refl
deletes_none m cells (Tell other word) e = refl

abbrev IsLawfulAt : Cells → ℕ → ℕ → Effect → Reply → Type 0
IsLawfulAt cells session index effect reply = IsLawful (effect_fits cells effect) cells session index effect reply

-- a decision that is lawful is lawful under whatever names it is known by
moved : (cells : Cells) (session index : ℕ) (e effect : Effect) (r reply : Reply) → Decides e r ≡ Decides effect reply → IsLawfulAt cells session index e r → IsLawfulAt cells session index effect reply
moved cells session index e effect r reply same lawful =
    let same_effect : e ≡ effect = (cc) in
    let same_reply : r ≡ reply = (cc) in
    subst (λ (p : Effect × Reply). IsLawfulAt cells session index p.0 p.1) (λ i. (same_effect i, same_reply i)) lawful

create_lawful : (cells : Cells) (name : List ℕ) (kind : Kind) (session index : ℕ) → IsKey name → IsIndex index → at cells (Name_at name) ≡ None → IsLawfulAt cells session index (Creates name kind) (Index index)
create_lawful cells name kind session index key here absent = record {
  effect_in_range = (key, tt);
  reply_in_range = (unsigned index here, here);
  fits_there = ap (λ (o : Option Held). not (is_some o)) absent;
  owns = λ place held found. inl (found_owner place (Name_at name) (named index kind) held found);
  deletes = refl;
}

nothing_lawful : (cells : Cells) (m session index : ℕ) → IsIndex m → IsLawfulAt cells session index Nothing (Index m)
nothing_lawful cells m session index here = record {
  effect_in_range = (tt, tt);
  reply_in_range = (unsigned m here, here);
  fits_there = refl;
  owns = λ place held found. absurd (cc);
  deletes = refl;
}

delete_lawful : (cells : Cells) (name : List ℕ) (held : Held) (session index : ℕ) → IsKey name → IsIndex held.index → at cells (Name_at name) ≡ Some held → IsLawfulAt cells session index (Deletes name held.index) No_reply
delete_lawful cells name held session index key here found = record {
  effect_in_range = ((key, unsigned held.index here), here);
  reply_in_range = (tt, tt);
  fits_there = refl;
  owns = λ place h f. absurd (cc);
  deletes = ap (λ (o : Option Held). option_map_or (λ (h : Held). h.index == held.index) o false) found ∙ nat_eq_equiv.refl held.index;
}

new_lawful : (cells : Cells) (name : List ℕ) (op : Op) (session index : ℕ) (effect : Effect) (reply : Reply) → IsKey name → IsIndex index → at cells (Name_at name) ≡ None → choice_new cells name op index ≡ Decides effect reply → IsLawfulAt cells session index effect reply
new_lawful cells name (Create kind) session index effect reply key here absent decides = go (nat_le name_limit (names_in cells)) decides
  where
    go : (full : Bool) → cond full (Declines Too_many) (Decides (Creates name kind) (Index index)) ≡ Decides effect reply → IsLawfulAt cells session index effect reply
    go true e = absurd (cc)
    go false e = moved cells session index (Creates name kind) effect (Index index) reply e (create_lawful cells name kind session index key here absent)
new_lawful cells name op session index effect reply key here absent decides = absurd (cc)

-- the decision of the resource, on its cells
rows_lawful : (cells : Cells) (name : List ℕ) (held : Held) (kind : Kind) (op : Op) (session index : ℕ) (effect : Effect) (reply : Reply) → IsIndex held.index → IsAsked cells op session index → at cells (Name_at name) ≡ Some held → held.kind ≡ Some kind
    → (kind_decision kind).resolve held.index (part held.index cells) op session index ≡ Decides effect reply → IsLawfulAt cells session index effect reply
rows_lawful cells name held kind op session index effect reply here asked found is decides =
    let lawful = kind_lawful kind held.index (part held.index cells) op session index effect reply here (asked_part held.index cells op session index asked) decides in
    record {
      effect_in_range = lawful.effect_in_range;
      reply_in_range = lawful.reply_in_range;
      fits_there = fits_there cells name held kind effect found is lawful.fits_there;
      owns = lawful.owns;
      deletes = deletes_none held.index cells effect lawful.deletes;
    }

there_lawful : (cells : Cells) (name : List ℕ) (held : Held) (kind : Kind) (op : Op) (session index : ℕ) (effect : Effect) (reply : Reply) → IsKey name → IsAsked cells op session index → at cells (Name_at name) ≡ Some held → held.kind ≡ Some kind
    → choice_there cells name held.index kind op session index ≡ Decides effect reply → IsLawfulAt cells session index effect reply
there_lawful cells name held kind (Create other) session index effect reply key asked found is decides = go (kind_number other == kind_number kind) decides
  where
    go : (b : Bool) → cond b (Decides Nothing (Index held.index)) (Declines (Other_kind kind)) ≡ Decides effect reply → IsLawfulAt cells session index effect reply
    go true e = moved cells session index Nothing effect (Index held.index) reply e (nothing_lawful cells held.index session index (asked.in_range (Name_at name) held found).1.index)
    go false e = absurd (cc)
there_lawful cells name held kind Delete session index effect reply key asked found is decides =
    moved cells session index (Deletes name held.index) effect No_reply reply decides (delete_lawful cells name held session index key (asked.in_range (Name_at name) held found).1.index found)
there_lawful cells name held kind op session index effect reply key asked found is decides =
    rows_lawful cells name held kind op session index effect reply (asked.in_range (Name_at name) held found).1.index asked found is decides

pub catalog_lawful : MachineIsLawful catalog_decision
catalog_lawful cells name op session index effect reply key asked decides = go (at cells (Name_at name)) refl decides
  where
    there : (held : Held) (k : Option Kind) → at cells (Name_at name) ≡ Some held → held.kind ≡ k → choice_kind cells name held.index k op session index ≡ Decides effect reply → IsLawfulAt cells session index effect reply
    there held None found is e = absurd (cc)
    there held (Some kind) found is e = there_lawful cells name held kind op session index effect reply key asked found is e

    go : (o : Option Held) → at cells (Name_at name) ≡ o → choice_at cells name o op session index ≡ Decides effect reply → IsLawfulAt cells session index effect reply
    go None absent e = new_lawful cells name op session index effect reply key asked.index_in_range absent e
    go (Some held) found e = there held held.kind found refl e

-- ---- a place has one owner

-- a name has none, and a cell the one that its place has
abbrev MachineSuits : ℕ → ℕ → Effect → Type 0
MachineSuits index session (Creates name kind) = Unit {0}
MachineSuits index session effect = EffectSuits index session effect

of_resource : (index session : ℕ) (effect : Effect) → EffectSuits index session effect → MachineSuits index session effect
of_resource index session (Creates name kind) h = absurd h
of_resource index session (Put m cell content owner) h = h
of_resource index session Nothing h = h
of_resource index session (Deletes name m) h = h
of_resource index session (Drop m cell) h = h
of_resource index session (Wipe m) h = h
of_resource index session (WipeKey m key) h = h
of_resource index session (Tell m word) h = h

moved_suits : (index session : ℕ) (e effect : Effect) (r reply : Reply) → Decides e r ≡ Decides effect reply → MachineSuits index session e → MachineSuits index session effect
moved_suits index session e effect r reply same h = let same_effect : e ≡ effect = (cc) in subst (MachineSuits index session) same_effect h

catalog_suits : (cells : Cells) (name : List ℕ) (op : Op) (session index : ℕ) (effect : Effect) (reply : Reply) → catalog_decision.resolve cells name op session index ≡ Decides effect reply → MachineSuits index session effect
catalog_suits cells name op session index effect reply decides = go (at cells (Name_at name)) decides
  where
    fresh : (op : Op) → choice_new cells name op index ≡ Decides effect reply → MachineSuits index session effect
    fresh (Create kind) e = on (nat_le name_limit (names_in cells)) e
      where
        on : (full : Bool) → cond full (Declines Too_many) (Decides (Creates name kind) (Index index)) ≡ Decides effect reply → MachineSuits index session effect
        on true e = absurd (cc)
        on false e = moved_suits index session (Creates name kind) effect (Index index) reply e tt
    fresh op e = absurd (cc)

    there : (m : ℕ) (kind : Kind) (op : Op) → choice_there cells name m kind op session index ≡ Decides effect reply → MachineSuits index session effect
    there m kind (Create other) e = on (kind_number other == kind_number kind) e
      where
        on : (b : Bool) → cond b (Decides Nothing (Index m)) (Declines (Other_kind kind)) ≡ Decides effect reply → MachineSuits index session effect
        on true e = moved_suits index session Nothing effect (Index m) reply e tt
        on false e = absurd (cc)
    there m kind Delete e = moved_suits index session (Deletes name m) effect No_reply reply e tt
    there m kind op e = of_resource index session effect (kind_owner kind m (part m cells) op session index effect reply e)

    known : (m : ℕ) (k : Option Kind) → choice_kind cells name m k op session index ≡ Decides effect reply → MachineSuits index session effect
    known m None e = absurd (cc)
    known m (Some kind) e = there m kind op e

    go : (o : Option Held) → choice_at cells name o op session index ≡ Decides effect reply → MachineSuits index session effect
    go None e = fresh op e
    go (Some held) e = known held.index held.kind e

agree : (index index' session session' : ℕ) (effect effect' : Effect) → index ≢ index' → MachineSuits index session effect → MachineSuits index' session' effect' → OwnersAgree (effect_puts index effect) (effect_puts index' effect')
agree index index' session session' (Creates name kind) (Creates name' kind') apart h h' = λ place held other found found'.
    found_owner place (Name_at name) (named index kind) held found ∙ sym (found_owner place (Name_at name') (named index' kind') other found')
agree index index' session session' (Creates name kind) (Put m cell content owner) apart h h' = λ place held other found found'.
    let here : Name_at name ≡ Cell_at m cell = sym (found_place place (Name_at name) (named index kind) held found) ∙ found_place place (Cell_at m cell) _ other found' in absurd (cc)
agree index index' session session' (Put m cell content owner) (Creates name kind) apart h h' = λ place held other found found'.
    let here : Cell_at m cell ≡ Name_at name = sym (found_place place (Cell_at m cell) _ held found) ∙ found_place place (Name_at name) (named index' kind) other found' in absurd (cc)
agree index index' session session' (Put m cell content owner) (Put m' cell' content' owner') apart h h' = suits_agree index index' session session' (Put m cell content owner) (Put m' cell' content' owner') apart h h'
agree index index' session session' effect effect' apart h h' = λ place held other found found'. absurd (cc)

pub catalog_one_owner : MachineHasOneOwner catalog_decision
catalog_one_owner cells later name name' op op' session session' index index' effect effect' reply reply' apart decides decides' =
    agree index index' session session' effect effect' apart (catalog_suits cells name op session index effect reply decides) (catalog_suits later name' op' session' index' effect' reply' decides')
