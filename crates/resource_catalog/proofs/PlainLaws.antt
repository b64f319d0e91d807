-- Wherever the cells show a plain state, the catalog does what its next entry does. For `catalog_is_plain`.
use Rattle.std.proofs.Common.{◌≡◌, ℕ, ◌+◌, Bool, true, false, cond, List, [], ◌∷◌, ◌++◌, length, Option, Some, None, refl, sym, ap, subst, ◌∙◌}
use Rattle.std.specs.Prelude.{nat_le, ◌==◌}
use Rattle.std.specs.List.{flat_map}
use Rattle.std.specs.FinMap.Entries.{find, is_sorted, is_sorted-where_key}
use Rattle.std.specs.Ordering.{nat_cmp}
use Rattle.std.specs.Cmp.{nat_eq_equiv}
use Rattle.host_types.specs.Cells.{Name_at, Cell_at, Held, Cells, place_cmp, at, named as held_name}
use Rattle.host_types.specs.Decision.{Decides, Declines, is_looking}
use Rattle.host_types.specs.declared.entry.Kind.{Kind}
use Rattle.host_types.specs.declared.entry.Cell.{Cell}
use Rattle.host_types.specs.declared.entry.Effect.{Effect}
use Rattle.host_types.specs.declared.entry.Op.{Op}
use Rattle.host_types.specs.declared.entry.Op.TheVariants.{Create, Delete}
use Rattle.host_types.specs.declared.entry.Effect.TheVariants.{Create as Creates, Delete as Deletes}
use Rattle.host_types.specs.declared.entry.Reply.TheVariants.{None as No_reply, Index}
use Rattle.host_types.specs.declared.entry.Refusal.TheVariants.{Names}
use Rattle.log_model.specs.plain.Plain.{Named_resource, State, named, kind_of}
use Rattle.log_model.specs.hosted.PlainMachine.{choice_of, IsPlainMachine}
use Rattle.log_model.specs.plain.Rows.{Row, Does, Out_of_range, Of_no_kind, row, without_session}
use Rattle.log_model.specs.plain.Step.{told_close}
use Rattle.log_model.specs.plain.Commands.{Outcome, outcome, outcome_at, outcome_new, outcome_there, row_outcome, shown_by, plain_look, name_limit, kind_number}
use Rattle.log_model.specs.kinds.Shows.{Shows}
use Rattle.log_model.specs.kinds.Reading.{kind_decision}
use Rattle.log_model.specs.replay.Telling.{effect_instance, tells_kind as told_kind, tells_there, tells_at, name_held, by_instance, EachName, ShowsState}
use Rattle.log_model.specs.kinds.Deciding.{chosen, shown, call_of}
use Rattle.log_model.proofs.kinds.AsPlain.{as_plain}
use Rattle.log_model.proofs.Lookups.{T_from, from_T}
use Rattle.log_model.proofs.kinds.Readings.{decides_own}
use Rattle.log_model.proofs.kinds.ShownCloses.{others_shown}
use Rattle.log_model.proofs.replay.Tellings.{name_found, names_are, tells_shown, shown_found}
use Rattle.log_model.proofs.plain.Tracks.{find_passes, same_text}
use Rattle.resource_catalog.specs.Catalog.{is_place_of, names_in, part, instances, choice_new, choice_there, choice_at, look_at, tells_kind, tells_named, tells_on, closes_kind, catalog_decision}
use Rattle.resource_catalog.specs.CatalogLaws.{at_part}
use Rattle.resource_catalog.proofs.Counted.{names_counted}

-- the name stands with its instance and kind, and its cells show its plain resource
record ShowsName (cells : Cells) (name : List ℕ) (n : Named_resource) : Type 0 where
  pub same : n.name ≡ name
  pub stands : at cells (Name_at name) ≡ Some (held_name n.instance (kind_of n.plain))
  pub rises : is_sorted place_cmp cells ≡ true
  pub shows : Shows n.instance cells n.plain

-- ---- outcomes

choice_cond : (b : Bool) (o p : Outcome) → choice_of (cond b o p) ≡ cond b (choice_of o) (choice_of p)
choice_cond true o p = refl
choice_cond false o p = refl

row_choice : (names : List Named_resource) (n : Named_resource) (r : Row) → choice_of (row_outcome names n r) ≡ chosen (kind_of n.plain) r
row_choice names n (Does effect reply next told) = refl
row_choice names n (Out_of_range cur) = refl
row_choice names n Of_no_kind = refl

row_shown : (names : List Named_resource) (n : Named_resource) (r : Row) → shown_by (row_outcome names n r) ≡ shown (kind_of n.plain) r
row_shown names n (Does effect reply next told) = refl
row_shown names n (Out_of_range cur) = refl
row_shown names n Of_no_kind = refl

-- ---- a name that isn't there

new_same : (cells : Cells) (s : State) (name : List ℕ) (op : Op) (i : ℕ) → names_in cells ≡ length s.names → choice_new cells name op i ≡ choice_of (outcome_new s.names name i op)
new_same cells s name (Create kind) i counts =
    (λ j. cond (nat_le name_limit (counts j)) (Declines Names) (Decides (Creates name kind) (Index i))) ∙ sym (choice_cond (nat_le name_limit (length s.names)) _ _)
new_same cells s name op i counts = refl

-- ---- a kind on its own part of the cells

part_rises : (m : ℕ) (cells : Cells) → is_sorted place_cmp cells ≡ true → is_sorted place_cmp (part m cells) ≡ true
part_rises m cells rises = from_T _ (is_sorted-where_key place_cmp (is_place_of m) cells (T_from _ rises))

at_own : (m : ℕ) (cells : Cells) (cell : Cell) → at (part m cells) (Cell_at m cell) ≡ at cells (Cell_at m cell)
at_own m cells cell = at_part m cells (Cell_at m cell) ∙ ap (λ b. cond b (at cells (Cell_at m cell)) None) (nat_eq_equiv.refl m)

part_shows : (cells : Cells) (n : Named_resource) → Shows n.instance cells n.plain → Shows n.instance (part n.instance cells) n.plain
part_shows cells n shows = others_shown cells (part n.instance cells) n.instance n.plain (at_own n.instance cells) shows

-- ---- a name that is there

there_same : (cells : Cells) (s : State) (name : List ℕ) (n : Named_resource) (op : Op) (session i : ℕ) → ShowsName cells name n → choice_there cells name n.instance (kind_of n.plain) op session i ≡ choice_of (outcome_there s.names n session i op)
there_same cells s name n (Create kind) session i t = sym (choice_cond (kind_number kind == kind_number (kind_of n.plain)) _ _)
there_same cells s name n Delete session i t = ap (λ x. Decides (Deletes x n.instance) No_reply) (sym t.same)
there_same cells s name n op session i t =
    (as_plain (kind_of n.plain)).resolves n.instance (part n.instance cells) n.plain refl (part_rises n.instance cells t.rises) (part_shows cells n t.shows) n.name op session i ∙ sym (row_choice s.names n (row (call_of n.name n.instance session i) n.plain op))

look_same : (cells : Cells) (s : State) (name : List ℕ) (n : Named_resource) (op : Op) (session i : ℕ) → ShowsName cells name n → is_looking op ≡ true → (kind_decision (kind_of n.plain)).look n.instance (part n.instance cells) op ≡ shown_by (outcome_there s.names n session i op)
look_same cells s name n (Create kind) session i t looking = absurd (cc)
look_same cells s name n Delete session i t looking = absurd (cc)
look_same cells s name n op session i t looking =
    (as_plain (kind_of n.plain)).looks n.instance (part n.instance cells) n.plain refl (part_rises n.instance cells t.rises) (part_shows cells n t.shows) n.name op session i looking ∙ sym (row_shown s.names n (row (call_of n.name n.instance session i) n.plain op))

look_new : (s : State) (name : List ℕ) (i : ℕ) (op : Op) → is_looking op ≡ true → look_at [] None op ≡ shown_by (outcome_new s.names name i op)
look_new s name i (Create kind) looking = absurd (cc)
look_new s name i op looking = refl

-- ---- events

kind_tells : (kind : Kind) (m : ℕ) (cells : Cells) (name : List ℕ) (effect : Effect) (i : ℕ) → is_sorted place_cmp cells ≡ true → tells_kind cells m name (Some kind) effect i ≡ told_kind cells i m name effect (Some kind)
kind_tells kind m cells name effect i rises =
    (decides_own kind m cells (part m cells) rises (part_rises m cells rises) (at_own m cells)).tells name effect i

-- ---- all names

module _ (s : State) (cells : Cells) (shows : ShowsState cells s) where
  absent : (name : List ℕ) → named name s ≡ None → at cells (Name_at name) ≡ None
  absent name e = shows.names name ∙ ap name_held e

  there : (name : List ℕ) (n : Named_resource) → named name s ≡ Some n → ShowsName cells name n
  there name n e = record {
    same = sym (same_text name n.name (find_passes (λ (m : Named_resource). Rattle.host_types.specs.Cells.is_text name m.name) s.names n e));
    stands = shows.names name ∙ ap name_held e;
    rises = shows.sorted;
    shows = shown_found cells s shows (λ m. Shows m.instance cells m.plain) name s.names n shows.shown e;
  }

  resolves : (name : List ℕ) (op : Op) (session : ℕ) → catalog_decision.resolve cells name op session (s.last + 1) ≡ choice_of (outcome s name session op)
  resolves name op session = go (named name s) refl
    where
      go : (o : Option Named_resource) → named name s ≡ o → choice_at cells name (at cells (Name_at name)) op session (s.last + 1) ≡ choice_of (outcome_at s.names o name session (s.last + 1) op)
      go None e = ap (λ (h : Option Held). choice_at cells name h op session (s.last + 1)) (absent name e) ∙ new_same cells s name op (s.last + 1) (names_counted cells s shows)
      go (Some n) e = let t = there name n e in ap (λ (h : Option Held). choice_at cells name h op session (s.last + 1)) t.stands ∙ there_same cells s name n op session (s.last + 1) t

  looks : (name : List ℕ) (op : Op) → is_looking op ≡ true → catalog_decision.look cells name op ≡ plain_look s name op
  looks name op looking = go (named name s) refl
    where
      go : (o : Option Named_resource) → named name s ≡ o → look_at cells (at cells (Name_at name)) op ≡ shown_by (outcome_at s.names o name 0 (s.last + 1) op)
      go None e = ap (λ (h : Option Held). look_at cells h op) (absent name e) ∙ look_new s name (s.last + 1) op looking
      go (Some n) e = let t = there name n e in ap (λ (h : Option Held). look_at cells h op) t.stands ∙ look_same cells s name n op 0 (s.last + 1) t looking

  found : (m : ℕ) (effect : Effect) (i : ℕ) → tells_named cells m (find nat_cmp m (instances cells)) effect i ≡ tells_there cells i m effect (find nat_cmp m (instances cells))
  found m effect i =
      subst (λ l. tells_named cells m (find nat_cmp m l) effect i ≡ tells_there cells i m effect (find nat_cmp m l)) (sym (names_are cells s shows)) (known (find nat_cmp m (by_instance s.names)) refl)
    where
      known : (o : Option (List ℕ × Option Kind)) → find nat_cmp m (by_instance s.names) ≡ o → tells_named cells m o effect i ≡ tells_there cells i m effect o
      known None e = refl
      known (Some y) e =
          let q = name_found (λ n. Shows n.instance cells n.plain) s.names shows.shown m y e in
          subst (λ (y : List ℕ × Option Kind). tells_kind cells m y.0 y.1 effect i ≡ told_kind cells i m y.0 effect y.1) q.3 (kind_tells (kind_of q.0.plain) m cells q.0.name effect i shows.sorted)

  tells_same : (effect : Effect) (i : ℕ) → catalog_decision.tells cells effect i ≡ tells_at cells i effect (effect_instance effect)
  tells_same effect i = on (effect_instance effect)
    where
      on : (o : Option ℕ) → tells_on cells o effect i ≡ tells_at cells i effect o
      on None = refl
      on (Some m) = found m effect i

  closes : (session : ℕ) (ns : List Named_resource) → EachName (λ n. Shows n.instance cells n.plain) ns → flat_map (λ (n : ℕ × (List ℕ × Option Kind)). closes_kind cells n.0 n.1.0 n.1.1 session) (by_instance ns) ≡ flat_map (λ n. (without_session n.name session n.plain).1) ns
  closes session [] h = refl
  closes session (n ∷ ns) h = (λ j. one j ++ closes session ns h.1 j)
    where
      one : (kind_decision (kind_of n.plain)).tells_close n.instance (part n.instance cells) n.name session ≡ (without_session n.name session n.plain).1
      one = (as_plain (kind_of n.plain)).tells_close n.instance (part n.instance cells) n.plain refl (part_rises n.instance cells shows.sorted) (part_shows cells n h.0) n.name session

  closes_same : (session : ℕ) → catalog_decision.tells_close cells session ≡ told_close s session
  closes_same session = ap (flat_map (λ (n : ℕ × (List ℕ × Option Kind)). closes_kind cells n.0 n.1.0 n.1.1 session)) (names_are cells s shows) ∙ closes session s.names shows.shown

pub is_plain : IsPlainMachine catalog_decision
is_plain = record {
  resolves = λ s cells name op session shows. resolves s cells shows name op session;
  tells = λ s cells name op session effect reply names told shows e. tells_same s cells shows effect (s.last + 1) ∙ tells_shown cells s shows name op session effect reply names told e;
  looks = λ s cells name op looking shows. looks s cells shows name op looking;
  tells_close = λ s cells session shows. closes_same s cells shows session;
}
