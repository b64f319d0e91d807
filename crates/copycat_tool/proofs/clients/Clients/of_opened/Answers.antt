use Rattle.std.proofs.Common.{◌≡◌, ◌∙◌, ℕ, ◌==◌, false, [], ◌∷◌, length, List, ap, arith, refl, sym, subst}
use Rattle.std.specs.List.{list_any}
use Rattle.std.specs.Vec.Iter.{into_iter_items}
use Rattle.log_model.specs.serving.Positions.{acked_positions, event_at}
use Rattle.copycat_tool.proofs.BeginningLemmas.{acked_of_view, begins_empty, keeps_next, none_seen}
use Rattle.copycat_tool.proofs.clients.Clients.of_opened.Goals as goal
use Rattle.copycat_tool.proofs.clients.Clients.of_opened.Goals.{in-Some-session, in-None-session}

none_left : {X : Type 0} (l : List X) → length l ≡ 0 → l ≡ []
none_left [] is = refl
none_left (x ∷ l) is = absurd (omega (arith, is))

pub loop-id-init : goal.loop-id-init
loop-id-init g c =
    let is = c.into_iter-id-iterator.ensures.into_iter_gives.0 in
    record {
      next = tt;
      finite = tt;
      are = λ id none. begins_empty c.new.result c.new.ensures.empty id c.args.host.now.core.sessions.sessions (subst (λ (l : List ℕ). list_any (λ other. other == id) l ≡ false) (is ∙ c.in_ok-ids.ensures) none);
    }

pub loop-id-preserved : goal.loop-id-preserved
loop-id-preserved g c =
    let xs = c.args.host.now.core.sessions.sessions in
    let begins : c.match-session.last ≡ event_at c.in-Some.id c.in-Some.id (acked_positions xs) = elim c.match-session.branch [
      | in-Some-session w ↦ w.last-is ∙ acked_of_view c.in-Some.id c.args.host.now.core.sessions w.in-Some-session.session (sym c.session.ensures ∙ w.in-Some-session.is)
      | in-None-session w ↦ w.last-is ∙ none_seen c.in-Some.id c.args.host.now.core.sessions (sym c.session.ensures ∙ w.in-None-session.is)
    ] in
    record {
      next = tt;
      finite = tt;
      are = λ id none.
          keeps_next id c.in-Some.id c.new-in-loop-id.result.last xs (into_iter_items c.next.new.self) _ _ (c.in_ok-keep.ensures.ok id) (c.new-in-loop-id.ensures ∙ begins)
          (λ before. c.loop-id.invariant.are id (ap (λ (l : List ℕ). list_any (λ other. other == id) l) c.in-Some.ensures.steps.0 ∙ before)) none;
    }

pub returns : goal.returns
returns g c = λ id.
    let none : into_iter_items c.loop-id.id-iterator ≡ [] = none_left (into_iter_items c.loop-id.id-iterator) (omega (arith, c.in-None.ensures.steps.0, c.loop-id.id-iterator.rest.ok.0)) in
    c.loop-id.invariant.are id (ap (λ (l : List ℕ). list_any (λ other. other == id) l) none)
