use Rattle.std.proofs.Common.{rules, List, IfOk, IfErr, T, sym, subst}
use Rattle.std.proofs.lemmas.Fn.{always_returns_same}
use Rattle.std.specs.FinMap.Entries.{is_sorted}
use Rattle.resource_catalog.specs.Sorted.{StandsAt, GapAt}
use Rattle.resource_catalog.proofs.Entries.{to_T}
use Rattle.resource_catalog.proofs.Search.{searched}
use Rattle.resource_catalog.proofs.sorted.place_of.Goals as goal

-- the closure compares an entry's key with the one that is asked
pub returns-clause-found : goal.returns-clause-found
returns-clause-found g c =
    let facts = c.binary_search_by.ensures in
    subst (λ (es : List _). IfOk c.binary_search_by.result (StandsAt g.K.Ord.cmp es c.args.key.now)) c.deref.ensures.value
    (searched g.met.K.Ord.total c.deref.result.now c.args.key.now _ (subst (λ (es : List _). T (is_sorted g.K.Ord.cmp es)) (sym c.deref.ensures.value) (to_T _ c.requires)) facts.bound (facts.position (λ e. g.K.Ord.cmp e.0 c.args.key.now) (always_returns_same _ _ _ (λ a r h called. (search rules, search rules))))).0

pub returns-clause-gap : goal.returns-clause-gap
returns-clause-gap g c =
    let facts = c.binary_search_by.ensures in
    subst (λ (es : List _). IfErr c.binary_search_by.result (GapAt g.K.Ord.cmp es c.args.key.now)) c.deref.ensures.value
    (searched g.met.K.Ord.total c.deref.result.now c.args.key.now _ (subst (λ (es : List _). T (is_sorted g.K.Ord.cmp es)) (sym c.deref.ensures.value) (to_T _ c.requires)) facts.bound (facts.position (λ e. g.K.Ord.cmp e.0 c.args.key.now) (always_returns_same _ _ _ (λ a r h called. (search rules, search rules))))).1
