use Rattle.std.proofs.Common.{rules, ◌≡◌, ◌==◌, false, sym, ◌∙◌}
use Rattle.host_types.specs.declared.entry.Effect.TheVariants.{WipeKey}
use Rattle.host_types.specs.Decision.{Decides}
use Rattle.multimap_resource.specs.Reading.{pairs_of}
use Rattle.multimap_resource.proofs.Removing.{removes_none, removes_some}
use Rattle.multimap_resource.proofs.multimap.remove.Goals as goal

pub returns-then-count-eq0 : goal.returns-then-count-eq0
returns-then-count-eq0 c session index =
    let zero : c.in_ok-count.count ≡ 0 = search rules in
    removes_none c.args.table.now.instance session index c.args.key.now (pairs_of c.args.table.now) c.in_ok-count.count c.in_ok-count.ensures zero

pub returns : goal.returns
returns c session index =
    let some : (c.in_ok-count.count == 0) ≡ false = search rules in
    removes_some c.args.table.now.instance session index c.args.key.now (pairs_of c.args.table.now) c.in_ok-count.count c.in_ok-count.ensures some
    ∙ (λ j. Decides (WipeKey (sym c.instance.ensures j) (sym c.in_ok-copy.ensures j)) (sym c.count-2.ensures j))
