use Rattle.std.proofs.Common.{◌≡◌, ◌<◌, true, Some, sym, subst, Bor}
use Rattle.std.specs.Prelude.{IfSome, IfNone}
use Rattle.host_types.specs.declared.entry.Cell.{Cell}
use Rattle.host_types.specs.Cells.{Cell_at, Held, at}
use Rattle.cell_table.specs.declared.filled.Filled.{Filled}
use Rattle.cell_table.specs.Arrivals.{is_waiter}
use Rattle.cell_table.specs.Lookups.{IsFirstWaiter}
use Rattle.cell_table.proofs.Found.{spots_of, waiter_found, waiter_none}
use Rattle.cell_table.proofs.table.CellTable.first_waiter.Goals as goal

pub returns-clause-some : goal.returns-clause-some
returns-clause-some c =
    let m = c.self.inside.instance in
    let es = c.self.inside.slots.map.entries in
    subst (λ o. IfSome o (λ x. IsFirstWaiter c.args.self.now.instance c.args.self.now.cells c.args.from x.0 x.1)) (sym c.as_standing.ensures)
    (subst (λ y. IfSome (spots_of (λ (p : Bor Cell × Bor Filled). (p.0.now, p.1.now)) c.first_arrived.result) (λ (x : Cell × Held). IsFirstWaiter y.instance y.cells c.args.from x.0 x.1)) c.self.view_is
    (waiter_found (λ (p : Bor Cell × Bor Filled). (p.0.now, p.1.now)) m c.args.from es c.self.inside.slots.ordered c.first_arrived.result c.first_arrived.ensures.some))

pub returns-clause-none : goal.returns-clause-none
returns-clause-none c =
    let m = c.self.inside.instance in
    let es = c.self.inside.slots.map.entries in
    subst (λ y. IfNone c.as_standing.result ((k : Cell) (h : Held) → is_waiter k ≡ true → at y.cells (Cell_at y.instance k) ≡ Some h → h.index < c.args.from)) c.self.view_is
    (waiter_none (λ (p : Bor Cell × Bor Filled). (p.0.now, p.1.now)) m c.args.from es c.self.inside.slots.ordered c.as_standing.result c.first_arrived.result c.as_standing.ensures c.first_arrived.ensures.none)
