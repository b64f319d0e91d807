use Rattle.std.proofs.Common.{rules, ◌≡◌, ◌≤◌, length, Option, None, subst, arith}
use Rattle.cell_table.specs.Lookups.{found}
use Rattle.cell_table.specs.declared.table.Standing.{Standing}
use Rattle.lock_group.proofs.Walk.{AreNoted, noted_full, noted_all}
use Rattle.lock_group.proofs.members.least_members.Goals as goal

pub returns-then-as_slice-ge64 : goal.returns-then-as_slice-ge64
returns-then-as_slice-ge64 c =
    let t = c.args.table.now in
    let few : length c.loop-next.indexes ≤ 64 = search rules in
    let many : 64 ≤ length c.loop-next.indexes = search rules in
    let full : length c.loop-next.indexes ≡ 64 = omega (arith, few, many) in
    noted_full t.instance t.cells c.loop-next.indexes (found c.loop-next.next) full c.loop-next.invariant

pub returns : goal.returns
returns c =
    let t = c.args.table.now in
    let few : length c.loop-next.indexes ≤ 64 = search rules in
    let none : c.loop-next.next ≡ None = search rules in
    noted_all t.instance t.cells c.loop-next.indexes few (subst (λ (o : Option Standing). AreNoted t.instance t.cells c.loop-next.indexes (found o)) none c.loop-next.invariant)
