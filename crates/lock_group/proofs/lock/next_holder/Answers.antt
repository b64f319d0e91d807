use Rattle.std.proofs.Common.{rules, ◌≡◌, ◌+◌, ◌<◌, length, Option, Some, None, sym, subst}
use Rattle.cell_table.specs.Lookups.{found, held_of}
use Rattle.cell_table.specs.declared.table.Standing.{Standing}
use Rattle.lock_group.specs.Waiters.{waiter_in, staying}
use Rattle.lock_group.proofs.Came.{IsSought, IsWaiting, and_behind, from_on, first_came, sought_first, sought_on, waiting_found, found_none, one_fewer}
use Rattle.log_model.proofs.kinds.Waiting.{queued}
use Rattle.lock_group.proofs.lock.next_holder.Goals as goal

pub loop-next-init : goal.loop-next-init
loop-next-init c =
    let t = c.args.table.now in
    let first = c.first_waiter-next in (
      sought_first t.kind t.instance t.cells c.args.leaving.now c.in_order.ensures (found first.result) first.ensures.some (found_none _ first.result first.ensures.none),
      waiting_found t.instance t.cells 0 (found first.result) first.ensures.some,
    )

pub loop-next-smaller : goal.loop-next-smaller
loop-next-smaller c =
    let t = c.args.table.now in
    let s = c.in-Some.standing in
    let first = c.first_waiter-next-in-Some-checked_add in
    let next_index : c.in-Some-checked_add.from ≡ s.index + 1 = search rules in
    let behind : from_on (s.index + 1) (queued t.instance t.cells) ≡ and_behind t.instance t.cells (found first.result) =
    subst (λ n. from_on n (queued t.instance t.cells) ≡ and_behind t.instance t.cells (found first.result)) next_index
    (first_came t.kind t.instance t.cells c.in_order.ensures c.in-Some-checked_add.from (found first.result) first.ensures.some (found_none _ first.result first.ensures.none)) in
    subst (λ (o : Option Standing). length (and_behind t.instance t.cells (found first.result)) < length (and_behind t.instance t.cells (found o))) (sym c.in-Some.is)
    (one_fewer t.instance t.cells s.cell.now (held_of s) (found first.result) behind)

pub loop-next-preserved : goal.loop-next-preserved
loop-next-preserved c =
    let t = c.args.table.now in
    let s = c.in-Some.standing in
    let first = c.first_waiter-next-in-Some-checked_add in
    let next_index : c.in-Some-checked_add.from ≡ s.index + 1 = search rules in
    let behind : from_on (s.index + 1) (queued t.instance t.cells) ≡ and_behind t.instance t.cells (found first.result) =
    subst (λ n. from_on n (queued t.instance t.cells) ≡ and_behind t.instance t.cells (found first.result)) next_index
    (first_came t.kind t.instance t.cells c.in_order.ensures c.in-Some-checked_add.from (found first.result) first.ensures.some (found_none _ first.result first.ensures.none)) in
    let goes : staying c.args.leaving.now (waiter_in s.cell.now) ≡ None = search rules in
    let sought : IsSought t.instance t.cells c.args.leaving.now (Some (s.cell.now, held_of s)) = subst (λ (o : Option Standing). IsSought t.instance t.cells c.args.leaving.now (found o)) c.in-Some.is c.loop-next.invariant.0 in
    let waiting : IsWaiting (Some (s.cell.now, held_of s)) = subst (λ (o : Option Standing). IsWaiting (found o)) c.in-Some.is c.loop-next.invariant.1 in (
      sought_on t.instance t.cells c.args.leaving.now s.cell.now (held_of s) waiting (found first.result) goes behind sought,
      waiting_found t.instance t.cells c.in-Some-checked_add.from (found first.result) first.ensures.some,
    )
