use Rattle.std.proofs.Common.{rules, ◌≡◌, ℕ, ◌+◌, ◌<◌, ◌++◌, length, Some, sym, subst}
use Rattle.std.specs.Prelude.{IfSome}
use Rattle.log_model.proofs.Lookups.{T_from}
use Rattle.host_types.specs.declared.entry.Cell.TheVariants.{At}
use Rattle.cell_table.specs.Lookups.{cells_from}
use Rattle.lock_group.specs.Members.{indexes_of, members_of, members_on, noted_of, its_cells, left_of}
use Rattle.lock_group.proofs.Own.{AreGone, still, gone_first, gone_on, gone_all, fewer_still}
use Rattle.lock_group.proofs.members.members_of.Goals as goal

pub loop-next-init : goal.loop-next-init
loop-next-init c =
    let t = c.args.table.now in
    subst (λ gone. AreGone t.instance t.cells c.args.session gone c.member_from-next.result) (sym c.new-gone.ensures.items)
    (gone_first t.instance t.cells c.args.session c.member_from-next.result (T_from _ c.in_order.ensures.rise) c.member_from-next.ensures.members)

pub loop-next-preserved : goal.loop-next-preserved
loop-next-preserved c =
    let t = c.args.table.now in
    let w : ℕ × ℕ = (c.in-Some.index, c.in-Some.field-0-1) in
    let next = c.member_from-next-in-Some-checked_add in
    let from_is : c.in-Some-checked_add.from ≡ c.in-Some.index + 1 = search rules in
    let left : left_of t.instance (its_cells c.args.session t.cells) c.args.session next.result ≡ indexes_of (members_of c.args.session (members_on t.instance (its_cells c.args.session t.cells) (c.in-Some.index + 1))) =
    subst (λ n. left_of t.instance (its_cells c.args.session t.cells) c.args.session next.result ≡ indexes_of (members_of c.args.session (members_on t.instance (its_cells c.args.session t.cells) n))) from_is next.ensures.members in
    let before : AreGone t.instance t.cells c.args.session c.loop-next.gone.items (Some w) = subst (AreGone t.instance t.cells c.args.session c.loop-next.gone.items) c.in-Some.is c.loop-next.invariant in
    let now : c.note_gone.new.gone.items ≡ c.loop-next.gone.items ++ noted_of c.args.session (Some w) = search rules in
    subst (λ gone. AreGone t.instance t.cells c.args.session gone next.result) (sym now) (gone_on t.instance t.cells c.args.session c.loop-next.gone.items w next.result left before)

pub loop-next-smaller : goal.loop-next-smaller
loop-next-smaller c =
    let t = c.args.table.now in
    let w : ℕ × ℕ = (c.in-Some.index, c.in-Some.field-0-1) in
    let next = c.member_from-next-in-Some-checked_add in
    let from_is : c.in-Some-checked_add.from ≡ c.in-Some.index + 1 = search rules in
    let fewer : still t.instance t.cells c.args.session next.result < still t.instance t.cells c.args.session (Some w) =
    fewer_still t.instance t.cells c.args.session (c.in-Some.index + 1) next.result
    (subst (λ n. IfSome next.result (λ v. length (cells_from t.instance (At (v.0 + 1)) (its_cells c.args.session t.cells)) < length (cells_from t.instance (At n) (its_cells c.args.session t.cells)))) from_is next.ensures.fewer) in
    subst (λ o. still t.instance t.cells c.args.session next.result < still t.instance t.cells c.args.session o) (sym c.in-Some.is) fewer

pub returns : goal.returns
returns c =
    let t = c.args.table.now in
    gone_all t.instance t.cells c.args.session c.loop-next.gone.items (subst (AreGone t.instance t.cells c.args.session c.loop-next.gone.items) c.in_default.is c.loop-next.invariant)
