use Rattle.std.proofs.Common.{sym}
use Rattle.host_types.specs.Cells.{places_of}
use Rattle.machine.proofs.ReleaseLaws.{releases_none}
use Rattle.resource_catalog.specs.Parts.{whole_cells, name_cells}
use Rattle.resource_catalog.proofs.Ordered.{in_order, is_whole}
use Rattle.resource_catalog.proofs.Applied.{unfit_left, applied}
use Rattle.resource_catalog.proofs.Released.{whole_released, still_apart}
use Rattle.resource_catalog.proofs.catalog.apply_on.Goals as goal

pub returns-then-is_unfit : goal.returns-then-is_unfit
returns-then-is_unfit c =
    let names = c.args.names.now.entries.items in
    let slots = c.args.slots.now.entries.items in
    record {
      whole = c.requires.whole;
      cells = unfit_left names slots (in_order c.args.names.now c.args.slots.now c.requires.whole) c.args.instance c.args.commit c.args.effect.now c.requires.on (sym c.if-is_unfit.ensures);
      released = c.close_own.ensures (places_of (whole_cells names slots)) c.requires.new;
    }

pub returns-else-is_unfit : goal.returns-else-is_unfit
returns-else-is_unfit c =
    let names = c.args.names.now.entries.items in
    let slots = c.args.slots.now.entries.items in
    let now = c.apply.new.self.entries.items in
    let both = applied names slots (in_order c.args.names.now c.args.slots.now c.requires.whole) c.args.instance c.args.commit c.args.effect.now now c.requires.on (sym c.if-is_unfit.ensures) c.apply.ensures.slots in
    let none = releases_none (places_of (name_cells names)) c.args.commit c.args.lender.now in
    record {
      whole = is_whole names now both.0 (still_apart names slots c.requires.whole.apart c.args.commit c.requires.new names now c.args.lender.now c.args.lender.now c.apply.new.lender none c.apply.ensures.released);
      cells = both.1;
      released = whole_released names slots c.requires.whole.apart c.args.commit c.requires.new names now c.args.lender.now c.args.lender.now c.apply.new.lender none c.apply.ensures.released;
    }
