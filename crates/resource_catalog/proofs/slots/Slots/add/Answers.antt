use Rattle.std.proofs.Common.{sym, subst, ◌∙◌, take, drop, ◌++◌, ◌∷◌}
use Rattle.std.specs.Prelude.{is_ok}
use Rattle.std.specs.Cmp.{nat_cmp_total}
use Rattle.std.specs.Ordering.{nat_cmp}
use Rattle.std.proofs.lemmas.List.{take-append-drop}
use Rattle.resource_catalog.specs.Parts.{SlotsAreApart}
use Rattle.resource_catalog.proofs.Places.{apart_with_empty, apart_either}
use Rattle.resource_catalog.proofs.Search.{find_there, put_gap, rises_put, rises_either}
use Rattle.resource_catalog.proofs.slots.Slots.add.Goals as goal

pub unreachable-requires : goal.unreachable-requires
unreachable-requires c =
    let at = c.in-Ok.ensures.found in
    let there = find_there nat_cmp_total c.args.self.now.entries.items c.args.instance c.in-Ok.field-0 at in
    let none = c.requires.absent in
    absurd (cc)

pub returns : goal.returns
returns c =
    let at = c.in-Err.ensures.gap in
    c.in-Ok-insert.ensures.items ∙ sym (put_gap nat_cmp_total c.args.self.now.entries.items c.args.instance c.args.slot c.in-Err.at at)

pub invariant_of-self : goal.invariant_of-self
invariant_of-self c =
    let es = c.args.self.now.entries.items in
    let at = c.in-Err.at in
    let more = take at es ++ (c.args.instance, c.args.slot) ∷ drop at es in
    record {
      rises = rises_either nat_cmp (is_ok c.insert.result) es more _ c.insert.ensures.items (rises_put nat_cmp_total c.args.instance c.args.slot es more (sym (put_gap nat_cmp_total es c.args.instance c.args.slot at c.in-Err.ensures.gap)) c.args.self.now.rises) c.args.self.now.rises;
      apart = apart_either (is_ok c.insert.result) es more _ c.insert.ensures.items (apart_with_empty (take at es) (drop at es) (c.args.instance, c.args.slot) c.requires.empty (subst SlotsAreApart (sym (take-append-drop at es)) c.args.self.now.apart)) c.args.self.now.apart;
    }
