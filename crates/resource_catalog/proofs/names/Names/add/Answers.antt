use Rattle.std.proofs.Common.{sym, ◌∙◌, take, drop, ◌++◌, ◌∷◌}
use Rattle.std.specs.Prelude.{is_ok}
use Rattle.host_types.specs.Cells.{text_cmp}
use Rattle.resource_catalog.proofs.Search.{find_there, put_gap, rises_put, rises_either}
use Rattle.resource_catalog.proofs.Texts.{text_total}
use Rattle.resource_catalog.proofs.names.Names.add.Goals as goal

pub unreachable-requires : goal.unreachable-requires
unreachable-requires c =
    let at = c.in-Ok.ensures.found in
    let there = find_there text_total c.args.self.now.entries.items c.args.name c.in-Ok.field-0 at in
    let none = c.requires.absent in
    absurd (cc)

pub returns : goal.returns
returns c =
    let at = c.in-Err.ensures.gap in
    c.in-Ok-insert.ensures.items ∙ sym (put_gap text_total c.args.self.now.entries.items c.args.name c.args.named c.in-Err.at at)

pub invariant_of-self : goal.invariant_of-self
invariant_of-self c =
    let es = c.args.self.now.entries.items in
    let at = c.in-Err.at in
    let more = take at es ++ (c.args.name, c.args.named) ∷ drop at es in
    record { rises = rises_either text_cmp (is_ok c.insert.result) es more _ c.insert.ensures.items (rises_put text_total c.args.name c.args.named es more (sym (put_gap text_total es c.args.name c.args.named at c.in-Err.ensures.gap)) c.args.self.now.rises) c.args.self.now.rises }
