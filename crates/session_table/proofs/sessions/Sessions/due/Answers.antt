use Rattle.std.proofs.Common.{◌∙◌, Some, ap, sym, arith}
use Rattle.log_model.specs.plain.Admission.{due}
use Rattle.session_table.specs.Table.{Table, as_state}
use Rattle.session_table.proofs.Walks.{row_cut, filled_at, due_skipped, due_here, nobody_due, nobody_yet}
use Rattle.session_table.proofs.sessions.Sessions.due.Goals as goal

pub returns-then-time-least : goal.returns-then-time-least
returns-then-time-least c =
    nobody_yet c.args.time c.least.result c.self.inside.order.items c.self.inside.slots c.self.inside.deadlines c.self.invariant.timely c.least.ensures c.if-time-least.true
    ∙ ap (λ (t : Table). due c.args.time (as_state t.sessions)) c.self.view_is

pub index-requires : goal.index-requires
index-requires c =
    let rows = c.self.inside.order.items in
    filled_at rows c.self.inside.slots c.loop-place.place c.index-row.result.now c.self.invariant.seated (row_cut rows c.loop-place.place c.index-row.result.now (omega (arith, c.loop-place-test.true, c.len-place-end.ensures, c.self.inside.order.ok.0)) c.index-row.ensures)

pub returns-then-is_due : goal.returns-then-is_due
returns-then-is_due c =
    let rows = c.self.inside.order.items in
    ap Some c.index-then-is_due.ensures
    ∙ due_here c.args.time rows c.self.inside.slots c.loop-place.place c.index-row.result.now c.index.result.now c.self.invariant.seated (row_cut rows c.loop-place.place c.index-row.result.now (omega (arith, c.loop-place-test.true, c.len-place-end.ensures, c.self.inside.order.ok.0)) c.index-row.ensures) c.index.ensures (sym c.is_due.ensures ∙ c.if-is_due.true) c.loop-place.invariant
    ∙ ap (λ (t : Table). due c.args.time (as_state t.sessions)) c.self.view_is

pub returns : goal.returns
returns c =
    nobody_due c.args.time c.self.inside.order.items c.self.inside.slots c.loop-place.place (omega (arith, c.loop-place-test.false, c.len-place-end.ensures, c.self.inside.order.ok.0)) c.loop-place.invariant
    ∙ ap (λ (t : Table). due c.args.time (as_state t.sessions)) c.self.view_is

pub loop-place-preserved : goal.loop-place-preserved
loop-place-preserved c =
    let rows = c.self.inside.order.items in
    due_skipped c.args.time rows c.self.inside.slots c.loop-place.place c.index-row.result.now c.index.result.now (row_cut rows c.loop-place.place c.index-row.result.now (omega (arith, c.loop-place-test.true, c.len-place-end.ensures, c.self.inside.order.ok.0)) c.index-row.ensures) c.index.ensures (sym c.is_due.ensures ∙ c.if-is_due.false)
    ∙ c.loop-place.invariant
