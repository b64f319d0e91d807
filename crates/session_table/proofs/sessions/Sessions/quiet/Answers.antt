use Rattle.std.proofs.Common.{◌-◌, arith}
use Rattle.session_table.proofs.Walks.{row_cut, filled_at, quiet_more}
use Rattle.session_table.proofs.sessions.Sessions.quiet.Goals as goal

pub index-requires-in-loop-left : goal.index-requires-in-loop-left
index-requires-in-loop-left c =
    let rows = c.self.inside.order.items in
    filled_at rows c.self.inside.slots (c.loop-left.left - 1) c.index.result.now c.self.invariant.seated (row_cut rows (c.loop-left.left - 1) c.index.result.now (omega (arith, c.loop-left-test.true, c.loop-left.invariant.within, c.self.inside.order.ok.0)) c.index.ensures)

pub loop-left-preserved : goal.loop-left-preserved
loop-left-preserved c =
    let rows = c.self.inside.order.items in
    record {
      within = omega (arith, c.loop-left.invariant.within);
      quiet = quiet_more c.args.last c.loop-left.quiet c.quiet-quiet.result c.loop-left.left rows c.self.inside.slots c.index.result.now c.index-in-loop-left.result.now c.loop-left-test.true (row_cut rows (c.loop-left.left - 1) c.index.result.now (omega (arith, c.loop-left-test.true, c.loop-left.invariant.within, c.self.inside.order.ok.0)) c.index.ensures) c.index-in-loop-left.ensures c.loop-left.invariant.quiet c.quiet-quiet.ensures;
    }
