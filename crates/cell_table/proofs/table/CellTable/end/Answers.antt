use Rattle.std.proofs.Common.{◌+◌, ap, ◌∙◌}
use Rattle.commit_lending.specs.Lent.{tokens}
use Rattle.cell_table.proofs.Places.{held_seen, seen_places}
use Rattle.cell_table.proofs.table.CellTable.end.Goals as goal

pub end-requires : goal.end-requires
end-requires c = record { held = held_seen c.self.inside.instance _ _ c.args.lender.now (ap (λ x. x.cells) c.self.view_is) c.requires }

pub returns : goal.returns
returns c = record {
  tokens = λ j. ap (λ n. tokens c.end.new.lender j + n) (seen_places c.self.inside.instance _ _ (ap (λ x. x.cells) c.self.view_is) j) ∙ c.end.ensures.tokens j;
  closed = c.end.ensures.closed;
  spare = c.end.ensures.spare;
}
