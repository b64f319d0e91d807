use Rattle.script_text.proofs.LineLemmas.{read_found, read_only}
use Rattle.script_text.proofs.reading.read_line.Goals as goal

pub returns-clause-found : goal.returns-clause-found
returns-clause-found c = read_found c.args.bytes.now c.read_bytes.result c.read_bytes.ensures

pub returns-clause-only : goal.returns-clause-only
returns-clause-only c = read_only c.args.bytes.now c.read_bytes.result c.read_bytes.ensures
