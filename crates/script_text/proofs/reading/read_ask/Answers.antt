use Rattle.script_text.proofs.ShortLemmas.{ask_read_short}
use Rattle.script_text.proofs.reading.read_ask.Goals as goal

pub returns-in_default : goal.returns-in_default
returns-in_default c = ask_read_short c.args.arguments.now c.in_default.len_below
