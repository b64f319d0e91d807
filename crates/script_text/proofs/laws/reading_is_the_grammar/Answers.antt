use Rattle.script_text.proofs.LineLemmas.{line_found, line_again}
use Rattle.script_text.proofs.laws.reading_is_the_grammar.Goals as goal

pub returns-clause-found : goal.returns-clause-found
returns-clause-found c = line_found

pub returns-clause-again : goal.returns-clause-again
returns-clause-again c = line_again
