use Rattle.log_model.proofs.serving.Turns.{serves_in_turn}
use Rattle.log_model.proofs.serving_laws.serves_in_turn.Goals as goal

pub returns : goal.returns
returns c = serves_in_turn
