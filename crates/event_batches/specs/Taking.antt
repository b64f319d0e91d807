-- What a client answers.
use Rattle.std.specs.Prelude.{ℕ}
use Rattle.log_model.specs.serving.Batches as model
use Rattle.event_batches.specs.declared.client.Take.{Take}
use Rattle.event_batches.specs.declared.client.Take.TheVariants.{Taken, Repeat, Missed}

-- the model's answer, with the last batch that was taken
abbrev pub answered : ℕ → model.Take → Take
answered last model.Taken = Taken
answered last model.Repeated = Repeat
answered last model.Missed = Missed last
