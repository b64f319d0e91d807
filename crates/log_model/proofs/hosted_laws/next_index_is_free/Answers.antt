use Rattle.log_model.proofs.hosted.Free.{index_free}
use Rattle.log_model.proofs.hosted_laws.next_index_is_free.Goals as goal

pub returns : goal.returns
returns c = λ s i h low. index_free s i h low
