use Rattle.log_model.proofs.kinds.ShownRows.{rows_shown as lemma}
use Rattle.log_model.proofs.kinds_laws.rows_show.Goals as goal

pub returns : goal.returns
returns c = λ standing m i time session seq name plain next op effect reply told. lemma standing m i time session seq name plain next op effect reply told
