use Rattle.log_model.proofs.kinds.RowStores.{kind_stores}
use Rattle.log_model.proofs.kinds_laws.kinds_store_their_own.Goals as goal

pub returns : goal.returns
returns c = kind_stores
