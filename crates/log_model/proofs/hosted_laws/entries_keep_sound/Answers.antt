use Rattle.log_model.proofs.hosted.Sounds.{entry_sound}
use Rattle.log_model.proofs.hosted_laws.entries_keep_sound.Goals as goal

pub returns : goal.returns
returns c = λ telling cut s i e h low fit right. entry_sound telling cut s i e h low fit right
