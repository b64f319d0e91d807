use Rattle.std.proofs.Common.{rules, not}
use Rattle.std.proofs.lemmas.Fn.{filter_same}
use Rattle.disk_memory.specs.Versions.{same_id}
use Rattle.disk_memory.proofs.ids.take_out.Goals as goal

pub returns : goal.returns
returns c = filter_same _ (λ one. not (same_id one c.args.id)) _ (λ x b f' k. search rules) _ _ c.retain.ensures.filtered
