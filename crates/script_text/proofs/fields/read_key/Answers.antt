use Rattle.host_types.specs.Limits.{key_limit}
use Rattle.script_text.proofs.FieldLemmas.{err_reads}
use Rattle.script_text.proofs.fields.read_key.Goals as goal

pub returns-in_err-new : goal.returns-in_err-new
returns-in_err-new c = err_reads key_limit c.args.text.now c.from_residual.result c.in_err-new.field-0.0 c.from_residual.ensures.1 (rw c.as_bytes.ensures.value at c.in_err-new.ensures.fault)
