use Rattle.std.proofs.Common.{subst}
use Rattle.host_types.specs.Name.{IsName}
use Rattle.disk_files.proofs.Apart.{one_log}
use Rattle.disk_files.proofs.names.files_are_of_one_log.Goals as goal

pub returns : goal.returns
returns c i j e =
    one_log c.args.one.now c.args.other.now (subst IsName c.bytes.ensures.bytes c.bytes.ensures.name) (subst IsName c.bytes-2.ensures.bytes c.bytes-2.ensures.name) i j e
