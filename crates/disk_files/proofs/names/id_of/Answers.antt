-- Behind the log's name stands text where the file is one of this log's.
use Rattle.std.proofs.Common.{ℕ, List, ◌++◌, ap, sym, subst, ◌∙◌}
use Rattle.std.specs.Str.{IsUtf8}
use Rattle.std.proofs.lemmas.Bool.Decides.{Decides-eqb}
use Rattle.std.proofs.lemmas.Slice.Eq.{strip_prefix_is}
use Rattle.disk_files.specs.Names.{ending}
use Rattle.disk_files.proofs.Endings.{none_of, some_of, rest_is, reads_whole, ending_is_text}
use Rattle.disk_files.proofs.names.id_of.Goals as goal

pub returns-in_err-rest-clause-every : goal.returns-in_err-rest-clause-every
returns-in_err-rest-clause-every c id is e =
    absurd (none_of _ _ _ c.in_err-rest.was (strip_prefix_is Decides-eqb c.as_bytes.result.now c.bytes.result.now c.strip_prefix.result c.strip_prefix.ensures.cases) (ending id) (c.as_bytes.ensures.value ∙ e ∙ ap (λ (l : List ℕ). l ++ ending id) (sym c.bytes.ensures.bytes)))

pub returns-in-Ok-clause-reads : goal.returns-in-Ok-clause-reads
returns-in-Ok-clause-reads c =
    let cut = some_of _ _ _ _ c.in_ok-rest.was (strip_prefix_is Decides-eqb c.as_bytes.result.now c.bytes.result.now c.strip_prefix.result c.strip_prefix.ensures.cases) in
    let whole = sym c.as_bytes.ensures.value ∙ cut ∙ ap (λ (l : List ℕ). l ++ c.in_ok-rest.rest.now) c.bytes.ensures.bytes ∙ ap (λ (l : List ℕ). c.args.name.now ++ l) (sym c.in-Ok.ensures.cases.0) in
    reads_whole c.args.name.now c.in-Ok.text.now c.args.file.now c.id_in.result whole c.id_in.ensures.reads

pub returns-in-Err-clause-every : goal.returns-in-Err-clause-every
returns-in-Err-clause-every c id is e =
    let cut = some_of _ _ _ _ c.in_ok-rest.was (strip_prefix_is Decides-eqb c.as_bytes.result.now c.bytes.result.now c.strip_prefix.result c.strip_prefix.ensures.cases) in
    let rest = rest_is c.args.name.now c.args.file.now c.as_bytes.result.now c.bytes.result.now c.in_ok-rest.rest.now id c.as_bytes.ensures.value c.bytes.ensures.bytes cut e in
    absurd (c.in-Err.ensures.cases.0 (subst IsUtf8 (sym rest) (ending_is_text id is)))
