-- Each cut finds what was written, so an exit with no id comes only where no id was written.
use Rattle.std.proofs.Common.{ℕ, Option, ap, sym, ◌∙◌, arith}
use Rattle.std.proofs.lemmas.Bool.{both_ways}
use Rattle.std.proofs.lemmas.Slice.Eq.{bytes_eq-Decides}
use Rattle.std.proofs.lemmas.Str.Pattern.{strip_prefix_char, split_parts}
use Rattle.std.specs.Option.{unwrap_or}
use Rattle.disk_files.specs.Names.{log_kind}
use Rattle.disk_files.proofs.Endings.{none_of, some_of, numbers_behind, base_split, generation_split, assembled, same_id}
use Rattle.disk_files.proofs.names.id_in.Goals as goal

pub returns-in_err-numbers-clause-every : goal.returns-in_err-numbers-clause-every
returns-in_err-numbers-clause-every c id is e =
    absurd (none_of _ _ _ c.in_err-numbers.was (numbers_behind c.args.text.now id is e c.strip_prefix.result (strip_prefix_char 45 c.args.text.now c.strip_prefix.result c.strip_prefix.ensures.cases (omega arith))))

pub returns-in_err-base-clause-every : goal.returns-in_err-base-clause-every
returns-in_err-base-clause-every c id is e =
    let numbers = some_of _ _ _ _ c.in_ok-numbers.was (numbers_behind c.args.text.now id is e c.strip_prefix.result (strip_prefix_char 45 c.args.text.now c.strip_prefix.result c.strip_prefix.ensures.cases (omega arith))) in
    absurd (none_of _ _ _ c.in_err-base.was (base_split id is c.in_ok-numbers.numbers.now numbers c.split_once.result c.split_once.ensures.cases))

pub returns-in_err-generation-clause-every : goal.returns-in_err-generation-clause-every
returns-in_err-generation-clause-every c id is e =
    let numbers = some_of _ _ _ _ c.in_ok-numbers.was (numbers_behind c.args.text.now id is e c.strip_prefix.result (strip_prefix_char 45 c.args.text.now c.strip_prefix.result c.strip_prefix.ensures.cases (omega arith))) in
    let base = some_of _ _ _ _ c.in_ok-base.was (base_split id is c.in_ok-numbers.numbers.now numbers c.split_once.result c.split_once.ensures.cases) in
    absurd (none_of _ _ _ c.in_err-generation.was (generation_split id is c.in_ok-base.rest.now base.1 c.split_once-2.result c.split_once-2.ensures.cases))

pub returns-then-not-is_log-clause-every : goal.returns-then-not-is_log-clause-every
returns-then-not-is_log-clause-every c id is e =
    let numbers = some_of _ _ _ _ c.in_ok-numbers.was (numbers_behind c.args.text.now id is e c.strip_prefix.result (strip_prefix_char 45 c.args.text.now c.strip_prefix.result c.strip_prefix.ensures.cases (omega arith))) in
    let base = some_of _ _ _ _ c.in_ok-base.was (base_split id is c.in_ok-numbers.numbers.now numbers c.split_once.result c.split_once.ensures.cases) in
    let generation = some_of _ _ _ _ c.in_ok-generation.was (generation_split id is c.in_ok-base.rest.now base.1 c.split_once-2.result c.split_once-2.ensures.cases) in
    absurd (both_ways c.is_log.result c.if-not-is_log.true (c.is_log.ensures ∙ (bytes_eq-Decides c.in_ok-generation.kind.now log_kind).1 generation.1))

pub returns-in_err-base-2-clause-every : goal.returns-in_err-base-2-clause-every
returns-in_err-base-2-clause-every c id is e =
    let numbers = some_of _ _ _ _ c.in_ok-numbers.was (numbers_behind c.args.text.now id is e c.strip_prefix.result (strip_prefix_char 45 c.args.text.now c.strip_prefix.result c.strip_prefix.ensures.cases (omega arith))) in
    let base = some_of _ _ _ _ c.in_ok-base.was (base_split id is c.in_ok-numbers.numbers.now numbers c.split_once.result c.split_once.ensures.cases) in
    let base_read = c.number.ensures.every id.base (record { first = is.base_first; last = is.base_last; written = base.0 }) in
    absurd (cc (c.in_err-base-2.was, base_read))

pub returns-in_err-generation-2-clause-every : goal.returns-in_err-generation-2-clause-every
returns-in_err-generation-2-clause-every c id is e =
    let numbers = some_of _ _ _ _ c.in_ok-numbers.was (numbers_behind c.args.text.now id is e c.strip_prefix.result (strip_prefix_char 45 c.args.text.now c.strip_prefix.result c.strip_prefix.ensures.cases (omega arith))) in
    let base = some_of _ _ _ _ c.in_ok-base.was (base_split id is c.in_ok-numbers.numbers.now numbers c.split_once.result c.split_once.ensures.cases) in
    let generation = some_of _ _ _ _ c.in_ok-generation.was (generation_split id is c.in_ok-base.rest.now base.1 c.split_once-2.result c.split_once-2.ensures.cases) in
    let generation_read = c.number-2.ensures.every id.generation (record { first = is.generation_first; last = is.generation_last; written = generation.0 }) in
    absurd (cc (c.in_err-generation-2.was, generation_read))

pub returns-clause-reads : goal.returns-clause-reads
returns-clause-reads c =
    let begins = some_of _ _ _ _ c.in_ok-numbers.was (strip_prefix_char 45 c.args.text.now c.strip_prefix.result c.strip_prefix.ensures.cases (omega arith)) in
    let first = some_of _ _ _ _ c.in_ok-base.was (split_parts 45 c.in_ok-numbers.numbers.now c.split_once.result c.split_once.ensures.cases (omega arith)) in
    let second = some_of _ _ _ _ c.in_ok-generation.was (split_parts 46 c.in_ok-base.rest.now c.split_once-2.result c.split_once-2.ensures.cases (omega arith)) in
    let kind = (bytes_eq-Decides c.in_ok-generation.kind.now log_kind).0 (sym c.is_log.ensures ∙ c.if-not-is_log.false) in
    let is_base = some_of _ _ _ _ c.in_ok-base-2.was c.number.ensures.reads in
    let is_generation = some_of _ _ _ _ c.in_ok-generation-2.was c.number-2.ensures.reads in
    assembled c.args.text.now c.in_ok-numbers.numbers.now c.in_ok-base.base.now c.in_ok-base.rest.now c.in_ok-generation.generation.now c.in_ok-generation.kind.now
    c.in_ok-base-2.base c.in_ok-generation-2.generation begins first.0 second.0 kind is_base is_generation

pub returns-clause-every : goal.returns-clause-every
returns-clause-every c id is e =
    let numbers = some_of _ _ _ _ c.in_ok-numbers.was (numbers_behind c.args.text.now id is e c.strip_prefix.result (strip_prefix_char 45 c.args.text.now c.strip_prefix.result c.strip_prefix.ensures.cases (omega arith))) in
    let base = some_of _ _ _ _ c.in_ok-base.was (base_split id is c.in_ok-numbers.numbers.now numbers c.split_once.result c.split_once.ensures.cases) in
    let generation = some_of _ _ _ _ c.in_ok-generation.was (generation_split id is c.in_ok-base.rest.now base.1 c.split_once-2.result c.split_once-2.ensures.cases) in
    let base_read = c.number.ensures.every id.base (record { first = is.base_first; last = is.base_last; written = base.0 }) in
    let generation_read = c.number-2.ensures.every id.generation (record { first = is.generation_first; last = is.generation_last; written = generation.0 }) in
    let base_same = ap (λ (o : Option ℕ). unwrap_or o 0) (sym c.in_ok-base-2.was ∙ base_read) in
    let generation_same = ap (λ (o : Option ℕ). unwrap_or o 0) (sym c.in_ok-generation-2.was ∙ generation_read) in
    same_id id c.in_ok-base-2.base c.in_ok-generation-2.generation base_same generation_same
