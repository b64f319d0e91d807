-- The first byte shuts out a sign and a zero before the number; what is left is what `parse` reads.
use Rattle.std.proofs.Common.{ℕ, Option, slice_get, List, ap, sym, ◌∙◌, arith}
use Rattle.std.specs.Option.{unwrap_or}
use Rattle.std.specs.Result.{result_ok}
use Rattle.disk_files.proofs.Numbers.{first_of_number, first_byte, parsed, number_read, was_ok}
use Rattle.disk_files.proofs.names.number.Goals as goal

pub returns-then-first-le48-clause-every : goal.returns-then-first-le48-clause-every
returns-then-first-le48-clause-every c n is =
    let first = c.unwrap_or-first.ensures ∙ ap (λ (o : Option ℕ). unwrap_or o 0) (c.copied.ensures ∙ c.first.ensures.value ∙ ap (λ (t : List ℕ). slice_get t 0) c.as_bytes.ensures.value) ∙ first_byte c.args.text.now in
    absurd (omega (arith, first, first_of_number n c.args.text.now is, c.if-first-le48.true))

pub returns-in_err-value-clause-every : goal.returns-in_err-value-clause-every
returns-in_err-value-clause-every c n is =
    c.from_residual.ensures ∙ sym (c.in_err-value.was) ∙ c.ok.ensures.value ∙ ap result_ok (parsed n c.args.text.now c.parse.result c.parse.ensures.value.0 is)

pub returns-then-value-gt-LIMIT-clause-every : goal.returns-then-value-gt-LIMIT-clause-every
returns-then-value-gt-LIMIT-clause-every c n is =
    let read = sym (c.in_ok-value.was) ∙ c.ok.ensures.value ∙ ap result_ok (parsed n c.args.text.now c.parse.result c.parse.ensures.value.0 is) in
    let value = ap (λ (o : Option ℕ). unwrap_or o 0) read in
    absurd (omega (arith, value, is.last, c.if-value-gt-LIMIT.true))

pub returns-else-value-gt-LIMIT-clause-reads : goal.returns-else-value-gt-LIMIT-clause-reads
returns-else-value-gt-LIMIT-clause-reads c =
    let first = c.unwrap_or-first.ensures ∙ ap (λ (o : Option ℕ). unwrap_or o 0) (c.copied.ensures ∙ c.first.ensures.value ∙ ap (λ (t : List ℕ). slice_get t 0) c.as_bytes.ensures.value) ∙ first_byte c.args.text.now in
    let ok = was_ok c.in_ok-value.value c.parse.result (sym c.ok.ensures.value ∙ c.in_ok-value.was) in
    number_read c.in_ok-value.value c.args.text.now c.parse.result c.parse.ensures.value.0 ok (omega (arith, first, c.if-first-le48.false)) (omega (arith, c.if-value-gt-LIMIT.false))

pub returns-else-value-gt-LIMIT-clause-every : goal.returns-else-value-gt-LIMIT-clause-every
returns-else-value-gt-LIMIT-clause-every c n is =
    sym (c.in_ok-value.was) ∙ c.ok.ensures.value ∙ ap result_ok (parsed n c.args.text.now c.parse.result c.parse.ensures.value.0 is)
