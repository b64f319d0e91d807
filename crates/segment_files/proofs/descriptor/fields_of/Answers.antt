use Rattle.std.proofs.Common.{◌≡◌, ◌+◌, ◌-◌, refl, ap, ◌∙◌, arith}
use Rattle.segment_files.specs.Parse.{in_rewritten}
use Rattle.segment_files.proofs.descriptor.fields_of.Goals as goal

pub returns : goal.returns
returns c =
    let most : c.saturating_sub.result ≡ c.args.last + 1 - c.args.id.base = omega (arith, c.saturating_sub.ensures, c.requires.base_first) in
    rw (
      c.exactly.ensures,
      c.exactly-2.ensures,
      c.exactly-3.ensures,
      c.exactly-4.ensures,
      c.exactly-5.ensures,
      c.in_rewritten.ensures,
      c.in_rewritten-2.ensures,
      c.in_rewritten-3.ensures,
      c.in_rewritten-4.ensures ∙ ap (in_rewritten c.args.rewritten 48 0) most,
      c.size_field.ensures,
      c.exactly-6.ensures,
    ) refl
