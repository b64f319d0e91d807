use Rattle.std.proofs.Common.{◌≡◌, ℕ, List, take, sym, ap, ◌∙◌, refl, arith}
use Rattle.segment_files.specs.Parse.{descriptor_fields, first_wrong}
use Rattle.segment_files.specs.Contents.{descriptor_in}
use Rattle.segment_files.proofs.Scanning.{opened, filled, bad_head}
use Rattle.segment_files.proofs.reading.read_head.Goals as goal

pub returns-in-Ok-clause-head : goal.returns-in-Ok-clause-head
returns-in-Ok-clause-head g c = λ t bytes reads.
    let into = c.in_ok-count.ensures.bytes t bytes reads in
    let all : take c.in_ok-count.count c.read.new.buffer ≡ take 64 bytes = filled bytes _ c.read.new.buffer c.in_ok-count.count refl c.read.auto.buffer into in (
      opened bytes _ c.read.new.buffer c.in_ok-count.count refl c.read.auto.buffer into (omega (arith, c.if-count-lt2.false)) c.if-head-ne1.false,
      c.in-Ok.ensures.fields ∙ ap (descriptor_in c.args.id) all,
      sym (ap (λ (l : List ℕ). first_wrong (descriptor_fields c.args.id l) l) all) ∙ c.in-Ok.ensures.right,
    )

pub returns-in-Err-clause-head : goal.returns-in-Err-clause-head
returns-in-Err-clause-head g c = λ t bytes reads.
    let into = c.in_ok-count.ensures.bytes t bytes reads in
    let is = opened bytes _ c.read.new.buffer c.in_ok-count.count refl c.read.auto.buffer into (omega (arith, c.if-count-lt2.false)) c.if-head-ne1.false in
    let all : take c.in_ok-count.count c.read.new.buffer ≡ take 64 bytes = filled bytes _ c.read.new.buffer c.in_ok-count.count refl c.read.auto.buffer into in
    bad_head c.args.id bytes is c.in-Err.at (sym (ap (λ (l : List ℕ). first_wrong (descriptor_fields c.args.id l) l) all) ∙ c.in-Err.ensures.wrong)
