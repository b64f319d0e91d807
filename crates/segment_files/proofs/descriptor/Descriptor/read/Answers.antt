use Rattle.std.proofs.Common.{◌≡◌, ℕ, Bool, true, false, if◌then◌else◌, List, Option, Some, None, refl, sym, ap, subst, ◌∙◌, arith}
use Rattle.disk_model.specs.declared.file_id.FileId.{FileId}
use Rattle.segment_files.specs.declared.descriptor.Descriptor.{Descriptor}
use Rattle.segment_files.specs.declared.descriptor.Field.{Field}
use Rattle.segment_files.specs.Numbers.{Four, Eight, number_at}
use Rattle.segment_files.specs.Parse.{descriptor_fields, fields_by, first_wrong, is_rewritten, last_place, number_or_zero}
use Rattle.segment_files.specs.Contents.{HasRule, appended_descriptor, descriptor_in, rewritten_descriptor}
use Rattle.segment_files.proofs.Descriptors.{cut_right, fields_are, last_right, size_right, whole_head}
use Rattle.segment_files.proofs.descriptor.Descriptor.read.Goals as goal

-- what the first wrong field is
found : (id : FileId) (head : List ℕ) (rewritten : Bool) (last : ℕ) (fields : List Field) (o : Option ℕ) → rewritten ≡ is_rewritten head → last ≡ number_or_zero Eight last_place head → fields ≡ fields_by id rewritten last → o ≡ first_wrong fields head
    → (x : Option ℕ) → o ≡ x → first_wrong (descriptor_fields id head) head ≡ x
found id head rewritten last fields o is last_is fields_is o_is x x_is = fields_are id head rewritten last fields is last_is fields_is ∙ sym o_is ∙ x_is

-- no field is wrong
none : (id : FileId) (head : List ℕ) (rewritten : Bool) (last : ℕ) (fields : List Field) (o : Option ℕ) → fields ≡ fields_by id rewritten last → o ≡ first_wrong fields head → o ≡ None → first_wrong (fields_by id rewritten last) head ≡ None
none id head rewritten last fields o fields_is o_is is = sym (ap (λ (l : List Field). first_wrong l head) fields_is) ∙ sym o_is ∙ is

described : (id : FileId) (head : List ℕ) (t : Bool) → is_rewritten head ≡ t → descriptor_in id head ≡ (if t then rewritten_descriptor id head else appended_descriptor id (number_at Four 56 head))
described id head t is = ap (λ (x : Bool). if x then rewritten_descriptor id head else appended_descriptor id (number_at Four 56 head)) is

pub returns-in-Some-clause-wrong : goal.returns-in-Some-clause-wrong
returns-in-Some-clause-wrong c =
    found c.args.id c.args.head.now c.is_rewritten-rewritten.result c.number_or_zero-last.result c.fields_of.result c.first_wrong_of.result c.is_rewritten-rewritten.ensures c.number_or_zero-last.ensures c.fields_of.ensures c.first_wrong_of.ensures (Some c.in-Some.at) c.in-Some.is

pub returns-then-rewritten-clause-right : goal.returns-then-rewritten-clause-right
returns-then-rewritten-clause-right c =
    found c.args.id c.args.head.now c.is_rewritten-rewritten.result c.number_or_zero-last.result c.fields_of.result c.first_wrong_of.result c.is_rewritten-rewritten.ensures c.number_or_zero-last.ensures c.fields_of.ensures c.first_wrong_of.ensures None c.in_default.is

pub returns-then-rewritten-clause-fields : goal.returns-then-rewritten-clause-fields
returns-then-rewritten-clause-fields c = c.rewritten.ensures ∙ sym (described c.args.id c.args.head.now true (sym c.is_rewritten-rewritten.ensures ∙ c.if-rewritten.true))

pub returns-then-rewritten-clause-rule : goal.returns-then-rewritten-clause-rule
returns-then-rewritten-clause-rule c =
    let right = none c.args.id c.args.head.now true c.number_or_zero-last.result c.fields_of.result c.first_wrong_of.result (c.fields_of.ensures ∙ ap (λ (t : Bool). fields_by c.args.id t c.number_or_zero-last.result) c.if-rewritten.true) c.first_wrong_of.ensures c.in_default.is in
    subst (λ (d : Descriptor). HasRule c.args.id (Some d)) (sym c.rewritten.ensures) (refl, last_right c.args.id c.number_or_zero-last.result c.args.head.now right, (λ plain. absurd (cc)), omega arith, cut_right c.args.id c.number_or_zero-last.result c.args.head.now right)

pub returns-else-rewritten-clause-right : goal.returns-else-rewritten-clause-right
returns-else-rewritten-clause-right c =
    found c.args.id c.args.head.now c.is_rewritten-rewritten.result c.number_or_zero-last.result c.fields_of.result c.first_wrong_of.result c.is_rewritten-rewritten.ensures c.number_or_zero-last.ensures c.fields_of.ensures c.first_wrong_of.ensures None c.in_default.is

pub returns-else-rewritten-clause-fields : goal.returns-else-rewritten-clause-fields
returns-else-rewritten-clause-fields c =
    c.appended.ensures ∙ ap (appended_descriptor c.args.id) c.u32_at.ensures ∙ sym (described c.args.id c.args.head.now false (sym c.is_rewritten-rewritten.ensures ∙ c.if-rewritten.false))

pub returns-else-rewritten-clause-rule : goal.returns-else-rewritten-clause-rule
returns-else-rewritten-clause-rule c =
    let right = none c.args.id c.args.head.now false c.number_or_zero-last.result c.fields_of.result c.first_wrong_of.result (c.fields_of.ensures ∙ ap (λ (t : Bool). fields_by c.args.id t c.number_or_zero-last.result) c.if-rewritten.false) c.first_wrong_of.ensures c.in_default.is in
    let size = size_right c.args.id c.number_or_zero-last.result c.args.head.now right in
    subst (λ (d : Descriptor). HasRule c.args.id (Some d)) (sym c.appended.ensures) (refl, tt, (λ plain. omega (arith, c.u32_at.ensures, size.0)), omega (arith, c.u32_at.ensures, size.1), omega arith)

pub rewritten-requires : goal.rewritten-requires
rewritten-requires c = whole_head c.args.id c.is_rewritten-rewritten.result c.number_or_zero-last.result c.args.head.now (none c.args.id c.args.head.now c.is_rewritten-rewritten.result c.number_or_zero-last.result c.fields_of.result c.first_wrong_of.result c.fields_of.ensures c.first_wrong_of.ensures c.in_default.is)

pub u32_at-requires : goal.u32_at-requires
u32_at-requires c =
    let long = whole_head c.args.id c.is_rewritten-rewritten.result c.number_or_zero-last.result c.args.head.now (none c.args.id c.args.head.now c.is_rewritten-rewritten.result c.number_or_zero-last.result c.fields_of.result c.first_wrong_of.result c.fields_of.ensures c.first_wrong_of.ensures c.in_default.is) in
    omega (arith, long)
