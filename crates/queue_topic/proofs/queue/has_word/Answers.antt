use Rattle.std.proofs.Common.{rules, ◌≡◌, true, false, cond, Some, None, sym, ap, ◌∙◌}
use Rattle.std.specs.Cmp.Lexicographic.{texts_ties}
use Rattle.host_types.specs.declared.entry.Cell.TheVariants.{At}
use Rattle.host_types.specs.declared.entry.Content.TheVariants.{Text}
use Rattle.host_types.specs.Cells.{filled, is_text}
use Rattle.log_model.specs.kinds.Reading.{item_cell}
use Rattle.queue_topic.specs.Items.{with_word}
use Rattle.queue_topic.proofs.queue.has_word.Goals as goal

pub returns-then-eq : goal.returns-then-eq
returns-then-eq c =
    let s = c.args.standing in
    let same : is_text c.args.word.now c.in-At-Text.other ≡ true = sym (texts_ties c.args.word.now c.in-At-Text.other) ∙ sym c.eq.ensures ∙ c.if-eq.true in
    let cell : s.cell.now ≡ At c.in-At-Text.index = search rules in
    let content : s.content.now ≡ Text c.in-At-Text.other = search rules in
    ap (λ b. cond b (Some c.in-At-Text.index) None) (sym same) ∙ (λ j. with_word c.args.word.now (item_cell (sym cell j) (filled s.index (sym content j) s.owner)))

pub returns-else-eq : goal.returns-else-eq
returns-else-eq c =
    let s = c.args.standing in
    let same : is_text c.args.word.now c.in-At-Text.other ≡ false = sym (texts_ties c.args.word.now c.in-At-Text.other) ∙ sym c.eq.ensures ∙ c.if-eq.false in
    let cell : s.cell.now ≡ At c.in-At-Text.index = search rules in
    let content : s.content.now ≡ Text c.in-At-Text.other = search rules in
    ap (λ b. cond b (Some c.in-At-Text.index) None) (sym same) ∙ (λ j. with_word c.args.word.now (item_cell (sym cell j) (filled s.index (sym content j) s.owner)))
