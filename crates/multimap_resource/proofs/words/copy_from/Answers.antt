use Rattle.std.proofs.Common.{rules, ◌<◌, length-append, ◌≡◌, ◌++◌, ◌∷◌, [], ◌≤◌, length, Some, ap, sym, subst, ◌∙◌, arith}
use Rattle.std.specs.Option.{option_copied}
use Rattle.cell_table.specs.Lookups.{and_above, found, held_of, cells_from, AreInOrder}
use Rattle.multimap_resource.specs.Reading.{words_of}
use Rattle.multimap_resource.proofs.Walking.{least, from_least, first_up, next_up, step_words, is_up, stop_words, all_copied, full_copied, one_copied}
use Rattle.multimap_resource.proofs.words.copy_from.Goals as goal

pub loop-next-init : goal.loop-next-init
loop-next-init c =
    let m = c.args.table.now.instance in
    let cells = c.args.table.now.cells in
    let key = c.args.key.now in
    let order = subst (λ k. AreInOrder k m cells) c.requires.kind c.in_order.ensures in
    let all : cells_from m (least m key) cells ≡ and_above m cells (found c.first_from-next.result) = ap (λ k. cells_from m k cells) (sym c.requires.least) ∙ c.first_from-next.ensures in
    record {
      copied = ap (λ ws. ws ++ words_of key (and_above m cells (found c.first_from-next.result))) c.requires.empty ∙ ap (words_of key) (sym all) ∙ from_least m key cells order;
      few = (let none = ap length c.requires.empty in omega (arith, none));
      up = first_up m key cells order (found c.first_from-next.result) all;
    }

pub loop-next-preserved : goal.loop-next-preserved
loop-next-preserved c =
    let m = c.args.table.now.instance in
    let cells = c.args.table.now.cells in
    let key = c.args.key.now in
    let order = subst (λ k. AreInOrder k m cells) c.requires.kind c.in_order.ensures in
    let one = c.in-Some.one in
    let is : found c.loop-next.next ≡ Some (one.cell.now, held_of one) = ap found c.in-Some.is in
    let word : _ ≡ Some c.in-Some-word_of.word.now = sym c.word_of.ensures ∙ ap option_copied c.in-Some-word_of.is in
    let words = step_words m key cells (found c.loop-next.next) one.cell.now (held_of one) is c.in-Some-word_of.word.now word in
    let pushed : c.push.new.self ≡ c.loop-next.words ++ c.in-Some-word_of.word.now ∷ [] = search rules in
    let less : length c.loop-next.words < 16 = search rules in
    record {
      copied = ap (λ ws. ws ++ words_of key (and_above m cells (found c.first_above-next.result))) pushed
          ∙ one_copied c.loop-next.words _ _ _ c.in-Some-word_of.word.now c.loop-next.invariant.copied (words ∙ ap (λ l. c.in-Some-word_of.word.now ∷ words_of key l) c.first_above-next.ensures);
      few = (let many = ap length pushed in omega (arith, many, length-append c.loop-next.words (c.in-Some-word_of.word.now ∷ []), less));
      up = next_up m key cells order one.cell.now (found c.first_above-next.result) (is_up m key cells (found c.loop-next.next) one.cell.now (held_of one) is c.loop-next.invariant.up) c.first_above-next.ensures;
    }

pub returns-in_default-word_of : goal.returns-in_default-word_of
returns-in_default-word_of c =
    let m = c.args.table.now.instance in
    let cells = c.args.table.now.cells in
    let key = c.args.key.now in
    let order = subst (λ k. AreInOrder k m cells) c.requires.kind c.in_order.ensures in
    let one = c.in-Some.one in
    let is : found c.loop-next.next ≡ Some (one.cell.now, held_of one) = ap found c.in-Some.is in
    all_copied _ _ _ c.loop-next.invariant.few c.loop-next.invariant.copied
    (stop_words m key cells (found c.loop-next.next) one.cell.now (held_of one) is order c.loop-next.invariant.up (sym c.word_of.ensures ∙ ap option_copied c.in_default-word_of.is))

pub returns-then-as_slice-ge-LIMIT : goal.returns-then-as_slice-ge-LIMIT
returns-then-as_slice-ge-LIMIT c =
    let more : 16 ≤ length c.loop-next.words = search rules in
    full_copied c.loop-next.words _ _ (omega (arith, more, c.loop-next.invariant.few)) c.loop-next.invariant.copied
