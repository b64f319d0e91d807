use Rattle.std.proofs.Common.{◌≡◌, ◌≤◌, length, Some, ap, sym, subst, ◌∙◌, arith}
use Rattle.std.specs.Option.{option_copied}
use Rattle.std.proofs.lemmas.List.Sums.{length-filter, count_by-le-length}
use Rattle.std.specs.Ordering.{is_le}
use Rattle.host_types.specs.Cells.{Cell_at, place_cmp}
use Rattle.cell_table.specs.Lookups.{and_above, found, held_of, cells_from, AreInOrder}
use Rattle.multimap_resource.specs.Reading.{words_of}
use Rattle.multimap_resource.proofs.Walking.{least, from_least, first_up, next_up, step_words, step_length, is_up, stop_words}
use Rattle.multimap_resource.proofs.words.count_from.Goals as goal

pub loop-next-init : goal.loop-next-init
loop-next-init c =
    let m = c.args.table.now.instance in
    let cells = c.args.table.now.cells in
    let key = c.args.key.now in
    let order = subst (λ k. AreInOrder k m cells) c.requires.kind c.in_order.ensures in
    let all : cells_from m (least m key) cells ≡ and_above m cells (found c.first_from-next.result) = ap (λ k. cells_from m k cells) (sym c.requires.least) ∙ c.first_from-next.ensures in
    let words : length (words_of key (and_above m cells (found c.first_from-next.result))) ≡ length (words_of key cells) = ap (λ l. length (words_of key l)) (sym all) ∙ ap length (from_least m key cells order) in
    let few : length (cells_from m (least m key) cells) ≤ length cells = subst (λ n. n ≤ length cells) (sym (length-filter (λ x. is_le (place_cmp (Cell_at m (least m key)) x.0)) cells)) (count_by-le-length (λ x. is_le (place_cmp (Cell_at m (least m key)) x.0)) cells) in
    record {
      counted = omega (arith, words);
      few = (let same = ap length all in omega (arith, same, few));
      up = first_up m key cells order (found c.first_from-next.result) all;
    }

pub loop-next-preserved : goal.loop-next-preserved
loop-next-preserved c =
    let m = c.args.table.now.instance in
    let cells = c.args.table.now.cells in
    let key = c.args.key.now in
    let order = subst (λ k. AreInOrder k m cells) c.requires.kind c.in_order.ensures in
    let one = c.in-Some.one in
    let is : found c.loop-next.next ≡ Some (one.cell.now, held_of one) = ap found c.in-Some.is in
    let word : _ ≡ Some c.in-Some-word_of._word.now = sym c.word_of.ensures ∙ ap option_copied c.in-Some-word_of.is in
    let words = ap length (step_words m key cells (found c.loop-next.next) one.cell.now (held_of one) is c.in-Some-word_of._word.now word) in
    let many = step_length m key cells (found c.loop-next.next) one.cell.now (held_of one) is in
    let rest = ap (λ l. length (words_of key l)) c.first_above-next.ensures in
    let long = ap length c.first_above-next.ensures in
    record {
      counted = omega (arith, words, rest, c.loop-next.invariant.counted);
      few = omega (arith, many, long, c.loop-next.invariant.few);
      up = next_up m key cells order one.cell.now (found c.first_above-next.result) (is_up m key cells (found c.loop-next.next) one.cell.now (held_of one) is c.loop-next.invariant.up) c.first_above-next.ensures;
    }

pub returns-in_default-word_of : goal.returns-in_default-word_of
returns-in_default-word_of c =
    let m = c.args.table.now.instance in
    let cells = c.args.table.now.cells in
    let key = c.args.key.now in
    let order = subst (λ k. AreInOrder k m cells) c.requires.kind c.in_order.ensures in
    let one = c.in-Some.one in
    let is : found c.loop-next.next ≡ Some (one.cell.now, held_of one) = ap found c.in-Some.is in
    let none = stop_words m key cells (found c.loop-next.next) one.cell.now (held_of one) is order c.loop-next.invariant.up (sym c.word_of.ensures ∙ ap option_copied c.in_default-word_of.is) in
    omega (arith, ap length none, c.loop-next.invariant.counted)
