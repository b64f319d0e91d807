use Rattle.std.proofs.Common.{◌≡◌, ◌≤◌, ◌<◌, ℕ, ◌+◌, false, List, [], ◌∷◌, ◌++◌, length, get_or, ap, subst, ◌∙◌, refl, arith}
use Rattle.std.proofs.lemmas.List.{get_or_default, take_all}
use Rattle.script_text.specs.declared.printed.Printed.TheVariants as prints
use Rattle.script_text.specs.Printing.{printed_text}
use Rattle.segment_set.specs.declared.views.PartView.{PartView}
use Rattle.segment_set.specs.Views.{LieFrom}
use Rattle.copycat_tool.specs.Census.{census_lines, indexes_in, kept_in, total_line}
use Rattle.copycat_tool.specs.Turning.{IsPut}
use Rattle.copycat_tool.proofs.CensusLemmas.{Reached, indexes_more, kept_more, last_put, line_at, lines_count, reaches, total_at}
use Rattle.copycat_tool.proofs.PuttingLemmas.{put_next, put_part}
use Rattle.copycat_tool.proofs.Writing.{wrote_none}
use Rattle.copycat_tool.proofs.census.put_census.Goals as goal

-- the part at a position
abbrev at_place : List PartView → ℕ → PartView
at_place list n = get_or list n (record { base = 0; generation = 0; last = 0; kept = 0; cut = 0; floor = 0; sealed = false })

place_is : (list : List PartView) (n : ℕ) → n < length list → at_place list n ≡ get_or list n (at_place list n)
place_is list n lt = get_or_default list n _ (at_place list n) lt

there : (list : List PartView) (n : ℕ) → LieFrom 1 list → n < length list → Reached list n (at_place list n)
there list n lie lt = reaches list n (at_place list n) lie (place_is list n lt) lt

pub overflow_add-kept : goal.overflow_add-kept
overflow_add-kept g c = omega (arith, c.loop-one.invariant.kept, (there c.args.list.now c.loop-one.one-index c.requires c.loop-one-test.true).kept)

pub overflow_add-count : goal.overflow_add-count
overflow_add-count g c = omega (arith, (there c.args.list.now c.loop-one.one-index c.requires c.loop-one-test.true).last)

pub overflow_sub-count : goal.overflow_sub-count
overflow_sub-count g c = (there c.args.list.now c.loop-one.one-index c.requires c.loop-one-test.true).from

pub overflow_add-count-in-loop-one : goal.overflow_add-count-in-loop-one
overflow_add-count-in-loop-one g c = omega (arith, c.loop-one.invariant.count, (there c.args.list.now c.loop-one.one-index c.requires c.loop-one-test.true).indexes)

pub put_answer-requires : goal.put_answer-requires
put_answer-requires g c =
    let r = there c.args.list.now c.loop-one.one-index c.requires c.loop-one-test.true in
    (r.first, r.from, r.last)

pub loop-one-init : goal.loop-one-init
loop-one-init g c = record { wrote = wrote_none (g.O.Sink.written c.args.out.now); later = omega arith; kept = refl; count = refl }

pub returns-in-Err-clause-put : goal.returns-in-Err-clause-put
returns-in-Err-clause-put g c =
    let list = c.args.list.now in
    let n = c.loop-one.one-index in
    put_part (census_lines list) n _ (line_at list n (at_place list n) (place_is list n c.loop-one-test.true) c.loop-one-test.true)
    (g.O.Sink.written c.args.out.now) (g.O.Sink.written c.loop-one.out) (g.O.Sink.written c.put_answer.new.out) c.loop-one.invariant.wrote
    (g.O.Sink.faults c.args.out.now) (g.O.Sink.faults c.loop-one.out) (g.O.Sink.faults c.put_answer.new.out) c.loop-one.invariant.later (Unit {0}) c.in-Err.ending c.in-Err.ensures.put

pub returns-in-Err-clause-later : goal.returns-in-Err-clause-later
returns-in-Err-clause-later g c = omega (arith, c.loop-one.invariant.later, c.put_answer.ensures.later)

pub loop-one-preserved : goal.loop-one-preserved
loop-one-preserved g c =
    let list = c.args.list.now in
    let n = c.loop-one.one-index in
    let lt = c.loop-one-test.true in
    let is = place_is list n lt in
    record {
      wrote = put_next (census_lines list) n _ (line_at list n (at_place list n) is lt)
          (g.O.Sink.written c.args.out.now) (g.O.Sink.written c.loop-one.out) (g.O.Sink.written c.put_answer.new.out) c.loop-one.invariant.wrote (n + 1) refl c.in-Ok.ensures.put;
      later = omega (arith, c.loop-one.invariant.later, c.put_answer.ensures.later);
      kept = omega (arith, c.loop-one.invariant.kept, kept_more list n (at_place list n) is lt);
      count = omega (arith, c.loop-one.invariant.count, indexes_more list n (at_place list n) is lt);
    }

pub returns-clause-put : goal.returns-clause-put
returns-clause-put g c =
    let list = c.args.list.now in
    let n = c.loop-one.one-index in
    let over : length list ≤ n = omega (arith, c.loop-one-test.false) in
    let all : n ≡ length list = omega (arith, over, c.loop-one.auto.one-index-end) in
    let kept : c.loop-one.kept ≡ kept_in list = c.loop-one.invariant.kept ∙ ap kept_in (take_all n list over) in
    let count : c.loop-one.count ≡ indexes_in list = c.loop-one.invariant.count ∙ ap indexes_in (take_all n list over) in
    let line : printed_text (prints.Total c.loop-one.kept c.loop-one.count) ++ 10 ∷ [] ≡ total_line list ++ 10 ∷ [] = (λ i. printed_text (prints.Total (kept i) (count i)) ++ 10 ∷ []) in
    last_put (census_lines list) n (total_line list) (total_at list n all) (omega (arith, lines_count list, all))
    (g.O.Sink.written c.args.out.now) (g.O.Sink.written c.loop-one.out) (g.O.Sink.written c.put_answer-2.new.out) c.loop-one.invariant.wrote
    (g.O.Sink.faults c.args.out.now) (g.O.Sink.faults c.loop-one.out) (g.O.Sink.faults c.put_answer-2.new.out) c.loop-one.invariant.later c.put_answer-2.result
    (subst (λ (l : List ℕ). IsPut (g.O.Sink.written c.loop-one.out) (g.O.Sink.written c.put_answer-2.new.out) (g.O.Sink.faults c.loop-one.out) (g.O.Sink.faults c.put_answer-2.new.out) l c.put_answer-2.result) line c.put_answer-2.ensures.put)
