use Rattle.std.proofs.Common.{◌≡◌, ◌+◌, None, arith, true, sym, ap, subst, ◌∙◌}
use Rattle.std.specs.FinMap.{insert}
use Rattle.log_model.specs.hosted.Hosted.{Hosted}
use Rattle.host_core.specs.CoreState.{CoreState, HasRoom}
use Rattle.host_core.specs.Marking.{HasMarks}
use Rattle.released_marks.specs.Marks.{is_unmarked}
use Rattle.host_core.proofs.Remarking.{added_now, with_marks, with_next}
use Rattle.host_core.proofs.state.Core.reserve.Goals as goal

pub invariant_of-self-2 : goal.invariant_of-self-2
invariant_of-self-2 κs c =
    let next : c.args.index ≡ c.self.inside.last + 1 =
    c.requires ∙ ap (λ n. n + 1) (sym (ap (λ (s : CoreState κs.row.M.Denot). s.last) c.self.view_is ∙ ap (λ (h : Hosted). h.last) c.make_room.ensures.state)) in
    with_marks κs.M.Machine.cells _ c.self.invariant c.add_index.new.marks
    (subst (HasMarks c.self.inside.last _) (sym (c.in_ok-add_index.ensures.ok ∙ ap (λ i. insert c.self.inside.marks i None) next)) (with_next c.self.inside.last _ c.self.inside.marks c.self.invariant.marks))

pub returns-clause-prepared : goal.returns-clause-prepared
returns-clause-prepared κs c =
    let next : c.args.index ≡ c.self.inside.last + 1 =
    c.requires ∙ ap (λ n. n + 1) (sym (ap (λ (s : CoreState κs.row.M.Denot). s.last) c.self.view_is ∙ ap (λ (h : Hosted). h.last) c.make_room.ensures.state)) in
    let room = subst (λ (s : CoreState κs.row.M.Denot). HasRoom κs.M.Machine.cells κs.M.Machine.is_ready κs.M.Machine.decides s 0 c.args.index c.args.entry.now.body c.in_ok-batches.batches.entries) (sym c.self.view_is) c.in_ok-batches.ensures.room in
    record {
      room = record { commit = room.commit; entry = room.entry; batches_are = room.batches_are; batch_room = room.batch_room };
      added = subst (λ m. is_unmarked c.args.index m ≡ true) (sym c.in_ok-add_index.ensures.ok)
          (added_now c.self.inside.last _ c.self.inside.marks c.self.invariant.marks c.args.index (omega (arith, next))).added;
    }
