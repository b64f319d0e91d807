use Rattle.std.proofs.Common.{◌≡◌, ◌+◌, ◌*◌, ◌-◌, ◌^◌, ◌≤◌, length, Contains, arith, ap, sym, subst, ◌∙◌}
use Rattle.offset_index.specs.Indexed.{Indexed}
use Rattle.offset_index.proofs.Halving.{one_look_more}
use Rattle.offset_index.proofs.Rising.{contains_pair}
use Rattle.offset_index.proofs.offsets.Offsets.find.Goals as goal

pub returns-then-found-offset-clause-some : goal.returns-then-found-offset-clause-some
returns-then-found-offset-clause-some g c =
    let same : c.deref-2.result.now ≡ c.args.self.now.items = c.deref-2.ensures.value ∙ ap (λ (x : Indexed). x.items) c.self.view_is in
    let size : length c.deref.result.now ≡ length c.deref-2.result.now = ap length (c.deref.ensures.value ∙ sym c.deref-2.ensures.value) in
    subst (λ items. Contains items (c.args.offset, c.look-found.result.1)) same
    (contains_pair c.deref-2.result.now _ c.look-found.result c.args.offset
    (omega (arith, c.count_up_to-count.ensures.within, size, c.if-count-eq0.false)) c.look-found.ensures.pair c.if-found-offset.true)

pub returns-then-found-offset-clause-cost : goal.returns-then-found-offset-clause-cost
returns-then-found-offset-clause-cost g c =
    let same : c.deref.result.now ≡ c.args.self.now.items = c.deref.ensures.value ∙ ap (λ (x : Indexed). x.items) c.self.view_is in
    let spent = subst (λ items. 2 ^ (c.count_up_to-count.new.steps - c.args.steps.now) ≤ 2 * length items + 1) same c.count_up_to-count.ensures.cost in
    one_look_more _ _ _ _ c.count_up_to-count.ensures.counted c.look-found.ensures.cost spent

pub returns-else-found-offset-clause-cost : goal.returns-else-found-offset-clause-cost
returns-else-found-offset-clause-cost g c =
    let same : c.deref.result.now ≡ c.args.self.now.items = c.deref.ensures.value ∙ ap (λ (x : Indexed). x.items) c.self.view_is in
    let spent = subst (λ items. 2 ^ (c.count_up_to-count.new.steps - c.args.steps.now) ≤ 2 * length items + 1) same c.count_up_to-count.ensures.cost in
    one_look_more _ _ _ _ c.count_up_to-count.ensures.counted c.look-found.ensures.cost spent
