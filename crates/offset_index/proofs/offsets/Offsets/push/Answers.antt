use Rattle.std.proofs.Common.{◌≡◌, ℕ, List, arith, ap, sym, subst, ◌∙◌}
use Rattle.offset_index.specs.Indexed.{Indexed, Rises, MayFollow}
use Rattle.offset_index.proofs.Rising.{rises-push}
use Rattle.offset_index.proofs.offsets.Offsets.push.Goals as goal

pub invariant_of-self : goal.invariant_of-self
invariant_of-self c =
    let same : c.self.inside.pairs.items ≡ c.args.self.now.items = ap (λ (x : Indexed). x.items) c.self.view_is ∙ c.in_ok-reserve.ensures.items in
    let may = subst (λ (items : List (ℕ × ℕ)). MayFollow items (c.args.offset, c.args.place)) (sym same) c.requires in
    record {
      rises = subst Rises (sym c.push_reserved.ensures.items) (rises-push c.self.inside.pairs.items (c.args.offset, c.args.place) c.self.invariant.rises may);
      room = omega (arith, c.push_reserved.ensures.len, c.push_reserved.ensures.capacity, c.self.invariant.room, ap (λ (x : Indexed). x.spare) c.self.view_is, c.in_ok-reserve.ensures.ok);
    }
