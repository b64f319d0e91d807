use Rattle.std.proofs.Common.{◌≡◌, ℕ, ◌+◌, ◌++◌, ◌∷◌, [], true, arith, ap, sym, ◌∙◌, nat_eq}
use Rattle.std.specs.HashSet.{hash_set_len}
use Rattle.std.specs.FinSet as set
use Rattle.std.specs.List.{list_any}
use Rattle.commit_lending.specs.Lent.{Lent, pair_of_last}
use Rattle.commit_lending.proofs.Sets.{in_keys, take_key}
use Rattle.commit_lending.proofs.Tokens.{is_out, tokens-remove, tokens-gone}
use Rattle.commit_lending.proofs.lender.Lender.close.Goals as goal

-- a commit that is out is among the keys, so that its removal makes room
pub push_back_reserved-requires : goal.push_back_reserved-requires
push_back_reserved-requires c =
    let was_out : list_any (nat_eq c.args.commit) c.self.inside.out.keys ≡ true = sym (in_keys c.self.inside.out.keys c.args.commit) ∙ ap (λ (l : Lent). set.contains l.out c.args.commit) c.self.view_is ∙ is_out c.args.self.now c.args.commit c.requires in
    let taken : list_any (nat_eq c.into_index-index.result) c.self.inside.out.keys ≡ true = ap (λ (n : ℕ). list_any (nat_eq n) c.self.inside.out.keys) c.into_index-index.ensures ∙ was_out in
    let test : c.remove.result ≡ true = c.remove.ensures.test ∙ taken in
    let len : hash_set_len c.remove.new.self + 1 ≡ hash_set_len c.self.inside.out = rw test at c.remove.ensures.len in
    omega (arith, len, c.self.invariant.queue)

pub invariant_of-self : goal.invariant_of-self
invariant_of-self c =
    let was_out : list_any (nat_eq c.args.commit) c.self.inside.out.keys ≡ true = sym (in_keys c.self.inside.out.keys c.args.commit) ∙ ap (λ (l : Lent). set.contains l.out c.args.commit) c.self.view_is ∙ is_out c.args.self.now c.args.commit c.requires in
    let taken : list_any (nat_eq c.into_index-index.result) c.self.inside.out.keys ≡ true = ap (λ (n : ℕ). list_any (nat_eq n) c.self.inside.out.keys) c.into_index-index.ensures ∙ was_out in
    let test : c.remove.result ≡ true = c.remove.ensures.test ∙ taken in
    let len : hash_set_len c.remove.new.self + 1 ≡ hash_set_len c.self.inside.out = rw test at c.remove.ensures.len in
    record {
      set = omega (arith, c.remove.ensures.spare, c.self.invariant.set);
      queue = omega (arith, len, c.self.invariant.queue, c.push_back_reserved.ensures.len, c.push_back_reserved.ensures.capacity);
    }

pub returns-clause-out : goal.returns-clause-out
returns-clause-out c =
    take_key c.self.inside.out.keys c.remove.new.self.keys c.into_index-index.result c.remove.ensures.updates.0
    ∙ ap (λ (n : ℕ). set.remove (set.from_list c.self.inside.out.keys) n) c.into_index-index.ensures
    ∙ ap (λ (l : Lent). set.remove l.out c.args.commit) c.self.view_is

pub returns-clause-tokens : goal.returns-clause-tokens
returns-clause-tokens c = tokens-remove c.args.self.now _ c.args.commit c.requires (returns-clause-out c)

pub returns-clause-closed : goal.returns-clause-closed
returns-clause-closed c =
    let items : c.push_back_reserved.new.self.items ≡ c.self.inside.closed.items ++ (c.into_index-index.result, c.args.by) ∷ [] = c.push_back_reserved.ensures.items in
    items
    ∙ (λ i. (ap (λ (l : Lent). l.closed) c.self.view_is) i ++ (c.into_index-index.ensures i, c.args.by) ∷ [])
    ∙ sym (ap (λ n. c.args.self.now.closed ++ pair_of_last n c.args.commit c.args.by) (tokens-gone c.args.self.now _ c.args.commit (returns-clause-out c)))
