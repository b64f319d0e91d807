use Rattle.std.proofs.Common.{◌≡◌, ℕ, ◌+◌, ◌-◌, ◌≤◌, zero, suc, List, ◌++◌, length, take, drop, replicate, None, ◌∙◌, sym, ap, subst, arith, rules, length-append, length-drop}
use Rattle.std.proofs.lemmas.List.{drop_at, take_at}
use Rattle.host_types.specs.Name.{IsName, first_bad}
use Rattle.host_types.specs.Padding.{IsPadded}
use Rattle.host_types.proofs.TextLemmas.{name_is}
use Rattle.host_types.proofs.log_name.LogName.new.Goals as goal

abbrev zeros : ℕ → List ℕ
zeros n = replicate n 0

drop_zeros : (n m : ℕ) → drop n (zeros (n + m)) ≡ zeros m
drop_zeros zero m = ap zeros (omega arith)
drop_zeros (suc n) m =
    let e : suc n + m ≡ suc (n + m) = omega arith in
    ap (λ (k : ℕ). drop (suc n) (zeros k)) e ∙ drop_zeros n m

zeros_behind : (n : ℕ) → n ≤ 32 → drop n (zeros 32) ≡ zeros (32 - n)
zeros_behind n le =
    let e : 32 ≡ n + (32 - n) = omega arith in
    ap (λ (k : ℕ). drop n (zeros k)) e ∙ drop_zeros n (32 - n)

take_front : (bytes a : List ℕ) → a ≡ bytes → take (length bytes) (a ++ drop (length bytes) (zeros 32)) ≡ bytes
take_front bytes a is = take_at a (drop (length bytes) (zeros 32)) (length bytes) (ap length is) ∙ is

made : (bytes a : List ℕ) → a ≡ bytes → length bytes ≤ 32 → IsPadded (record { bytes = a ++ drop (length bytes) (zeros 32); len = length bytes })
made bytes a is le = record {
  long = omega (arith, length-append a (drop (length bytes) (zeros 32)), length-drop (length bytes) (zeros 32), ap length is);
  within = le;
  zero_behind = drop_at a (drop (length bytes) (zeros 32)) (length bytes) (ap length is) ∙ zeros_behind (length bytes) le;
}

pub invariant_of-result : goal.invariant_of-result
invariant_of-result c =
    let bytes = c.args.bytes.now in
    let all = c.copy_from_slice.new.self in
    let none : first_bad bytes ≡ None = search rules in
    let front : take (length bytes) (all ++ drop (length bytes) (zeros 32)) ≡ bytes = take_front bytes all (search rules) in
    (made bytes all (search rules) (omega arith), subst IsName (sym front) (name_is bytes (search rules) (omega arith) none))
