-- How the bytes of a name lie in its array: what stands behind them is zero.
use Rattle.std.specs.Prelude.{◌≡◌, ℕ, ◌-◌, ◌≤◌, List, ◌++◌, length, take, drop, replicate}
use Rattle.std.proofs.Common.{ap, sym, ◌∙◌, arith, length-take, take-append-drop}
use Rattle.host_types.specs.declared.log_name.LogName.TheInside.{Inside}

pub record IsPadded (n : Inside) : Type 0 where
  pub long : length n.bytes ≡ 32
  pub within : n.len ≤ 32
  pub zero_behind : drop n.len n.bytes ≡ replicate (32 - n.len) 0

abbrev pub padded : List ℕ → Inside
padded bytes = record { bytes = bytes ++ replicate (32 - length bytes) 0; len = length bytes }

pub padded_back : (n : Inside) → IsPadded n → padded (take n.len n.bytes) ≡ n
padded_back n is =
    let len_is : length (take n.len n.bytes) ≡ n.len = omega (arith, length-take n.len n.bytes, is.long, is.within) in
    let bytes_are : take n.len n.bytes ++ replicate (32 - length (take n.len n.bytes)) 0 ≡ n.bytes =
    ap (λ (k : ℕ). take n.len n.bytes ++ replicate (32 - k) 0) len_is ∙ ap (λ (l : List ℕ). take n.len n.bytes ++ l) (sym is.zero_behind) ∙ take-append-drop n.len n.bytes in
    λ i. record { bytes = bytes_are i; len = len_is i }
