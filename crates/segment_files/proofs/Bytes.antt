-- What torn writes leave of a file's bytes.
use Rattle.std.proofs.Common.{◌≡◌, ℕ, ◌+◌, ◌<◌, List, [], ◌∷◌, ◌++◌, length, get_or, take, drop, sym, ◌∙◌, ap, arith, append_assoc, length-append, length-take, take-append-drop}
use Rattle.std.proofs.lemmas.List.{drop_more, drop_at, get_or-take, take-append-le, take-take}
use Rattle.disk_model.specs.Image.{Torn, written}

-- one torn byte within a file
pub torn_one : (at : ℕ) (b c : List ℕ) → at < length b → Torn at 1 b c → c ≡ written b at (get_or c at 0 ∷ [])
torn_one at b c lt torn =
    let x = get_or c at 0 in
    let behind : drop at c ≡ x ∷ drop (at + 1) b = drop_more c at 0 (omega (arith, torn.no_shorter, lt)) ∙ ap (λ (l : List ℕ). x ∷ l) torn.after in
    sym (take-append-drop at c)
    ∙ ap (λ (l : List ℕ). l ++ drop at c) torn.before
    ∙ ap (λ (l : List ℕ). take at b ++ l) behind
    ∙ sym (append_assoc (take at b) (x ∷ []) (drop (at + 1) b))

-- what a write behind the gate keeps
pub gate_kept : (gate n : ℕ) (b c : List ℕ) → Torn (gate + 1) n b c → get_or c gate 0 ≡ get_or b gate 0
gate_kept gate n b c torn =
    sym (get_or-take (gate + 1) c gate 0 (omega arith)) ∙ ap (λ (l : List ℕ). get_or l gate 0) torn.before ∙ get_or-take (gate + 1) b gate 0 (omega arith)

-- a file with a frame behind its gate
module _ (b behind : List ℕ) (gate : ℕ) (within : gate < length b) where
  abbrev staged : List ℕ
  staged = written b (gate + 1) behind

  abbrev rest : List ℕ
  rest = drop (gate + 1 + length behind) b

  front_length : length (take (gate + 1) b) ≡ gate + 1
  front_length = omega (arith, length-take (gate + 1) b, within)

  regroup : staged ≡ take (gate + 1) b ++ (behind ++ rest)
  regroup = append_assoc (take (gate + 1) b) behind rest

  pub staged_long : gate < length (written b (gate + 1) behind)
  staged_long = omega (arith, ap length regroup, length-append (take (gate + 1) b) (behind ++ rest), front_length)

  front_of : take gate staged ≡ take gate b
  front_of = ap (λ (l : List ℕ). take gate l) regroup
      ∙ take-append-le gate (take (gate + 1) b) (behind ++ rest) (omega (arith, front_length))
      ∙ take-take gate (gate + 1) b (omega arith)

  behind_of : drop (gate + 1) staged ≡ behind ++ rest
  behind_of = ap (λ (l : List ℕ). drop (gate + 1) l) regroup ∙ drop_at (take (gate + 1) b) (behind ++ rest) (gate + 1) front_length

  -- a byte at the gate and then what stands behind it
  pub through_gate : (x : ℕ) → written (written b (gate + 1) behind) gate (x ∷ []) ≡ written b gate (x ∷ behind)
  through_gate x =
      let places : gate + 1 + length behind ≡ gate + length (x ∷ behind) = omega arith in
      ap (λ (l : List ℕ). l ++ (x ∷ []) ++ drop (gate + 1) staged) front_of
      ∙ ap (λ (l : List ℕ). take gate b ++ (x ∷ []) ++ l) behind_of
      ∙ append_assoc (take gate b) (x ∷ []) (behind ++ rest)
      ∙ sym (append_assoc (take gate b) (x ∷ behind) rest)
      ∙ ap (λ (k : ℕ). take gate b ++ (x ∷ behind) ++ drop k b) places
