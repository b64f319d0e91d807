-- Each call on a disk that settles it at once.
use Rattle.std.proofs.Common.{◌≡◌, inl, inr, ⊎_elim, ℕ, ◌+◌, ◌≤◌, List, [], ◌∷◌, ◌++◌, length, take, drop, Some, None, Ok, sym, ◌∙◌, ap, subst, arith, append_assoc, length-append, length-take, length-drop}
use Rattle.std.proofs.lemmas.List.{take_all, take_at, drop_at, take-append-le}
use Rattle.std.proofs.lemmas.Bool.{cases_order}
use Rattle.disk_model.specs.Image.{Place, Torn, written}
use Rattle.disk_model.specs.View.{Elapses}
use Rattle.disk_model.proofs.Places.{elapses_not}
use Rattle.disk_model.specs.Calls.{Writes, Creates, Removes}
use Rattle.disk_memory.specs.declared.steps.Step.{Step}
use Rattle.disk_memory.specs.Versions.{version_place, version_bytes, image_of}
use Rattle.disk_memory.specs.Sure.{sure_view, sure_sound, held, is_held}
use Rattle.disk_memory.specs.Placed.{Places}
use Rattle.disk_memory.proofs.Pushed.{there, elsewhere, others}

-- a write that happened is one of the ways in which it may be torn
pub torn_whole : (at : ℕ) (b bytes : List ℕ) → at ≤ length b → Torn at (length bytes) b (written b at bytes)
torn_whole at b bytes le =
    let front : length (take at b) ≡ at = omega (arith, length-take at b) in
    let group : written b at bytes ≡ take at b ++ (bytes ++ drop (at + length bytes) b) = append_assoc (take at b) bytes (drop (at + length bytes) b) in
    let long : length (take at b ++ bytes) ≡ at + length bytes = omega (arith, length-append (take at b) bytes, front) in
    let size : length (written b at bytes) ≡ at + length bytes + length (drop (at + length bytes) b) = omega (arith, length-append (take at b ++ bytes) (drop (at + length bytes) b), long) in
    record {
      before = ap (λ (l : List ℕ). take at l) group ∙ take_at (take at b) (bytes ++ drop (at + length bytes) b) at front;
      after = drop_at (take at b ++ bytes) (drop (at + length bytes) b) (at + length bytes) long;
      no_shorter = omega (arith, size, length-drop (at + length bytes) b);
      no_longer = omega (arith, size, length-drop (at + length bytes) b);
    }

module _ (vs ws : List Step) (v : Step) (p : Place) (one_more : ws ≡ vs ++ v ∷ []) (at : version_place v ≡ p) where
  grows : length ws ≡ length vs + 1
  grows = ap length one_more ∙ length-append vs (v ∷ [])

  front_of : (k : ℕ) → k ≤ length vs → take k ws ≡ take k vs
  front_of k le = ap (λ (l : List Step). take k l) one_more ∙ take-append-le k vs (v ∷ []) le

  pub elapses : Elapses (sure_view vs) (sure_view ws)
  elapses = record {
    later = omega (arith, grows);
    nothing_else = λ t c le left. elim (cases_order left.0 (length ws)) [
      | inl is ↦ inr (λ q. held ws q (c q) (ap (λ (l : List Step). image_of l q) (sym (take_all left.0 ws (omega arith))) ∙ sym (left.3 q)))
      | inr less ↦ elim less [
        | inl below ↦ let k_le : left.0 ≤ length vs = omega (arith, grows) in inl (left.0, left.1, k_le, λ q. left.3 q ∙ ap (λ (l : List Step). image_of l q) (front_of left.0 k_le))
        | inr above ↦ absurd (omega (arith, left.2))
      ]
    ];
    keeps = λ t c le left. (left.0, left.1, omega (arith, left.2, grows), λ q. left.3 q ∙ ap (λ (l : List Step). image_of l q) (sym (front_of left.0 left.2)));
    counts = λ t c le may. (sure_sound ws).counts_now t c (omega (arith, le, grows)) may;
  }

  pub writes : (b bytes : List ℕ) (from : ℕ) → image_of vs p ≡ Some b → from ≤ length b → version_bytes v ≡ Some (written b from bytes) → {T : Type 0} (x : T) → Writes (sure_view vs) (sure_view ws) p from bytes (Ok x)
  writes b bytes from was le is {T} x = record {
    others = others vs ws v p one_more at;
    torn = λ b' was'. let same : b ≡ b' = cc in (written b from bytes, there vs ws v p one_more at ∙ is, subst (λ (l : List ℕ). Torn from (length bytes) l (written b from bytes)) same (torn_whole from b bytes le));
    done = λ b' was'. let same : b ≡ b' = cc in there vs ws v p one_more at ∙ is ∙ ap (λ (l : List ℕ). Some (written l from bytes)) same;
    bytes_left = λ q c now. ⊎_elim
        (λ here. let c_is : c ≡ written b from bytes = cc (now, here.1, is) in inr (b, here.0, was, subst (λ (l : List ℕ). Torn from (length bytes) b l) (sym c_is) (torn_whole from b bytes le)))
        (λ kept. inl (sym kept ∙ now))
        (elsewhere vs ws v p one_more at q);
    else_left = λ q o now. ⊎_elim (λ here. absurd (cc (now.1, here.1, is))) (λ kept. (now.0, sym kept ∙ now.1)) (elsewhere vs ws v p one_more at q);
    no_memory = λ none. absurd (cc none);
    time = elapses;
  }

  pub creates : version_bytes v ≡ Some [] → {T : Type 0} (x : T) → Creates (sure_view vs) (sure_view ws) p (Ok x)
  creates is {T} x = record {
    others = others vs ws v p one_more at;
    either = inr (there vs ws v p one_more at ∙ is);
    done = there vs ws v p one_more at ∙ is;
    bytes_left = λ q c now. ⊎_elim (λ here. let c_is : c ≡ [] = cc (now, here.1, is) in inr (here.0, c_is)) (λ kept. inl (sym kept ∙ now)) (elsewhere vs ws v p one_more at q);
    else_left = λ q o now. ⊎_elim (λ here. absurd (cc (now.1, here.1, is))) (λ kept. inl (now.0, sym kept ∙ now.1)) (elsewhere vs ws v p one_more at q);
    no_memory = λ none. absurd (cc none);
    time = elapses;
  }

  pub removes : version_bytes v ≡ None → {T : Type 0} (x : T) → Removes (sure_view vs) (sure_view ws) p (Ok x)
  removes is {T} x = record {
    others = others vs ws v p one_more at;
    either = inl (there vs ws v p one_more at ∙ is);
    done = there vs ws v p one_more at ∙ is;
    bytes_left = λ q c now. ⊎_elim (λ here. absurd (cc (now, here.1, is))) (λ kept. sym kept ∙ now) (elsewhere vs ws v p one_more at q);
    else_left = λ q o now. ⊎_elim (λ here. inr (here.0, inl now.0)) (λ kept. inl (now.0, sym kept ∙ now.1)) (elsewhere vs ws v p one_more at q);
    no_memory = λ none. absurd (cc none);
    time = elapses;
  }

  pub placed : (bytes : List ℕ) → version_bytes v ≡ Some bytes → Places (sure_view vs) (sure_view ws) p bytes
  placed bytes is = record {
    here = there vs ws v p one_more at ∙ is;
    others = others vs ws v p one_more at;
    settled = is_held ws p;
    bytes_left = λ q c ne now. sym (others vs ws v p one_more at q ne) ∙ now;
    else_left = λ q o ne now. (now.0, sym (others vs ws v p one_more at q ne) ∙ now.1);
    all_settled = λ settled. is_held ws;
    time = elapses;
  }

-- a call that did nothing
pub sure_stands : (vs : List Step) → Elapses (sure_view vs) (sure_view vs)
sure_stands vs = elapses_not (sure_view vs) (sure_sound vs)
