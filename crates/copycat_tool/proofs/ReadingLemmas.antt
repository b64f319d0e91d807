-- More and more is taken, and searched for a line feed.
use Rattle.std.proofs.Common.{◌≡◌, ℕ, ◌+◌, ◌-◌, ◌≤◌, ◌==◌, ◌||◌, Bool, true, false, List, [], ◌∷◌, ◌++◌, length, take, drop, Option, Some, ap, sym, ◌∙◌, subst, arith, append_assoc, length-append, length-drop, take-append-drop}
use Rattle.std.proofs.lemmas.List.{drop-drop, take_all}
use Rattle.std.proofs.Math.Seq.{drop-append_seam, take-add}
use Rattle.copycat_tool.specs.Script.{has_feed, script_limit}
use Rattle.copycat_tool.specs.Pieces.{EndsAt, IsFrontOf, IsTaken, TakesMore}

pub takes_further : (left rest last held mid held' : List ℕ) (taken between taken' : ℕ)
    → TakesMore left held mid taken between rest → TakesMore rest mid held' between taken' last → TakesMore left held held' taken taken' last
takes_further left rest last held mid held' taken between taken' first second = record {
  more = first.more ++ second.more;
  parts = first.parts ∙ ap (λ (l : List ℕ). first.more ++ l) second.parts ∙ sym (append_assoc first.more second.more last);
  held_is = second.held_is ∙ ap (λ (l : List ℕ). l ++ second.more) first.held_is ∙ append_assoc held first.more second.more;
  taken_is = omega (arith, first.taken_is, second.taken_is, length-append first.more second.more);
}

pub none-append : (a b : List ℕ) → has_feed a ≡ false → has_feed b ≡ false → has_feed (a ++ b) ≡ false
none-append [] b none none' = none'
none-append (first ∷ a) b none none' = joined (first == 10) (has_feed a) (has_feed (a ++ b)) none (λ h. none-append a b h none')
  where
    joined : (x y z : Bool) → (x || y) ≡ false → (y ≡ false → z ≡ false) → (x || z) ≡ false
    joined true y z e f = e
    joined false y z e f = f e

-- what is sliced off a slice that is held
pub slice_is : (slice held : List ℕ) (searched : ℕ) → slice ≡ held → take (length slice - searched) (drop searched slice) ≡ drop searched held
slice_is slice held searched is =
    take_all (length slice - searched) (drop searched slice) (omega (arith, length-drop searched slice)) ∙ ap (λ (l : List ℕ). drop searched l) is

-- the search went on behind what was searched before
pub ends_further : (held rest : List ℕ) (searched n : ℕ) → has_feed (take searched held) ≡ false → rest ≡ drop searched held → EndsAt rest n → EndsAt held (searched + n)
ends_further held rest searched n none is at =
    let at' : EndsAt (drop searched held) n = subst (λ (l : List ℕ). EndsAt l n) is at in
    let next : searched + (n + 1) ≡ searched + n + 1 = omega arith in
    record {
      within = omega (arith, at'.within, length-drop searched held);
      none_before = ap has_feed (take-add searched n held) ∙ none-append (take searched held) (take n (drop searched held)) none at'.none_before;
      feed = sym (take-append-drop searched held)
          ∙ ap (λ (l : List ℕ). take searched held ++ l) at'.feed
          ∙ sym (append_assoc (take searched held) (take n (drop searched held)) (10 ∷ drop (n + 1) (drop searched held)))
          ∙ ap (λ (l : List ℕ). l ++ 10 ∷ drop (n + 1) (drop searched held)) (sym (take-add searched n held))
          ∙ ap (λ (l : List ℕ). take (searched + n) held ++ 10 ∷ l) (drop-drop (n + 1) searched held)
          ∙ ap (λ (k : ℕ). take (searched + n) held ++ 10 ∷ drop k held) next;
    }

pub none_further : (held rest : List ℕ) (searched : ℕ) → has_feed (take searched held) ≡ false → rest ≡ drop searched held → has_feed rest ≡ false → has_feed held ≡ false
none_further held rest searched none is none' =
    ap has_feed (sym (take-append-drop searched held)) ∙ none-append (take searched held) (drop searched held) none (ap has_feed (sym is) ∙ none')

-- ---- what is left of the script

-- where a piece was found, all that was taken is a front of the script
pub front_further : (script held held' rest : List ℕ) (taken taken' : ℕ) (now : Option (List ℕ)) → TakesMore (drop taken script) held held' taken taken' rest → now ≡ Some rest → now ≡ Some (drop taken' script)
front_further script held held' rest taken taken' now takes is =
    is ∙ ap (λ (l : List ℕ). Some l)
    (sym (drop-append_seam takes.more rest) ∙ ap (drop (length takes.more)) (sym takes.parts) ∙ drop-drop (length takes.more) taken script ∙ ap (λ (n : ℕ). drop n script) (sym takes.taken_is))

-- and where none was, it is one as well
pub taken_front : (script : List ℕ) (taken : ℕ) (now : Option (List ℕ)) → IsTaken taken (drop taken script) now → IsFrontOf script now
taken_front script taken now t = record { count = taken + t.count; within = omega (arith, t.within); rest = t.rest ∙ ap (λ (l : List ℕ). Some l) (drop-drop t.count taken script) }

pub taken_further : (left held mid rest : List ℕ) (taken between : ℕ) (now : Option (List ℕ)) → TakesMore left held mid taken between rest → IsTaken between rest now → IsTaken taken left now
taken_further left held mid rest taken between now takes t = record {
  count = length takes.more + t.count;
  within = omega (arith, t.within, takes.taken_is);
  rest = t.rest ∙ ap (λ (l : List ℕ). Some l) (ap (drop t.count) (sym (drop-append_seam takes.more rest) ∙ ap (drop (length takes.more)) (sym takes.parts)) ∙ drop-drop t.count (length takes.more) left);
}

pub taken_none : (taken : ℕ) (rest : List ℕ) (now : Option (List ℕ)) → taken ≤ script_limit → now ≡ Some rest → IsTaken taken rest now
taken_none taken rest now le is = record { count = 0; within = omega (arith, le); rest = is }
