use Rattle.std.proofs.Common.{◌≡◌, ℕ, ◌+◌, ◌<◌, ◌==◌, ◌||◌, Bool, true, false, List, [], ◌∷◌, ◌++◌, length, take, drop, get_or, ap, sym, ◌∙◌, arith, take-append-drop}
use Rattle.std.proofs.lemmas.List.{drop_more, take_more}
use Rattle.std.proofs.lemmas.Bool.{ne_eqb}
use Rattle.copycat_tool.specs.Script.{has_feed}
use Rattle.copycat_tool.proofs.reader.find_feed.Goals as goal

none-append : (a : List ℕ) (byte : ℕ) → has_feed a ≡ false → byte == 10 ≡ false → has_feed (a ++ byte ∷ []) ≡ false
none-append [] byte none other = ap (λ (t : Bool). t || false) other
none-append (first ∷ a) byte none other = joined (first == 10) (has_feed a) (has_feed (a ++ byte ∷ [])) none (λ h. none-append a byte h other)
  where
    joined : (x y z : Bool) → (x || y) ≡ false → (y ≡ false → z ≡ false) → (x || z) ≡ false
    joined true y z e f = e
    joined false y z e f = f e

one_more : (bytes : List ℕ) (i : ℕ) → i < length bytes → has_feed (take i bytes) ≡ false → (get_or bytes i 0 ≡ 10 → ⊥) → has_feed (take (i + 1) bytes) ≡ false
one_more bytes i lt none other =
    ap has_feed (take_more bytes i 0 lt) ∙ none-append (take i bytes) (get_or bytes i 0) none (ne_eqb (get_or bytes i 0) 10 other)

pub loop-i-preserved : goal.loop-i-preserved
loop-i-preserved c = one_more c.args.bytes.now c.loop-i.i (omega arith) c.loop-i.invariant c.if-byte-eq10.false

pub returns-then-byte-eq10 : goal.returns-then-byte-eq10
returns-then-byte-eq10 c =
    let lt : c.loop-i.i < length c.args.bytes.now = omega arith in
    record {
      within = lt;
      none_before = c.loop-i.invariant;
      feed = sym (take-append-drop c.loop-i.i c.args.bytes.now)
          ∙ ap (λ (l : List ℕ). take c.loop-i.i c.args.bytes.now ++ l) (drop_more c.args.bytes.now c.loop-i.i 0 lt)
          ∙ ap (λ (x : ℕ). take c.loop-i.i c.args.bytes.now ++ x ∷ drop (c.loop-i.i + 1) c.args.bytes.now) c.if-byte-eq10.true;
    }
