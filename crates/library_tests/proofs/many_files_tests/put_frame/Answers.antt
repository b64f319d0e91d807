use Rattle.std.proofs.Common.{◌≡◌, ◌+◌, ◌≤◌, ◌++◌, ℕ, zero, suc, if◌then◌else◌, List, [], ◌∷◌, All, Bor, Result, Ok, OnOk, length, map, replicate, refl, sym, ap, subst, ◌∙◌, arith}
use Rattle.std.specs.List.{enumerate_from}
use Rattle.std.proofs.lemmas.List.{length-map, length-replicate, map_push}
use Rattle.std.specs.Result.{is_ok}
use Rattle.std.proofs.lemmas.List.Elements.{All-cons, All-nil}
use Rattle.std.proofs.lemmas.List.FromFn.{length-enumerate_from}
use Rattle.host_types.specs.Limits.{index_limit}
use Rattle.host_types.specs.Ranges.{EntryFits, IsBodyInRange}
use Rattle.host_types.specs.declared.entry.Body.{Body}
use Rattle.host_types.specs.declared.entry.Entry.{Entry}
use Rattle.segment_files.specs.Contents.{MayStandAt, lent, places_from, shut_frame_bytes}
use Rattle.segment_files.specs.Parse.{Numbered}
use Rattle.segment_set.specs.Growth.{IsNextFrame}
use Rattle.segment_set.proofs.Frames.{length-places_from}
use Rattle.library_tests.proofs.many_files_tests.put_frame.Goals as goal

-- with one more
same_more : {X : Type 0} (k n : ℕ) (x : X) → enumerate_from k (replicate (suc n) x) ≡ enumerate_from k (replicate n x) ++ (k + n, x) ∷ []
same_more {X} k zero x = ap {B = List (ℕ × X)} (λ (j : ℕ). (j, x) ∷ []) (omega arith)
same_more {X} k (suc n) x = ap {B = List (ℕ × X)} (λ (l : List (ℕ × X)). (k, x) ∷ l) (same_more (k + 1) n x ∙ ap {B = List (ℕ × X)} (λ (j : ℕ). enumerate_from (k + 1) (replicate n x) ++ (j, x) ∷ []) (omega arith))

fit_same : (k n : ℕ) (entry : Entry) → 1 ≤ k → k + n ≤ index_limit + 1 → IsBodyInRange entry.body → EntryFits entry → All (λ (e : ℕ × Entry). MayStandAt e.0 e.1) (enumerate_from k (replicate n entry))
fit_same k zero entry low high range fits = All-nil (λ (e : ℕ × Entry). MayStandAt e.0 e.1)
fit_same k (suc n) entry low high range fits =
    All-cons (λ (e : ℕ × Entry). MayStandAt e.0 e.1) (k, entry) (enumerate_from (k + 1) (replicate n entry))
    (record { at = (low, omega (arith, high)); body = range }, fits)
    (fit_same (k + 1) n entry (omega arith) (omega (arith, high)) range fits)

-- what stands there is lent
lent_more : (k n : ℕ) (old new : List (ℕ × Bor Entry)) (b : Bor Entry) → new ≡ old ++ (k + n, b) ∷ [] → lent old ≡ enumerate_from k (replicate n b.now) → lent new ≡ enumerate_from k (replicate (n + 1) b.now)
lent_more k n old new b is so_far =
    ap lent is
    ∙ map_push (λ (e : ℕ × Bor Entry). (e.0, e.1.now)) old (k + n, b)
    ∙ ap (λ (l : Numbered). l ++ (k + n, b.now) ∷ []) so_far
    ∙ sym (same_more k n b.now)
    ∙ ap (λ (j : ℕ). enumerate_from k (replicate j b.now)) (let one : suc n ≡ n + 1 = omega arith in one)

many : (k n : ℕ) (items : List (ℕ × Bor Entry)) (entry : Entry) → lent items ≡ enumerate_from k (replicate n entry) → length items ≡ n
many k n items entry is = sym (length-map items (λ (e : ℕ × Bor Entry). (e.0, e.1.now))) ∙ ap length is ∙ length-enumerate_from k (replicate n entry) ∙ length-replicate n entry

pub loop-n-preserved : goal.loop-n-preserved
loop-n-preserved g c =
    let old = c.loop-n.entries.items in
    let new = c.push.new.self.items in
    let pushed : new ≡ old ++ (c.args.last + 1 + c.from.result, c.args.entry) ∷ [] = c.push.ensures.items
    ∙ ap (λ r. if is_ok r then old ++ (c.args.last + 1 + c.from.result, c.args.entry) ∷ [] else old) c.expect.ensures in
    let here : new ≡ old ++ (c.args.last + 1 + c.loop-n.n, c.args.entry) ∷ [] = pushed ∙ ap {B = List (ℕ × Bor Entry)} (λ (k : ℕ). old ++ (c.args.last + 1 + k, c.args.entry) ∷ []) c.from.ensures in
    record { entries = lent_more (c.args.last + 1) c.loop-n.n old new c.args.entry here c.loop-n.invariant.entries; within = omega (arith, c.loop-n-test.true) }

pub frame-requires-clause-few : goal.frame-requires-clause-few
frame-requires-clause-few g c =
    omega (arith, c.requires.few, c.loop-n.invariant.within, ap length c.deref.ensures.value, many (c.args.last + 1) c.loop-n.n c.loop-n.entries.items c.args.entry.now c.loop-n.invariant.entries)

-- the frame is one for so many
next_is : (last count n : ℕ) (entry : Entry) (items lent_items : List (ℕ × Bor Entry)) (bytes places : List ℕ) → n ≡ count → 1 ≤ count → count ≤ 64 → last + count ≤ index_limit → IsBodyInRange entry.body → EntryFits entry
    → lent items ≡ enumerate_from (last + 1) (replicate n entry) → lent_items ≡ items → bytes ≡ shut_frame_bytes (lent lent_items) → places ≡ places_from 5 (lent lent_items) → IsNextFrame last bytes places × (length places ≡ count)
next_is last count n entry items lent_items bytes places all some few room range fits is same bytes_are places_are =
    let now : lent lent_items ≡ enumerate_from (last + 1) (replicate n entry) = ap lent same ∙ is in
    let long = length-replicate n entry in (
      (
        replicate n entry,
        record {
          some = omega (arith, all, some, long);
          few = omega (arith, all, few, long);
          fit = fit_same (last + 1) n entry (omega arith) (omega (arith, all, room)) range fits;
          bytes = bytes_are ∙ ap shut_frame_bytes now;
        },
        places_are ∙ ap (places_from 5) now,
      ),
      ap length places_are ∙ length-places_from 5 (lent lent_items) ∙ ap length now ∙ length-enumerate_from (last + 1) (replicate n entry) ∙ long ∙ all,
    )

in_ok : {T E : Type 0} (r : Result T E) (x : T) (P : Type 0) → r ≡ Ok x → OnOk r P → P
in_ok r x P is on = subst (λ r. OnOk r P) is on

pub returns-clause-frame : goal.returns-clause-frame
returns-clause-frame g c =
    (next_is c.args.last c.args.count c.loop-n.n c.args.entry.now c.loop-n.entries.items c.deref.result.now c.frame.new.out.items c.frame.new.places.items
    (omega (arith, c.loop-n.invariant.within, c.loop-n-test.false)) c.requires.some c.requires.few c.requires.room (subst IsBodyInRange (sym c.requires.tick) tt) c.requires.fits
    c.loop-n.invariant.entries c.deref.ensures.value
    (in_ok c.frame.result c.expect-2.result _ c.expect-2.ensures c.frame.ensures.ok ∙ ap (λ (l : List ℕ). l ++ shut_frame_bytes (lent c.deref.result.now)) c.requires.none)
    (in_ok c.frame.result c.expect-2.result _ c.expect-2.ensures c.frame.ensures.places)).0

pub returns-clause-count : goal.returns-clause-count
returns-clause-count g c =
    (next_is c.args.last c.args.count c.loop-n.n c.args.entry.now c.loop-n.entries.items c.deref.result.now c.frame.new.out.items c.frame.new.places.items
    (omega (arith, c.loop-n.invariant.within, c.loop-n-test.false)) c.requires.some c.requires.few c.requires.room (subst IsBodyInRange (sym c.requires.tick) tt) c.requires.fits
    c.loop-n.invariant.entries c.deref.ensures.value
    (in_ok c.frame.result c.expect-2.result _ c.expect-2.ensures c.frame.ensures.ok ∙ ap (λ (l : List ℕ). l ++ shut_frame_bytes (lent c.deref.result.now)) c.requires.none)
    (in_ok c.frame.result c.expect-2.result _ c.expect-2.ensures c.frame.ensures.places)).1
