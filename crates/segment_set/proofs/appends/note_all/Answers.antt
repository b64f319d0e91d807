use Rattle.std.proofs.Common.{◌≡◌, ◌++◌, ◌+◌, ◌-◌, ◌<◌, ℕ, List, [], ◌∷◌, All, get_or, length, take, sym, ap, subst, ◌∙◌, arith, append_assoc}
use Rattle.std.proofs.lemmas.List.{append-nil, take_all}
use Rattle.std.proofs.lemmas.List.Elements.{All-push, All-weaker}
use Rattle.segment_files.specs.Contents.{Offset_list}
use Rattle.segment_set.specs.Advance.{offsets_from}
use Rattle.segment_set.proofs.Noting.{offsets_more, rise_on}
use Rattle.segment_set.proofs.appends.note_all.Goals as goal

pub loop-place-init : goal.loop-place-init
loop-place-init c = record {
  next = omega arith;
  items = sym (append-nil c.args.offsets.now.items);
  room = omega (arith, c.requires.room);
  rise = (
    0,
    All-weaker (λ (p : ℕ × ℕ). (p.0 < c.args.first) × (p.1 < c.args.gate)) (λ (p : ℕ × ℕ). (p.0 < c.args.first) × (p.1 < c.args.gate + 0)) (λ p it. (it.0, (let q = it.1 in omega (arith, q)))) c.args.offsets.now.items c.requires.below,
    c.requires.rise,
  );
}

pub note-requires-clause-rises : goal.note-requires-clause-rises
note-requires-clause-rises c = λ d some.
    let n = c.loop-place.place-index in
    let so_far = c.loop-place.invariant.rise in
    let next = rise_on so_far.0 n c.args.places.now (omega (arith, c.loop-place-test.true)) so_far.2 in
    let here = so_far.1 (length c.loop-place.offsets.items - 1) d (omega (arith, some)) in
    let low = next.0 in
    let before = here.1 in
    (here.0, omega (arith, low, before, c.from.ensures))

pub loop-place-preserved : goal.loop-place-preserved
loop-place-preserved c =
    let places = c.args.places.now in
    let n = c.loop-place.place-index in
    let place = get_or places n 0 in
    let read : c.from.result ≡ place = c.from.ensures in
    let first = c.args.first in
    let gate = c.args.gate in
    let here = c.loop-place.next in
    let old = c.loop-place.offsets.items in
    let lt : n < length places = omega (arith, c.loop-place-test.true) in
    let so_far = c.loop-place.invariant in
    let next = rise_on so_far.rise.0 n places lt so_far.rise.2 in
    let above = next.0 in
    let P : ℕ × ℕ → Type 0 = λ p. (p.0 < here + 1) × (p.1 < gate + (place + 1)) in
    let more : c.note.new.offsets.items ≡ old ++ (here, gate + place) ∷ [] = c.note.ensures.items ∙ ap {B = Offset_list} (λ (k : ℕ). old ++ (here, gate + k) ∷ []) read in
    record {
      next = omega (arith, so_far.next);
      items = more
          ∙ ap (λ (l : Offset_list). l ++ (here, gate + place) ∷ []) so_far.items
          ∙ append_assoc c.args.offsets.now.items (offsets_from first gate (take n places)) ((here, gate + place) ∷ [])
          ∙ ap {B = Offset_list} (λ (k : ℕ). c.args.offsets.now.items ++ (offsets_from first gate (take n places) ++ (k, gate + place) ∷ [])) so_far.next
          ∙ ap (λ (l : Offset_list). c.args.offsets.now.items ++ l) (sym (offsets_more first gate n places lt));
      room = omega (arith, so_far.room, c.note.ensures.spare, lt);
      rise = (
        place + 1,
        subst (All P) (sym more)
            (All-push P old (here, gate + place)
            (All-weaker (λ (p : ℕ × ℕ). (p.0 < here) × (p.1 < gate + so_far.rise.0)) P (λ p it. ((let k = it.0 in omega (arith, k)), (let q = it.1 in omega (arith, q, above)))) old so_far.rise.1)
            (omega arith, omega arith)),
        next.1,
      );
    }

pub returns : goal.returns
returns c =
    let places = c.args.places.now in
    c.loop-place.invariant.items ∙ ap (λ (l : List ℕ). c.args.offsets.now.items ++ offsets_from c.args.first c.args.gate l) (take_all c.loop-place.place-index places (omega (arith, c.loop-place-test.false)))
