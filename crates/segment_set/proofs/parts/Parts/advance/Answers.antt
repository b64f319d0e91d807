use Rattle.std.proofs.Common.{◌≡◌, ◌||◌, inl, inr, ℕ, ◌+◌, ◌<◌, ◌≤◌, Bool, true, false, nat_le, List, [], ◌∷◌, ◌++◌, length, Some, refl, sym, ap, subst, ◌∙◌, arith, All}
use Rattle.std.proofs.lemmas.List.Elements.{All-nil}
use Rattle.std.proofs.lemmas.Bool.{eq-eqb, le-leb}
use Rattle.segment_files.specs.declared.descriptor.Descriptor.{Descriptor}
use Rattle.segment_files.specs.Contents.{last_by, last_read}
use Rattle.segment_set.specs.declared.opened.Opened.{Opened}
use Rattle.segment_set.specs.declared.parts.Parts.{Parts}
use Rattle.segment_set.specs.declared.tail.Tail.{Tail}
use Rattle.segment_set.specs.Joined.{are_joined, end_of, last_has_last, last_is_full}
use Rattle.segment_set.proofs.Joining.{ended_by_last, full_by_last, joined_more, tail_base_is}
use Rattle.segment_set.proofs.Noting.{noted_before, noted_below, noted_count, noted_read}
use Rattle.segment_set.proofs.parts.Parts.advance.Goals as goal

pub note_all-requires-clause-below : goal.note_all-requires-clause-below
note_all-requires-clause-below c = noted_before c.args.self.now c.args.tail c.requires.tail

pub note_all-requires-clause-end : goal.note_all-requires-clause-end
note_all-requires-clause-end c = omega (arith, c.args.tail.gate_in_range, c.args.tail.has_room, c.args.tail.size_last)

-- the tail has an entry
some_entry : (tail : Tail) (count : ℕ) (rest : Bool) → 1 ≤ count → (nat_le tail.id.base (tail.last + count) || rest) ≡ true
some_entry tail count rest some = ap (λ (t : Bool). t || rest) (le-leb tail.id.base (tail.last + count) (omega (arith, some, tail.from)))

pub invariant_of-self-then-count-more : goal.invariant_of-self-then-count-more
invariant_of-self-then-count-more c =
    let old = c.args.self.now in
    let tail = c.args.tail in
    let places = c.args.places.now in
    let some = c.requires.tail in
    let filled = c.requires.some in
    let items = c.note_all.new.offsets.items in
    let is = c.note_all.ensures in
    record {
      in_range = old.in_range;
      joined = old.joined;
      from = eq-eqb tail.id.base (end_of 1 old.sealed.items) (tail_base_is old tail some);
      full = refl;
      ended = some_entry tail (length places) (last_has_last old.sealed.items) filled;
      counted = noted_count old tail some places filled items is ∙ omega arith;
      read = eq-eqb (last_read tail.id.base items) (tail.last + length places) (noted_read old tail some places filled items is);
      below = noted_below old tail some places filled items is c.args.gate c.requires.within;
    }

-- what was sealed
module _ (old : Parts) (tail : Tail) (some : old.tail ≡ Some tail) (items : List Opened) (one : Opened) (is : items ≡ old.sealed.items ++ one ∷ []) (id : one.id ≡ tail.id) (count : ℕ) (filled : 1 ≤ count) (last : one.part.last ≡ tail.last + count) where
  joined_now : are_joined 1 items ≡ true
  joined_now = ap (are_joined 1) is ∙ joined_more 1 old.sealed.items one old.joined (ap (λ i. i.base) id ∙ tail_base_is old tail some) (omega (arith, last, filled, tail.from, ap (λ i. i.base) id))

  full_now : one.part.descriptor.size ≤ length one.part.offsets.items → last_is_full items ≡ true
  full_now long = ap last_is_full is ∙ full_by_last old.sealed.items one ∙ ap (λ (t : Bool). one.part.descriptor.rewritten || t) (le-leb one.part.descriptor.size (length one.part.offsets.items) long) ∙ either one.part.descriptor.rewritten
    where
      either : (t : Bool) → (t || true) ≡ true
      either true = refl
      either false = refl

  ended_now : last_read tail.id.base one.part.offsets.items ≡ tail.last + count → last_has_last items ≡ true
  ended_now read = ap last_has_last is ∙ ended_by_last old.sealed.items one ∙ eq-eqb (last_read one.id.base one.part.offsets.items) one.part.last (ap (λ i. last_read i.base one.part.offsets.items) id ∙ read ∙ sym last)

pub invariant_of-push_reserved : goal.invariant_of-push_reserved
invariant_of-push_reserved c =
    let old = c.args.self.now in
    let tail = c.args.tail in
    let places = c.args.places.now in
    let some = c.requires.tail in
    let filled = c.requires.some in
    let items = c.replace-offsets.result.items in
    let is = ap (λ o. o.items) c.replace-offsets.ensures.value ∙ c.note_all.ensures in
    let d = c.appended.ensures in
    let count = noted_count old tail some places filled items is in
    record {
      base_first = tail.base_first;
      base_last = tail.base_last;
      generation_first = tail.generation_first;
      generation_last = tail.generation_last;
      bounds = record {
        last = omega (arith, count, tail.from, tail.base_first) ∙ sym (ap (λ (e : Descriptor). last_by e (length items)) d);
        base = ap (λ (e : Descriptor). e.base) d;
        from = omega (arith, tail.from);
        last_in_range = omega (arith, c.requires.room);
        gate = omega (arith, count, filled, tail.from, tail.gate_in_range, c.requires.gate);
        below = noted_below old tail some places filled items is c.args.gate c.requires.within;
        counted = λ plain. omega (arith, count, tail.from, tail.base_first);
        ended = λ plain. noted_read old tail some places filled items is;
        filled = λ written. omega (arith, filled, tail.from);
        sized = λ plain. omega (arith, ap (λ (e : Descriptor). e.size) d, tail.size_first);
        size = omega (arith, ap (λ (e : Descriptor). e.size) d, tail.size_last);
        cut = omega (arith, ap (λ (e : Descriptor). e.cut) d);
      };
    }

pub invariant_of-self-else-count-more : goal.invariant_of-self-else-count-more
invariant_of-self-else-count-more c =
    let old = c.args.self.now in
    let tail = c.args.tail in
    let places = c.args.places.now in
    let some = c.requires.tail in
    let filled = c.requires.some in
    let noted_is = ap (λ o. o.items) c.replace-offsets.ensures.value ∙ c.note_all.ensures in
    let count = noted_count old tail some places filled c.replace-offsets.result.items noted_is in
    let empty = ap (λ o. o.items) c.replace-offsets.ensures.after ∙ c.new.ensures.items in
    record {
      in_range = old.in_range;
      joined = joined_now old tail some c.push_reserved.new.self.items _ c.push_reserved.ensures.items refl (length places) filled refl;
      from = refl;
      full = full_now old tail some c.push_reserved.new.self.items _ c.push_reserved.ensures.items refl (length places) filled refl
          (omega (arith, ap (λ (e : Descriptor). e.size) c.appended.ensures, c.if-count-more.false, c.from.ensures, count, tail.from));
      ended = ended_now old tail some c.push_reserved.new.self.items _ c.push_reserved.ensures.items refl (length places) filled refl (noted_read old tail some places filled c.replace-offsets.result.items noted_is);
      counted = ap length empty;
      read = refl;
      below = subst (All (λ (p : ℕ × ℕ). (0 + p.0 ≤ 0) × (p.1 < 0))) (sym empty) (All-nil (λ (p : ℕ × ℕ). (0 + p.0 ≤ 0) × (p.1 < 0)));
    }

pub returns-then-count-more : goal.returns-then-count-more
returns-then-count-more c = record {
  name = refl;
  greatest = refl;
  either = inl (record { next = _; is = refl; id = refl; last = refl; gate_is = refl; size = refl; sealed = refl; offsets = c.note_all.ensures });
}

pub returns-else-count-more : goal.returns-else-count-more
returns-else-count-more c = record {
  name = refl;
  greatest = refl;
  either = inr (record {
    none = refl;
    one = _;
    sealed = c.push_reserved.ensures.items;
    id = refl;
    descriptor = c.appended.ensures;
    last = refl;
    gate_is = refl;
    offsets = ap (λ o. o.items) c.replace-offsets.ensures.value ∙ c.note_all.ensures;
    fresh = ap (λ o. o.items) c.replace-offsets.ensures.after ∙ c.new.ensures.items;
  });
}
