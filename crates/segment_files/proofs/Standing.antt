-- The entry that stands at a place is read from there.
use Rattle.std.proofs.Common.{◌≡◌, ℕ, zero, suc, refl, [], ◌∷◌, ◌<◌, get_or, ◌+◌, ◌-◌, ◌≤◌, List, ◌++◌, length, take, drop, Ok, sym, ap, subst, ◌∙◌, arith, length-take}
use Rattle.std.proofs.lemmas.List.{take-append-le, take-take, take_all}
use Rattle.host_types.specs.declared.entry.Entry.{Entry}
use Rattle.entry_codec.specs.Spelled.{IsSpelledBy, spelled}
use Rattle.entry_codec.specs.Answered.{IsRead}
use Rattle.entry_codec.specs.Reading.{Spells}
use Rattle.disk_model.specs.Calls.{ReadsInto}
use Rattle.segment_files.specs.Parse.{Numbered}
use Rattle.segment_files.specs.Contents.{AreAt, IsSpelledAt, Offset_list}
use Rattle.segment_files.proofs.Extending.{at_reach}

module _ (bytes old new : List ℕ) (from to n size index : ℕ) (entry : Entry) (long : length old ≡ to - from) (kept : length new ≡ length old) (reads : ReadsInto bytes from old new n) (at : IsSpelledAt bytes from size index entry) (fits : from + size ≤ to) where
  -- all of it was read
  enough : size ≤ n
  enough = omega (arith, reads.count, long, at.within, fits)

  pub whole : size ≤ length (take n new)
  whole = omega (arith, enough, length-take n new, reads.count, kept)

  pub spelled_here : IsSpelledBy (take size (take n new)) index entry
  spelled_here =
      let same : take size (take n new) ≡ take size (drop from bytes) = ap (take size) reads.front ∙ take-take size n (drop from bytes) enough in
      subst (λ (l : List ℕ). IsSpelledBy l index entry) (sym same) at.spelled

  pub spelled_first : take size new ≡ spelled index entry
  spelled_first = sym (take-take size n new enough) ∙ spelled_here.exact

-- what was written into a vector is what it holds
pub written_back : (len : ℕ) (new rest : List ℕ) → len ≡ length new → take len (new ++ rest) ≡ new
written_back len new rest is = take-append-le len new rest (omega (arith, is)) ∙ take_all len new (omega (arith, is))

-- what is read is that entry
pub only_that : (found : ℕ × Entry × ℕ) (index : ℕ) (entry : Entry) (size : ℕ) → IsRead (Spells index entry size) (Ok found) → entry ≡ found.1
only_that found index entry size is = cc is

-- the entry at a position, with its place, and where the next one may begin
pub record IsNth (base : ℕ) (file : List ℕ) (es : Numbered) (os : Offset_list) (n to : ℕ) : Type 0 where
  pub index : ℕ
  pub entry : Entry
  pub size : ℕ
  pub is : (d : ℕ × Entry) → get_or es n d ≡ (index, entry)
  pub offset : (d : ℕ × ℕ) → index ≡ base + (get_or os n d).0
  pub here : (d : ℕ × ℕ) → IsSpelledAt file (get_or os n d).1 size index entry
  pub next : (d : ℕ × ℕ) → n + 1 < length os → (get_or os n d).1 + size ≤ (get_or os (n + 1) d).1
  pub last : (d : ℕ × ℕ) → (get_or os n d).1 + size ≤ to

module _ (base : ℕ) (file : List ℕ) where
  first_after : (from to : ℕ) (es : Numbered) (os : Offset_list) → AreAt base file from es os to → (d : ℕ × ℕ) → 0 < length os → from ≤ (get_or os 0 d).1
  first_after from to [] [] at d some = absurd (omega (arith, some))
  first_after from to [] (o ∷ os) at d some = absurd at
  first_after from to (e ∷ es) [] at d some = absurd at
  first_after from to (e ∷ es) (o ∷ os) (size, more, index, start, here, rest) d some = start

  pub nth : (from to : ℕ) (es : Numbered) (os : Offset_list) (n : ℕ) → n < length os → AreAt base file from es os to → IsNth base file es os n to
  nth from to [] [] n lt at = absurd (omega (arith, lt))
  nth from to [] (o ∷ os) n lt at = absurd at
  nth from to (e ∷ es) [] n lt at = absurd at
  nth from to (e ∷ es) (o ∷ os) zero lt (size, more, index, start, here, rest) = record {
    index = e.0;
    entry = e.1;
    size = size;
    is = λ d. refl;
    offset = λ d. index;
    here = λ d. here;
    next = λ d some. first_after (o.1 + size) to es os rest d (omega (arith, some));
    last = λ d. at_reach base file (o.1 + size) to es os rest;
  }
  nth from to (e ∷ es) (o ∷ os) (suc n) lt (size, more, index, start, here, rest) =
      let r = nth (o.1 + size) to es os n (omega (arith, lt)) rest in
      record {
        index = r.index;
        entry = r.entry;
        size = r.size;
        is = r.is;
        offset = r.offset;
        here = r.here;
        next = λ d some. subst (λ (k : ℕ). (get_or os n d).1 + r.size ≤ (get_or (o ∷ os) k d).1) {x = suc (n + 1)} {y = suc n + 1} (omega arith) (r.next d (omega (arith, some)));
        last = r.last;
      }
