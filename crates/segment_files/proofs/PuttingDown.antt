-- What is put down of the entries that are read: which index the last one has, and that all of it is before the place come to.
use Rattle.std.proofs.Common.{◌≡◌, ℕ, suc, ◌+◌, ◌-◌, ◌<◌, ◌≤◌, true, nat_eq, nat_lt, nat_le, [], ◌∷◌, ◌++◌, length, get_or, refl, sym, ap, subst, ◌∙◌, arith, length-append, append_assoc}
use Rattle.std.proofs.lemmas.Bool.{and_parts, eqb-true, leb-true, ltb-true}
use Rattle.std.proofs.lemmas.List.{append-nil}
use Rattle.std.proofs.lemmas.List.Elements.{All-nil, All-push, All-weaker}
use Rattle.host_types.specs.Limits.{index_limit}
use Rattle.host_types.specs.declared.entry.Entry.{Entry}
use Rattle.offset_index.specs.Indexed.{MayFollow}
use Rattle.segment_files.specs.declared.rule.Rule.{Rule}
use Rattle.segment_files.specs.Parse.{Numbered, Appended, Rewritten, follows, room, behind, last_index, index_behind}
use Rattle.segment_files.specs.Contents.{AreBelow, Counts, Gained, HasRoom, IsPutDown, IsRule, Offset_list, last_offset, last_read}

-- THE LAST OFFSET

last_at : (offset : ℕ) (os : Offset_list) (d : ℕ × ℕ) → (p : ℕ × ℕ) → p.0 ≡ offset → (get_or (p ∷ os) (length os) d).0 ≡ last_offset offset os
last_at offset [] d p is = is
last_at offset (q ∷ os) d p is = last_at q.0 os d q refl

-- it is that of the last pair
pub last_here : (base : ℕ) (os : Offset_list) (d : ℕ × ℕ) → 0 < length os → last_read base os ≡ base + (get_or os (length os - 1) d).0
last_here base [] d some = absurd (omega (arith, some))
last_here base (p ∷ os) d some = ap (λ (k : ℕ). base + k) (sym (last_at p.0 os d p refl) ∙ ap (λ (k : ℕ). (get_or (p ∷ os) k d).0) {x = length os} {y = suc (length os) - 1} (omega arith))

last_offset_pushed : (offset : ℕ) (os : Offset_list) (p : ℕ × ℕ) → last_offset offset (os ++ p ∷ []) ≡ p.0
last_offset_pushed offset [] p = refl
last_offset_pushed offset (q ∷ os) p = last_offset_pushed q.0 os p

pub last_pushed : (base : ℕ) (os : Offset_list) (p : ℕ × ℕ) → last_read base (os ++ p ∷ []) ≡ base + p.0
last_pushed base [] p = refl
last_pushed base (q ∷ os) p = ap (λ (k : ℕ). base + k) (last_offset_pushed q.0 os p)

pub last_low : (base : ℕ) (os : Offset_list) → base ≤ last_read base os + 1
last_low base [] = omega arith
last_low base (p ∷ os) = omega arith

-- WHAT A RULE ALLOWS

-- an entry that may follow has a greater index
pub follows_above : (rule : Rule) (before index : ℕ) → follows rule before index ≡ true → before < index
follows_above Appended before index t =
    let is : index ≡ before + 1 = eqb-true index (before + 1) (and_parts (nat_eq index (before + 1)) (nat_le index index_limit) t).0 in omega (arith, is)
follows_above (Rewritten last left) before index t = ltb-true before index (and_parts (nat_lt before index) (nat_le index last) t).0

-- one that is appended is the next
pub is_next_one : (before index : ℕ) → follows Appended before index ≡ true → (index ≡ before + 1) × (index ≤ index_limit)
is_next_one before index t =
    let parts = and_parts (nat_eq index (before + 1)) (nat_le index index_limit) t in
    (eqb-true index (before + 1) parts.0, leb-true index index_limit parts.1)

-- the rule behind some entries allows as much
pub counts_behind : (rule : Rule) (n base : ℕ) (os : Offset_list) → Counts rule base os → Counts (behind rule n) base os
counts_behind Appended n base os counts = counts
counts_behind (Rewritten last left) n base os counts = counts

pub counts_ahead : (rule : Rule) (n base : ℕ) (os : Offset_list) → Counts (behind rule n) base os → Counts rule base os
counts_ahead Appended n base os counts = counts
counts_ahead (Rewritten last left) n base os counts = counts

pub put_behind : (rule : Rule) (n base place : ℕ) (os : Offset_list) → IsPutDown rule base os place → IsPutDown (behind rule n) base os place
put_behind rule n base place os put = record { counts = counts_behind rule n base os put.counts; below = put.below }

pub put_ahead : (rule : Rule) (n base place : ℕ) (os : Offset_list) → IsPutDown (behind rule n) base os place → IsPutDown rule base os place
put_ahead rule n base place os put = record { counts = counts_ahead rule n base os put.counts; below = put.below }

pub rule_behind : (rule : Rule) (n base : ℕ) → IsRule base rule → IsRule base (behind rule n)
rule_behind Appended n base is = is
rule_behind (Rewritten last left) n base is = is

pub index_same : (rule : Rule) (n before : ℕ) (es : Numbered) → index_behind (behind rule n) before es ≡ index_behind rule before es
index_same Appended n before es = refl
index_same (Rewritten last left) n before es = refl

pub behind_behind : (rule : Rule) (n m : ℕ) → behind (behind rule n) m ≡ behind rule (n + m)
behind_behind Appended n m = refl
behind_behind (Rewritten last left) n m = ap (λ (k : ℕ). Rewritten last k) (omega arith)

pub behind_none : (rule : Rule) → behind rule 0 ≡ rule
behind_none Appended = refl
behind_none (Rewritten last left) = ap (λ (k : ℕ). Rewritten last k) (omega arith)

-- there is room behind for as many as may stand in a frame
pub room_behind : (rule : Rule) (n m : ℕ) → HasRoom rule n → m ≤ room (behind rule n) → HasRoom rule (n + m)
room_behind Appended n m has le = tt
room_behind (Rewritten last left) n m has le = omega (arith, has, le)

pub room_none : (rule : Rule) → HasRoom rule 0
room_none Appended = tt
room_none (Rewritten last left) = omega arith

-- NUMBERS OF INDEXES

pub few_indexes : (rule : Rule) (base : ℕ) (os : Offset_list) → base ≤ index_limit → IsRule base rule → Counts rule base os → last_read base os ≤ index_limit
few_indexes Appended base os limit is (same, few) = omega (arith, same, few)
few_indexes (Rewritten last left) base os limit (first, within) (some, low) = omega (arith, low, within)

-- ENTRIES BEHIND ONE ANOTHER

last_index_more : (before : ℕ) (es fs : Numbered) → last_index (last_index before es) fs ≡ last_index before (es ++ fs)
last_index_more before [] fs = refl
last_index_more before (e ∷ es) fs = last_index_more e.0 es fs

pub index_more : (rule : Rule) (before : ℕ) (es fs : Numbered) → index_behind rule (index_behind rule before es) fs ≡ index_behind rule before (es ++ fs)
index_more Appended before es fs = omega (arith, length-append es fs)
index_more (Rewritten last left) before es fs = last_index_more before es fs

pub index_none : (rule : Rule) (before : ℕ) → index_behind rule before [] ≡ before
index_none Appended before = omega arith
index_none (Rewritten last left) before = refl

pub index_one : (rule : Rule) (before index : ℕ) (entry : Entry) → follows rule before index ≡ true → index_behind rule before ((index, entry) ∷ []) ≡ index
index_one Appended before index entry t = let is = (is_next_one before index t).0 in omega (arith, is)
index_one (Rewritten last left) before index entry t = refl

module _ (rule : Rule) (base : ℕ) where
  abbrev pub gained_none : (os : Offset_list) → Gained rule base os os
  gained_none os = record { more = []; offsets = []; as_many = refl; items = sym (append-nil os); last = sym (index_none rule (last_read base os)) }

  abbrev pub gained_more : (a b c : Offset_list) → Gained rule base a b → Gained rule base b c → Gained rule base a c
  gained_more a b c g h = record {
    more = g.more ++ h.more;
    offsets = g.offsets ++ h.offsets;
    as_many = omega (arith, length-append g.offsets h.offsets, length-append g.more h.more, g.as_many, h.as_many);
    items = h.items ∙ ap (λ (l : Offset_list). l ++ h.offsets) g.items ∙ append_assoc a g.offsets h.offsets;
    last = h.last ∙ ap (λ (k : ℕ). index_behind rule k h.more) g.last ∙ index_more rule (last_read base a) g.more h.more;
  }

  pub reaches_index : (old : Offset_list) (index : ℕ) → follows rule (last_read base old) index ≡ true → base + (index - base) ≡ index
  reaches_index old index t = omega (arith, follows_above rule (last_read base old) index t, last_low base old)

  abbrev pub gained_one : (old new : Offset_list) (index place : ℕ) (entry : Entry) → follows rule (last_read base old) index ≡ true → new ≡ old ++ (index - base, place) ∷ [] → Gained rule base old new
  gained_one old new index place entry t items = record {
    more = (index, entry) ∷ [];
    offsets = (index - base, place) ∷ [];
    as_many = refl;
    items = items;
    last = ap (last_read base) items ∙ last_pushed base old (index - base, place) ∙ reaches_index old index t ∙ sym (index_one rule (last_read base old) index entry t);
  }

  -- how many there are by then
  pub gained_length : (old new : Offset_list) (g : Gained rule base old new) → length new ≡ length old + length g.more
  gained_length old new g = ap length g.items ∙ length-append old g.offsets ∙ ap (λ (k : ℕ). length old + k) g.as_many

abbrev pub gained_ahead : (rule : Rule) (n base : ℕ) (old new : Offset_list) → Gained (behind rule n) base old new → Gained rule base old new
gained_ahead rule n base old new g = record { more = g.more; offsets = g.offsets; as_many = g.as_many; items = g.items; last = g.last ∙ index_same rule n (last_read base old) g.more }

-- OVER WHATEVER DISK

pub put_none : (rule : Rule) (base place : ℕ) → 1 ≤ base → base ≤ index_limit → IsRule base rule → IsPutDown rule base [] place
put_none rule base place first most is = record { counts = none rule is; below = All-nil (λ (p : ℕ × ℕ). (base + p.0 ≤ last_read base []) × (p.1 < place)) }
  where
    none : (r : Rule) → IsRule base r → Counts r base []
    none Appended is = (omega arith, omega (arith, most))
    none (Rewritten last left) (low, within) = (omega arith, omega (arith, low))

pub below_up : (base last : ℕ) (os : Offset_list) (a b : ℕ) → a ≤ b → AreBelow base last os a → AreBelow base last os b
below_up base last os a b le =
    All-weaker (λ (p : ℕ × ℕ). (base + p.0 ≤ last) × (p.1 < a)) (λ (p : ℕ × ℕ). (base + p.0 ≤ last) × (p.1 < b)) (λ p it. (it.0, (let at = it.1 in omega (arith, at, le)))) os

pub put_up : (rule : Rule) (base : ℕ) (os : Offset_list) (a b : ℕ) → a ≤ b → IsPutDown rule base os a → IsPutDown rule base os b
put_up rule base os a b le put = record { counts = put.counts; below = below_up base (last_read base os) os a b le put.below }

module _ (rule : Rule) (base place : ℕ) (old : Offset_list) (index : ℕ) (t : follows rule (last_read base old) index ≡ true) (put : IsPutDown rule base old place) where
  abbrev pushed : Offset_list
  pushed = old ++ (index - base, place) ∷ []

  above : last_read base old < index
  above = follows_above rule (last_read base old) index t

  reaches : base + (index - base) ≡ index
  reaches = reaches_index rule base old index t

  last_now : last_read base pushed ≡ index
  last_now = last_pushed base old (index - base, place) ∙ reaches

  many : length pushed ≡ length old + 1
  many = length-append old ((index - base, place) ∷ [])

  counts_now : (r : Rule) → follows r (last_read base old) index ≡ true → Counts r base old → Counts r base pushed
  counts_now Appended u (same, few) =
      let next = is_next_one (last_read base old) index u in
      let is = next.0 in
      let low = next.1 in
      (omega (arith, last_now, is, same, many, last_low base old), omega (arith, is, low, same, many, last_low base old))
  counts_now (Rewritten last left) u (some, low) =
      let within = leb-true index last (and_parts (nat_lt (last_read base old) index) (nat_le index last) u).1 in
      (omega (arith, last_now, above, some, many), omega (arith, last_now, within))

  -- the next offset may be put down
  pub may_follow : MayFollow old (index - base, place)
  may_follow d some =
      let pair = put.below (length old - 1) d (omega (arith, some)) in
      let low = pair.0 in
      let here = pair.1 in
      (omega (arith, low, above), omega (arith, here))

  -- with one more
  pub put_more : (new : Offset_list) (size : ℕ) → new ≡ pushed → 1 ≤ size → IsPutDown rule base new (place + size)
  put_more new size is some = subst (λ (l : Offset_list). IsPutDown rule base l (place + size)) (sym is) (record {
    counts = counts_now rule t put.counts;
    below =
        let P : ℕ × ℕ → Type 0 = λ p. (base + p.0 ≤ last_read base pushed) × (p.1 < place + size) in
        All-push P old (index - base, place)
        (All-weaker (λ (p : ℕ × ℕ). (base + p.0 ≤ last_read base old) × (p.1 < place)) P (λ p it. ((let low = it.0 in omega (arith, low, last_now, above)), (let at = it.1 in omega (arith, at)))) old put.below)
        (omega (arith, last_now, reaches), omega (arith, some));
  })
