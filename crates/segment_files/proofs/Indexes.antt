-- An entry is read with the index that its first eight bytes are.
use Rattle.std.proofs.Common.{◌≡◌, ℕ, ◌≤◌, Bool, true, false, ◌&&◌, nat_lt, nat_le, if◌then◌else◌, List, length, take, drop, Result, Ok, Err, refl, ap, subst}
use Rattle.std.proofs.lemmas.Bool.{ltb-false}
use Rattle.std.specs.Int.{w64, from_be_bytes}
use Rattle.host_types.specs.Limits.{index_limit}
use Rattle.host_types.specs.declared.entry.Body.{Body}
use Rattle.host_types.specs.declared.entry.Entry.{Entry}
use Rattle.entry_codec.specs.Reading.{◌>>=◌, Spells, spelling, spelling_of, entry_at, bounded_at, body_at}
use Rattle.entry_codec.specs.Reading as reading
use Rattle.segment_files.specs.Numbers.{Eight, number_at}

pub record HasIndex (bytes : List ℕ) (index : ℕ) : Type 0 where
  pub whole : 8 ≤ length bytes
  pub is : number_at Eight 0 bytes ≡ index

-- the number, where the bytes aren't too few
abbrev number_if : List ℕ → Bool → Result (ℕ × List ℕ) ℕ
number_if bytes few = if few then Err 0 else Ok (from_be_bytes w64 (take 8 bytes), drop 8 bytes)

of_number : (bytes : List ℕ) (n : ℕ × List ℕ) → reading.number_at bytes ≡ Ok n → HasIndex bytes n.0
unfolding reading.number_at number_at
of_number bytes n is = by (nat_lt (length bytes) 8) refl is
  where
    by : (t : Bool) → nat_lt (length bytes) 8 ≡ t → number_if bytes t ≡ Ok n → HasIndex bytes n.0
    by true t_is is = absurd (cc)
    by false t_is is =
        let same : (from_be_bytes w64 (take 8 bytes), drop 8 bytes) ≡ n = cc in
        record { whole = ltb-false (length bytes) 8 t_is; is = ap (λ (p : ℕ × List ℕ). p.0) same }

of_bounded : (bytes : List ℕ) (n : ℕ × List ℕ) → bounded_at 1 bytes ≡ Ok n → HasIndex bytes n.0
unfolding bounded_at
of_bounded bytes n is = by (reading.number_at bytes) refl is
  where
    tested : (m : ℕ × List ℕ) → reading.number_at bytes ≡ Ok m → (t : Bool) → (if t then Ok m else Err (length bytes)) ≡ Ok n → HasIndex bytes n.0
    tested m m_is true is = let same : m ≡ n = cc in subst (λ (p : ℕ × List ℕ). HasIndex bytes p.0) same (of_number bytes m m_is)
    tested m m_is false is = absurd (cc)

    by : (r : Result (ℕ × List ℕ) ℕ) → reading.number_at bytes ≡ r → (r >>= λ m. if nat_le 1 m.0 && nat_le m.0 index_limit then Ok m else Err (length bytes)) ≡ Ok n → HasIndex bytes n.0
    by (Err left) r_is is = absurd (cc)
    by (Ok m) r_is is = tested m r_is (nat_le 1 m.0 && nat_le m.0 index_limit) is

-- the entry whose fields were read
abbrev placed : ℕ × List ℕ → ℕ × List ℕ → Body × List ℕ → Result ((ℕ × Entry) × List ℕ) ℕ
placed i time b = Ok ((i.0, record { time = time.0; body = b.0 }), b.1)

pub index_read : (bytes : List ℕ) (index : ℕ) (entry : Entry) (size : ℕ) → spelling bytes ≡ Spells index entry size → HasIndex bytes index
unfolding spelling entry_at
index_read bytes index entry size is = first (bounded_at 1 bytes) refl is
  where
    bodied : (i time : ℕ × List ℕ) → bounded_at 1 bytes ≡ Ok i → (r : Result (Body × List ℕ) ℕ) → spelling_of (length bytes) (r >>= placed i time) ≡ Spells index entry size → HasIndex bytes index
    bodied i time i_is (Err left) is = absurd (cc)
    bodied i time i_is (Ok b) is = let same : i.0 ≡ index = cc in subst (HasIndex bytes) same (of_bounded bytes i i_is)

    timed : (i : ℕ × List ℕ) → bounded_at 1 bytes ≡ Ok i → (r : Result (ℕ × List ℕ) ℕ) → spelling_of (length bytes) (r >>= λ time. body_at time.1 >>= placed i time) ≡ Spells index entry size → HasIndex bytes index
    timed i i_is (Err left) is = absurd (cc)
    timed i i_is (Ok time) is = bodied i time i_is (body_at time.1) is

    first : (r : Result (ℕ × List ℕ) ℕ) → bounded_at 1 bytes ≡ r → spelling_of (length bytes) (r >>= λ i. reading.number_at i.1 >>= λ time. body_at time.1 >>= placed i time) ≡ Spells index entry size → HasIndex bytes index
    first (Err left) r_is is = absurd (cc)
    first (Ok i) r_is is = timed i r_is (reading.number_at i.1) is
