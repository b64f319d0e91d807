-- Bodies and entries: what is read is spelled so, and what is spelled so is read.
use Rattle.std.proofs.Common.{◌≡◌, ℕ, suc, ◌-◌, ◌≤◌, List, [], ◌∷◌, ◌++◌, length, take, drop, Result, Ok, Err, refl, sym, ap, subst, ◌∙◌, append_assoc, arith, length-append}
use Rattle.std.specs.Prelude.{IfOk, IfErr}
use Rattle.std.proofs.lemmas.List.{take_at, take-append-drop, length-take}
use Rattle.host_types.specs.declared.entry.Entry.{Entry}
use Rattle.host_types.specs.declared.entry.Body.{Body}
use Rattle.host_types.specs.declared.entry.Body.TheVariants as bodies
use Rattle.entry_codec.specs.Spelled.{number_spelled, flag_of, effect_spelled, reply_spelled, body_spelled, spelled, BodyFits, EntryFits, IsBodyInRange, IsInRange, IsSpelledBy}
use Rattle.entry_codec.specs.Reading.{byte_at, number_at, bounded_at, index_at, flag_at, effect_at, reply_at, alive_at, close_at, command_at, body_behind, body_at, entry_at, Spelling, Spells, Spoils, spelling_of, spelling}
use Rattle.entry_codec.specs.declared.fault.ReadFault.{ReadFault}
use Rattle.entry_codec.specs.declared.fault.ReadFault.TheVariants as faults
use Rattle.entry_codec.specs.Answered.{IsRead, SpellsNothing, SaysNone, LiesWithin, IsFound}
use Rattle.entry_codec.proofs.Fields.{IsBytes, Meets, made_meets, Found, joined, shorter, next, tag_meets, tagged_meets, unsigned_index, number_meets, number_again, bounded_meets, bounded_again, index_meets, index_again, flag_meets, flag_again}
use Rattle.entry_codec.proofs.Bounds.{least_size, greatest_size}
use Rattle.entry_codec.proofs.Effects.{effect_meets, effect_again}
use Rattle.entry_codec.proofs.Replies.{reply_meets, reply_again}

abbrev pub IsBody : Body → Type 0
IsBody body = BodyFits body × IsBodyInRange body

alive_meets : (bytes : List ℕ) → IsBytes bytes → Meets (length bytes) (Found body_spelled IsBody (2 ∷ bytes)) (alive_at bytes)
unfolding alive_at body_spelled
alive_meets bytes fits =
    next (length bytes) bytes (index_at bytes) _ (omega arith) (index_meets bytes fits) (λ session s behind_session.
    next (length bytes) session.1 (bounded_at 0 session.1) _ behind_session (bounded_meets 0 session.1 s.rest_fits) (λ seq q behind_seq.
    next (length bytes) seq.1 (index_at seq.1) _ behind_seq (index_meets seq.1 q.rest_fits) (λ event e behind_event.
    let first = joined bytes (number_spelled session.0) session.1 (number_spelled seq.0) seq.1 s.parts q.parts in
    record {
      met = record {
        parts = ap (λ (l : List ℕ). 2 ∷ l) (joined bytes (number_spelled session.0 ++ number_spelled seq.0) seq.1 (number_spelled event.0) event.1 first e.parts);
        rest_fits = e.rest_fits;
        right = ((unsigned_index session.0 s.right.1, unsigned_index seq.0 q.right.1, unsigned_index event.0 e.right.1), (s.right, q.right.1, e.right));
      };
    })))

close_meets : (bytes : List ℕ) → IsBytes bytes → Meets (length bytes) (Found body_spelled IsBody (3 ∷ bytes)) (close_at bytes)
unfolding close_at body_spelled
close_meets bytes fits =
    next (length bytes) bytes (index_at bytes) _ (omega arith) (index_meets bytes fits) (λ session s behind_session.
    next (length bytes) session.1 (flag_at session.1) _ behind_session (flag_meets session.1 s.rest_fits) (λ expired x behind_expired.
    record {
      met = record {
        parts = ap (λ (l : List ℕ). 3 ∷ l) (joined bytes (number_spelled session.0) session.1 (flag_of expired.0 ∷ []) expired.1 s.parts x.parts);
        rest_fits = x.rest_fits;
        right = (unsigned_index session.0 s.right.1, s.right);
      };
    }))

command_meets : (bytes : List ℕ) → IsBytes bytes → Meets (length bytes) (Found body_spelled IsBody (5 ∷ bytes)) (command_at bytes)
unfolding command_at body_spelled
command_meets bytes fits =
    next (length bytes) bytes (index_at bytes) _ (omega arith) (index_meets bytes fits) (λ session s behind_session.
    next (length bytes) session.1 (index_at session.1) _ behind_session (index_meets session.1 s.rest_fits) (λ seq q behind_seq.
    next (length bytes) seq.1 (effect_at seq.1) _ behind_seq (effect_meets seq.1 q.rest_fits) (λ effect e behind_effect.
    next (length bytes) effect.1 (reply_at effect.1) _ behind_effect (reply_meets effect.1 e.rest_fits) (λ reply r behind_reply.
    let first = joined bytes (number_spelled session.0) session.1 (number_spelled seq.0) seq.1 s.parts q.parts in
    let second = joined bytes (number_spelled session.0 ++ number_spelled seq.0) seq.1 (effect_spelled effect.0) effect.1 first e.parts in
    record {
      met = record {
        parts = ap (λ (l : List ℕ). 5 ∷ l) (joined bytes (number_spelled session.0 ++ number_spelled seq.0 ++ effect_spelled effect.0) effect.1 (reply_spelled reply.0) reply.1 second r.parts);
        rest_fits = r.rest_fits;
        right = ((unsigned_index session.0 s.right.1, unsigned_index seq.0 q.right.1, e.right.0, r.right.0), (s.right, q.right, e.right.1, r.right.1));
      };
    }))))

body_behind_meets : (tag : ℕ) (bytes : List ℕ) → IsBytes bytes → Meets (suc (length bytes)) (Found body_spelled IsBody (tag ∷ bytes)) (body_behind (suc (length bytes)) tag bytes)
unfolding body_behind body_spelled
body_behind_meets tag bytes fits =
    tag_meets body_spelled IsBody tag 1 bytes _ _ (made_meets bodies.Register (number_at bytes) (number_meets bytes fits) (λ x f. record { parts = ap (λ (l : List ℕ). 1 ∷ l) f.parts; rest_fits = f.rest_fits; right = (f.right, tt) }))
    (tag_meets body_spelled IsBody tag 2 bytes _ _ (alive_meets bytes fits)
    (tag_meets body_spelled IsBody tag 3 bytes _ _ (close_meets bytes fits)
    (tag_meets body_spelled IsBody tag 4 bytes _ _ (record { met = record { parts = refl; rest_fits = fits; right = (tt, tt) } })
    (tag_meets body_spelled IsBody tag 5 bytes _ _ (command_meets bytes fits)
    (record { met = omega arith })))))

body_meets : (bytes : List ℕ) → IsBytes bytes → Meets (length bytes) (Found body_spelled IsBody bytes) (body_at bytes)
unfolding body_at
body_meets bytes fits = tagged_meets body_spelled IsBody bytes body_behind fits body_behind_meets

body_again : (body : Body) (rest : List ℕ) → IsBody body → body_at (body_spelled body ++ rest) ≡ Ok (body, rest)
unfolding body_at body_behind body_spelled byte_at alive_at close_at command_at
body_again (bodies.Register timeout) rest is = rw (number_again timeout rest is.0) refl
body_again (bodies.Alive session seq event) rest is =
    rw (
      append_assoc (number_spelled session ++ number_spelled seq) (number_spelled event) rest,
      append_assoc (number_spelled session) (number_spelled seq) (number_spelled event ++ rest),
      index_again session (number_spelled seq ++ (number_spelled event ++ rest)) is.1.0,
      bounded_again 0 seq (number_spelled event ++ rest) (omega arith, is.1.1),
      index_again event rest is.1.2,
    ) refl
body_again (bodies.Close session expired) rest is =
    rw (append_assoc (number_spelled session) (flag_of expired ∷ []) rest, index_again session (flag_of expired ∷ rest) is.1, flag_again expired rest) refl
body_again bodies.Tick rest is = refl
body_again (bodies.Command session seq effect reply) rest is =
    let behind_effect : List ℕ = reply_spelled reply ++ rest in
    let behind_seq : List ℕ = effect_spelled effect ++ behind_effect in
    rw (
      append_assoc (number_spelled session ++ number_spelled seq ++ effect_spelled effect) (reply_spelled reply) rest,
      append_assoc (number_spelled session ++ number_spelled seq) (effect_spelled effect) behind_effect,
      append_assoc (number_spelled session) (number_spelled seq) behind_seq,
      index_again session (number_spelled seq ++ behind_seq) is.1.0,
      index_again seq behind_seq is.1.1,
      effect_again effect behind_effect (is.0.2, is.1.2),
      reply_again reply rest (is.0.3, is.1.3),
    ) refl

-- ---- entries at their index

abbrev pub placed_spelled : ℕ × Entry → List ℕ
placed_spelled placed = spelled placed.0 placed.1

pub record IsPlaced (placed : ℕ × Entry) : Type 0 where
  pub range : IsInRange placed.0 placed.1
  pub fits : EntryFits placed.1

pub entry_meets : (bytes : List ℕ) → IsBytes bytes → Meets (length bytes) (Found placed_spelled IsPlaced bytes) (entry_at bytes)
unfolding entry_at spelled
entry_meets bytes fits =
    next (length bytes) bytes (index_at bytes) _ (omega arith) (index_meets bytes fits) (λ index i behind_index.
    next (length bytes) index.1 (number_at index.1) _ behind_index (number_meets index.1 i.rest_fits) (λ time t behind_time.
    next (length bytes) time.1 (body_at time.1) _ behind_time (body_meets time.1 t.rest_fits) (λ body b behind_body.
    let first = joined bytes (number_spelled index.0) index.1 (number_spelled time.0) time.1 i.parts t.parts in
    record {
      met = record {
        parts = joined bytes (number_spelled index.0 ++ number_spelled time.0) time.1 (body_spelled body.0) body.1 first b.parts;
        rest_fits = b.rest_fits;
        right = record { range = record { at = i.right; body = b.right.1 }; fits = record { time = t.right; body = b.right.0 } };
      };
    })))

pub entry_again : (index : ℕ) (entry : Entry) (rest : List ℕ) → IsInRange index entry → EntryFits entry → entry_at (spelled index entry ++ rest) ≡ Ok ((index, entry), rest)
unfolding entry_at spelled
entry_again index entry rest range fits =
    rw (
      append_assoc (number_spelled index ++ number_spelled entry.time) (body_spelled entry.body) rest,
      append_assoc (number_spelled index) (number_spelled entry.time) (body_spelled entry.body ++ rest),
      index_again index (number_spelled entry.time ++ (body_spelled entry.body ++ rest)) range.at,
      number_again entry.time (body_spelled entry.body ++ rest) fits.time,
      body_again entry.body rest (fits.body, range.body),
    ) refl

-- ---- what bytes begin with

-- what is read lies within the bytes
pub rest_within : (bytes : List ℕ) (x : (ℕ × Entry) × List ℕ) → IsBytes bytes → entry_at bytes ≡ Ok x → length x.1 ≤ length bytes
rest_within bytes x fits e =
    let found = (subst (λ (r : Result ((ℕ × Entry) × List ℕ) ℕ). Meets (length bytes) (Found placed_spelled IsPlaced bytes) r) e (entry_meets bytes fits)).met in
    shorter bytes (placed_spelled x.0) x.1 found.parts

pub left_within : (bytes : List ℕ) (left : ℕ) → IsBytes bytes → entry_at bytes ≡ Err left → left ≤ length bytes
left_within bytes left fits e = (subst (λ (r : Result ((ℕ × Entry) × List ℕ) ℕ). Meets (length bytes) (Found placed_spelled IsPlaced bytes) r) e (entry_meets bytes fits)).met

abbrev ok_of : (ℕ × Entry) × List ℕ → Result ((ℕ × Entry) × List ℕ) ℕ
ok_of x = Ok x

ok_is : (x y : (ℕ × Entry) × List ℕ) → ok_of x ≡ ok_of y → x ≡ y
ok_is x y e = cc

-- a spelling of an entry is read as that entry, whatever follows
pub spelled_read : (bytes : List ℕ) (index : ℕ) (entry : Entry) (rest : List ℕ) → IsSpelledBy bytes index entry → entry_at (bytes ++ rest) ≡ Ok ((index, entry), rest)
spelled_read bytes index entry rest is = ap (λ (l : List ℕ). entry_at (l ++ rest)) is.exact ∙ entry_again index entry rest is.range is.fits

pub spelled_again : (index : ℕ) (entry : Entry) (rest : List ℕ) → IsInRange index entry → EntryFits entry → spelling (spelled index entry ++ rest) ≡ Spells index entry (length (spelled index entry))
unfolding spelling
spelled_again index entry rest range fits =
    let whole : List ℕ = spelled index entry ++ rest in
    let size : length whole - length rest ≡ length (spelled index entry) = omega (arith, length-append (spelled index entry) rest) in
    ap (spelling_of (length whole)) (entry_again index entry rest range fits) ∙ ap (λ (n : ℕ). Spells index entry n) size

-- no spelling begins another, and each spells one entry at one index
pub one_spelling : (a b x y : List ℕ) (i j : ℕ) (e f : Entry) → IsSpelledBy a i e → IsSpelledBy b j f → a ++ x ≡ b ++ y → (a ≡ b) × (i ≡ j) × (e ≡ f)
one_spelling a b x y i j e f first second same =
    let both : ok_of ((i, e), x) ≡ ok_of ((j, f), y) = sym (spelled_read a i e x first) ∙ ap entry_at same ∙ spelled_read b j f y second in
    let placed = ok_is ((i, e), x) ((j, f), y) both in
    let i_is : i ≡ j = ap (λ (p : (ℕ × Entry) × List ℕ). p.0.0) placed in
    let e_is : e ≡ f = ap (λ (p : (ℕ × Entry) × List ℕ). p.0.1) placed in
    (first.exact ∙ ap (λ (p : (ℕ × Entry) × List ℕ). spelled p.0.0 p.0.1) placed ∙ sym second.exact, i_is, e_is)

-- what Spells says is found, and what Spoils says is none
abbrev pub IsTrueOf : List ℕ → Spelling → Type 0
IsTrueOf bytes (Spells index entry size) = IsFound bytes (index, entry, size)
IsTrueOf bytes (Spoils at) = (at ≤ length bytes) × SpellsNothing bytes

none_read : (bytes : List ℕ) (left : ℕ) → entry_at bytes ≡ Err left → SpellsNothing bytes
none_read bytes left e size index entry is =
    let other : entry_at bytes ≡ Ok ((index, entry), drop size bytes) = ap entry_at (sym (take-append-drop size bytes)) ∙ spelled_read (take size bytes) index entry (drop size bytes) is in
    absurd (cc (e, other))

read_true : (bytes : List ℕ) (read : Result ((ℕ × Entry) × List ℕ) ℕ) → IsBytes bytes → entry_at bytes ≡ read → Meets (length bytes) (Found placed_spelled IsPlaced bytes) read → IsTrueOf bytes (spelling_of (length bytes) read)
read_true bytes (Ok x) fits e meets =
    let found = meets.met in
    let size : length bytes - length x.1 ≡ length (placed_spelled x.0) = omega (arith, ap length found.parts, length-append (placed_spelled x.0) x.1) in
    let front : take (length bytes - length x.1) bytes ≡ placed_spelled x.0 = ap (λ (n : ℕ). take n bytes) size ∙ ap (take (length (placed_spelled x.0))) found.parts ∙ take_at (placed_spelled x.0) x.1 (length (placed_spelled x.0)) refl in
    let least = least_size x.0.0 x.0.1 found.right.fits in
    let most = greatest_size x.0.0 x.0.1 found.right.fits in
    record { least = omega (arith, least, size); most = omega (arith, most, size); within = omega arith; spelled = record { range = found.right.range; fits = found.right.fits; exact = front } }
read_true bytes (Err left) fits e meets = (omega arith, none_read bytes left e)

pub spelling_true : (bytes : List ℕ) → IsBytes bytes → IsTrueOf bytes (spelling bytes)
unfolding spelling
spelling_true bytes fits = read_true bytes (entry_at bytes) fits refl (entry_meets bytes fits)

-- ---- what a call answers by it

pub is_found : (bytes : List ℕ) (r : Result (ℕ × Entry × ℕ) ReadFault) → IsBytes bytes → IsRead (spelling bytes) r → IfOk r (IsFound bytes)
is_found bytes (Ok found) fits is = subst (IsTrueOf bytes) is (spelling_true bytes fits)
is_found bytes (Err fault) fits is = tt

pub says_none : (bytes : List ℕ) (r : Result (ℕ × Entry × ℕ) ReadFault) → IsBytes bytes → IsRead (spelling bytes) r → IfErr r (SaysNone bytes)
says_none bytes (Ok found) fits is = tt
says_none bytes (Err (faults.Bad at)) fits is = (subst (IsTrueOf bytes) is (spelling_true bytes fits)).1
says_none bytes (Err faults.NoMemory) fits is = tt

pub is_within : (bytes : List ℕ) (r : Result (ℕ × Entry × ℕ) ReadFault) → IsBytes bytes → IsRead (spelling bytes) r → IfErr r (LiesWithin (length bytes))
is_within bytes (Ok found) fits is = tt
is_within bytes (Err (faults.Bad at)) fits is = (subst (IsTrueOf bytes) is (spelling_true bytes fits)).0
is_within bytes (Err faults.NoMemory) fits is = tt

-- a front that spells an entry is what is read, and no other
begins : (bytes : List ℕ) (size index : ℕ) (entry : Entry) → size ≤ length bytes → IsSpelledBy (take size bytes) index entry → spelling bytes ≡ Spells index entry size
begins bytes size index entry le is =
    let long : length (spelled index entry) ≡ size = omega (arith, ap length is.exact, length-take size bytes) in
    let whole : bytes ≡ spelled index entry ++ drop size bytes = sym (take-append-drop size bytes) ∙ ap (λ (l : List ℕ). l ++ drop size bytes) is.exact in
    ap spelling whole ∙ spelled_again index entry (drop size bytes) is.range is.fits ∙ ap (λ (n : ℕ). Spells index entry n) long

pub reads_front : (bytes : List ℕ) (r : Result (ℕ × Entry × ℕ) ReadFault) → IsRead (spelling bytes) r → (size index : ℕ) (entry : Entry) → size ≤ length bytes → IsSpelledBy (take size bytes) index entry → IsRead (Spells index entry size) r
reads_front bytes r is size index entry le spelled_so = subst (λ (s : Spelling). IsRead s r) (begins bytes size index entry le spelled_so) is
