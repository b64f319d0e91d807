-- Effects: what is read is spelled so, and what is spelled so is read.
use Rattle.std.proofs.Common.{◌≡◌, ℕ, suc, ◌≤◌, false, eqb, List, [], ◌∷◌, ◌++◌, length, Option, Some, None, Ok, refl, sym, ap, ◌∙◌, append_assoc, arith}
use Rattle.std.proofs.lemmas.Bool.{eqb-true, eqb-false, ne_eqb}
use Rattle.host_types.specs.declared.entry.Effect.{Effect}
use Rattle.host_types.specs.declared.entry.Effect.TheVariants as effects
use Rattle.entry_codec.specs.Spelled.{number_spelled, text_spelled, kind_tag, cell_spelled, content_spelled, owner_number, effect_spelled, IsUnsigned, IsOwner, EffectFits, IsEffectInRange}
use Rattle.entry_codec.specs.Reading.{byte_at, bounded_at, index_at, key_at, word_at, kind_at, cell_at, content_at, create_at, delete_at, owner_from, owner_at, put_at, removal_at, wiped_key_at, told_at, effect_behind, effect_at}
use Rattle.entry_codec.proofs.Fields.{IsBytes, Meets, made_meets, cond_case, Found, joined, next, tag_meets, tagged_meets, unsigned_index, bounded_meets, bounded_again, index_meets, index_again, key_meets, key_again, word_meets, word_again, kind_meets, kind_again}
use Rattle.entry_codec.proofs.Cells.{cell_meets, cell_again, content_meets, content_again}

abbrev pub IsEffect : Effect → Type 0
IsEffect effect = EffectFits effect × IsEffectInRange effect

create_meets : (bytes : List ℕ) → IsBytes bytes → Meets (length bytes) (Found effect_spelled IsEffect (1 ∷ bytes)) (create_at bytes)
unfolding create_at effect_spelled
create_meets bytes fits =
    next (length bytes) bytes (key_at bytes) _ (omega arith) (key_meets bytes fits) (λ name n behind_name.
    next (length bytes) name.1 (kind_at name.1) _ behind_name (kind_meets name.1 n.rest_fits) (λ kind k behind_kind.
    record {
      met = record {
        parts = ap (λ (l : List ℕ). 1 ∷ l) (joined bytes (text_spelled name.0) name.1 (kind_tag kind.0 ∷ []) kind.1 n.parts k.parts);
        rest_fits = k.rest_fits;
        right = (n.right, tt);
      };
    }))

delete_meets : (bytes : List ℕ) → IsBytes bytes → Meets (length bytes) (Found effect_spelled IsEffect (2 ∷ bytes)) (delete_at bytes)
unfolding delete_at effect_spelled
delete_meets bytes fits =
    next (length bytes) bytes (key_at bytes) _ (omega arith) (key_meets bytes fits) (λ name n behind_name.
    next (length bytes) name.1 (index_at name.1) _ behind_name (index_meets name.1 n.rest_fits) (λ instance i behind_instance.
    record {
      met = record {
        parts = ap (λ (l : List ℕ). 2 ∷ l) (joined bytes (text_spelled name.0) name.1 (number_spelled instance.0) instance.1 n.parts i.parts);
        rest_fits = i.rest_fits;
        right = ((n.right, unsigned_index instance.0 i.right.1), i.right);
      };
    }))

-- ---- owners

abbrev owner_spelled : Option ℕ → List ℕ
owner_spelled owner = number_spelled (owner_number owner)

abbrev IsRightOwner : Option ℕ → Type 0
IsRightOwner owner = IsUnsigned (owner_number owner) × IsOwner owner

owner_is : (n : ℕ) → owner_number (owner_from n) ≡ n
owner_is n = cond_case (eqb n 0) (λ o. owner_number o ≡ n) None (Some n) (λ e. sym (eqb-true n 0 e)) (λ e. refl)

owner_right : (n : ℕ) → n ≤ 281474976710655 → IsOwner (owner_from n)
owner_right n le = cond_case (eqb n 0) IsOwner None (Some n) (λ e. tt) (λ e.
    let no = eqb-false n 0 e in
    (omega (arith, no), le))

owner_meets : (bytes : List ℕ) → IsBytes bytes → Meets (length bytes) (Found owner_spelled IsRightOwner bytes) (owner_at bytes)
unfolding owner_at
owner_meets bytes fits = made_meets owner_from (bounded_at 0 bytes) (bounded_meets 0 bytes fits) (λ n f.
    let is = owner_is n.0 in
    let le = f.right.1 in
    record {
      parts = f.parts ∙ ap (λ (k : ℕ). number_spelled k ++ n.1) (sym is);
      rest_fits = f.rest_fits;
      right = (omega (arith, is, le), owner_right n.0 le);
    })

owner_again : (owner : Option ℕ) (rest : List ℕ) → IsOwner owner → owner_at (number_spelled (owner_number owner) ++ rest) ≡ Ok (owner, rest)
unfolding owner_at
owner_again None rest is = rw (bounded_again 0 0 rest (omega arith, omega arith)) refl
owner_again (Some session) rest is =
    let some : eqb session 0 ≡ false = ne_eqb session 0 (λ e. omega (arith, is.0, e)) in
    rw (bounded_again 0 session rest (omega arith, is.1), some) refl

-- ---- the rest

put_meets : (bytes : List ℕ) → IsBytes bytes → Meets (length bytes) (Found effect_spelled IsEffect (3 ∷ bytes)) (put_at bytes)
unfolding put_at effect_spelled
put_meets bytes fits =
    next (length bytes) bytes (index_at bytes) _ (omega arith) (index_meets bytes fits) (λ instance i behind_instance.
    next (length bytes) instance.1 (cell_at instance.1) _ behind_instance (cell_meets instance.1 i.rest_fits) (λ cell c behind_cell.
    next (length bytes) cell.1 (content_at cell.1) _ behind_cell (content_meets cell.1 c.rest_fits) (λ content n behind_content.
    next (length bytes) content.1 (owner_at content.1) _ behind_content (owner_meets content.1 n.rest_fits) (λ owner o behind_owner.
    let first = joined bytes (number_spelled instance.0) instance.1 (cell_spelled cell.0) cell.1 i.parts c.parts in
    let second = joined bytes (number_spelled instance.0 ++ cell_spelled cell.0) cell.1 (content_spelled content.0) content.1 first n.parts in
    record {
      met = record {
        parts = ap (λ (l : List ℕ). 3 ∷ l) (joined bytes (number_spelled instance.0 ++ cell_spelled cell.0 ++ content_spelled content.0) content.1 (owner_spelled owner.0) owner.1 second o.parts);
        rest_fits = o.rest_fits;
        right = ((unsigned_index instance.0 i.right.1, c.right.0, n.right, o.right.0), (i.right, c.right.1, o.right.1));
      };
    }))))

removal_meets : (bytes : List ℕ) → IsBytes bytes → Meets (length bytes) (Found effect_spelled IsEffect (4 ∷ bytes)) (removal_at bytes)
unfolding removal_at effect_spelled
removal_meets bytes fits =
    next (length bytes) bytes (index_at bytes) _ (omega arith) (index_meets bytes fits) (λ instance i behind_instance.
    next (length bytes) instance.1 (cell_at instance.1) _ behind_instance (cell_meets instance.1 i.rest_fits) (λ cell c behind_cell.
    record {
      met = record {
        parts = ap (λ (l : List ℕ). 4 ∷ l) (joined bytes (number_spelled instance.0) instance.1 (cell_spelled cell.0) cell.1 i.parts c.parts);
        rest_fits = c.rest_fits;
        right = ((unsigned_index instance.0 i.right.1, c.right.0), (i.right, c.right.1));
      };
    }))

wiped_key_meets : (bytes : List ℕ) → IsBytes bytes → Meets (length bytes) (Found effect_spelled IsEffect (6 ∷ bytes)) (wiped_key_at bytes)
unfolding wiped_key_at effect_spelled
wiped_key_meets bytes fits =
    next (length bytes) bytes (index_at bytes) _ (omega arith) (index_meets bytes fits) (λ instance i behind_instance.
    next (length bytes) instance.1 (key_at instance.1) _ behind_instance (key_meets instance.1 i.rest_fits) (λ key k behind_key.
    record {
      met = record {
        parts = ap (λ (l : List ℕ). 6 ∷ l) (joined bytes (number_spelled instance.0) instance.1 (text_spelled key.0) key.1 i.parts k.parts);
        rest_fits = k.rest_fits;
        right = ((unsigned_index instance.0 i.right.1, k.right), i.right);
      };
    }))

told_meets : (bytes : List ℕ) → IsBytes bytes → Meets (length bytes) (Found effect_spelled IsEffect (7 ∷ bytes)) (told_at bytes)
unfolding told_at effect_spelled
told_meets bytes fits =
    next (length bytes) bytes (index_at bytes) _ (omega arith) (index_meets bytes fits) (λ instance i behind_instance.
    next (length bytes) instance.1 (word_at instance.1) _ behind_instance (word_meets instance.1 i.rest_fits) (λ word w behind_word.
    record {
      met = record {
        parts = ap (λ (l : List ℕ). 7 ∷ l) (joined bytes (number_spelled instance.0) instance.1 (text_spelled word.0) word.1 i.parts w.parts);
        rest_fits = w.rest_fits;
        right = ((unsigned_index instance.0 i.right.1, w.right), i.right);
      };
    }))

effect_behind_meets : (tag : ℕ) (bytes : List ℕ) → IsBytes bytes → Meets (suc (length bytes)) (Found effect_spelled IsEffect (tag ∷ bytes)) (effect_behind (suc (length bytes)) tag bytes)
unfolding effect_behind effect_spelled
effect_behind_meets tag bytes fits =
    tag_meets effect_spelled IsEffect tag 0 bytes _ _ (record { met = record { parts = refl; rest_fits = fits; right = (tt, tt) } })
    (tag_meets effect_spelled IsEffect tag 1 bytes _ _ (create_meets bytes fits)
    (tag_meets effect_spelled IsEffect tag 2 bytes _ _ (delete_meets bytes fits)
    (tag_meets effect_spelled IsEffect tag 3 bytes _ _ (put_meets bytes fits)
    (tag_meets effect_spelled IsEffect tag 4 bytes _ _ (removal_meets bytes fits)
    (tag_meets effect_spelled IsEffect tag 5 bytes _ _ (made_meets effects.Wipe (index_at bytes) (index_meets bytes fits) (λ x f. record { parts = ap (λ (l : List ℕ). 5 ∷ l) f.parts; rest_fits = f.rest_fits; right = (unsigned_index x.0 f.right.1, f.right) }))
    (tag_meets effect_spelled IsEffect tag 6 bytes _ _ (wiped_key_meets bytes fits)
    (tag_meets effect_spelled IsEffect tag 7 bytes _ _ (told_meets bytes fits)
    (record { met = omega arith }))))))))

pub effect_meets : (bytes : List ℕ) → IsBytes bytes → Meets (length bytes) (Found effect_spelled IsEffect bytes) (effect_at bytes)
unfolding effect_at
effect_meets bytes fits = tagged_meets effect_spelled IsEffect bytes effect_behind fits effect_behind_meets

pub effect_again : (effect : Effect) (rest : List ℕ) → IsEffect effect → effect_at (effect_spelled effect ++ rest) ≡ Ok (effect, rest)
unfolding effect_at effect_behind effect_spelled byte_at create_at delete_at put_at removal_at wiped_key_at told_at
effect_again effects.Nothing rest is = refl
effect_again (effects.Create name kind) rest is = rw (append_assoc (text_spelled name) (kind_tag kind ∷ []) rest, key_again name (kind_tag kind ∷ rest) is.0, kind_again kind rest) refl
effect_again (effects.Delete name instance) rest is = rw (append_assoc (text_spelled name) (number_spelled instance) rest, key_again name (number_spelled instance ++ rest) is.0.0, index_again instance rest is.1) refl
effect_again (effects.Put instance cell content owner) rest is =
    let behind_content : List ℕ = number_spelled (owner_number owner) ++ rest in
    let behind_cell : List ℕ = content_spelled content ++ behind_content in
    let behind_instance : List ℕ = cell_spelled cell ++ behind_cell in
    rw (
      append_assoc (number_spelled instance ++ cell_spelled cell ++ content_spelled content) (number_spelled (owner_number owner)) rest,
      append_assoc (number_spelled instance ++ cell_spelled cell) (content_spelled content) behind_content,
      append_assoc (number_spelled instance) (cell_spelled cell) behind_cell,
      index_again instance behind_instance is.1.0,
      cell_again cell behind_cell (is.0.1, is.1.1),
      content_again content behind_content is.0.2,
      owner_again owner rest is.1.2,
    ) refl
effect_again (effects.Drop instance cell) rest is =
    rw (append_assoc (number_spelled instance) (cell_spelled cell) rest, index_again instance (cell_spelled cell ++ rest) is.1.0, cell_again cell rest (is.0.1, is.1.1)) refl
effect_again (effects.Wipe instance) rest is = rw (index_again instance rest is.1) refl
effect_again (effects.WipeKey instance key) rest is = rw (append_assoc (number_spelled instance) (text_spelled key) rest, index_again instance (text_spelled key ++ rest) is.1, key_again key rest is.0.1) refl
effect_again (effects.Tell instance word) rest is = rw (append_assoc (number_spelled instance) (text_spelled word) rest, index_again instance (text_spelled word ++ rest) is.1, word_again word rest is.0.1) refl
