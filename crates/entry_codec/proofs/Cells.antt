-- Cells and contents: what is read is spelled so, and what is spelled so is read.
use Rattle.std.proofs.Common.{◌≡◌, ℕ, suc, List, ◌∷◌, ◌++◌, length, Ok, refl, ap, append_assoc, arith}
use Rattle.host_types.specs.declared.entry.Cell.{Cell}
use Rattle.host_types.specs.declared.entry.Cell.TheVariants as cells
use Rattle.host_types.specs.declared.entry.Content.{Content}
use Rattle.host_types.specs.declared.entry.Content.TheVariants as contents
use Rattle.entry_codec.specs.Spelled.{number_spelled, text_spelled, cell_spelled, content_spelled, CellFits, ContentFits, IsCellInRange}
use Rattle.entry_codec.specs.Reading.{byte_at, number_at, signed_at, index_at, key_at, word_at, pair_at, waiter_at, cell_behind, cell_at, content_behind, content_at}
use Rattle.entry_codec.proofs.Fields.{IsBytes, Meets, made_meets, Found, joined, next, tag_meets, tagged_meets, unsigned_index, number_meets, number_again, signed_meets, signed_again, index_meets, index_again, key_meets, key_again, word_meets, word_again}

abbrev pub IsCell : Cell → Type 0
IsCell cell = CellFits cell × IsCellInRange cell

pair_meets : (bytes : List ℕ) → IsBytes bytes → Meets (length bytes) (Found cell_spelled IsCell (3 ∷ bytes)) (pair_at bytes)
unfolding pair_at cell_spelled
pair_meets bytes fits =
    next (length bytes) bytes (key_at bytes) _ (omega arith) (key_meets bytes fits) (λ key k behind_key.
    next (length bytes) key.1 (word_at key.1) _ behind_key (word_meets key.1 k.rest_fits) (λ word w behind_word.
    record {
      met = record {
        parts = ap (λ (l : List ℕ). 3 ∷ l) (joined bytes (text_spelled key.0) key.1 (text_spelled word.0) word.1 k.parts w.parts);
        rest_fits = w.rest_fits;
        right = ((k.right, w.right), tt);
      };
    }))

waiter_meets : (bytes : List ℕ) → IsBytes bytes → Meets (length bytes) (Found cell_spelled IsCell (5 ∷ bytes)) (waiter_at bytes)
unfolding waiter_at cell_spelled
waiter_meets bytes fits =
    next (length bytes) bytes (index_at bytes) _ (omega arith) (index_meets bytes fits) (λ session s behind_session.
    next (length bytes) session.1 (number_at session.1) _ behind_session (number_meets session.1 s.rest_fits) (λ id i behind_id.
    record {
      met = record {
        parts = ap (λ (l : List ℕ). 5 ∷ l) (joined bytes (number_spelled session.0) session.1 (number_spelled id.0) id.1 s.parts i.parts);
        rest_fits = i.rest_fits;
        right = ((unsigned_index session.0 s.right.1, i.right), s.right);
      };
    }))

cell_behind_meets : (tag : ℕ) (bytes : List ℕ) → IsBytes bytes → Meets (suc (length bytes)) (Found cell_spelled IsCell (tag ∷ bytes)) (cell_behind (suc (length bytes)) tag bytes)
unfolding cell_behind cell_spelled
cell_behind_meets tag bytes fits =
    tag_meets cell_spelled IsCell tag 0 bytes _ _ (record { met = record { parts = refl; rest_fits = fits; right = (tt, tt) } })
    (tag_meets cell_spelled IsCell tag 1 bytes _ _ (made_meets cells.Named (key_at bytes) (key_meets bytes fits) (λ x f. record { parts = ap (λ (l : List ℕ). 1 ∷ l) f.parts; rest_fits = f.rest_fits; right = (f.right, tt) }))
    (tag_meets cell_spelled IsCell tag 2 bytes _ _ (made_meets cells.Member (word_at bytes) (word_meets bytes fits) (λ x f. record { parts = ap (λ (l : List ℕ). 2 ∷ l) f.parts; rest_fits = f.rest_fits; right = (f.right, tt) }))
    (tag_meets cell_spelled IsCell tag 3 bytes _ _ (pair_meets bytes fits)
    (tag_meets cell_spelled IsCell tag 4 bytes _ _ (made_meets cells.At (index_at bytes) (index_meets bytes fits) (λ x f. record { parts = ap (λ (l : List ℕ). 4 ∷ l) f.parts; rest_fits = f.rest_fits; right = (unsigned_index x.0 f.right.1, f.right) }))
    (tag_meets cell_spelled IsCell tag 5 bytes _ _ (waiter_meets bytes fits)
    (tag_meets cell_spelled IsCell tag 6 bytes _ _ (made_meets cells.Of (index_at bytes) (index_meets bytes fits) (λ x f. record { parts = ap (λ (l : List ℕ). 6 ∷ l) f.parts; rest_fits = f.rest_fits; right = (unsigned_index x.0 f.right.1, f.right) }))
    (record { met = omega arith })))))))

pub cell_meets : (bytes : List ℕ) → IsBytes bytes → Meets (length bytes) (Found cell_spelled IsCell bytes) (cell_at bytes)
unfolding cell_at
cell_meets bytes fits = tagged_meets cell_spelled IsCell bytes cell_behind fits cell_behind_meets

pub cell_again : (cell : Cell) (rest : List ℕ) → IsCell cell → cell_at (cell_spelled cell ++ rest) ≡ Ok (cell, rest)
unfolding cell_at cell_behind cell_spelled byte_at pair_at waiter_at
cell_again cells.One rest is = refl
cell_again (cells.Named key) rest is = rw (key_again key rest is.0) refl
cell_again (cells.Member word) rest is = rw (word_again word rest is.0) refl
cell_again (cells.Pair key word) rest is = rw (append_assoc (text_spelled key) (text_spelled word) rest, key_again key (text_spelled word ++ rest) is.0.0, word_again word rest is.0.1) refl
cell_again (cells.At index) rest is = rw (index_again index rest is.1) refl
cell_again (cells.Waiter session id) rest is = rw (append_assoc (number_spelled session) (number_spelled id) rest, index_again session (number_spelled id ++ rest) is.1, number_again id rest is.0.1) refl
cell_again (cells.Of session) rest is = rw (index_again session rest is.1) refl

content_behind_meets : (tag : ℕ) (bytes : List ℕ) → IsBytes bytes → Meets (suc (length bytes)) (Found content_spelled ContentFits (tag ∷ bytes)) (content_behind (suc (length bytes)) tag bytes)
unfolding content_behind content_spelled
content_behind_meets tag bytes fits =
    tag_meets content_spelled ContentFits tag 0 bytes _ _ (record { met = record { parts = refl; rest_fits = fits; right = tt } })
    (tag_meets content_spelled ContentFits tag 1 bytes _ _ (made_meets contents.Text (word_at bytes) (word_meets bytes fits) (λ x f. record { parts = ap (λ (l : List ℕ). 1 ∷ l) f.parts; rest_fits = f.rest_fits; right = f.right }))
    (tag_meets content_spelled ContentFits tag 2 bytes _ _ (made_meets contents.Number (signed_at bytes) (signed_meets bytes fits) (λ x f. record { parts = ap (λ (l : List ℕ). 2 ∷ l) f.parts; rest_fits = f.rest_fits; right = f.right }))
    (record { met = omega arith })))

pub content_meets : (bytes : List ℕ) → IsBytes bytes → Meets (length bytes) (Found content_spelled ContentFits bytes) (content_at bytes)
unfolding content_at
content_meets bytes fits = tagged_meets content_spelled ContentFits bytes content_behind fits content_behind_meets

pub content_again : (content : Content) (rest : List ℕ) → ContentFits content → content_at (content_spelled content ++ rest) ≡ Ok (content, rest)
unfolding content_at content_behind content_spelled byte_at
content_again contents.Mark rest is = refl
content_again (contents.Text word) rest is = rw (word_again word rest is) refl
content_again (contents.Number number) rest is = rw (signed_again number rest is) refl
