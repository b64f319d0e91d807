-- The bytes that a frame is made of, and where its entries stand.
use Rattle.std.proofs.Common.{◌≡◌, ℕ, ◌+◌, List, [], ◌∷◌, ◌++◌, length, take, drop, get_or, ◌<◌, Bor, sym, ap, ◌∙◌, arith, append_assoc, length-append}
use Rattle.std.proofs.lemmas.List.{append-nil, take_more, take_all, drop_all, take_at, drop_at, get_or-map, length-map}
use Rattle.disk_model.specs.Image.{written}
use Rattle.host_types.specs.declared.entry.Entry.{Entry}
use Rattle.entry_codec.specs.Spelled.{spelled}
use Rattle.segment_files.specs.Parse.{Numbered}
use Rattle.segment_files.specs.Contents.{body_bytes, lent, places_from}

-- with one entry more
pub body-push : (es : Numbered) (index : ℕ) (entry : Entry) → body_bytes (es ++ (index, entry) ∷ []) ≡ body_bytes es ++ spelled index entry
body-push [] index entry = append-nil (spelled index entry)
body-push (e ∷ es) index entry = ap (λ (l : List ℕ). spelled e.0 e.1 ++ l) (body-push es index entry) ∙ sym (append_assoc (spelled e.0 e.1) (body_bytes es) (spelled index entry))

pub places-push : (at : ℕ) (es : Numbered) (index : ℕ) (entry : Entry) → places_from at (es ++ (index, entry) ∷ []) ≡ places_from at es ++ (at + length (body_bytes es)) ∷ []
places-push at [] index entry = ap (λ (k : ℕ). k ∷ []) (omega arith)
places-push at (e ∷ es) index entry =
    let here = spelled e.0 e.1 in
    ap (λ (l : List ℕ). at ∷ l) (places-push (at + length here) es index entry)
    ∙ ap (λ (k : ℕ). at ∷ (places_from (at + length here) es ++ k ∷ [])) (omega (arith, length-append here (body_bytes es)))

-- as many entries as were gone through, and this one
pub one_lent_more : (es : List (ℕ × Bor Entry)) (n : ℕ) (e : ℕ × Bor Entry) → n < length es → e ≡ get_or es n e → take (n + 1) (lent es) ≡ take n (lent es) ++ (e.0, e.1.now) ∷ []
one_lent_more es n e lt is =
    let number : ℕ × Bor Entry → ℕ × Entry = λ x. (x.0, x.1.now) in
    let below : n < length (lent es) = omega (arith, lt, length-map es number) in
    take_more (lent es) n (number e) below ∙ ap (λ (x : ℕ × Entry). take n (lent es) ++ x ∷ []) (get_or-map number es n e (number e) lt ∙ ap number (sym is))

-- what a slice of all bytes wrote back
written_back : (x items : List ℕ) (long : ℕ) → length x ≡ long → length items ≡ long → take long (x ++ drop (length x) items) ≡ x
written_back x items long same all =
    ap (λ (l : List ℕ). take long (x ++ l)) (drop_all (length x) items (omega (arith, same, all))) ∙ ap (take long) (append-nil x) ∙ take_all long x (omega (arith, same))

-- the length that is put where room was left for it
size_put : (old size body : List ℕ) (start : ℕ) → length old ≡ start → length size ≡ 4 → written ((old ++ 1 ∷ 0 ∷ 0 ∷ 0 ∷ 0 ∷ []) ++ body) (start + 1) size ≡ old ++ (1 ∷ (size ++ body))
size_put old size body start long four =
    let head : List ℕ = old ++ 1 ∷ 0 ∷ 0 ∷ 0 ∷ 0 ∷ [] in
    let front : List ℕ = old ++ 1 ∷ [] in
    let split : head ++ body ≡ front ++ (0 ∷ 0 ∷ 0 ∷ 0 ∷ body) = append_assoc old (1 ∷ 0 ∷ 0 ∷ 0 ∷ 0 ∷ []) body ∙ sym (append_assoc old (1 ∷ []) (0 ∷ 0 ∷ 0 ∷ 0 ∷ body)) in
    let ahead : take (start + 1) (head ++ body) ≡ front = ap (take (start + 1)) split ∙ take_at front (0 ∷ 0 ∷ 0 ∷ 0 ∷ body) (start + 1) (omega (arith, length-append old (1 ∷ []), long)) in
    let behind : drop (start + 1 + length size) (head ++ body) ≡ body = drop_at head body (start + 1 + length size) (omega (arith, length-append old (1 ∷ 0 ∷ 0 ∷ 0 ∷ 0 ∷ []), long, four)) in
    ap (λ (l : List ℕ). l ++ size ++ drop (start + 1 + length size) (head ++ body)) ahead
    ∙ ap (λ (l : List ℕ). front ++ size ++ l) behind
    ∙ append_assoc front size body
    ∙ append_assoc old (1 ∷ []) (size ++ body)

-- the frame, from the bytes with room for its length
pub frame_put : (old out new size : List ℕ) (body : List ℕ) (start long : ℕ) → length old ≡ start → out ≡ (old ++ 1 ∷ 0 ∷ 0 ∷ 0 ∷ 0 ∷ []) ++ body → length out ≡ long → length size ≡ 4
    → new ≡ written out (start + 1) size → length new ≡ long → take long (new ++ drop (length new) out) ≡ old ++ (1 ∷ (size ++ body))
frame_put old out new size body start long old_long out_is out_long four new_is new_long =
    written_back new out long new_long out_long ∙ new_is ∙ ap (λ (l : List ℕ). written l (start + 1) size) out_is ∙ size_put old size body start old_long four
