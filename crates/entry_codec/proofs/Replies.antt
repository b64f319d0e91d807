-- Replies: what is read is spelled so, and what is spelled so is read.
use Rattle.std.proofs.Common.{◌≡◌, ℕ, zero, suc, ◌≤◌, List, [], ◌∷◌, ◌++◌, length, Ok, refl, sym, ap, ◌∙◌, append_assoc, arith}
use Rattle.std.specs.List.{flat_map, AllByRecursion}
use Rattle.std.proofs.lemmas.List.Concat.{flat_map-cons}
use Rattle.host_types.specs.Limits.{words_limit, indexes_limit}
use Rattle.host_types.specs.declared.entry.Reply.{Reply}
use Rattle.host_types.specs.declared.entry.Reply.TheVariants as replies
use Rattle.entry_codec.specs.Spelled.{number_spelled, text_spelled, reply_spelled, IsUnsigned, IsIndex, IsWord, ReplyFits, IsReplyInRange}
use Rattle.entry_codec.specs.Reading.{byte_at, number_at, signed_at, index_at, word_at, flag_at, count_at, holder_at, words_behind, words_at, indexes_behind, indexes_at, reply_behind, reply_at}
use Rattle.entry_codec.proofs.Fields.{IsBytes, Meets, bind_meets, weaker, made_meets, Found, joined, next, tag_meets, tagged_meets, unsigned_index, number_meets, number_again, signed_meets, signed_again, index_meets, index_again, word_meets, word_again, flag_meets, flag_again, count_meets, count_again}

abbrev pub IsReply : Reply → Type 0
IsReply reply = ReplyFits reply × IsReplyInRange reply

holder_meets : (bytes : List ℕ) → IsBytes bytes → Meets (length bytes) (Found reply_spelled IsReply (5 ∷ bytes)) (holder_at bytes)
unfolding holder_at reply_spelled
holder_meets bytes fits =
    next (length bytes) bytes (index_at bytes) _ (omega arith) (index_meets bytes fits) (λ session s behind_session.
    next (length bytes) session.1 (number_at session.1) _ behind_session (number_meets session.1 s.rest_fits) (λ id i behind_id.
    record {
      met = record {
        parts = ap (λ (l : List ℕ). 5 ∷ l) (joined bytes (number_spelled session.0) session.1 (number_spelled id.0) id.1 s.parts i.parts);
        rest_fits = i.rest_fits;
        right = ((unsigned_index session.0 s.right.1, i.right), s.right);
      };
    }))

-- ---- lists

abbrev AreWords : ℕ → List (List ℕ) → Type 0
AreWords count words = (length words ≡ count) × AllByRecursion IsWord words

words_behind_meets : (count : ℕ) (bytes : List ℕ) → IsBytes bytes → Meets (length bytes) (Found (flat_map text_spelled) (AreWords count) bytes) (words_behind count bytes)
unfolding words_behind
words_behind_meets zero bytes fits = record { met = record { parts = refl; rest_fits = fits; right = (refl, tt) } }
words_behind_meets (suc count) bytes fits =
    next (length bytes) bytes (word_at bytes) _ (omega arith) (word_meets bytes fits) (λ first f behind_first.
    next (length bytes) first.1 (words_behind count first.1) _ behind_first (words_behind_meets count first.1 f.rest_fits) (λ others o behind_others.
    record {
      met = record {
        parts = joined bytes (text_spelled first.0) first.1 (flat_map text_spelled others.0) others.1 f.parts o.parts ∙ ap (λ (l : List ℕ). l ++ others.1) (sym (flat_map-cons text_spelled first.0 others.0));
        rest_fits = o.rest_fits;
        right = (ap suc o.right.0, (f.right, o.right.1));
      };
    }))

words_behind_again : (words : List (List ℕ)) (rest : List ℕ) → AllByRecursion IsWord words → words_behind (length words) (flat_map text_spelled words ++ rest) ≡ Ok (words, rest)
unfolding words_behind
words_behind_again [] rest is = refl
words_behind_again (word ∷ words) rest is =
    let regrouped : flat_map text_spelled (word ∷ words) ++ rest ≡ text_spelled word ++ (flat_map text_spelled words ++ rest) = ap (λ (l : List ℕ). l ++ rest) (flat_map-cons text_spelled word words) ∙ append_assoc (text_spelled word) (flat_map text_spelled words) rest in
    ap (words_behind (suc (length words))) regrouped ∙ rw (word_again word (flat_map text_spelled words ++ rest) is.0, words_behind_again words rest is.1) refl

abbrev words_spelled : List (List ℕ) → List ℕ
words_spelled words = length words ∷ flat_map text_spelled words

abbrev AreFewWords : List (List ℕ) → Type 0
AreFewWords words = (length words ≤ words_limit) × AllByRecursion IsWord words

words_meets : (bytes : List ℕ) → IsBytes bytes → Meets (length bytes) (Found words_spelled AreFewWords bytes) (words_at bytes)
unfolding words_at
words_meets bytes fits = bind_meets (count_at words_limit bytes) _ (count_meets words_limit bytes fits) (λ count c.
    let whole = c.parts in
    let most = c.most in
    weaker (length bytes) _ (words_behind count.0 count.1) (omega (arith, ap length whole)) (words_behind_meets count.0 count.1 c.rest_fits) (λ words w.
    let are = w.right.0 in
    record {
      parts = whole ∙ ap (λ (l : List ℕ). count.0 ∷ l) w.parts ∙ ap (λ (n : ℕ). n ∷ (flat_map text_spelled words.0 ++ words.1)) (sym are);
      rest_fits = w.rest_fits;
      right = (omega (arith, are, most), w.right.1);
    }))

words_again : (words : List (List ℕ)) (rest : List ℕ) → AreFewWords words → words_at (words_spelled words ++ rest) ≡ Ok (words, rest)
unfolding words_at
words_again words rest is = rw (count_again words_limit (length words) (flat_map text_spelled words ++ rest) is.0) (words_behind_again words rest is.1)

abbrev AreIndexes : ℕ → List ℕ → Type 0
AreIndexes count indexes = (length indexes ≡ count) × AllByRecursion IsUnsigned indexes × AllByRecursion IsIndex indexes

indexes_behind_meets : (count : ℕ) (bytes : List ℕ) → IsBytes bytes → Meets (length bytes) (Found (flat_map number_spelled) (AreIndexes count) bytes) (indexes_behind count bytes)
unfolding indexes_behind
indexes_behind_meets zero bytes fits = record { met = record { parts = refl; rest_fits = fits; right = (refl, tt, tt) } }
indexes_behind_meets (suc count) bytes fits =
    next (length bytes) bytes (index_at bytes) _ (omega arith) (index_meets bytes fits) (λ first f behind_first.
    next (length bytes) first.1 (indexes_behind count first.1) _ behind_first (indexes_behind_meets count first.1 f.rest_fits) (λ others o behind_others.
    record {
      met = record {
        parts = joined bytes (number_spelled first.0) first.1 (flat_map number_spelled others.0) others.1 f.parts o.parts ∙ ap (λ (l : List ℕ). l ++ others.1) (sym (flat_map-cons number_spelled first.0 others.0));
        rest_fits = o.rest_fits;
        right = (ap suc o.right.0, (unsigned_index first.0 f.right.1, o.right.1), (f.right, o.right.2));
      };
    }))

indexes_behind_again : (indexes rest : List ℕ) → AllByRecursion IsIndex indexes → indexes_behind (length indexes) (flat_map number_spelled indexes ++ rest) ≡ Ok (indexes, rest)
unfolding indexes_behind
indexes_behind_again [] rest is = refl
indexes_behind_again (index ∷ indexes) rest is =
    let regrouped : flat_map number_spelled (index ∷ indexes) ++ rest ≡ number_spelled index ++ (flat_map number_spelled indexes ++ rest) = ap (λ (l : List ℕ). l ++ rest) (flat_map-cons number_spelled index indexes) ∙ append_assoc (number_spelled index) (flat_map number_spelled indexes) rest in
    ap (indexes_behind (suc (length indexes))) regrouped ∙ rw (index_again index (flat_map number_spelled indexes ++ rest) is.0, indexes_behind_again indexes rest is.1) refl

abbrev indexes_spelled : List ℕ → List ℕ
indexes_spelled indexes = length indexes ∷ flat_map number_spelled indexes

abbrev AreFewIndexes : List ℕ → Type 0
AreFewIndexes indexes = (length indexes ≤ indexes_limit) × AllByRecursion IsUnsigned indexes × AllByRecursion IsIndex indexes

indexes_meets : (bytes : List ℕ) → IsBytes bytes → Meets (length bytes) (Found indexes_spelled AreFewIndexes bytes) (indexes_at bytes)
unfolding indexes_at
indexes_meets bytes fits = bind_meets (count_at indexes_limit bytes) _ (count_meets indexes_limit bytes fits) (λ count c.
    let whole = c.parts in
    let most = c.most in
    weaker (length bytes) _ (indexes_behind count.0 count.1) (omega (arith, ap length whole)) (indexes_behind_meets count.0 count.1 c.rest_fits) (λ indexes w.
    let are = w.right.0 in
    record {
      parts = whole ∙ ap (λ (l : List ℕ). count.0 ∷ l) w.parts ∙ ap (λ (n : ℕ). n ∷ (flat_map number_spelled indexes.0 ++ indexes.1)) (sym are);
      rest_fits = w.rest_fits;
      right = (omega (arith, are, most), w.right.1, w.right.2);
    }))

indexes_again : (indexes rest : List ℕ) → length indexes ≤ indexes_limit → AllByRecursion IsIndex indexes → indexes_at (indexes_spelled indexes ++ rest) ≡ Ok (indexes, rest)
unfolding indexes_at
indexes_again indexes rest few is = rw (count_again indexes_limit (length indexes) (flat_map number_spelled indexes ++ rest) few) (indexes_behind_again indexes rest is)

-- ---- replies

reply_behind_meets : (tag : ℕ) (bytes : List ℕ) → IsBytes bytes → Meets (suc (length bytes)) (Found reply_spelled IsReply (tag ∷ bytes)) (reply_behind (suc (length bytes)) tag bytes)
unfolding reply_behind reply_spelled
reply_behind_meets tag bytes fits =
    tag_meets reply_spelled IsReply tag 0 bytes _ _ (record { met = record { parts = refl; rest_fits = fits; right = (tt, tt) } })
    (tag_meets reply_spelled IsReply tag 1 bytes _ _ (made_meets replies.Text (word_at bytes) (word_meets bytes fits) (λ x f. record { parts = ap (λ (l : List ℕ). 1 ∷ l) f.parts; rest_fits = f.rest_fits; right = (f.right, tt) }))
    (tag_meets reply_spelled IsReply tag 2 bytes _ _ (made_meets replies.Number (signed_at bytes) (signed_meets bytes fits) (λ x f. record { parts = ap (λ (l : List ℕ). 2 ∷ l) f.parts; rest_fits = f.rest_fits; right = (f.right, tt) }))
    (tag_meets reply_spelled IsReply tag 3 bytes _ _ (made_meets replies.Truth (flag_at bytes) (flag_meets bytes fits) (λ x f. record { parts = ap (λ (l : List ℕ). 3 ∷ l) f.parts; rest_fits = f.rest_fits; right = (tt, tt) }))
    (tag_meets reply_spelled IsReply tag 4 bytes _ _ (made_meets replies.Index (index_at bytes) (index_meets bytes fits) (λ x f. record { parts = ap (λ (l : List ℕ). 4 ∷ l) f.parts; rest_fits = f.rest_fits; right = (unsigned_index x.0 f.right.1, f.right) }))
    (tag_meets reply_spelled IsReply tag 5 bytes _ _ (holder_meets bytes fits)
    (tag_meets reply_spelled IsReply tag 6 bytes _ _ (made_meets replies.Words (words_at bytes) (words_meets bytes fits) (λ x f. record { parts = ap (λ (l : List ℕ). 6 ∷ l) f.parts; rest_fits = f.rest_fits; right = (f.right, tt) }))
    (tag_meets reply_spelled IsReply tag 7 bytes _ _ (made_meets replies.Indexes (indexes_at bytes) (indexes_meets bytes fits) (λ x f. record { parts = ap (λ (l : List ℕ). 7 ∷ l) f.parts; rest_fits = f.rest_fits; right = ((f.right.0, f.right.1), f.right.2) }))
    (record { met = omega arith }))))))))

pub reply_meets : (bytes : List ℕ) → IsBytes bytes → Meets (length bytes) (Found reply_spelled IsReply bytes) (reply_at bytes)
unfolding reply_at
reply_meets bytes fits = tagged_meets reply_spelled IsReply bytes reply_behind fits reply_behind_meets

pub reply_again : (reply : Reply) (rest : List ℕ) → IsReply reply → reply_at (reply_spelled reply ++ rest) ≡ Ok (reply, rest)
unfolding reply_at reply_behind reply_spelled byte_at holder_at
reply_again replies.None rest is = refl
reply_again (replies.Text word) rest is = rw (word_again word rest is.0) refl
reply_again (replies.Number number) rest is = rw (signed_again number rest is.0) refl
reply_again (replies.Truth truth) rest is = rw (flag_again truth rest) refl
reply_again (replies.Index index) rest is = rw (index_again index rest is.1) refl
reply_again (replies.Holder session id) rest is = rw (append_assoc (number_spelled session) (number_spelled id) rest, index_again session (number_spelled id ++ rest) is.1, number_again id rest is.0.1) refl
reply_again (replies.Words words) rest is = rw (words_again words rest is.0) refl
reply_again (replies.Indexes indexes) rest is = rw (indexes_again indexes rest is.0.0 is.1) refl
