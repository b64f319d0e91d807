-- The entries of files are replayed one after the other, by rising index, each read from its place, and what each releases is marked.
use Rattle.std.proofs.Common.{◌≡◌, ◌⊎◌, inl, inr, ⊎_elim, ℕ, ◌<◌, ◌≤◌, Bool, T, cond, IsTrue, [], ◌∷◌, ◌++◌, Option, Some, None, refl, sym, ap, subst, ◌∙◌, arith, Contains}
use Rattle.std.specs.FinMap.{empty, get, get-empty, insert, is_sorted}
use Rattle.std.specs.Ordering.{nat_cmp}
use Rattle.std.proofs.lemmas.Bool.{cases_lt, le-leb, lt-leb}
use Rattle.host_types.specs.Cells.{Cells}
use Rattle.host_types.specs.declared.entry.Entry.{Entry}
use Rattle.log_model.specs.cleaning.Cells.{Numbered, after, cells, cells_from, up_to}
use Rattle.log_model.specs.cleaning.Cleaning.{entry_at}
use Rattle.log_model.specs.hosted.Hosted.{Hosted}
use Rattle.log_model.specs.replay.Replay.{Telling, replay_entry, replay_from}
use Rattle.segment_set.proofs.Images.{here, nothing, one_of}
use Rattle.segment_set.proofs.Lying.{there}
use Rattle.log_model.proofs.Lookups.{T_from}
use Rattle.log_model.proofs.cleaning.Compactions.{each_at}
use Rattle.log_model.proofs.cleaning.Indexed.{Each, each_up_to, sorted_parts}
use Rattle.released_marks.specs.Marks.{Marks}
use Rattle.host_core.specs.Marking.{AreMarked, AreMarksOf}
use Rattle.host_core.proofs.MarksOfLogs.{marks_of_more}

-- one entry more
pub replay_more : (telling : Telling) (cut : ℕ) (s : Hosted) (xs : Numbered) (x : ℕ × Entry) → replay_from telling cut s (xs ++ x ∷ []) ≡ replay_entry telling cut (replay_from telling cut s xs) x
replay_more telling cut s [] x = refl
replay_more telling cut s (y ∷ xs) x = replay_more telling cut (replay_entry telling cut s y) xs x

-- ---- ENTRIES by rising index

-- each is above the one before, and the first above this index
abbrev pub RiseFrom : ℕ → Numbered → Type 0
RiseFrom low [] = Unit {0}
RiseFrom low (x ∷ xs) = (low < x.0) × RiseFrom x.0 xs

kept : (k : ℕ) (x : ℕ × Entry) (xs : Numbered) → x.0 ≤ k → up_to k (x ∷ xs) ≡ x ∷ up_to k xs
kept k x xs le = ap (λ (t : Bool). cond t (x ∷ up_to k xs) (up_to k xs)) (le-leb x.0 k le)

left_out : (k : ℕ) (x : ℕ × Entry) (xs : Numbered) → k < x.0 → up_to k (x ∷ xs) ≡ up_to k xs
left_out k x xs lt = ap (λ (t : Bool). cond t (x ∷ up_to k xs) (up_to k xs)) (lt-leb x.0 k lt)

pub none_up_to : (k low : ℕ) (xs : Numbered) → k ≤ low → RiseFrom low xs → up_to k xs ≡ []
none_up_to k low [] le rise = refl
none_up_to k low (x ∷ xs) le rise = left_out k x xs (let above = rise.0 in omega (arith, above, le)) ∙ none_up_to k x.0 xs (let above = rise.0 in omega (arith, above, le)) rise.1

pub all_up_to : (k : ℕ) (xs : Numbered) → ((x : ℕ × Entry) → Contains xs x → x.0 ≤ k) → up_to k xs ≡ xs
all_up_to k [] low = refl
all_up_to k (x ∷ xs) low = kept k x xs (low x (here x xs)) ∙ ap (λ (l : Numbered). x ∷ l) (all_up_to k xs (λ y has. low y (there x xs y has)))

above : (low : ℕ) (xs : Numbered) (x : ℕ × Entry) → RiseFrom low xs → Contains xs x → low < x.0
above low [] x rise has = absurd (nothing x has)
above low (y ∷ xs) x rise has = ⊎_elim
    (λ is. let first = rise.0 in subst (λ (z : ℕ × Entry). low < z.0) is first)
    (λ later. let first = rise.0 in let rest = above y.0 xs x rise.1 later in omega (arith, first, rest))
    (one_of y xs x has)

-- the one that comes next after an index
pub next_up_to : (low index : ℕ) (xs : Numbered) (i : ℕ) (entry : Entry) → RiseFrom low xs → Contains xs (i, entry) → index < i → ((x : ℕ × Entry) → Contains xs x → index < x.0 → i ≤ x.0)
    → up_to i xs ≡ up_to index xs ++ (i, entry) ∷ []
next_up_to low index [] i entry rise has later least = absurd (nothing (i, entry) has)
next_up_to low index (x ∷ xs) i entry rise has later least = ⊎_elim
    (λ before.
    let in_rest : Contains xs (i, entry) = ⊎_elim (λ is. let same = ap (λ (z : ℕ × Entry). z.0) is in absurd (omega (arith, same, before, later))) (λ rest. rest) (one_of x xs (i, entry) has) in
    kept i x xs (omega (arith, before, later))
    ∙ ap (λ (l : Numbered). x ∷ l) (next_up_to x.0 index xs i entry rise.1 in_rest later (λ y h. least y (there x xs y h)))
    ∙ ap (λ (l : Numbered). l ++ (i, entry) ∷ []) (sym (kept index x xs before)))
    (λ (behind : index < x.0).
    let low_x = least x (here x xs) behind in
    let is : x ≡ (i, entry) = ⊎_elim (λ same. same) (λ rest. let up = above x.0 xs (i, entry) rise.1 rest in absurd (omega (arith, up, low_x))) (one_of x xs (i, entry) has) in
    let at : x.0 ≡ i = ap (λ (z : ℕ × Entry). z.0) is in
    kept i x xs (omega (arith, at))
    ∙ (λ j. is j ∷ none_up_to i x.0 xs (omega (arith, at)) rise.1 j)
    ∙ ap (λ (l : Numbered). l ++ (i, entry) ∷ []) (sym (left_out index x xs behind ∙ none_up_to index x.0 xs (omega (arith, behind)) rise.1)))
    (cases x.0 index)
  where
    cases : (a b : ℕ) → (a ≤ b) ⊎ (b < a)
    cases a b = ⊎_elim (λ less. inr less) (λ le. inl le) (cases_lt b a)

-- ---- the replay so far

-- an index above these
none_above : (k : ℕ) (xs : Numbered) (i : ℕ) → k < i → entry_at (up_to k xs) i ≡ None
none_above k xs i behind = go (entry_at (up_to k xs) i) refl
  where
    any : (xs : Numbered) → Each (λ _ _. Unit {0}) xs
    any [] = tt
    any (x ∷ xs) = (tt, any xs)

    go : (o : Option Entry) → entry_at (up_to k xs) i ≡ o → entry_at (up_to k xs) i ≡ None
    go None is = is
    go (Some e) is = let low = (each_at (λ i _. Unit {0} × (i ≤ k)) (up_to k xs) (each_up_to (λ _ _. Unit {0}) k xs (any xs)) i e is).1 in absurd (omega (arith, low, behind))

-- the cells of a replay are those of its entries
cells_replayed : (telling : Telling) (cut : ℕ) (s : Hosted) (xs : Numbered) → (replay_from telling cut s xs).cells ≡ cells_from s.cells xs
cells_replayed telling cut s [] = refl
cells_replayed telling cut s (x ∷ xs) = cells_replayed telling cut (replay_entry telling cut s x) xs

-- the entries up to an index were replayed, and what they released was marked
pub record Replayed (telling : Telling) (cut : ℕ) (first : Hosted) (all : Numbered) (index : ℕ) (now : Hosted) (marks_now : Marks) : Type 0 where
  pub state : now ≡ replay_from telling cut first (up_to index all)
  pub marks : AreMarksOf (up_to index all) marks_now

module _ (telling : Telling) (cut : ℕ) (first : Hosted) (all : Numbered) (rise : RiseFrom 0 all) (empty_first : first.cells ≡ []) where
  -- the next one was replayed
  pub replayed_next : (index i : ℕ) (entry : Entry) (now new : Hosted) (marks marks' : Marks) → Replayed telling cut first all index now marks → Contains all (i, entry) → index < i → ((x : ℕ × Entry) → Contains all x → index < x.0 → i ≤ x.0)
      → new ≡ replay_entry telling cut now (i, entry) → AreMarked i now.cells new.cells (insert marks i None) marks' → Replayed telling cut first all i new marks'
  replayed_next index i entry now new marks marks' so_far has later least is step =
      let up = next_up_to 0 index all i entry rise has later least in
      let before : now.cells ≡ cells (up_to index all) = ap (λ (s : Hosted). s.cells) so_far.state ∙ cells_replayed telling cut first (up_to index all) ∙ ap (λ (c : Cells). cells_from c (up_to index all)) empty_first in
      let after_it : new.cells ≡ after (cells (up_to index all)) i entry = ap (λ (s : Hosted). s.cells) is ∙ ap (λ (c : Cells). after c i entry) before in
      record {
        state = is
            ∙ ap (λ (s : Hosted). replay_entry telling cut s (i, entry)) so_far.state
            ∙ sym (replay_more telling cut first (up_to index all) (i, entry))
            ∙ ap (replay_from telling cut first) (sym up);
        marks = subst (λ (xs : Numbered). AreMarksOf xs marks') (sym up)
            (marks_of_more (up_to index all) i entry marks marks' (none_above index all i later) so_far.marks
            (subst (λ (c : Cells × Cells). AreMarked i c.0 c.1 (insert marks i None) marks') (λ j. (before j, after_it j)) step));
      }

  pub none_yet : (marks : Marks) → marks ≡ empty → Replayed telling cut first all 0 first marks
  none_yet marks none = let nothing_up = none_up_to 0 0 all (omega arith) rise in record {
    state = ap (replay_from telling cut first) (sym nothing_up);
    marks = subst (λ (xs : Numbered). AreMarksOf xs marks) (sym nothing_up) (λ j. ap (λ m. get m j) none ∙ get-empty nat_cmp j);
  }

pub replayed_all : {telling : Telling} {cut : ℕ} {first : Hosted} {all : Numbered} {index : ℕ} {now : Hosted} {marks : Marks} → ((x : ℕ × Entry) → Contains all x → x.0 ≤ index) → Replayed telling cut first all index now marks
    → (now ≡ replay_from telling cut first all) × AreMarksOf all marks
replayed_all {telling} {cut} {first} {all} {index} {now} {marks} low so_far = let whole = all_up_to index all low in (
  so_far.state ∙ ap (replay_from telling cut first) whole,
  subst (λ (xs : Numbered). AreMarksOf xs marks) whole so_far.marks,
)

-- ---- what rises, in the form of finite maps

pub rises : (xs : Numbered) → IsTrue (is_sorted nat_cmp xs) → ((x : ℕ × Entry) → Contains xs x → 1 ≤ x.0) → RiseFrom 0 xs
rises [] sorted first = tt
rises (x ∷ xs) sorted first = (first x (here x xs), go x xs (T_from _ sorted))
  where
    go : (x : ℕ × Entry) (xs : Numbered) → T (is_sorted nat_cmp (x ∷ xs)) → RiseFrom x.0 xs
    go x [] sorted = tt
    go x (y ∷ ys) sorted = let p = sorted_parts x (y ∷ ys) sorted in (p.0.0, go y ys p.1)
