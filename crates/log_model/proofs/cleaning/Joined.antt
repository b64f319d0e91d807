-- The replay of what is left beside the replay of all, entry by entry. For `central_law`.
use Rattle.std.proofs.Common.{◌≡◌, ◌≢◌, ℕ, ◌<◌, Bool, true, false, cond, not, ◌||◌, ◌==◌, T, List, [], ◌∷◌, Option, Some, None, is_some, refl, sym, ap, subst, ◌∙◌, arith, eqb-true, eq-eqb}
use Rattle.std.proofs.lemmas.Bool.{or_parts, and_parts, and_from, not-true, or_left, or_right}
use Rattle.std.specs.List.{list_any}
use Rattle.std.specs.FinMap.{is_sorted}
use Rattle.std.specs.FinMap.Entries.{where_key}
use Rattle.std.specs.Ordering.{nat_cmp}
use Rattle.host_types.specs.declared.entry.Cell.{Cell}
use Rattle.host_types.specs.declared.entry.Content.{Content}
use Rattle.host_types.specs.declared.entry.Effect.{Effect}
use Rattle.host_types.specs.declared.entry.Effect.TheVariants.{Create, Put}
use Rattle.host_types.specs.declared.entry.Body.{Body}
use Rattle.host_types.specs.declared.entry.Body.TheVariants.{Alive, Close, Command}
use Rattle.host_types.specs.declared.entry.Entry.{Entry}
use Rattle.host_types.specs.Cells.{Place, Name_at, Cell_at, Register_at, Alive_at, Held, place_cmp, Cells, at, marked, filled, effect_puts, is_owned_by, stands, is_name_for}
use Rattle.log_model.specs.cleaning.Cells.{puts, is_session_place, covers, covers_any, owner_stands, fits_with_owner, fits, after, Numbered, cells_from}
use Rattle.log_model.specs.cleaning.Cleaning.{closes_standing}
use Rattle.host_types.proofs.Places.{place_total, exact_places}
use Rattle.log_model.proofs.Lookups.{found_from_any, any_from_found}
use Rattle.log_model.proofs.cleaning.Changes.{Change, Written, Taken, Left, change, sorted-after}
use Rattle.log_model.proofs.cleaning.Entries.{single, puts-index, covers_puts, register_put, name_put, close_covers, delete_covers, covers_of_any}

-- the entries' indexes are above n
abbrev pub Below : ℕ → Numbered → Type 0
Below n [] = Unit {0}
Below n (x ∷ xs) = (n < x.0) × Below n xs

-- what stands in the end and is older than the entries stood before them
pub back : (xs : Numbered) (c : Cells) (p : Place) (h : Held) → Below h.index xs → at (cells_from c xs) p ≡ Some h → at c p ≡ Some h
back [] c p h b e = e
back (x ∷ xs) c p h b e = go (change c x.0 x.1 p) (back xs (after c x.0 x.1) p h b.1 e)
  where
    go : Change c x.0 x.1 p → at (after c x.0 x.1) p ≡ Some h → at c p ≡ Some h
    go (Written g f w a) r =
        let i : g.index ≡ x.0 = puts-index x.0 x.1.body p g w in
        let same : g ≡ h = (cc) in
        let j : h.index ≡ g.index = ap (λ (k : Held). k.index) (sym same) in
        let low : h.index < x.0 = b.0 in
        absurd (omega arith)
    go (Taken g w v a) r = absurd (cc)
    go (Left u v s) r = sym s ∙ r

-- what an entry covers is gone after it
gone : (c : Cells) (i : ℕ) (e : Entry) (p : Place) (h : Held) → at c p ≡ Some h → covers e.body p h ≡ true → at (after c i e) p ≡ None
gone c i e p h there v = go (change c i e p)
  where
    go : Change c i e p → at (after c i e) p ≡ None
    go (Written g f w a) = let none = covers_puts i e.body p h p v in absurd (cc)
    go (Taken g w v' a) = a
    go (Left u v' s) = let left = v' h there in absurd (cc)

-- each entry at which what stands at p stays keeps what stands at q
abbrev Keeps : Place → Held → Place → Held → Type 0
Keeps p h q g = (c : Cells) (i : ℕ) (e : Entry) → closes_standing c e.body ≡ true → at c p ≡ Some h → at c q ≡ Some g → at (after c i e) p ≡ Some h → at (after c i e) q ≡ Some g

register_kept : (s : ℕ) (p : Place) (h : Held) → ((x : Bool) → covers (Close s x) p h ≡ true) → Keeps p h (Register_at s) (marked s)
register_kept s p h all c i e standing at_p at_q stays = go (change c i e (Register_at s))
  where
    go : Change c i e (Register_at s) → at (after c i e) (Register_at s) ≡ Some (marked s)
    go (Written g f w a) = a ∙ ap Some (register_put i e.body s g w)
    go (Taken g w v a) =
        let same : g ≡ marked s = (cc) in
        let v' = subst (λ k. covers e.body (Register_at s) k ≡ true) same v in
        let none = gone c i e p h at_p (close_covers e.body s p h v' all) in
        absurd (cc)
    go (Left u v s') = s' ∙ at_q

name_kept : (n : List ℕ) (g : Held) (cell : Cell) (h : Held) → g.owner ≡ None → Keeps (Cell_at g.index cell) h (Name_at n) g
name_kept n g cell h unowned c i e standing at_p at_q stays = go (change c i e (Name_at n))
  where
    go : Change c i e (Name_at n) → at (after c i e) (Name_at n) ≡ Some g
    go (Written k f w a) = let none = (name_put c i e.body n k f w).0 in absurd (cc)
    go (Taken k w v a) =
        let same : k ≡ g = (cc) in
        let v' = subst (λ x. covers e.body (Name_at n) x ≡ true) same v in
        let none = gone c i e (Cell_at g.index cell) h at_p (delete_covers c e.body n g cell h v' unowned standing at_q) in
        absurd (cc)
    go (Left u v s) = s ∙ at_q

-- what is true of the whole replay
pub record Sane (owner_of : Place → Option ℕ) (c : Cells) (xs : Numbered) : Type 0 where
  pub owns : (p : Place) (h : Held) → at c p ≡ Some h → h.owner ≡ owner_of p
  pub below : (p : Place) (h : Held) → at c p ≡ Some h → Below h.index xs
  pub registers : (s : ℕ) (g : Held) → at c (Register_at s) ≡ Some g → g ≡ marked s
  pub names : (n : List ℕ) (g : Held) → at c (Name_at n) ≡ Some g → g.owner ≡ None
  pub sorted : T (is_sorted place_cmp c)

-- those of the entries that aren't present cover none of these
abbrev pub Spared : (ℕ → Bool) → List (Place × Held) → Numbered → Type 0
Spared present ws [] = Unit {0}
Spared present ws (x ∷ xs) = (present x.0 ≡ false → covers_any x.1.body ws ≡ false) × Spared present ws xs

pub record FineStep (present : ℕ → Bool) (owner_of : Place → Option ℕ) (c : Cells) (x : ℕ × Entry) (xs : Numbered) : Type 0 where
  pub fitting : fits c x.1.body ≡ true
  pub standing : closes_standing c x.1.body ≡ true
  pub owned : (p : Place) (h : Held) → at (puts x.0 x.1.body) p ≡ Some h → h.owner ≡ owner_of p
  pub rising : Below x.0 xs
  pub spared : present x.0 ≡ true → Spared present (puts x.0 x.1.body) xs
  pub free : present x.0 ≡ false → (p : Place) (h : Held) → at (cells_from (after c x.0 x.1) xs) p ≡ Some h → h.index ≢ x.0

abbrev pub Fine : (ℕ → Bool) → (Place → Option ℕ) → Cells → Numbered → Type 0
Fine present owner_of c [] = Unit {0}
Fine present owner_of c (x ∷ xs) = FineStep present owner_of c x xs × Fine present owner_of (after c x.0 x.1) xs

-- what is true of both replays, beside each other
pub record Join (present : ℕ → Bool) (owner_of : Place → Option ℕ) (c d : Cells) (xs : Numbered) : Type 0 where
  pub none : (p : Place) → at c p ≡ None → at d p ≡ None
  pub stay : (p : Place) (h : Held) → at c p ≡ Some h → at (cells_from c xs) p ≡ Some h → at d p ≡ Some h
  pub owns : (p : Place) (h : Held) → at d p ≡ Some h → h.owner ≡ owner_of p
  pub safe : (p : Place) (h : Held) → at d p ≡ Some h → Spared present ((p, h) ∷ []) xs

supported : (present : ℕ → Bool) (owner_of : Place → Option ℕ) (xs : Numbered) (c : Cells) (p : Place) (h : Held) (q : Place) (g : Held) → Fine present owner_of c xs → Below h.index xs → Keeps p h q g → at c p ≡ Some h → at c q ≡ Some g → at (cells_from c xs) p ≡ Some h → at (cells_from c xs) q ≡ Some g
supported present owner_of [] c p h q g fine b keeps at_p at_q end = at_q
supported present owner_of (x ∷ xs) c p h q g fine b keeps at_p at_q end =
    let next = back xs (after c x.0 x.1) p h b.1 end in
    supported present owner_of xs (after c x.0 x.1) p h q g fine.1 b.1 keeps next (keeps c x.0 x.1 fine.0.standing at_p at_q next) end

-- an entry whose put is there in the end keeps the register places and names that stand
register_beside : (c : Cells) (i : ℕ) (e : Entry) (p : Place) (h : Held) (s : ℕ) → at (puts i e.body) p ≡ Some h → at c (Register_at s) ≡ Some (marked s) → at (after c i e) (Register_at s) ≡ Some (marked s)
register_beside c i e p h s w at_q = go (change c i e (Register_at s))
  where
    go : Change c i e (Register_at s) → at (after c i e) (Register_at s) ≡ Some (marked s)
    go (Written g f w' a) = a ∙ ap Some (register_put i e.body s g w')
    go (Taken g w' v a) = let none = covers_puts i e.body (Register_at s) g p v in absurd (cc)
    go (Left u v s') = s' ∙ at_q

name_beside : (c : Cells) (i : ℕ) (e : Entry) (p : Place) (h : Held) (n : List ℕ) (g : Held) → at (puts i e.body) p ≡ Some h → at c (Name_at n) ≡ Some g → at (after c i e) (Name_at n) ≡ Some g
name_beside c i e p h n g w at_q = go (change c i e (Name_at n))
  where
    go : Change c i e (Name_at n) → at (after c i e) (Name_at n) ≡ Some g
    go (Written k f w' a) = let none = (name_put c i e.body n k f w').0 in absurd (cc)
    go (Taken k w' v a) = let none = covers_puts i e.body (Name_at n) k p v in absurd (cc)
    go (Left u v s) = s ∙ at_q

-- names and register places on which a put at p rests
record Rests (c d : Cells) (p : Place) (h : Held) : Type 0 where
  names : (n : List ℕ) (g : Held) (cell : Cell) → at c (Name_at n) ≡ Some g → p ≡ Cell_at g.index cell → at d (Name_at n) ≡ Some g
  registers : (s : ℕ) → stands c (Register_at s) ≡ true → ((x : Bool) → covers (Close s x) p h ≡ true) → stands d (Register_at s) ≡ true
  none : (q : Place) → at c q ≡ None → at d q ≡ None

same_session : (s : ℕ) → (s == s) ≡ true
same_session s = eq-eqb s s refl

missing : (o : Option Held) → is_some o ≡ false → o ≡ None
missing None e = refl
missing (Some h) e = absurd (cc)

owner_fits : (c d : Cells) (p : Place) (h : Held) → Rests c d p h → (owner : Option ℕ) → h.owner ≡ owner → owner_stands c owner ≡ true → owner_stands d owner ≡ true
owner_fits c d p h r None o f = refl
owner_fits c d p h r (Some s) o f = r.registers s f (λ x. or_right (is_session_place s p) (is_owned_by s h.owner) (ap (is_owned_by s) o ∙ same_session s))

name_fits : (c d : Cells) (p : Place) (h : Held) → Rests c d p h → (m : ℕ) (cell at_cell : Cell) (content : Content) → p ≡ Cell_at m at_cell → (q : Place) (g : Held) → at c q ≡ Some g → is_name_for m cell content (q, g) ≡ true → at d q ≡ Some g
name_fits c d p h r m cell at_cell content is (Name_at n) g there t =
    let i : g.index ≡ m = eqb-true g.index m (and_parts _ _ t).0 in
    r.names n g at_cell there (is ∙ ap (λ k. Cell_at k at_cell) (sym i))
name_fits c d p h r m cell at_cell content is _ g there t = absurd (cc)

effect_fits_too : (c d : Cells) (p : Place) (h : Held) → T (is_sorted place_cmp c) → Rests c d p h → (i : ℕ) (f : Effect) → at (effect_puts i f) p ≡ Some h → fits_with_owner c f ≡ true → fits_with_owner d f ≡ true
effect_fits_too c d p h sorted r i (Create name kind) w f = ap (λ o. not (is_some o)) (r.none (Name_at name) (missing (at c (Name_at name)) (not-true _ f)))
effect_fits_too c d p h sorted r i (Put instance cell content owner) w f =
    let is = single (Cell_at instance cell) (filled i content owner) p h w in
    let parts = and_parts (list_any (is_name_for instance cell content) c) (owner_stands c owner) f in
    let found = found_from_any place_total exact_places (is_name_for instance cell content) c sorted parts.0 in
    let there = name_fits c d p h r instance cell cell content is.0 found.0 found.1 found.2 found.3 in
    and_from (list_any (is_name_for instance cell content) d) (owner_stands d owner)
    (any_from_found place_total exact_places (is_name_for instance cell content) d found.0 found.1 there found.3)
    (owner_fits c d p h r owner (ap (λ (k : Held). k.owner) (sym is.1)) parts.1)
effect_fits_too c d p h sorted r i _ w f = refl

fits_too : (c d : Cells) (p : Place) (h : Held) → T (is_sorted place_cmp c) → Rests c d p h → (i : ℕ) (b : Body) → at (puts i b) p ≡ Some h → fits c b ≡ true → fits d b ≡ true
fits_too c d p h sorted r i (Alive session seq event) w f =
    let is = single (Alive_at session) (marked i) p h w in
    r.registers session f (λ x. or_left (is_session_place session p) (is_owned_by session h.owner) (ap (is_session_place session) is.0 ∙ same_session session))
fits_too c d p h sorted r i (Command session seq effect reply) w f = effect_fits_too c d p h sorted r i effect w f
fits_too c d p h sorted r i _ w f = refl

sane_next : (present : ℕ → Bool) (owner_of : Place → Option ℕ) (c : Cells) (x : ℕ × Entry) (xs : Numbered) → Sane owner_of c (x ∷ xs) → FineStep present owner_of c x xs → Sane owner_of (after c x.0 x.1) xs
sane_next present owner_of c x xs s fine = record {
  owns = λ p h e. owns p h e (change c x.0 x.1 p);
  below = λ p h e. below p h e (change c x.0 x.1 p);
  registers = λ k g e. registers k g e (change c x.0 x.1 (Register_at k));
  names = λ n g e. names n g e (change c x.0 x.1 (Name_at n));
  sorted = sorted-after c x.0 x.1 s.sorted;
}
  where
    d : Cells
    d = after c x.0 x.1

    owns : (p : Place) (h : Held) → at d p ≡ Some h → Change c x.0 x.1 p → h.owner ≡ owner_of p
    owns p h e (Written g f w a) = fine.owned p h (w ∙ sym a ∙ e)
    owns p h e (Taken g w v a) = absurd (cc)
    owns p h e (Left u v same) = s.owns p h (sym same ∙ e)

    below : (p : Place) (h : Held) → at d p ≡ Some h → Change c x.0 x.1 p → Below h.index xs
    below p h e (Written g f w a) = subst (λ n. Below n xs) (sym (puts-index x.0 x.1.body p h (w ∙ sym a ∙ e))) fine.rising
    below p h e (Taken g w v a) = absurd (cc)
    below p h e (Left u v same) = (s.below p h (sym same ∙ e)).1

    registers : (k : ℕ) (g : Held) → at d (Register_at k) ≡ Some g → Change c x.0 x.1 (Register_at k) → g ≡ marked k
    registers k g e (Written g' f w a) = register_put x.0 x.1.body k g (w ∙ sym a ∙ e)
    registers k g e (Taken g' w v a) = absurd (cc)
    registers k g e (Left u v same) = s.registers k g (sym same ∙ e)

    names : (n : List ℕ) (g : Held) → at d (Name_at n) ≡ Some g → Change c x.0 x.1 (Name_at n) → g.owner ≡ None
    names n g e (Written g' f w a) = (name_put c x.0 x.1.body n g f (w ∙ sym a ∙ e)).1
    names n g e (Taken g' w v a) = absurd (cc)
    names n g e (Left u v same) = s.names n g (sym same ∙ e)

-- what a covering looks at is the place and the owner
covers_owner : (b : Body) (p : Place) (g h : Held) → g.owner ≡ h.owner → covers b p g ≡ true → covers b p h ≡ true
covers_owner (Close session expired) p g h o v = ap (λ k. is_session_place session p || is_owned_by session k) (sym o) ∙ v
covers_owner (Command session seq effect reply) p g h o v = v
covers_owner _ p g h o v = absurd (cc)

spared_at : (present : ℕ → Bool) (ws : List (Place × Held)) (p : Place) (h : Held) → at ws p ≡ Some h → (xs : Numbered) → Spared present ws xs → Spared present ((p, h) ∷ []) xs
spared_at present ws p h there [] s = tt
spared_at present ws p h there (x ∷ xs) s =
    ((λ out. ap (λ b. b || false) (covers_of_any x.1.body ws p h there (s.0 out))), spared_at present ws p h there xs s.1)

module _ (present : ℕ → Bool) (owner_of : Place → Option ℕ) (c d : Cells) (x : ℕ × Entry) (xs : Numbered) where
  rests : Sane owner_of c (x ∷ xs) → FineStep present owner_of c x xs → Fine present owner_of (after c x.0 x.1) xs → Join present owner_of c d (x ∷ xs) → (p : Place) (h : Held) → at (puts x.0 x.1.body) p ≡ Some h → at (after c x.0 x.1) p ≡ Some h → at (cells_from (after c x.0 x.1) xs) p ≡ Some h → Rests c d p h
  rests s fine more j p h w now end = record {
    names = λ n g cell there is.
        let kept : Keeps p h (Name_at n) g = subst (λ q. Keeps q h (Name_at n) g) (sym is) (name_kept n g cell h (s.names n g there)) in
        j.stay (Name_at n) g there (supported present owner_of xs (after c x.0 x.1) p h (Name_at n) g more low kept now (name_beside c x.0 x.1 p h n g w there) end);
    registers = λ k st all. registers k (at c (Register_at k)) refl st all;
    none = j.none;
  }
    where
      low : Below h.index xs
      low = subst (λ n. Below n xs) (sym (puts-index x.0 x.1.body p h w)) fine.rising

      registers : (k : ℕ) (o : Option Held) → at c (Register_at k) ≡ o → is_some (at c (Register_at k)) ≡ true → ((y : Bool) → covers (Close k y) p h ≡ true) → is_some (at d (Register_at k)) ≡ true
      registers k None e st all = let no : is_some (at c (Register_at k)) ≡ false = ap is_some e in absurd (cc)
      registers k (Some g) e st all =
          let there : at c (Register_at k) ≡ Some (marked k) = e ∙ ap Some (s.registers k g e) in
          ap is_some (j.stay (Register_at k) (marked k) there (supported present owner_of xs (after c x.0 x.1) p h (Register_at k) (marked k) more low (register_kept k p h all) now (register_beside c x.0 x.1 p h k w there) end))

  join_present : present x.0 ≡ true → Sane owner_of c (x ∷ xs) → FineStep present owner_of c x xs → Fine present owner_of (after c x.0 x.1) xs → Join present owner_of c d (x ∷ xs) → Join present owner_of (after c x.0 x.1) (after d x.0 x.1) xs
  join_present here s fine more j = record {
    none = λ p e. none p e (change c x.0 x.1 p) (change d x.0 x.1 p);
    stay = λ p h e end. stay p h e end (change c x.0 x.1 p) (change d x.0 x.1 p);
    owns = λ p h e. owns p h e (change d x.0 x.1 p);
    safe = λ p h e. safe p h e (change d x.0 x.1 p);
  }
    where
      none : (p : Place) → at (after c x.0 x.1) p ≡ None → Change c x.0 x.1 p → Change d x.0 x.1 p → at (after d x.0 x.1) p ≡ None
      none p e _ (Taken g w v a) = a
      none p e (Written h f w a) _ = absurd (cc)
      none p e (Taken h w v a) (Written g f w' a') = let no = covers_puts x.0 x.1.body p h p v in absurd (cc)
      none p e (Taken h w v a) (Left u' v' same) = taken (at d p) refl
        where
          taken : (o : Option Held) → at d p ≡ o → at (after d x.0 x.1) p ≡ None
          taken None f = same ∙ f
          taken (Some g) f =
              let covered = covers_owner x.1.body p h g (s.owns p h w ∙ sym (j.owns p g f)) v in
              let not_covered = v' g f in
              absurd (cc)
      none p e (Left u v same) (Written g f w' a') = let no = u fine.fitting in absurd (cc)
      none p e (Left u v same) (Left u' v' same') = same' ∙ j.none p (sym same ∙ e)

      stay : (p : Place) (h : Held) → at (after c x.0 x.1) p ≡ Some h → at (cells_from (after c x.0 x.1) xs) p ≡ Some h → Change c x.0 x.1 p → Change d x.0 x.1 p → at (after d x.0 x.1) p ≡ Some h
      stay p h e end (Written g f w a) (Written g' f' w' a') = let same : g' ≡ h = (cc) in a' ∙ ap Some same
      stay p h e end (Written g f w a) (Taken g' w' v' a') = let no = covers_puts x.0 x.1.body p g' p v' in absurd (cc)
      stay p h e end (Written g f w a) (Left u' v' same') =
          let w'' : at (puts x.0 x.1.body) p ≡ Some h = w ∙ sym a ∙ e in
          let no = u' (fits_too c d p h s.sorted (rests s fine more j p h w'' e end) x.0 x.1.body w'' f) in
          absurd (cc)
      stay p h e end (Taken g w v a) _ = absurd (cc)
      stay p h e end (Left u v same) (Written g' f' w' a') = let no = u fine.fitting in absurd (cc)
      stay p h e end (Left u v same) (Taken g' w' v' a') =
          let there : at c p ≡ Some h = sym same ∙ e in
          let in_d = j.stay p h there end in
          let is : g' ≡ h = (cc) in
          let covered : covers x.1.body p h ≡ true = subst (λ k. covers x.1.body p k ≡ true) is v' in
          let not_covered = v h there in
          absurd (cc)
      stay p h e end (Left u v same) (Left u' v' same') = same' ∙ j.stay p h (sym same ∙ e) end

      owns : (p : Place) (h : Held) → at (after d x.0 x.1) p ≡ Some h → Change d x.0 x.1 p → h.owner ≡ owner_of p
      owns p h e (Written g f w a) = fine.owned p h (w ∙ sym a ∙ e)
      owns p h e (Taken g w v a) = absurd (cc)
      owns p h e (Left u v same) = j.owns p h (sym same ∙ e)

      safe : (p : Place) (h : Held) → at (after d x.0 x.1) p ≡ Some h → Change d x.0 x.1 p → Spared present ((p, h) ∷ []) xs
      safe p h e (Written g f w a) = spared_at present (puts x.0 x.1.body) p h (w ∙ sym a ∙ e) xs (fine.spared here)
      safe p h e (Taken g w v a) = absurd (cc)
      safe p h e (Left u v same) = (j.safe p h (sym same ∙ e)).1

  join_gone : present x.0 ≡ false → Sane owner_of c (x ∷ xs) → FineStep present owner_of c x xs → Join present owner_of c d (x ∷ xs) → Join present owner_of (after c x.0 x.1) d xs
  join_gone out s fine j = record {
    none = λ p e. none p e (change c x.0 x.1 p);
    stay = λ p h e end. stay p h e end (change c x.0 x.1 p);
    owns = j.owns;
    safe = λ p h e. (j.safe p h e).1;
  }
    where
      none : (p : Place) → at (after c x.0 x.1) p ≡ None → Change c x.0 x.1 p → at d p ≡ None
      none p e (Written h f w a) = absurd (cc)
      none p e (Taken h w v a) = taken (at d p) refl
        where
          taken : (o : Option Held) → at d p ≡ o → at d p ≡ None
          taken None f = f
          taken (Some g) f =
              let covered = covers_owner x.1.body p h g (s.owns p h w ∙ sym (j.owns p g f)) v in
              let not_covered = (or_parts (covers x.1.body p g) false ((j.safe p g f).0 out)).0 in
              absurd (cc)
      none p e (Left u v same) = j.none p (sym same ∙ e)

      stay : (p : Place) (h : Held) → at (after c x.0 x.1) p ≡ Some h → at (cells_from (after c x.0 x.1) xs) p ≡ Some h → Change c x.0 x.1 p → at d p ≡ Some h
      stay p h e end (Written g f w a) = absurd (fine.free out p h end (puts-index x.0 x.1.body p h (w ∙ sym a ∙ e)))
      stay p h e end (Taken g w v a) = absurd (cc)
      stay p h e end (Left u v same) = j.stay p h (sym same ∙ e) end

-- the replay of what is left shows in the end what the replay of all does
pub joined : (present : ℕ → Bool) (owner_of : Place → Option ℕ) (xs : Numbered) (c d : Cells) → Sane owner_of c xs → Fine present owner_of c xs → Join present owner_of c d xs → (p : Place) → at (cells_from d (where_key nat_cmp present xs)) p ≡ at (cells_from c xs) p
joined present owner_of [] c d s fine j p = go (at c p) refl
  where
    go : (o : Option Held) → at c p ≡ o → at d p ≡ at c p
    go None e = j.none p e ∙ sym e
    go (Some h) e = j.stay p h e e ∙ sym e
joined present owner_of (x ∷ xs) c d s fine j p =
    let next = sane_next present owner_of c x xs s fine.0 in
    elim (present x.0) as (λ b. present x.0 ≡ b → at (cells_from d (cond b (x ∷ where_key nat_cmp present xs) (where_key nat_cmp present xs))) p ≡ at (cells_from (after c x.0 x.1) xs) p) [
      | true ↦ λ here. joined present owner_of xs (after c x.0 x.1) (after d x.0 x.1) next fine.1 (join_present present owner_of c d x xs here s fine.0 fine.1 j) p
      | false ↦ λ out. joined present owner_of xs (after c x.0 x.1) d next fine.1 (join_gone present owner_of c d x xs out s fine.0 j) p
    ] refl
