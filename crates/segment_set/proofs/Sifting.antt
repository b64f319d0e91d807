-- Files with an open gate are kept or covered, one after the other.
use Rattle.std.proofs.Common.{◌≡◌, ◌≢◌, inl, inr, ⊎_elim, ◌+◌, ◌<◌, List, [], ◌∷◌, ◌++◌, length, map, take, get_or, Option, Some, sym, ap, subst, ◌∙◌, arith, length-append, length-take, Contains}
use Rattle.std.specs.Option.{option_to_list}
use Rattle.std.proofs.Math.Seq.{get_or-append_seam}
use Rattle.std.proofs.lemmas.List.{get_or_append_left, get_or-take, map-id, take_more}
use Rattle.std.proofs.lemmas.List.Elements.{Contains-append_left, Contains-push_cases, Contains-push, Contains-get_or}
use Rattle.std.proofs.lemmas.List.Quantifiers.{all_pairs_push}
use Rattle.disk_model.specs.declared.file_id.FileId.{FileId}
use Rattle.disk_model.specs.Image.{IsBelow}
use Rattle.segment_set.specs.declared.opened.Opened.{Opened}
use Rattle.segment_files.specs.Folder.{LiesIn}
use Rattle.segment_set.specs.Sifting.{opened_span, Rise, LiesInLast, LastLiesIn, LiesInOne, AreStacked, Sifted}
use Rattle.segment_set.proofs.Lying.{further, some_last, stack_front, stack_last, stack_more, still_behind, none_lies}
use Rattle.segment_set.proofs.Picking.{below_apart}

-- with one more that they may lie in
pub wider : (files kept tops : List Opened) (covered : List FileId) (one : Opened) → Sifted files kept covered tops → Sifted files kept covered (tops ++ one ∷ [])
wider files kept tops covered one s = record {
  among = s.among;
  each = λ o has. ⊎_elim (λ k. inl k) (λ c. inr (c.0, more o c.1)) (s.each o has);
  covered_are = λ id has. let c = s.covered_are id has in (c.0, c.1, c.2, more c.0 c.3);
  apart = s.apart;
  disjoint = s.disjoint;
  stacked = s.stacked;
}
  where
    more : (o : Opened) → LiesInOne tops o → LiesInOne (tops ++ one ∷ []) o
    more o lies = (lies.0, Contains-append_left tops (one ∷ []) lies.0 lies.1, lies.2)

-- The last kept file lies in one that comes next, and gives way to it.
module _ (files front : List Opened) (covered : List FileId) (k one : Opened) (lies : LiesIn (opened_span k) (opened_span one))
    (s : Sifted files (front ++ k ∷ []) covered ((front ++ k ∷ []) ++ one ∷ [])) where
  -- what lay in it lies in that one
  moved : (o : Opened) → LiesInOne ((front ++ k ∷ []) ++ one ∷ []) o → LiesInOne (front ++ one ∷ []) o
  moved o in_it = ⊎_elim
      (λ kept. ⊎_elim
      (λ old. (in_it.0, Contains-append_left front (one ∷ []) in_it.0 old, in_it.2))
      (λ is. (one, Contains-push front one, further (opened_span o) (opened_span k) (opened_span one) (subst (λ (b : Opened). LiesIn (opened_span o) (opened_span b)) (sym is) in_it.2) lies))
      (Contains-push_cases front k in_it.0 kept))
      (λ is. (one, Contains-push front one, subst (λ (b : Opened). LiesIn (opened_span o) (opened_span b)) (sym is) in_it.2))
      (Contains-push_cases (front ++ k ∷ []) one in_it.0 in_it.1)

  k_lies : LiesInOne (front ++ one ∷ []) k
  k_lies = (one, Contains-push front one, lies)

  k_among : Contains files k
  k_among = s.among k (Contains-push front k)

  pub given_way : Sifted files front (covered ++ k.id ∷ []) (front ++ one ∷ [])
  given_way = record {
    among = λ o has. s.among o (Contains-append_left front (k ∷ []) o has);
    each = λ o has. ⊎_elim
        (λ kept. ⊎_elim
        (λ old. inl old)
        (λ is. inr (subst (λ (b : Opened). Contains (covered ++ k.id ∷ []) b.id) is (Contains-push covered k.id), subst (LiesInOne (front ++ one ∷ [])) is k_lies))
        (Contains-push_cases front k o kept))
        (λ c. inr (Contains-append_left covered (k.id ∷ []) o.id c.0, moved o c.1))
        (s.each o has);
    covered_are = λ id has. ⊎_elim
        (λ old. let c = s.covered_are id old in (c.0, c.1, c.2, moved c.0 c.3))
        (λ is. (k, k_among, is, k_lies))
        (Contains-push_cases covered k.id id has);
    apart = all_pairs_push (λ (a : FileId) (b : FileId). a ≢ b) covered k.id s.apart
        (λ n d lt same. s.disjoint k (Contains-push front k) (subst (λ (i : FileId). Contains covered i) same (Contains-get_or covered n d lt)));
    disjoint = λ o has c. ⊎_elim
        (λ old. s.disjoint o (Contains-append_left front (k ∷ []) o has) old)
        (λ is. below_apart o.id k.id (stack_last front k s.stacked o has).0 (sym is))
        (Contains-push_cases covered k.id o.id c);
    stacked = stack_front front (k ∷ []) s.stacked;
  }

-- each file is below one that comes next
pub rise_last : (files : List Opened) (one : Opened) → Rise (files ++ one ∷ []) → (o : Opened) → Contains files o → IsBelow o.id one.id
rise_last files one rise o has =
    let below = rise has.0 (length files) o has.1 (omega (arith, length-append files (one ∷ []))) in
    subst (λ (b : Opened). IsBelow o.id b.id) (get_or-append_seam files one [] o) (subst (λ (b : Opened). IsBelow b.id (get_or (files ++ one ∷ []) (length files) o).id) (get_or_append_left files (one ∷ []) o has.0 has.1 ∙ has.2) below)

-- a file more that is gone through
pub rise_turn : (files yielded : List Opened) (one : Opened) → Rise files → map (λ (o : Opened). o) yielded ≡ take (length yielded) files → length yielded < length files → one ≡ get_or files (length yielded) one → Rise (yielded ++ one ∷ [])
rise_turn files yielded one rise so_far lt is =
    let n = length yielded in
    let all : take (n + 1) files ≡ yielded ++ one ∷ [] = take_more files n one lt ∙ (λ i. (sym so_far ∙ map-id yielded) i ++ sym is i ∷ []) in
    subst Rise all (λ i j d less below.
    let long = length-take (n + 1) files in
    let under : j < length files = omega (arith, below, long) in
    subst (λ (a : Opened). IsBelow a.id (get_or (take (n + 1) files) j d).id) (sym (get_or-take (n + 1) files i d (omega (arith, below, long, less))))
    (subst (λ (b : Opened). IsBelow (get_or files i d).id b.id) (sym (get_or-take (n + 1) files j d (omega (arith, below, long)))) (rise i j d less under)))

-- one file more
module _ (files kept : List Opened) (covered : List FileId) (one : Opened) (rise : Rise (files ++ one ∷ [])) where
  below : (o : Opened) → Contains files o → IsBelow o.id one.id
  below o has = rise_last files one rise o has

  more_files : (o : Opened) → Contains files o → Contains (files ++ one ∷ []) o
  more_files o has = Contains-append_left files (one ∷ []) o has

  -- it lies in a kept one
  pub one_covered : Sifted files kept covered kept → LiesInOne kept one → Sifted (files ++ one ∷ []) kept (covered ++ one.id ∷ []) kept
  one_covered s lies = record {
    among = λ o has. more_files o (s.among o has);
    each = λ o has. ⊎_elim
        (λ old. ⊎_elim (λ k. inl k) (λ c. inr (Contains-append_left covered (one.id ∷ []) o.id c.0, c.1)) (s.each o old))
        (λ is. inr (subst (λ (b : Opened). Contains (covered ++ one.id ∷ []) b.id) is (Contains-push covered one.id), subst (LiesInOne kept) is lies))
        (Contains-push_cases files one o has);
    covered_are = λ id has. ⊎_elim
        (λ old. let c = s.covered_are id old in (c.0, more_files c.0 c.1, c.2, c.3))
        (λ is. (one, Contains-push files one, is, lies))
        (Contains-push_cases covered one.id id has);
    apart = all_pairs_push (λ (a : FileId) (b : FileId). a ≢ b) covered one.id s.apart
        (λ n d lt same. let c = s.covered_are (get_or covered n d) (Contains-get_or covered n d lt) in below_apart c.0.id one.id (below c.0 c.1) (c.2 ∙ same));
    disjoint = λ o has c. ⊎_elim
        (λ old. s.disjoint o has old)
        (λ is. below_apart o.id one.id (below o (s.among o has)) (sym is))
        (Contains-push_cases covered one.id o.id c);
    stacked = s.stacked;
  }

  -- or it is kept
  pub one_kept : Sifted files kept covered (kept ++ one ∷ []) → (LiesInLast kept one → ⊥) → (LastLiesIn kept one → ⊥) → Sifted (files ++ one ∷ []) (kept ++ one ∷ []) covered (kept ++ one ∷ [])
  one_kept s behind last = record {
    among = λ o has. ⊎_elim (λ old. more_files o (s.among o old)) (λ is. subst (λ (b : Opened). Contains (files ++ one ∷ []) b) is (Contains-push files one)) (Contains-push_cases kept one o has);
    each = λ o has. ⊎_elim
        (λ old. ⊎_elim (λ k. inl (Contains-append_left kept (one ∷ []) o k)) (λ c. inr c) (s.each o old))
        (λ is. inl (subst (λ (b : Opened). Contains (kept ++ one ∷ []) b) is (Contains-push kept one)))
        (Contains-push_cases files one o has);
    covered_are = λ id has. let c = s.covered_are id has in (c.0, more_files c.0 c.1, c.2, c.3);
    apart = s.apart;
    disjoint = λ o has c. ⊎_elim
        (λ old. s.disjoint o old c)
        (λ is. let was = s.covered_are o.id c in below_apart was.0.id one.id (below was.0 was.1) (was.2 ∙ ap (λ (b : Opened). b.id) (sym is)))
        (Contains-push_cases kept one o has);
    stacked = stack_more kept one s.stacked
        (λ o has. (below o (s.among o has), none_lies kept one s.stacked (λ b in_it. below b (s.among b in_it)) last o has))
        behind;
  }

-- ---- as the code tells it

-- the last kept file was taken off, and covered
pub popped : (kept kept' kept'' : List Opened) (k : Opened) (r : Option Opened) → kept ≡ kept' ++ option_to_list r → r ≡ Some k → kept'' ≡ kept' → kept ≡ kept'' ++ k ∷ []
popped kept kept' kept'' k r items is same = items ∙ ap (λ (o : Option Opened). kept' ++ option_to_list o) is ∙ ap (λ (l : List Opened). l ++ k ∷ []) (sym same)

module _ (kept kept' : List Opened) (covered covered' : List FileId) (k one : Opened) (are : kept ≡ kept' ++ k ∷ []) (told : covered' ≡ covered ++ k.id ∷ []) (last : LastLiesIn kept one) where
  k_lies_in : LiesIn (opened_span k) (opened_span one)
  k_lies_in = some_last kept k (λ (o : Opened). LiesIn (opened_span o) (opened_span one)) (kept', are) last.0 last.1 last.2 last.3

  pub sifted_on : (files : List Opened) → Sifted files kept covered (kept ++ one ∷ []) → Sifted files kept' covered' (kept' ++ one ∷ [])
  sifted_on files s = subst (λ (l : List FileId). Sifted files kept' l (kept' ++ one ∷ [])) (sym told)
      (given_way files kept' covered k one k_lies_in (subst (λ (l : List Opened). Sifted files l covered (l ++ one ∷ [])) are s))

  pub still_on : AreStacked kept × (LiesInLast kept one → ⊥) → AreStacked kept' × (LiesInLast kept' one → ⊥)
  still_on was =
      let s = subst AreStacked are was.0 in (
        stack_front kept' (k ∷ []) s,
        still_behind kept' k one s k_lies_in (subst (λ (l : List Opened). LiesInLast l one → ⊥) are was.1),
      )

-- one file more was covered, or kept
module _ (files kept kept' : List Opened) (covered covered' : List FileId) (one : Opened) (rise : Rise (files ++ one ∷ [])) where
  pub taken_covered : kept' ≡ kept → covered' ≡ covered ++ one.id ∷ [] → LiesInLast kept one → Sifted files kept covered kept → Sifted (files ++ one ∷ []) kept' covered' kept'
  taken_covered same told last s =
      let lies : LiesInOne kept one = (last.1, subst (λ (l : List Opened). Contains l last.1) (sym last.2) (Contains-push last.0 last.1), last.3) in
      subst (λ (l : List Opened). Sifted (files ++ one ∷ []) l covered' l) (sym same)
      (subst (λ (l : List FileId). Sifted (files ++ one ∷ []) kept l kept) (sym told) (one_covered files kept covered one rise s lies))

  pub taken_kept : kept' ≡ kept ++ one ∷ [] → covered' ≡ covered → Sifted files kept covered (kept ++ one ∷ []) → (LiesInLast kept one → ⊥) → (LastLiesIn kept one → ⊥) → Sifted (files ++ one ∷ []) kept' covered' kept'
  taken_kept are same s behind last =
      subst (λ (l : List Opened). Sifted (files ++ one ∷ []) l covered' l) (sym are)
      (subst (λ (l : List FileId). Sifted (files ++ one ∷ []) (kept ++ one ∷ []) l (kept ++ one ∷ [])) (sym same) (one_kept files kept covered one rise s behind last))
