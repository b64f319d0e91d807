-- A census, line by line.
use Rattle.std.proofs.Common.{◌≡◌, ℕ, zero, suc, ◌+◌, ◌-◌, ◌<◌, ◌≤◌, List, [], ◌∷◌, ◌++◌, length, map, take, get_or, Option, Some, Result, Ok, Err, refl, sym, ap, subst, ◌∙◌, arith}
use Rattle.std.specs.List.{slice_get}
use Rattle.std.specs.Prelude.{OnOk}
use Rattle.std.proofs.lemmas.List.{length-append, length-map, take_more}
use Rattle.disk_model.specs.View.{View}
use Rattle.host_types.specs.Limits.{index_limit}
use Rattle.segment_set.specs.declared.views.PartView.{PartView}
use Rattle.segment_set.specs.Views.{LieFrom}
use Rattle.log_model.specs.cleaning.Layout.{Layout}
use Rattle.host_recovery.specs.Census.{census_of}
use Rattle.host_recovery.specs.HostState.{HostState}
use Rattle.host_recovery.specs.Standing.{layout_in}
use Rattle.resource_catalog.specs.Parts.{Parts}
use Rattle.copycat_tool.specs.declared.ending.Ending.{Ending}
use Rattle.copycat_tool.specs.Census.{census_lines, indexes_in, kept_in, part_line, total_line}
use Rattle.copycat_tool.specs.ClientTakes.{ArePut}
use Rattle.copycat_tool.specs.Report.{Nothing, Run, census_answer, printed_lines}
use Rattle.copycat_tool.specs.RunStanding.{IsAt}
use Rattle.copycat_tool.specs.Runs.{Files, Wrote}
use Rattle.copycat_tool.specs.Turning.{Answers, IsPut}
use Rattle.copycat_tool.proofs.Offering.{nothing_offered, offers_nothing}
use Rattle.copycat_tool.proofs.PuttingLemmas.{put_next, put_part, put_whole}
use Rattle.copycat_tool.proofs.TakeAnswers.{put_lines}

-- ---- THE SUMS

kept_push : (views : List PartView) (one : PartView) → kept_in (views ++ one ∷ []) ≡ kept_in views + one.kept
kept_push [] one = omega arith
kept_push (x ∷ views) one = omega (arith, kept_push views one)

indexes_push : (views : List PartView) (one : PartView) → indexes_in (views ++ one ∷ []) ≡ indexes_in views + (one.last + 1 - one.base)
indexes_push [] one = omega arith
indexes_push (x ∷ views) one = omega (arith, indexes_push views one)

-- the next part is counted
pub kept_more : (views : List PartView) (n : ℕ) (one : PartView) → one ≡ get_or views n one → n < length views → kept_in (take (n + 1) views) ≡ kept_in (take n views) + one.kept
kept_more views n one is lt = ap kept_in (take_more views n one lt) ∙ kept_push (take n views) (get_or views n one) ∙ ap (λ (v : PartView). kept_in (take n views) + v.kept) (sym is)

pub indexes_more : (views : List PartView) (n : ℕ) (one : PartView) → one ≡ get_or views n one → n < length views → indexes_in (take (n + 1) views) ≡ indexes_in (take n views) + (one.last + 1 - one.base)
indexes_more views n one is lt = ap indexes_in (take_more views n one lt) ∙ indexes_push (take n views) (get_or views n one) ∙ ap (λ (v : PartView). indexes_in (take n views) + (v.last + 1 - v.base)) (sym is)

-- what is known of the parts before a position, and of the one there
pub record Reached (views : List PartView) (n : ℕ) (one : PartView) : Type 0 where
  pub first : 1 ≤ one.base
  pub from : one.base ≤ one.last + 1
  pub last : one.last ≤ index_limit
  pub kept : kept_in (take n views) + one.kept ≤ index_limit + 1
  pub indexes : indexes_in (take n views) + (one.last + 1 - one.base) ≤ index_limit + 1

pub reached : (next : ℕ) (views : List PartView) (n : ℕ) (one : PartView) → 1 ≤ next → LieFrom next views → one ≡ get_or views n one → n < length views
    → (1 ≤ one.base) × (one.base ≤ one.last + 1) × (one.last ≤ index_limit) × (next + kept_in (take n views) + one.kept ≤ one.last + 1) × (next + indexes_in (take n views) + (one.last + 1 - one.base) ≤ one.last + 1)
reached next [] n one first lie is lt = absurd (omega (arith, lt))
reached next (x ∷ views) zero one first lie is lt =
    let same : one ≡ x = is in
    subst (λ (v : PartView). (1 ≤ v.base) × (v.base ≤ v.last + 1) × (v.last ≤ index_limit) × (next + 0 + v.kept ≤ v.last + 1) × (next + 0 + (v.last + 1 - v.base) ≤ v.last + 1)) (sym same)
    (omega (arith, lie.0, first), omega (arith, lie.1.kept), lie.1.last, omega (arith, lie.0, lie.1.kept), omega (arith, lie.0, lie.1.kept))
reached next (x ∷ views) (suc n) one first lie is lt =
    let r = reached (x.last + 1) views n one (omega arith) lie.2 is (omega (arith, lt)) in
    (r.0, r.1, r.2, omega (arith, r.3, lie.0, lie.1.kept), omega (arith, r.4, lie.0, lie.1.kept))

pub reaches : (views : List PartView) (n : ℕ) (one : PartView) → LieFrom 1 views → one ≡ get_or views n one → n < length views → Reached views n one
reaches views n one lie is lt =
    let r = reached 1 views n one (omega arith) lie is lt in
    record { first = r.0; from = r.1; last = r.2; kept = omega (arith, r.3, r.2); indexes = omega (arith, r.4, r.2) }

-- ---- THE LINES

part_at : (views : List PartView) (rest : List (List ℕ)) (n : ℕ) (one : PartView) → one ≡ get_or views n one → n < length views → slice_get (map part_line views ++ rest) n ≡ Some (part_line one)
part_at [] rest n one is lt = absurd (omega (arith, lt))
part_at (x ∷ views) rest zero one is lt = ap (λ (v : PartView). Some (part_line v)) (sym is)
part_at (x ∷ views) rest (suc n) one is lt = part_at views rest n one is (omega (arith, lt))

pub line_at : (views : List PartView) (n : ℕ) (one : PartView) → one ≡ get_or views n one → n < length views → slice_get (census_lines views) n ≡ Some (part_line one)
line_at views n one is lt = part_at views (total_line views ∷ []) n one is lt

last_at : (views : List PartView) (line : List ℕ) (n : ℕ) → n ≡ length views → slice_get (map part_line views ++ line ∷ []) n ≡ Some line
last_at [] line n is = ap (λ (k : ℕ). slice_get (line ∷ []) k) is
last_at (x ∷ views) line zero is = absurd (omega (arith, is))
last_at (x ∷ views) line (suc n) is = last_at views line n (omega (arith, is))

pub total_at : (views : List PartView) (n : ℕ) → n ≡ length views → slice_get (census_lines views) n ≡ Some (total_line views)
total_at views n is = last_at views (total_line views) n is

pub lines_count : (views : List PartView) → length (census_lines views) ≡ length views + 1
lines_count views = omega (arith, length-append (map part_line views) (total_line views ∷ []), length-map views part_line)

-- the last line is written, and so all are
pub last_put : (lines : List (List ℕ)) (k : ℕ) (line : List ℕ) → slice_get lines k ≡ Some line → length lines ≤ k + 1 → (written mid new : Option (List ℕ)) → Wrote written mid (printed_lines (take k lines))
    → (sink sink' sink'' : ℕ) → sink ≤ sink' → {T : Type 0} (r : Result T Ending) → IsPut mid new sink' sink'' (line ++ 10 ∷ []) r → ArePut written new sink sink'' lines r
last_put lines k line is all written mid new before sink sink' sink'' le (Ok x) put = put_whole lines (k + 1) written new all (put_next lines k line is written mid new before (k + 1) refl put)
last_put lines k line is all written mid new before sink sink' sink'' le {T} (Err ending) put = put_part lines k line is written mid new before sink sink' sink'' le T ending put

-- ---- THE ANSWER

on_ok : {T E X : Type 0} (r : Result T E) → X → OnOk r X
on_ok (Ok x) there = there
on_ok (Err e) there = tt

module _ {D : Type 0} (view : D → View) (files : Files) (h : HostState D Parts) (run : Run) (at : IsAt view files h run) where
  pub census_put : (list : List PartView) → list ≡ census_of (layout_in (view h.disk) h.parts).parts → (written written' : Option (List ℕ)) (sink sink' : ℕ) → {T : Type 0} (r : Result T Ending)
      → ArePut written written' sink sink' (census_lines list) r → Answers view files (census_answer run ∷ []) h h run written written' r
  census_put list is written written' sink sink' r put =
      put_lines view files h h run (census_answer run) at (record { disk = refl; parts = refl; size = refl; stopped = refl }) refl refl
      (offers_nothing files run (census_answer run) Nothing (nothing_offered files run) refl) written written' sink sink' r (on_ok r at)
      (subst (λ (l : List PartView). ArePut written written' sink sink' (census_lines l) r) (is ∙ ap (λ (l : Layout). census_of l.parts) at.layout_is) put)
