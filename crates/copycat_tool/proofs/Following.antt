-- How a log goes through acts, from moment to moment.
use Rattle.std.proofs.Common.{inl, inr, ⊎_elim, ℕ, ◌≤◌, List, [], ◌∷◌, ◌++◌, refl, sym, subst, arith}
use Rattle.disk_model.specs.View.{View, GoesOn, LeavesOnly}
use Rattle.disk_model.proofs.Moments.{went_on}
use Rattle.copycat_tool.specs.Report.{Run, Act, after, changed}
use Rattle.copycat_tool.specs.Runs.{Did, Files, Follows, StandsEither, WereOffered}
use Rattle.copycat_tool.proofs.Offering.{offered_more}

module _ (files : Files) where
  -- its moments rise
  pub rises : (v : View) (run : Run) (acts : List Act) (since until : ℕ) → Follows files v run acts since until → since ≤ until
  rises v run [] since until is = omega (arith, is)
  rises v run (act ∷ acts) since until f = let more = rises v (changed files.size run act.does) acts f.0 until f.2 in omega (arith, f.1.later, more)

  -- time goes on, and what was is still so
  pub still_follows : (v w : View) → GoesOn v w → (run : Run) (acts : List Act) (since until : ℕ) → until ≤ v.moment → Follows files v run acts since until → Follows files w run acts since until
  still_follows v w time run [] since until le is = is
  still_follows v w time run (act ∷ acts) since until le f =
      let next_le : f.0 ≤ v.moment = (let more = rises v (changed files.size run act.does) acts f.0 until f.2 in omega (arith, more, le)) in (
        f.0,
        record {
          later = f.1.later;
          each = λ image left. ⊎_elim
              (λ was. ⊎_elim (λ either. inl either) (λ since. inr (time.keeps f.0 image next_le since)) (f.1.each image was))
              (λ now. inr (time.counts f.0 image next_le now))
              (time.nothing_else since image (omega (arith, f.1.later, next_le)) left);
        },
        still_follows v w time (changed files.size run act.does) acts f.0 until le f.2,
      )

  -- some acts, and then others
  pub follows-append : (v : View) (run : Run) (a b : List Act) (since mid until : ℕ) → Follows files v run a since mid → Follows files v (after files.size run a) b mid until → Follows files v run (a ++ b) since until
  follows-append v run [] b since mid until is f = subst (λ (t : ℕ). Follows files v run b t until) (sym is) f
  follows-append v run (act ∷ a) b since mid until f g = (f.0, f.1, follows-append v (changed files.size run act.does) a b f.0 mid until f.2 g)

  -- one act, while a crash leaves the log without what it does or with it
  pub follows_one : (v w : View) (run : Run) (act : Act) → LeavesOnly v w (StandsEither files.name run.log (changed files.size run act.does).log) → WereOffered files run (act ∷ []) → Did files (act ∷ []) run v w
  follows_one v w run act only offered = record {
    time = only.time;
    follows = (w.moment, record { later = only.time.later; each = λ image left. inl (only.each image left) }, refl);
    offered = offered;
  }

  pub did_more : (v m w : View) (run : Run) (a b : List Act) → Did files a run v m → Did files b (after files.size run a) m w → Did files (a ++ b) run v w
  did_more v m w run a b first more = record {
    time = went_on v m w first.time more.time;
    follows = follows-append w run a b v.moment m.moment w.moment (still_follows m w more.time run a v.moment m.moment (omega arith) first.follows) more.follows;
    offered = offered_more files run a b first.offered more.offered;
  }
