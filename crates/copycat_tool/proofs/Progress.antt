-- How far a run has come, and how it ends from there.
use Rattle.std.proofs.Common.{◌≡◌, inl, inr, ℕ, ◌+◌, List, [], ◌∷◌, ◌++◌, length, take, drop, false, refl, ap, sym, ◌∙◌, subst, arith, append_assoc, length-append}
use Rattle.std.proofs.Math.Seq.{take-append-add, drop-append-add}
use Rattle.disk_model.specs.View.{View}
use Rattle.disk_model.proofs.Moments.{stood, went_on}
use Rattle.log_model.specs.plain.Admission.{Item}
use Rattle.log_model.specs.cleaning.Layout.{alone}
use Rattle.host_recovery.specs.FileLayout.{LiesAlone}
use Rattle.copycat_tool.specs.Script.{has_feed}
use Rattle.copycat_tool.specs.Report.{Run, Act, Report, Cut, report, in_front, after, printed}
use Rattle.copycat_tool.specs.declared.ending.Ending.{Ending}
use Rattle.copycat_tool.specs.declared.ending.Ending.TheVariants.{Done, Fault, TooLong, ReadFault, WriteFault, DiskFault, NoMemory, Damaged}
use Rattle.host_recovery.specs.Logs.{IsInOrder, plain_form}
use Rattle.copycat_tool.specs.Runs.{Did, Files, Ended, EndedSo, EndsAs, Follows, IsAnswered, IsComplete, IsPartOfNext, IsSomeLines, StandsEither, WereOffered, is_by_call, log_at}
use Rattle.copycat_tool.specs.RunStanding.{IsAtRest}
use Rattle.copycat_tool.proofs.Offering.{none_offered, offered_more}
use Rattle.copycat_tool.proofs.Following.{did_more, follows-append, still_follows}
use Rattle.copycat_tool.proofs.ReportLemmas.{report_at}
use Rattle.copycat_tool.proofs.Prefixes.{printed-append, after-append, all_of}

-- nothing was done
pub did_nothing : (files : Files) (run : Run) (v : View) → IsAtRest files v run → Did files [] run v v
did_nothing files run v rest = record { time = stood v rest.sound; follows = refl; offered = none_offered files run }

-- a folder at rest is in order for all of its log
pub at_rest_in_order : (files : Files) (run : Run) (v : View) → IsAtRest files v run → IsInOrder plain_form v files.name run.log (length run.log)
at_rest_in_order files run v rest = record { log = rest.logged; each = λ image may. all_of files.name run.log (length run.log) image (omega arith) (rest.kept image may); empty = rest.empty }

-- so many lines were read to their end and answered
pub record SoFar (files : Files) (first : Run) (number : ℕ) (consumed : List ℕ) (old now : View) : Type 0 where
  pub done : List Act
  pub did : Did files done first old now
  pub goes_on : (cut : Cut) (rest : List ℕ) → report files.size first 1 cut (consumed ++ rest) ≡ in_front done (report files.size (after files.size first done) number cut rest)

module _ (files : Files) where
  abbrev pub at_first : (first : Run) (v : View) → IsAtRest files v first → SoFar files first 1 [] v v
  at_first first v rest = record { done = []; did = did_nothing files first v rest; goes_on = λ cut rest. refl }

  -- nothing was written and nothing done
  pub stays : (run : Run) (reported : Report) (v : View) (ending : Ending) → IsAtRest files v run → EndsAs ending reported 0 0 []
      → (is_by_call ending ≡ false → LiesAlone files.name v.reading (alone (after files.size run reported.acts).layout)) → Ended files run reported v v [] ending
  stays run reported v ending rest ends_as layout = record {
    time = stood v rest.sound;
    so = record {
      whole = 0;
      part = [];
      text_is = refl;
      sure = 0;
      stored = 0;
      not_behind = omega arith;
      perhaps = omega arith;
      one_ahead = omega arith;
      ends_as = ends_as;
      until = v.moment;
      by_now = omega arith;
      follows = refl;
      since_then = λ image left. inl (rest.kept image (rest.sound.only_now image left));
      at_exit = at_rest_in_order files run v rest;
      layout = layout;
    };
    offered = none_offered files run;
  }

  module _ (first : Run) (number : ℕ) (consumed : List ℕ) (old now : View) (so_far : SoFar files first number consumed old now) where
    abbrev done : List Act
    done = so_far.done

    abbrev here : Run
    here = after files.size first done

    -- one line more
    abbrev pub one_more : (line : List ℕ) (these : List Act) (new : View) → has_feed line ≡ false → IsAnswered files line here these → Did files these here now new
        → SoFar files first (number + 1) (consumed ++ (line ++ 10 ∷ [])) old new
    one_more line these new none answered did = record {
      done = done ++ these;
      did = did_more files old now new first done these so_far.did did;
      goes_on = λ cut rest.
          ap (λ (l : List ℕ). report files.size first 1 cut l) (append_assoc consumed (line ++ 10 ∷ []) rest ∙ ap (λ (l : List ℕ). consumed ++ l) (append_assoc line (10 ∷ []) rest))
          ∙ so_far.goes_on cut (line ++ 10 ∷ rest)
          ∙ ap (λ (r : Report). in_front done r) (report_at files.size here number cut line rest none)
          ∙ ap (λ (r : Report). in_front done r) (answered number (λ run. report files.size run (number + 1) cut rest))
          ∙ regroup (report files.size (after files.size here these) (number + 1) cut rest)
          ∙ ap (λ (r : Run). in_front (done ++ these) (report files.size r (number + 1) cut rest)) (after-append files.size first done these);
    }
      where
        regroup : (r : Report) → in_front done (in_front these r) ≡ in_front (done ++ these) r
        regroup r = ap (λ (l : List Act). record { acts = l; ending = r.ending }) (sym (append_assoc done these r.acts))

  -- what comes behind some acts
  module _ (first : Run) (done : List Act) (old now : View) (did : Did files done first old now) where
    abbrev run : Run
    run = after files.size first done

    module _ (rest : Report) (new : View) (more : List ℕ) (ending : Ending) (ended : Ended files run rest now new more ending) where
      abbrev e : EndedSo files run rest now.moment new more ending
      e = ended.so

      abbrev all : List Act
      all = done ++ rest.acts

      front : (n : ℕ) → take (length done + n) all ≡ done ++ take n rest.acts
      front n = take-append-add done rest.acts n

      run_at : (n : ℕ) → after files.size run (take n rest.acts) ≡ after files.size first (take (length done + n) all)
      run_at n = after-append files.size first done (take n rest.acts) ∙ ap (after files.size first) (sym (front n))

      log_so : (n : ℕ) → log_at files run rest n ≡ log_at files first (in_front done rest) (length done + n)
      log_so n = ap (λ (r : Run). r.log) (run_at n)

      complete : (x : Ending) → IsComplete x rest e.whole e.sure e.part → IsComplete x (in_front done rest) (length done + e.whole) (length done + e.sure) e.part
      complete x is = record {
        ending_is = is.ending_is;
        all = omega (arith, is.all, length-append done rest.acts);
        nothing_ahead = omega (arith, is.nothing_ahead);
        no_part = is.no_part;
      }

      behind_done : (n : ℕ) (next : Act) (behind : List Act) → drop n rest.acts ≡ next ∷ behind → drop (length done + n) all ≡ next ∷ behind
      behind_done n next behind is = drop-append-add done rest.acts n ∙ is

      part_of_next : IsPartOfNext rest.acts e.whole e.part → IsPartOfNext all (length done + e.whole) e.part
      part_of_next is = record { next = is.next; behind = is.behind; is_next = behind_done e.whole is.next is.behind is.is_next; count = is.count; not_all = is.not_all; part_is = is.part_is }

      some_lines : IsSomeLines rest.acts e.whole e.part → IsSomeLines all (length done + e.whole) e.part
      some_lines is = record { next = is.next; behind = is.behind; is_next = behind_done e.whole is.next is.behind is.is_next; count = is.count; not_all = is.not_all; part_is = is.part_is }

      one_more_is : e.sure ≡ e.whole + 1 → length done + e.sure ≡ length done + e.whole + 1
      one_more_is is = omega (arith, is)

      ends_so : (x : Ending) → EndsAs x rest e.whole e.sure e.part → EndsAs x (in_front done rest) (length done + e.whole) (length done + e.sure) e.part
      ends_so Done is = complete Done is
      ends_so (Fault n) is = complete (Fault n) is
      ends_so TooLong is = complete TooLong is
      ends_so ReadFault is = complete ReadFault is
      ends_so WriteFault is = (part_of_next is.0, one_more_is is.1)
      ends_so DiskFault is = is
      ends_so NoMemory (inl none) = inl none
      ends_so NoMemory (inr some) = inr (some_lines some.0, one_more_is some.1)
      ends_so (Damaged base generation at) is = is

      pub ends_after : Ended files first (in_front done rest) old new (printed done ++ more) ending
      ends_after = record {
        time = went_on old now new did.time ended.time;
        so = record {
          whole = length done + e.whole;
          part = e.part;
          text_is = ap (λ (l : List ℕ). printed done ++ l) e.text_is
              ∙ sym (append_assoc (printed done) (printed (take e.whole rest.acts)) e.part)
              ∙ ap (λ (l : List ℕ). l ++ e.part) (sym (printed-append done (take e.whole rest.acts)) ∙ ap printed (sym (front e.whole)));
          sure = length done + e.sure;
          stored = length done + e.stored;
          not_behind = omega (arith, e.not_behind);
          perhaps = omega (arith, e.perhaps);
          one_ahead = omega (arith, e.one_ahead);
          ends_as = ends_so ending e.ends_as;
          until = e.until;
          by_now = e.by_now;
          follows = subst (λ (l : List Act). Follows files new first l old.moment e.until) (sym (front e.sure))
              (follows-append files new first done (take e.sure rest.acts) old.moment now.moment e.until
              (still_follows files now new ended.time first done old.moment now.moment (omega arith) did.follows) e.follows);
          since_then = λ image left.
              subst (λ (l : List Item). StandsEither files.name l (log_at files first (in_front done rest) (length done + e.stored)) image) (log_so e.sure)
              (subst (λ (l : List Item). StandsEither files.name (log_at files run rest e.sure) l image) (log_so e.stored) (e.since_then image left));
          at_exit =
              subst (λ (l : List Item). IsInOrder plain_form new files.name l (length (log_at files first (in_front done rest) (length done + e.sure)))) (log_so e.stored)
              (subst (λ (l : List Item). IsInOrder plain_form new files.name (log_at files run rest e.stored) (length l)) (log_so e.sure) e.at_exit);
          layout = λ is. subst (λ (r : Run). LiesAlone files.name new.reading (alone r.layout)) (after-append files.size first done rest.acts) (e.layout is);
        };
        offered = subst (WereOffered files first) (sym (front e.sure)) (offered_more files first done (take e.sure rest.acts) did.offered ended.offered);
      }
