-- Whoever is due expires, one after the other, before an offer is answered.
use Rattle.std.proofs.Common.{◌≡◌, ℕ, zero, suc, ◌≤◌, ◌<◌, List, [], ◌∷◌, ◌++◌, length, Option, Some, None, Result, Ok, Err, refl, ap, sym, ◌∙◌, subst, arith, append_assoc}
use Rattle.std.proofs.lemmas.List.{append-nil}
use Rattle.disk_model.specs.View.{View}
use Rattle.host_types.specs.declared.entry.Offer.{Offer}
use Rattle.host_types.specs.declared.entry.Refusal.{Refusal}
use Rattle.log_model.specs.plain.Admission.{Expired, Expiry, Expires, Nobody, Not_now, expires}
use Rattle.log_model.specs.plain.Step.{folded}
use Rattle.host_recovery.specs.HostState.{HostState}
use Rattle.resource_catalog.specs.Parts.{Parts}
use Rattle.copycat_tool.specs.declared.ending.Ending.{Ending}
use Rattle.copycat_tool.specs.HostCalls.{change_of}
use Rattle.copycat_tool.specs.Report.{Run, Act, Nothing, Stores, after, all_expired, answer_after, changed, expired, expired_answer, expiry, in_front, offer_answer, offered, with_expired}
use Rattle.copycat_tool.specs.Runs.{Files}
use Rattle.copycat_tool.specs.RunStanding.{IsAt, IsCut}
use Rattle.copycat_tool.specs.Turning.{Answers, HasAnswered, HasEnded, HasExpired, HasRun, stopped_by}
use Rattle.copycat_tool.proofs.LogLemmas.{expires_when, fewer_left}
use Rattle.copycat_tool.proofs.Prefixes.{after-append}
use Rattle.copycat_tool.proofs.TurnLemmas.{call_cut, cut_before, nothing_answered, then_answered, then_ended}
use Rattle.copycat_tool.proofs.Writing.{wrote_none}

-- so many expired, and so many more may
pub record SoFar {D : Type 0} (view : D → View) (files : Files) (time : ℕ) (old now : HostState D Parts) (run : Run) (written written' : Option (List ℕ)) : Type 0 where
  pub done : List Act
  pub left : ℕ
  pub all : HasAnswered view files done old now run written written'
  pub all_is : all_expired files.size run time ≡ done ++ expired files.size left (after files.size run done) time
  pub enough : length (folded (after files.size run done).log).sessions ≤ left

pub first : {D : Type 0} (view : D → View) (files : Files) (time : ℕ) (h : HostState D Parts) (run : Run) (written : Option (List ℕ)) → IsAt view files h run → SoFar view files time h h run written written
first view files time h run written at = record {
  done = [];
  left = length (folded run.log).sessions;
  all = nothing_answered view files h run written at;
  all_is = refl;
  enough = omega arith;
}

-- the next one that expires
next_is : (size n : ℕ) (run : Run) (time session : ℕ) → expiry run time ≡ Expires session → expired size (suc n) run time ≡ expired_answer run time session ∷ expired size n (changed size run (Stores (Expired time session ∷ []))) time
next_is size n run time session is = ap (λ (e : Expiry). with_expired e run time (λ this. expired size n (changed size run this.does) time)) is

-- nobody more expires
none_left : (size n : ℕ) (run : Run) (time : ℕ) (why : Option Refusal) → expiry run time ≡ stopped_by why → expired size n run time ≡ []
none_left size zero run time why is = refl
none_left size (suc n) run time None is = ap (λ (e : Expiry). with_expired e run time (λ this. expired size n (changed size run this.does) time)) is
none_left size (suc n) run time (Some why) is = ap (λ (e : Expiry). with_expired e run time (λ this. expired size n (changed size run this.does) time)) is

fewer : (run : Run) (time session : ℕ) → expiry run time ≡ Expires session → length (folded (run.log ++ Expired time session ∷ [])).sessions < length (folded run.log).sessions
fewer run time session is = fewer_left run.log time session (expires_when run.layout (expires (folded run.log) time) session is)

-- whoever expires is one of those that may
still_left : (run : Run) (time session left : ℕ) → expiry run time ≡ Expires session → length (folded run.log).sessions ≤ left → (n : ℕ) × (left ≡ suc n)
still_left run time session zero is enough = absurd (let less = fewer run time session is in omega (arith, less, enough))
still_left run time session (suc n) is enough = (n, refl)

-- a run that ends within some acts does so with others behind them
within : (files : Files) (a b : List Act) (v w : View) (run : Run) (written written' : Option (List ℕ)) (ending : Ending) → HasEnded files a v w run written written' ending → HasEnded files (a ++ b) v w run written written' ending
within files a b v w run written written' ending e rest =
    subst (λ (l : List Act). HasRun files (record { acts = l; ending = rest.ending }) v w run written written' ending) (sym (append_assoc a b rest.acts)) (e (in_front b rest))

module _ {D : Type 0} (view : D → View) (files : Files) (time : ℕ) (old now : HostState D Parts) (run : Run) (written written' : Option (List ℕ)) (so_far : SoFar view files time old now run written written') where
  abbrev here : Run
  here = after files.size run so_far.done

  -- the run ended among those that are left
  ended_in : (w : View) (ending : Ending) (written'' : Option (List ℕ)) → HasEnded files (expired files.size so_far.left here time) (view now.disk) w here written' written'' ending
      → HasEnded files (all_expired files.size run time) (view old.disk) w run written written'' ending
  ended_in w ending written'' e =
      subst (λ (l : List Act). HasEnded files l (view old.disk) w run written written'' ending) (sym so_far.all_is)
      (then_ended view files so_far.done old now run written written' so_far.all (expired files.size so_far.left here time) w ending written'' e)

  -- nobody more expires
  pub at_end : (why : Option Refusal) → expiry here time ≡ stopped_by why → HasExpired view files time old now run written written' why
  at_end why is =
      let Gone : List Act → Type 0 = λ l. (all : HasAnswered view files l old now run written written') × (expiry (after files.size run l) time ≡ stopped_by why) in
      let both = subst Gone all_done (so_far.all, is) in
      record { all = both.0; next = both.1 }
    where
      all_done : so_far.done ≡ all_expired files.size run time
      all_done = sym (so_far.all_is ∙ ap (λ (l : List Act). so_far.done ++ l) (none_left files.size so_far.left here time why is) ∙ append-nil so_far.done)

  module _ (session index : ℕ) (new : HostState D Parts) (is : expiry here time ≡ Expires session) where
    abbrev this : Act
    this = expired_answer here time session

    some : (n : ℕ) × (so_far.left ≡ suc n)
    some = still_left here time session so_far.left is so_far.enough

    abbrev rest : List Act
    rest = expired files.size some.0 (changed files.size here (Stores (Expired time session ∷ []))) time

    left_is : expired files.size so_far.left here time ≡ this ∷ rest
    left_is = ap (λ (n : ℕ). expired files.size n here time) some.1 ∙ next_is files.size some.0 here time session is

    -- one more expired, and its line was printed
    pub one_more : (written'' : Option (List ℕ)) → HasAnswered view files (this ∷ []) now new here written' written'' → SoFar view files time old new run written written''
    one_more written'' a = record {
      done = so_far.done ++ this ∷ [];
      left = some.0;
      all = then_answered view files so_far.done old now run written written' so_far.all (this ∷ []) new written'' a;
      all_is = so_far.all_is ∙ ap (λ (l : List Act). so_far.done ++ l) left_is ∙ sym (append_assoc so_far.done (this ∷ []) rest)
          ∙ ap (λ (r : Run). (so_far.done ++ this ∷ []) ++ expired files.size some.0 r time) (after-append files.size run so_far.done (this ∷ []));
      enough =
          let less = fewer here time session is in
          let same = ap (λ (r : Run). length (folded r.log).sessions) (after-append files.size run so_far.done (this ∷ [])) in
          omega (arith, less, so_far.enough, some.1, same);
    }

    -- the run ended within it
    pub ended_here : (w : View) (ending : Ending) (written'' : Option (List ℕ)) → HasEnded files (this ∷ []) (view now.disk) w here written' written'' ending → HasEnded files (all_expired files.size run time) (view old.disk) w run written written'' ending
    ended_here w ending written'' e =
        ended_in w ending written''
        (subst (λ (l : List Act). HasEnded files l (view now.disk) w here written' written'' ending) (sym left_is)
        (within files (this ∷ []) rest (view now.disk) w here written' written'' ending e))

  -- the call failed
  pub failed : (new : HostState D Parts) (ending : Ending) → IsCut files (view now.disk) (view new.disk) here (change_of (expiry here time) time) ending
      → HasEnded files (all_expired files.size run time) (view old.disk) (view new.disk) run written written' ending
  failed new ending cut = by (expiry here time) refl cut
    where
      none : (why : Option Refusal) → expiry here time ≡ stopped_by why → IsCut files (view now.disk) (view new.disk) here Nothing ending → HasEnded files (all_expired files.size run time) (view old.disk) (view new.disk) run written written' ending
      none why is cut = ended_in (view new.disk) ending written' (λ rest. record {
        text = [];
        wrote = wrote_none written';
        ended = cut_before files here (view now.disk) (view new.disk) ending cut (in_front (expired files.size so_far.left here time) rest);
      })

      by : (e : Expiry) → expiry here time ≡ e → IsCut files (view now.disk) (view new.disk) here (change_of e time) ending → HasEnded files (all_expired files.size run time) (view old.disk) (view new.disk) run written written' ending
      by (Expires session) is cut = ended_here session 0 new is (view new.disk) ending written' (call_cut view files now new here (expired_answer here time session) ending written' cut)
      by Nobody is cut = none None is cut
      by (Not_now why) is cut = none (Some why) is cut

-- the same of a host that is as it was
pub expired_as : {D : Type 0} (view : D → View) (files : Files) (time : ℕ) (old mid new : HostState D Parts) (run : Run) (written written' : Option (List ℕ)) (why : Option Refusal) → new ≡ mid
    → HasExpired view files time old mid run written written' why → HasExpired view files time old new run written written' why
expired_as view files time old mid new run written written' why same gone = subst (λ (h : HostState _ Parts). HasExpired view files time old h run written written' why) (sym same) gone

-- ---- the offer itself

module _ {D : Type 0} (view : D → View) (files : Files) (one : Offer) (old mid : HostState D Parts) (run : Run) (written written' : Option (List ℕ)) where
  module _ (why : Option Refusal) (gone : HasExpired view files one.time old mid run written written' why) where
    abbrev there : Run
    there = after files.size run (all_expired files.size run one.time)

    abbrev the_answer : Act
    the_answer = answer_after (stopped_by why) there one

    offered_is : offered files.size run one ≡ all_expired files.size run one.time ++ the_answer ∷ []
    offered_is = λ i. all_expired files.size run one.time ++ answer_after (gone.next i) there one ∷ []

    pub offer_answers : (new : HostState D Parts) (written'' : Option (List ℕ)) → {T : Type 0} (r : Result T Ending) → Answers view files (the_answer ∷ []) mid new there written' written'' r → Answers view files (offered files.size run one) old new run written written'' r
    offer_answers new written'' (Ok x) a = subst (λ (l : List Act). HasAnswered view files l old new run written written'') (sym offered_is)
        (then_answered view files (all_expired files.size run one.time) old mid run written written' gone.all (the_answer ∷ []) new written'' a)
    offer_answers new written'' (Err ending) e = subst (λ (l : List Act). HasEnded files l (view old.disk) (view new.disk) run written written'' ending) (sym offered_is)
        (then_ended view files (all_expired files.size run one.time) old mid run written written' gone.all (the_answer ∷ []) (view new.disk) ending written'' e)

  -- the run ended before it
  pub offer_unmade : (w : View) (ending : Ending) → HasEnded files (all_expired files.size run one.time) (view old.disk) w run written written' ending → HasEnded files (offered files.size run one) (view old.disk) w run written written' ending
  offer_unmade w ending e = within files (all_expired files.size run one.time) (offer_answer (after files.size run (all_expired files.size run one.time)) one ∷ []) (view old.disk) w run written written' ending e
