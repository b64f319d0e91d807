-- Prefixes of a log, and the acts that they come from.
use Rattle.std.proofs.Common.{◌≡◌, inl, inr, ℕ, ◌≤◌, List, [], ◌∷◌, ◌++◌, length, refl, ap, sym, ◌∙◌, subst, arith, append_assoc, length-append}
use Rattle.std.proofs.lemmas.List.{append-nil, take-append-le, take_all}
use Rattle.disk_model.specs.Image.{Image}
use Rattle.log_model.specs.plain.Admission.{Item}
use Rattle.host_recovery.specs.Logs.{HasPrefix, StandsFor, plain_form}
use Rattle.copycat_tool.specs.Report.{Run, Act, Change, Nothing, Stores, Reopens, Confirms, changed, printed, printed_lines, after}
use Rattle.copycat_tool.specs.Runs.{StandsEither}

pub printed-append : (a b : List Act) → printed (a ++ b) ≡ printed a ++ printed b
printed-append [] b = refl
printed-append (first ∷ a) b = ap (λ (l : List ℕ). printed_lines first.lines ++ l) (printed-append a b) ∙ sym (append_assoc (printed_lines first.lines) (printed a) (printed b))

-- some acts, and then others
pub after-append : (size : ℕ) (run : Run) (a b : List Act) → after size (after size run a) b ≡ after size run (a ++ b)
after-append size run [] b = refl
after-append size run (first ∷ a) b = after-append size (changed size run first.does) a b

abbrev pub items_of : Change → List Item
items_of (Stores items) = items
items_of _ = []

-- a change makes the log longer by its items, if it has some
pub log_changed : (size : ℕ) (run : Run) (change : Change) → (changed size run change).log ≡ run.log ++ items_of change
log_changed size run Nothing = sym (append-nil run.log)
log_changed size run (Stores items) = refl
log_changed size run Reopens = sym (append-nil run.log)
log_changed size run (Confirms session events batch) = sym (append-nil run.log)

-- the whole of it
pub all_of : (name : List ℕ) (log : List Item) (least : ℕ) (image : Image) → least ≤ length log → StandsFor plain_form name image log → HasPrefix plain_form name log least image
all_of name log least image le is = record {
  count = length log;
  enough = le;
  within = omega arith;
  stands = subst (λ (l : List Item). StandsFor plain_form name image l) (sym (take_all (length log) log (omega arith))) is;
}

-- a prefix of what goes on longer
pub longer : (name : List ℕ) (log more : List Item) (least less : ℕ) (image : Image) → less ≤ least → HasPrefix plain_form name log least image → HasPrefix plain_form name (log ++ more) less image
longer name log more least less image le has = record {
  count = has.count;
  enough = omega (arith, le, has.enough);
  within = omega (arith, has.within, length-append log more);
  stands = subst (λ (l : List Item). StandsFor plain_form name image l) (sym (take-append-le has.count log more has.within)) has.stands;
}

-- the log without a change or with it
pub either_way : (name : List ℕ) (size : ℕ) (run : Run) (change : Change) (image : Image) → StandsEither name run.log (changed size run change).log image → HasPrefix plain_form name (changed size run change).log (length run.log) image
either_way name size run change image (inl was) =
    subst (λ (l : List Item). HasPrefix plain_form name l (length run.log) image) (sym (log_changed size run change))
    (longer name run.log (items_of change) _ _ image (omega arith) (all_of name run.log (length run.log) image (omega arith) was))
either_way name size run change image (inr is) = all_of name _ _ image (omega (arith, ap length (log_changed size run change), length-append run.log (items_of change))) is
