use Rattle.std.proofs.Common.{◌≡◌, ◌==◌, ℕ, true, false, List, [], ◌∷◌, length, refl, sym, subst, arith}
use Rattle.std.proofs.lemmas.Bool.Decides.{nat_tests}
use Rattle.copycat_tool.specs.Script.{command}
use Rattle.copycat_tool.specs.Report.{Run, Report, Whole, ends, one, last_piece}
use Rattle.copycat_tool.specs.declared.ending.Ending.TheVariants.{Done}
use Rattle.copycat_tool.specs.Runs.{Ended}
use Rattle.copycat_tool.specs.Turning.{HasRun}
use Rattle.copycat_tool.proofs.Progress.{stays}
use Rattle.copycat_tool.proofs.TurnLemmas.{answered_all}
use Rattle.copycat_tool.proofs.Writing.{wrote_none}
use Rattle.copycat_tool.proofs.answers.answer_last.Goals as goal

zero_of : (n : ℕ) → true ≡ (n == 0) → n ≡ 0
zero_of n h = grind (arith, nat_tests)

empty_is : (l : List ℕ) → true ≡ (length l == 0) → l ≡ []
empty_is [] h = refl
empty_is (x ∷ l) h = absurd (omega (arith, zero_of (length (x ∷ l)) h))

some_is : (l : List ℕ) → false ≡ (length l == 0) → l ≡ [] → ⊥
some_is [] h e = absurd (cc h)
some_is (x ∷ l) h e = absurd (cc e)

one_line : (size : ℕ) (piece : List ℕ) (run : Run) (number : ℕ) → (piece ≡ [] → ⊥) → last_piece size Whole run number piece ≡ one size (command piece) run number (λ _. ends Done)
one_line size [] run number some = absurd (some refl)
one_line size (byte ∷ piece) run number some = refl

pub returns-then-is_empty-clause-ended : goal.returns-then-is_empty-clause-ended
returns-then-is_empty-clause-ended g c = λ t files run at clients.
    let v = g.D.Disk.view c.args.host.now.disk in
    record {
      text = [];
      wrote = wrote_none (g.O.Sink.written c.args.out.now);
      ended = subst (λ (l : List ℕ). Ended files run (last_piece files.size Whole run c.args.number l) v v [] Done) (sym (empty_is c.args.piece.now c.if-is_empty.ensures))
          (stays files run (ends Done) v Done at.rest (record { ending_is = refl; all = refl; nothing_ahead = refl; no_part = refl }) (λ is. at.rest.laid_out));
    }

pub returns-in-Ok-clause-ended : goal.returns-in-Ok-clause-ended
returns-in-Ok-clause-ended g c = λ t files run at clients.
    let some : c.args.piece.now ≡ [] → ⊥ = some_is c.args.piece.now c.if-is_empty.ensures in
    subst (λ (r : Report). HasRun files r (g.D.Disk.view c.args.host.now.disk) (g.D.Disk.view c.turn.new.host.disk) run (g.O.Sink.written c.args.out.now) (g.O.Sink.written c.turn.new.out) Done) (sym (one_line files.size c.args.piece.now run c.args.number some))
    (answered_all g.D.Disk.view files c.args.piece.now c.args.number c.args.host.now c.turn.new.host run (g.O.Sink.written c.args.out.now) (g.O.Sink.written c.turn.new.out) c.turn.new.clients (c.in-Ok.ensures.told t files run at clients))

pub returns-in-Err-clause-ended : goal.returns-in-Err-clause-ended
returns-in-Err-clause-ended g c = λ t files run at clients.
    let some : c.args.piece.now ≡ [] → ⊥ = some_is c.args.piece.now c.if-is_empty.ensures in
    subst (λ (r : Report). HasRun files r (g.D.Disk.view c.args.host.now.disk) (g.D.Disk.view c.turn.new.host.disk) run (g.O.Sink.written c.args.out.now) (g.O.Sink.written c.turn.new.out) c.in-Err.ending) (sym (one_line files.size c.args.piece.now run c.args.number some))
    (c.in-Err.ensures.told t files run at clients (λ _. ends Done))
