use Rattle.std.proofs.Common.{◌≡◌, ℕ, ◌+◌, ◌<◌, List, length, take, drop, Option, Some, Ok, Err, ap, sym, ◌∙◌, subst, arith, length-drop}
use Rattle.copycat_tool.specs.declared.ending.Ending.{Ending}
use Rattle.copycat_tool.specs.declared.reader.Piece.{Piece}
use Rattle.copycat_tool.specs.declared.reader.Piece.TheVariants.{Line}
use Rattle.copycat_tool.specs.declared.reader.ReadError.{ReadError}
use Rattle.copycat_tool.specs.Pieces.{Finds, IsLineWithin}
use Rattle.copycat_tool.specs.Turning.{goes_on}
use Rattle.copycat_tool.proofs.Keeping.{keeps_first, keeps_further}
use Rattle.copycat_tool.proofs.LoopLemmas.{met_first, memory_exit, long_exit, above_exit, broken_exit, last_exit, line_exit, after_turn}
use Rattle.copycat_tool.proofs.ReadingLemmas.{front_further, taken_front}
use Rattle.copycat_tool.proofs.answers.answer_lines.Goals as goal

is_piece : (left held held' : List ℕ) (taken taken' : ℕ) (now : Option (List ℕ)) (p q : Piece) → p ≡ q → Finds left held held' taken taken' now (Ok p) → Finds left held held' taken taken' now (Ok q)
is_piece left held held' taken taken' now p q is = let P : Piece → Type 0 = λ p. Finds left held held' taken taken' now (Ok p) in subst P is

pub loop-piece-init : goal.loop-piece-init
loop-piece-init g c = record {
  runs = c.requires.runs;
  met = λ t files run at clients bytes left. met_first g.D.Disk.view files c.args.host.now run at bytes c.new-reader.result.held c.new-reader.result.taken (g.I.Source.left c.args.script.now) (g.O.Sink.written c.args.out.now) c.args.clients.now c.new-reader.ensures.held c.new-reader.ensures.taken left clients;
  keeps = keeps_first g.D.Disk.tells g.D.Disk.view g.D.Disk.faults c.args.host.now (g.O.Sink.faults c.args.out.now);
  front = λ bytes left. left ∙ ap (λ (n : ℕ). Some (drop n bytes)) (sym c.new-reader.ensures.taken);
  room = omega (arith, ap length c.new-reader.ensures.held, c.new-reader.ensures.taken);
  source = omega arith;
}

pub returns-in-Err-Failed-clause-ended : goal.returns-in-Err-Failed-clause-ended
returns-in-Err-Failed-clause-ended g c = λ t files run at clients bytes left.
    let m = c.loop-piece.invariant.met t files run at clients bytes left in
    let f = c.next_piece.ensures.failed m.rest m.left_is (c.in-Err-Failed.is ∙ ap (λ (e : ReadError). Err e) c.in-Err-Failed.field-0-is) in
    broken_exit _ _ _ _ _ _ _ _ _ _ _ _ _ m _ _ _ (omega (arith, c.next_piece.new.self.limit)) _ f f.piece f.left_is

pub returns-in-Err-NoMemory-clause-ended : goal.returns-in-Err-NoMemory-clause-ended
returns-in-Err-NoMemory-clause-ended g c = λ t files run at clients bytes left.
    let m = c.loop-piece.invariant.met t files run at clients bytes left in
    memory_exit _ _ _ _ _ _ _ _ _ _ _ _ _ m (omega (arith, c.loop-piece.reader.limit))

pub returns-in-Long-clause-ended : goal.returns-in-Long-clause-ended
returns-in-Long-clause-ended g c = λ t files run at clients bytes left.
    let m = c.loop-piece.invariant.met t files run at clients bytes left in
    let f = is_piece _ _ _ _ _ _ _ _ c.in-Long.is (c.in-Ok.ensures.finds m.rest m.left_is) in
    long_exit _ _ _ _ _ _ _ _ _ _ _ _ _ m _ _ _ (omega (arith, c.next_piece.new.self.limit)) _ f f.piece

pub returns-in-Above-clause-ended : goal.returns-in-Above-clause-ended
returns-in-Above-clause-ended g c = λ t files run at clients bytes left.
    let m = c.loop-piece.invariant.met t files run at clients bytes left in
    let f = is_piece _ _ _ _ _ _ _ _ c.in-Above.is (c.in-Ok.ensures.finds m.rest m.left_is) in
    above_exit _ _ _ _ _ _ _ _ _ _ _ _ _ m _ _ _ (omega (arith, c.next_piece.new.self.limit)) _ f f.piece.0 f.piece.1 f.piece.2

pub returns-in-Last-clause-ended : goal.returns-in-Last-clause-ended
returns-in-Last-clause-ended g c = λ t files run at clients bytes left.
    let m = c.loop-piece.invariant.met t files run at clients bytes left in
    let f = is_piece _ _ _ _ _ _ _ _ c.in-Last.is (c.in-Ok.ensures.finds m.rest m.left_is) in
    last_exit _ _ _ _ _ _ _ _ _ _ _ _ _ m _ _ _ (omega (arith, c.next_piece.new.self.limit)) _ f _ c.bytes-in-Last.ensures f.piece.0 f.piece.1 _ _ _ (λ is. c.answer_last.ensures.keeps.read_fault (ap (λ (e : Ending). Err e) is)) (c.answer_last.ensures.ended t files _ m.at m.clients_are)

pub returns-in-Err-clause-ended : goal.returns-in-Err-clause-ended
returns-in-Err-clause-ended g c = λ t files run at clients bytes left.
    let m = c.loop-piece.invariant.met t files run at clients bytes left in
    let f = is_piece _ _ _ _ _ _ _ _ c.in-Line.is (c.in-Ok.ensures.finds m.rest m.left_is) in
    line_exit _ _ _ _ _ _ _ _ _ _ _ _ _ m _ _ _ (omega (arith, c.next_piece.new.self.limit)) _ f c.in-Line.length f.piece.0 _ (ap (λ (l : List ℕ). take c.in-Line.length l) c.bytes.ensures) _ _ _ (λ is. c.in-Err.ensures.keeps.read_fault (ap (λ (e : Ending). Err e) is))
    (c.in-Err.ensures.told t files _ m.at m.clients_are)

line_within : (p : Piece) (n : ℕ) (held : List ℕ) → p ≡ Line n → IsLineWithin p held → n < length held
line_within p n held is within = let P : Piece → Type 0 = λ p. IsLineWithin p held in subst P is within

pub loop-piece-preserved : goal.loop-piece-preserved
loop-piece-preserved g c =
    let at_line : c.in-Line.length < length c.next_piece.new.self.held = line_within c.in-Ok.piece c.in-Line.length _ c.in-Line.is c.in-Ok.ensures.line in
    record {
      runs = c.in-Ok-turn.ensures.runs;
      met = λ t files run at clients bytes left.
          let m = c.loop-piece.invariant.met t files run at clients bytes left in
          let f = is_piece _ _ _ _ _ _ _ _ c.in-Line.is (c.in-Ok.ensures.finds m.rest m.left_is) in
          after_turn _ _ _ _ _ _ _ _ _ _ _ _ _ m _ _ _ (omega (arith, c.next_piece.new.self.limit)) _ f c.in-Line.length f.piece.0 f.left_is _ (ap (λ (l : List ℕ). take c.in-Line.length l) c.bytes.ensures) _ _ _
          (c.in-Ok-turn.ensures.told t files _ m.at m.clients_are) _ c.skip.ensures.held _ c.skip.ensures.taken;
      keeps = keeps_further g.D.Disk.tells g.D.Disk.view g.D.Disk.faults c.args.host.now c.loop-piece.host c.turn.new.host (g.O.Sink.faults c.args.out.now) (g.O.Sink.faults c.loop-piece.out) (g.O.Sink.faults c.turn.new.out) c.loop-piece.invariant.keeps ⊥ ⊥ (λ no. no) goes_on c.in-Ok-turn.ensures.keeps;
      front = λ bytes left.
          let before = c.loop-piece.invariant.front bytes left in
          let f = is_piece _ _ _ _ _ _ _ _ c.in-Line.is (c.in-Ok.ensures.finds (drop c.loop-piece.reader.taken bytes) before) in
          front_further bytes _ _ _ _ _ _ f.takes f.left_is ∙ ap (λ (n : ℕ). Some (drop n bytes)) (sym c.skip.ensures.taken);
      room = omega (arith, at_line, c.loop-piece.invariant.room, c.in-Ok.ensures.consumed, c.skip.ensures.taken, ap length c.skip.ensures.held, length-drop (c.in-Line.length + 1) c.next_piece.new.self.held);
      source = omega (arith, c.loop-piece.invariant.source, c.next_piece.ensures.later);
    }

pub returns-in-Err-Failed-clause-front : goal.returns-in-Err-Failed-clause-front
returns-in-Err-Failed-clause-front g c = λ bytes left. taken_front bytes _ _ (c.next_piece.ensures.front (drop c.loop-piece.reader.taken bytes) (c.loop-piece.invariant.front bytes left))

pub returns-in-Err-NoMemory-clause-front : goal.returns-in-Err-NoMemory-clause-front
returns-in-Err-NoMemory-clause-front g c = λ bytes left. taken_front bytes _ _ (c.next_piece.ensures.front (drop c.loop-piece.reader.taken bytes) (c.loop-piece.invariant.front bytes left))

pub returns-in-Err-clause-front : goal.returns-in-Err-clause-front
returns-in-Err-clause-front g c = λ bytes left. taken_front bytes _ _ (c.next_piece.ensures.front (drop c.loop-piece.reader.taken bytes) (c.loop-piece.invariant.front bytes left))

pub returns-in-Last-clause-front : goal.returns-in-Last-clause-front
returns-in-Last-clause-front g c = λ bytes left. taken_front bytes _ _ (c.next_piece.ensures.front (drop c.loop-piece.reader.taken bytes) (c.loop-piece.invariant.front bytes left))

pub returns-in-Long-clause-front : goal.returns-in-Long-clause-front
returns-in-Long-clause-front g c = λ bytes left. taken_front bytes _ _ (c.next_piece.ensures.front (drop c.loop-piece.reader.taken bytes) (c.loop-piece.invariant.front bytes left))

pub returns-in-Above-clause-front : goal.returns-in-Above-clause-front
returns-in-Above-clause-front g c = λ bytes left. taken_front bytes _ _ (c.next_piece.ensures.front (drop c.loop-piece.reader.taken bytes) (c.loop-piece.invariant.front bytes left))
