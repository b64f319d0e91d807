use Rattle.std.proofs.Common.{List, ap, drop, ◌≡◌, ◌+◌, ℕ, Result, Ok, Err, IfOk, OnOk, sym, subst, ◌∙◌, arith}
use Rattle.std.proofs.lemmas.Result.{IfOk-weaker, on_ok_weaker}
use Rattle.disk_model.specs.Image.{place}
use Rattle.disk_model.specs.View.{LeavesAt, Reads}
use Rattle.segment_files.specs.Files.{Becomes, IsAtGate, OrFrame, appended, then_shut}
use Rattle.segment_set.specs.Growth.{frame_size, numbered}
use Rattle.segment_set.proofs.Frames.{behind, behind_is, frame_long, frame_short}
use Rattle.segment_set.proofs.Pushing.{push_left, push_held, push_reads, push_gate, push_last, push_plain, push_size, push_end, push_placed}
use Rattle.segment_set.proofs.appends.push_frame.Goals as goal

-- what holds of the answer and what holds then
both : {T E X : Type 0} (r : Result T E) (P Q : T → Type 0) → ((x : T) → P x → X → Q x) → IfOk r P → OnOk r X → IfOk r Q
both (Ok x) P Q f p q = f x p q
both (Err y) P Q f p q = tt

pub append_frame-requires-clause-at_gate : goal.append_frame-requires-clause-at_gate
append_frame-requires-clause-at_gate g c = λ t. (c.requires.fits t).1.at.at_gate

pub append_frame-requires-clause-open : goal.append_frame-requires-clause-open
append_frame-requires-clause-open g c =
    let f = c.requires.frame.1 in
    (behind c.args.tail.last c.requires.frame.0, behind_is c.args.tail.last c.args.frame.now c.requires.frame.0 f)

pub append_frame-requires-clause-room : goal.append_frame-requires-clause-room
append_frame-requires-clause-room g c =
    let short = frame_short c.args.tail.last c.args.frame.now c.requires.frame.0 c.requires.frame.1 in
    omega (arith, short, c.args.tail.gate_in_range, c.args.tail.has_room, c.args.tail.size_last)

pub returns-clause-grown : goal.returns-clause-grown
returns-clause-grown g c =
    both c.append_frame.result _ _
    (λ gate is done t part entries whole f.
    let tail = c.args.tail in
    let next : gate ≡ tail.gate + frame_size (numbered tail.last entries) = omega (arith, is, frame_long tail.last c.args.frame.now entries f) in
    let left : (b : List ℕ) → Reads (g.D.Disk.view c.args.disk.now) (place c.args.name.now tail.id) b → Becomes (g.D.Disk.view c.args.disk.now) (g.D.Disk.view c.append_frame.new.disk) (place c.args.name.now tail.id) (appended b tail.gate (then_shut (behind tail.last entries))) = λ b reads. done t b (behind tail.last entries) (behind_is tail.last c.args.frame.now entries f) reads in
    record {
      whole = push_reads (g.D.Disk.view c.args.disk.now) (g.D.Disk.view c.append_frame.new.disk) c.args.name.now c.args.tail part c.args.frame.now entries (g.met.D.Disk.sound c.args.disk.now t) (c.requires.fits t) whole f left;
      plain = push_plain (g.D.Disk.view c.args.disk.now) (g.D.Disk.view c.append_frame.new.disk) c.args.name.now c.args.tail part c.args.frame.now entries (g.met.D.Disk.sound c.args.disk.now t) (c.requires.fits t) whole f;
      last_is = push_last (g.D.Disk.view c.args.disk.now) (g.D.Disk.view c.append_frame.new.disk) c.args.name.now c.args.tail part c.args.frame.now entries (g.met.D.Disk.sound c.args.disk.now t) (c.requires.fits t) whole f;
      gate_is = push_end (g.D.Disk.view c.args.disk.now) (g.D.Disk.view c.append_frame.new.disk) c.args.name.now c.args.tail part c.args.frame.now entries (g.met.D.Disk.sound c.args.disk.now t) (c.requires.fits t) whole f ∙ sym next;
      size_is = push_size (g.D.Disk.view c.args.disk.now) (g.D.Disk.view c.append_frame.new.disk) c.args.name.now c.args.tail part c.args.frame.now entries (g.met.D.Disk.sound c.args.disk.now t) (c.requires.fits t) whole f;
      at_gate = subst (λ (k : ℕ). IsAtGate (g.D.Disk.view c.append_frame.new.disk) (place c.args.name.now tail.id) k) (sym next) (push_gate (g.D.Disk.view c.args.disk.now) (g.D.Disk.view c.append_frame.new.disk) c.args.name.now c.args.tail part c.args.frame.now entries (g.met.D.Disk.sound c.args.disk.now t) (c.requires.fits t) whole f left);
    })
    c.append_frame.ensures.gate c.append_frame.ensures.appended

pub returns-clause-any_moment : goal.returns-clause-any_moment
returns-clause-any_moment g c = λ t front part entries whole f apart each.
    push_left (g.D.Disk.view c.args.disk.now) (g.D.Disk.view c.append_frame.new.disk) c.args.name.now c.args.tail part c.args.frame.now entries (g.met.D.Disk.sound c.args.disk.now t) (c.requires.fits t) whole f front apart each
    (subst (λ (l : List ℕ). LeavesAt (g.D.Disk.view c.args.disk.now) (g.D.Disk.view c.append_frame.new.disk) (OrFrame (g.D.Disk.view c.args.disk.now) (place c.args.name.now c.args.tail.id) c.args.tail.gate l))
    (ap (drop 1) (behind_is c.args.tail.last c.args.frame.now entries f)) (c.append_frame.ensures.writes.any_moment t))

pub returns-clause-held : goal.returns-clause-held
returns-clause-held g c =
    on_ok_weaker c.append_frame.result
    (λ done t front part entries whole f apart each. push_held (g.D.Disk.view c.args.disk.now) (g.D.Disk.view c.append_frame.new.disk) c.args.name.now c.args.tail part c.args.frame.now entries (g.met.D.Disk.sound c.args.disk.now t) (c.requires.fits t) whole f front apart each
    (λ b reads. done t b (behind c.args.tail.last entries) (behind_is c.args.tail.last c.args.frame.now entries f) reads))
    c.append_frame.ensures.appended

pub returns-clause-longer : goal.returns-clause-longer
returns-clause-longer g c =
    let short = frame_short c.args.tail.last c.args.frame.now c.requires.frame.0 c.requires.frame.1 in
    IfOk-weaker c.append_frame.result _ _ (λ gate is. (is, omega (arith, short, is))) c.append_frame.ensures.gate

pub returns-clause-placed : goal.returns-clause-placed
returns-clause-placed g c =
    on_ok_weaker c.append_frame.result
    (λ done t part entries offsets whole f placed. push_placed (g.D.Disk.view c.args.disk.now) (g.D.Disk.view c.append_frame.new.disk) c.args.name.now c.args.tail part c.args.frame.now entries (g.met.D.Disk.sound c.args.disk.now t) (c.requires.fits t) whole f
    (λ b reads. done t b (behind c.args.tail.last entries) (behind_is c.args.tail.last c.args.frame.now entries f) reads) offsets placed)
    c.append_frame.ensures.appended
