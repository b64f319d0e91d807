use Rattle.std.proofs.Common.{◌≡◌, ◌∙◌, [], None, is_some, sym, ap, subst, arith}
use Rattle.log_model.specs.plain.Step.{changed}
use Rattle.log_model.specs.replay.Replay.{replay_reply}
use Rattle.log_model.specs.plain.Plain.{session_in}
use Rattle.log_model.specs.hosted.Sound.{Rises}
use Rattle.session_table.specs.Table.{IsOpen}
use Rattle.host_core.specs.Batching.{AreBatchesOf, CanTakeAll, HaveBatchRoom, ended_by, told_above, told_by}
use Rattle.host_core.specs.Entering.{AreKeptBefore, Entered, HasRoomFor}
use Rattle.host_core.proofs.Giving.{given}
use Rattle.host_core.proofs.Meeting.{ids_are_below, is_lent, can_take, can_take_left, given_kept_before, given_open, given_rises, kept_before, entered_alive, entered_close, entered_command, entered_register, entered_tick}
use Rattle.host_core.proofs.entering.enter.Goals as goal

pub register-requires-clause-above : goal.register-requires-clause-above
register-requires-clause-above κs c = ids_are_below _ _ _ _ c.requires.meets

pub close_own-requires : goal.close_own-requires
close_own-requires κs c = is_lent _ _ _ _ c.requires.meets

pub returns-in-Register : goal.returns-in-Register
returns-in-Register κs c =
    let machine = κs.M.Machine.cells c.args.machine.now in
    subst (λ b. Entered c.args.commit (record { time = c.args.entry.time; body = b }) c.args.cut (told_by κs.M.Machine.decides machine c.args.commit b) machine machine c.args.sessions.now c.register.new.self c.args.lender.now c.args.lender.now) (sym c.in-Register.is)
    (entered_register c.args.commit c.args.entry.time c.args.cut [] machine c.args.sessions.now c.args.lender.now c.requires.meets c.in-Register.timeout c.register.new.self
    c.register.ensures.sessions c.register.ensures.cells c.register.ensures.places c.register.ensures.beside)

pub returns-in-Alive : goal.returns-in-Alive
returns-in-Alive κs c =
    let machine = κs.M.Machine.cells c.args.machine.now in
    subst (λ b. Entered c.args.commit (record { time = c.args.entry.time; body = b }) c.args.cut (told_by κs.M.Machine.decides machine c.args.commit b) machine machine c.args.sessions.now c.enter_alive.new.sessions c.args.lender.now c.enter_alive.new.lender) (sym c.in-Alive.is)
    (entered_alive c.args.commit c.args.entry.time c.args.cut [] machine c.args.sessions.now c.args.lender.now c.requires.meets c.in-Alive.session c.in-Alive.seq c.in-Alive.event c.enter_alive.new.sessions c.enter_alive.new.lender
    c.enter_alive.ensures.sessions c.enter_alive.ensures.table c.enter_alive.ensures.beside c.enter_alive.ensures.released)

pub returns-in-Tick : goal.returns-in-Tick
returns-in-Tick κs c =
    let machine = κs.M.Machine.cells c.args.machine.now in
    subst (λ b. Entered c.args.commit (record { time = c.args.entry.time; body = b }) c.args.cut (told_by κs.M.Machine.decides machine c.args.commit b) machine machine c.args.sessions.now c.args.sessions.now c.args.lender.now c.close_own.new.lender) (sym c.in-Tick.is)
    (entered_tick c.args.commit c.args.entry.time c.args.cut [] machine c.args.sessions.now c.args.lender.now c.requires.meets c.close_own.new.lender c.close_own.ensures)

-- ---- a session is ended

pub push_all-requires : goal.push_all-requires
push_all-requires κs c =
    subst (λ i. CanTakeAll i c.enter_close.new.sessions c.args.batches.entries) (sym c.index-index.ensures)
    (can_take_left c.args.commit (κs.M.Machine.cells c.args.machine.now) c.args.sessions.now c.args.lender.now c.requires.meets c.args.batches.entries c.in-Close.session c.enter_close.new.sessions
    (subst (λ b. HaveBatchRoom (ended_by b) c.args.sessions.now c.args.batches.entries) c.in-Close.is c.requires.batch_room) c.enter_close.ensures.sessions c.enter_close.ensures.rooms)

pub returns-in-Close : goal.returns-in-Close
returns-in-Close κs c =
    let machine = κs.M.Machine.cells c.args.machine.now in
    let batches = c.args.batches.entries in
    subst (λ b. Entered c.args.commit (record { time = c.args.entry.time; body = b }) c.args.cut (told_by κs.M.Machine.decides machine c.args.commit b) machine (κs.M.Machine.cells c.enter_close.new.machine) c.args.sessions.now c.push_all.new.sessions c.args.lender.now c.enter_close.new.lender) (sym c.in-Close.is)
    (entered_close c.args.commit c.args.entry.time c.args.cut (κs.M.Machine.decides.tells_close machine c.in-Close.session) machine c.args.sessions.now c.args.lender.now c.requires.meets c.in-Close.session c.in-Close.expired batches
    (subst (λ b. AreBatchesOf (told_above c.args.cut c.args.commit (told_by κs.M.Machine.decides machine c.args.commit b)) (ended_by b) c.args.sessions.now.sessions batches) c.in-Close.is c.requires.batches)
    (κs.M.Machine.cells c.enter_close.new.machine) c.enter_close.new.sessions c.push_all.new.sessions c.enter_close.new.lender
    c.enter_close.ensures.machine c.enter_close.ensures.sessions (c.enter_close.ensures.table c.args.entry.time c.in-Close.expired) c.enter_close.ensures.beside c.enter_close.ensures.released
    (subst (λ i. c.push_all.new.sessions.sessions ≡ given i batches c.enter_close.new.sessions.sessions) c.index-index.ensures c.push_all.ensures.sessions) c.push_all.ensures.beside)

-- ---- a command

pub push_all-requires-in-Command : goal.push_all-requires-in-Command
push_all-requires-in-Command κs c =
    subst (λ i. CanTakeAll i c.args.sessions.now c.args.batches.entries) (sym c.index-index-in-Command.ensures)
    (can_take c.args.commit (κs.M.Machine.cells c.args.machine.now) c.args.sessions.now c.args.lender.now c.requires.meets c.args.batches.entries None
    (subst (λ b. HaveBatchRoom (ended_by b) c.args.sessions.now c.args.batches.entries) c.in-Command.is c.requires.batch_room))

pub keep_reply-requires-clause-room : goal.keep_reply-requires-clause-room
keep_reply-requires-clause-room κs c opened =
    let room = subst (λ b. HasRoomFor (κs.M.Machine.is_ready c.args.machine.now) c.args.sessions.now c.args.commit b) c.in-Command.is c.requires.room in
    let before : IsOpen c.in-Command.session c.args.sessions.now =
    sym (given_open c.index-index-in-Command.result c.in-Command.session c.args.batches.entries c.args.sessions.now.sessions) ∙ ap (λ ss. is_some (session_in c.in-Command.session ss)) (sym c.push_all-in-Command.ensures.sessions) ∙ opened in
    let enough = room.1 before in
    let more = c.push_all-in-Command.ensures.replies c.in-Command.session in
    omega (arith, enough, more)

pub keep_reply-requires-clause-before : goal.keep_reply-requires-clause-before
keep_reply-requires-clause-before κs c =
    subst (λ i. AreKeptBefore i c.push_all-in-Command.new.sessions.sessions) (sym c.index-index-in-Command.ensures)
    (subst (AreKeptBefore c.args.commit) (sym c.push_all-in-Command.ensures.sessions)
    (given_kept_before c.index-index-in-Command.result c.args.commit c.args.batches.entries c.args.sessions.now.sessions (kept_before c.args.commit (κs.M.Machine.cells c.args.machine.now) c.args.sessions.now c.args.lender.now c.requires.meets)))

pub keep_reply-requires-clause-rises : goal.keep_reply-requires-clause-rises
keep_reply-requires-clause-rises κs c =
    subst Rises (sym c.push_all-in-Command.ensures.sessions) (given_rises c.index-index-in-Command.result c.args.batches.entries c.args.sessions.now.sessions c.requires.meets.sound.sessions_rise)

pub returns-in-Command : goal.returns-in-Command
returns-in-Command κs c =
    let machine = κs.M.Machine.cells c.args.machine.now in
    let batches = c.args.batches.entries in
    subst (λ b. Entered c.args.commit (record { time = c.args.entry.time; body = b }) c.args.cut (told_by κs.M.Machine.decides machine c.args.commit b) machine (κs.M.Machine.cells c.enter_effect.new.machine) c.args.sessions.now c.keep_reply.new.sessions c.args.lender.now c.enter_effect.new.lender) (sym c.in-Command.is)
    (entered_command c.args.commit c.args.entry.time c.args.cut (κs.M.Machine.decides.tells machine c.in-Command.effect c.args.commit) machine c.args.sessions.now c.args.lender.now c.requires.meets c.in-Command.session c.in-Command.seq c.in-Command.effect c.in-Command.reply batches
    (subst (λ b. AreBatchesOf (told_above c.args.cut c.args.commit (told_by κs.M.Machine.decides machine c.args.commit b)) (ended_by b) c.args.sessions.now.sessions batches) c.in-Command.is c.requires.batches)
    (κs.M.Machine.cells c.enter_effect.new.machine) c.push_all-in-Command.new.sessions c.keep_reply.new.sessions c.enter_effect.new.lender
    (c.enter_effect.ensures.machine c.in-Command.session c.in-Command.seq c.in-Command.reply) c.enter_effect.ensures.released
    (subst (λ i. c.push_all-in-Command.new.sessions.sessions ≡ given i batches c.args.sessions.now.sessions) c.index-index-in-Command.ensures c.push_all-in-Command.ensures.sessions) c.push_all-in-Command.ensures.beside
    (subst (λ i. c.keep_reply.new.sessions.sessions ≡ changed c.in-Command.session (replay_reply c.args.cut c.in-Command.seq i c.in-Command.reply) c.push_all-in-Command.new.sessions.sessions) c.index-index-in-Command.ensures c.keep_reply.ensures.sessions)
    c.keep_reply.ensures.beside)
