use Rattle.std.proofs.Common.{sym, ◌∙◌}
use Rattle.host_core.proofs.Meeting.{changed_none, found_none, is_newer, keeps, notes_old, notes_repeat}
use Rattle.host_core.proofs.entering.keep_reply.Goals.{else-cut-index-via-then-cut-index+else-view-seq, else-cut-index-via-else-cut-index}
use Rattle.host_core.proofs.entering.keep_reply.Goals as goal

pub returns-in_default-clause-sessions : goal.returns-in_default-clause-sessions
returns-in_default-clause-sessions c = sym (changed_none c.args.session _ c.args.sessions.now.sessions (found_none c.args.session c.args.sessions.now (sym c.in_default.is ∙ c.find.ensures)))

pub keep-requires-clause-newer : goal.keep-requires-clause-newer
keep-requires-clause-newer c = is_newer c.args.session c.args.seq c.args.index c.args.sessions.now c.in-Some.view (sym c.in-Some.is ∙ c.find.ensures) c.if-view-seq.true c.requires.before

pub returns-then-view-seq-clause-sessions : goal.returns-then-view-seq-clause-sessions
returns-then-view-seq-clause-sessions c = c.keep.ensures.sessions ∙ keeps c.args.session c.args.seq c.args.index c.args.cut c.args.reply c.args.sessions.now c.in-Some.view (sym c.in-Some.is ∙ c.find.ensures) c.requires.rises c.if-cut-index.true c.if-view-seq.true

pub returns-else-cut-index-clause-sessions : goal.returns-else-cut-index-clause-sessions
returns-else-cut-index-clause-sessions c = c.note.ensures.sessions ∙ elim c.else-cut-index.branch [
  | else-cut-index-via-then-cut-index+else-view-seq w ↦ notes_repeat c.args.session c.args.seq c.args.index c.args.cut c.args.reply c.args.sessions.now c.in-Some.view (sym c.in-Some.is ∙ c.find.ensures) c.requires.rises w.if-view-seq.false
  | else-cut-index-via-else-cut-index w ↦ notes_old c.args.session c.args.seq c.args.index c.args.cut c.args.reply c.args.sessions.now c.in-Some.view (sym c.in-Some.is ∙ c.find.ensures) c.requires.rises w.if-cut-index.false
]
