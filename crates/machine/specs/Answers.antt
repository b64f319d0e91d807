-- What a call may answer, by what is decided. Want of memory is always free.
use Rattle.std.specs.Prelude.{◌≡◌, Result, Ok, Err}
use Rattle.host_types.specs.Decision.{Choice, Decides, Declines}
use Rattle.host_types.specs.declared.entry.Reply.{Reply as AnyReply}
use Rattle.host_types.specs.declared.entry.Refusal.{Refusal}
use Rattle.host_types.specs.declared.entry.Refusal.TheVariants as refusal
use Rattle.machine.specs.declared.decision.Decision.{Decision}
use Rattle.machine.specs.declared.decision.Refuse.{Refuse}
use Rattle.machine.specs.declared.decision.Refuse.TheVariants.{NoName, Kind, Names, Range, NoMemory}

-- the decision is the one, or the refusal is its cause
abbrev pub Resolves : Choice → Result Decision Refuse → Type 0
Resolves choice (Ok decision) = choice ≡ Decides decision.effect decision.reply
Resolves choice (Err NoName) = choice ≡ Declines refusal.NoName
Resolves choice (Err (Kind is)) = choice ≡ Declines (refusal.Kind is)
Resolves choice (Err Names) = choice ≡ Declines refusal.Names
Resolves choice (Err (Range value)) = choice ≡ Declines (refusal.Range value)
Resolves choice (Err NoMemory) = Unit {0}

-- the reply is the one, or the refusal is its cause; an operation that looks is refused for its name or for the kind alone
abbrev pub Looks : Result AnyReply Refusal → Result AnyReply Refuse → Type 0
Looks shown (Ok reply) = shown ≡ Ok reply
Looks shown (Err NoName) = shown ≡ Err refusal.NoName
Looks shown (Err (Kind is)) = shown ≡ Err (refusal.Kind is)
Looks shown (Err Names) = ⊥
Looks shown (Err (Range value)) = ⊥
Looks shown (Err NoMemory) = Unit {0}
