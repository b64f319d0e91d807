-- What a resource or a machine decides, shows and tells, as functions of its cells, and when its decisions are lawful.
use Rattle.std.specs.Prelude.{◌≡◌, ◌≢◌, ◌⊎◌, ℕ, Bool, true, false, List, Some, None, Result, IsTrue}
use Rattle.std.specs.FinMap.Entries.{is_sorted}
use Rattle.host_types.specs.Cells.{Place, Held, Cells, place_cmp, at, effect_puts, effect_fits, instance_fits, deletes_standing}
use Rattle.host_types.specs.Ranges.{IsIndex, IsKey, EffectFits, IsEffectInRange, ReplyFits, IsReplyInRange, OpFits, AreCellsInRange}
use Rattle.host_types.specs.declared.entry.Kind.{Kind}
use Rattle.host_types.specs.declared.entry.Op.{Op}
use Rattle.host_types.specs.declared.entry.Op.TheVariants.{Size, Get, GetOf, Count, Has, Peek, Holder, Members, Leader}
use Rattle.host_types.specs.declared.entry.Effect.{Effect}
use Rattle.host_types.specs.declared.entry.Reply.{Reply}
use Rattle.host_types.specs.declared.entry.Event.{Event}
use Rattle.host_types.specs.declared.entry.Refusal.{Refusal}

-- the decision on an operation: what is stored of it and what it is answered, or why it is refused
pub data Choice : Type 0 where
  Decides : Effect → Reply → Choice
  Declines : Refusal → Choice

-- One resource. Each function takes its instance and its cells; then `resolve` takes the operation, the asking session and the
-- index that the entry would get, `look` an operation, `tells` the resource's name, an effect and its index, and `tells_close`
-- the name and the session that is closed. Events stand with the session that is told.
pub record ResourceDecision : Type 0 where
  pub resolve : ℕ → Cells → Op → ℕ → ℕ → Choice
  pub look : ℕ → Cells → Op → Result Reply Refusal
  pub tells : ℕ → Cells → List ℕ → Effect → ℕ → List (ℕ × Event)
  pub tells_close : ℕ → Cells → List ℕ → ℕ → List (ℕ × Event)

-- A machine. Each function takes its cells, names among them; `resolve` and `look` take the name of the resource that is asked.
pub record MachineDecision : Type 0 where
  pub resolve : Cells → List ℕ → Op → ℕ → ℕ → Choice
  pub look : Cells → List ℕ → Op → Result Reply Refusal
  pub tells : Cells → Effect → ℕ → List (ℕ × Event)
  pub tells_close : Cells → ℕ → List (ℕ × Event)

-- the operations that only look
abbrev pub is_looking : Op → Bool
is_looking Size = true
is_looking Get = true
is_looking (GetOf key) = true
is_looking (Count key) = true
is_looking (Has word) = true
is_looking Peek = true
is_looking Holder = true
is_looking Members = true
is_looking Leader = true
is_looking _ = false

-- nobody but the session owns what is put
abbrev pub OwnsAll : ℕ → List (Place × Held) → Type 0
OwnsAll session written = (place : Place) (held : Held) → at written place ≡ Some held → (held.owner ≡ None) ⊎ (held.owner ≡ Some session)

-- A lawful decision of a session at an index: its numbers are in range, it fits, what it puts is the session's or nobody's, and a
-- name that it deletes stands with that instance.
pub record IsLawful (fits : Bool) (cells : Cells) (session index : ℕ) (effect : Effect) (reply : Reply) : Type 0 where
  pub effect_in_range : EffectFits effect × IsEffectInRange effect
  pub reply_in_range : ReplyFits reply × IsReplyInRange reply
  pub fits_there : IsTrue fits
  pub owns : OwnsAll session (effect_puts index effect)
  pub deletes : IsTrue (deletes_standing cells effect)

-- what the law on decisions takes for granted
pub record IsAsked (cells : Cells) (op : Op) (session index : ℕ) : Type 0 where
  pub rises : IsTrue (is_sorted place_cmp cells)
  pub in_range : AreCellsInRange cells
  pub op_fits : OpFits op
  pub session_in_range : IsIndex session
  pub index_in_range : IsIndex index

-- each decision of a resource of this kind is lawful
abbrev pub ResourceIsLawful : Kind → ResourceDecision → Type 0
ResourceIsLawful kind d =
    (instance : ℕ) (cells : Cells) (op : Op) (session index : ℕ) (effect : Effect) (reply : Reply)
    → IsIndex instance
    → IsAsked cells op session index
    → d.resolve instance cells op session index ≡ Decides effect reply
    → IsLawful (instance_fits kind instance effect) cells session index effect reply

-- each decision of a machine is lawful
abbrev pub MachineIsLawful : MachineDecision → Type 0
MachineIsLawful d =
    (cells : Cells) (name : List ℕ) (op : Op) (session index : ℕ) (effect : Effect) (reply : Reply)
    → IsKey name
    → IsAsked cells op session index
    → d.resolve cells name op session index ≡ Decides effect reply
    → IsLawful (effect_fits cells effect) cells session index effect reply

-- what two entries put at one place has one owner, or none
abbrev pub OwnersAgree : List (Place × Held) → List (Place × Held) → Type 0
OwnersAgree written later = (place : Place) (held other : Held) → at written place ≡ Some held → at later place ≡ Some other → held.owner ≡ other.owner

-- two puts that a resource decides for one place at different indexes agree on the owner
abbrev pub ResourceHasOneOwner : ResourceDecision → Type 0
ResourceHasOneOwner d =
    (instance : ℕ) (cells later : Cells) (op op' : Op) (session session' index index' : ℕ) (effect effect' : Effect) (reply reply' : Reply)
    → index ≢ index'
    → d.resolve instance cells op session index ≡ Decides effect reply
    → d.resolve instance later op' session' index' ≡ Decides effect' reply'
    → OwnersAgree (effect_puts index effect) (effect_puts index' effect')

-- two puts that a machine decides for one place at different indexes agree on the owner
abbrev pub MachineHasOneOwner : MachineDecision → Type 0
MachineHasOneOwner d =
    (cells later : Cells) (name name' : List ℕ) (op op' : Op) (session session' index index' : ℕ) (effect effect' : Effect) (reply reply' : Reply)
    → index ≢ index'
    → d.resolve cells name op session index ≡ Decides effect reply
    → d.resolve later name' op' session' index' ≡ Decides effect' reply'
    → OwnersAgree (effect_puts index effect) (effect_puts index' effect')
