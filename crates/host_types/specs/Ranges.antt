-- Which numbers and texts an entry, an operation and the cells may have.
use Rattle.std.specs.Prelude.{◌≡◌, ℕ, ◌<◌, ◌≤◌, ◌^◌, Option, Some, None, List, length, FitsSigned}
use Rattle.std.specs.List.{AllByRecursion}
use Rattle.std.specs.Int.{w64}
use Rattle.host_types.specs.Limits.{index_limit, key_limit, word_limit, words_limit, indexes_limit}
use Rattle.host_types.specs.Text.{IsText}
use Rattle.host_types.specs.Cells.{Place, Name_at, Cell_at, Register_at, Alive_at, Held, Cells, at}
use Rattle.host_types.specs.declared.entry.Cell.{Cell}
use Rattle.host_types.specs.declared.entry.Cell.TheVariants as cells
use Rattle.host_types.specs.declared.entry.Content.{Content}
use Rattle.host_types.specs.declared.entry.Content.TheVariants as contents
use Rattle.host_types.specs.declared.entry.Effect.{Effect}
use Rattle.host_types.specs.declared.entry.Effect.TheVariants as effects
use Rattle.host_types.specs.declared.entry.Reply.{Reply}
use Rattle.host_types.specs.declared.entry.Reply.TheVariants as replies
use Rattle.host_types.specs.declared.entry.Body.{Body}
use Rattle.host_types.specs.declared.entry.Body.TheVariants as bodies
use Rattle.host_types.specs.declared.entry.Entry.{Entry}
use Rattle.host_types.specs.declared.entry.Ask.{Ask}
use Rattle.host_types.specs.declared.entry.Ask.TheVariants as asks
use Rattle.host_types.specs.declared.entry.Offer.{Offer}
use Rattle.host_types.specs.declared.entry.Op.{Op}
use Rattle.host_types.specs.declared.entry.Op.TheVariants as ops

-- the session that owns a cell, or 0 where none does
abbrev pub owner_number : Option ℕ → ℕ
owner_number None = 0
owner_number (Some session) = session

-- ---- what the types of an entry hold by themselves: numbers of 64 bits, keys and words that are texts, short lists

abbrev pub IsUnsigned : ℕ → Type 0
IsUnsigned n = n < 2 ^ 64

abbrev pub IsKey : List ℕ → Type 0
IsKey = IsText key_limit

abbrev pub IsWord : List ℕ → Type 0
IsWord = IsText word_limit

abbrev pub CellFits : Cell → Type 0
CellFits cells.One = Unit {0}
CellFits (cells.Named key) = IsKey key
CellFits (cells.Member word) = IsWord word
CellFits (cells.Pair key word) = IsKey key × IsWord word
CellFits (cells.At index) = IsUnsigned index
CellFits (cells.Waiter session id) = IsUnsigned session × IsUnsigned id
CellFits (cells.Of session) = IsUnsigned session

abbrev pub ContentFits : Content → Type 0
ContentFits contents.Mark = Unit {0}
ContentFits (contents.Text word) = IsWord word
ContentFits (contents.Number number) = FitsSigned w64 number

abbrev pub EffectFits : Effect → Type 0
EffectFits effects.Nothing = Unit {0}
EffectFits (effects.Create name kind) = IsKey name
EffectFits (effects.Delete name instance) = IsKey name × IsUnsigned instance
EffectFits (effects.Put instance cell content owner) = IsUnsigned instance × CellFits cell × ContentFits content × IsUnsigned (owner_number owner)
EffectFits (effects.Drop instance cell) = IsUnsigned instance × CellFits cell
EffectFits (effects.Wipe instance) = IsUnsigned instance
EffectFits (effects.WipeKey instance key) = IsUnsigned instance × IsKey key
EffectFits (effects.Tell instance word) = IsUnsigned instance × IsWord word

abbrev pub ReplyFits : Reply → Type 0
ReplyFits replies.None = Unit {0}
ReplyFits (replies.Text word) = IsWord word
ReplyFits (replies.Number number) = FitsSigned w64 number
ReplyFits (replies.Truth truth) = Unit {0}
ReplyFits (replies.Index index) = IsUnsigned index
ReplyFits (replies.Holder session id) = IsUnsigned session × IsUnsigned id
ReplyFits (replies.Words words) = (length words ≤ words_limit) × AllByRecursion IsWord words
ReplyFits (replies.Indexes indexes) = (length indexes ≤ indexes_limit) × AllByRecursion IsUnsigned indexes

-- what an operation of the program's types holds
abbrev pub OpFits : Op → Type 0
OpFits (ops.Set word) = IsWord word
OpFits (ops.GetSet word) = IsWord word
OpFits (ops.Cas old new) = IsWord old × IsWord new
OpFits (ops.Reset number) = FitsSigned w64 number
OpFits (ops.Add number) = FitsSigned w64 number
OpFits (ops.Put key word) = IsKey key × IsWord word
OpFits (ops.PutIf key word) = IsKey key × IsWord word
OpFits (ops.Replace key word) = IsKey key × IsWord word
OpFits (ops.Remove key) = IsKey key
OpFits (ops.GetOf key) = IsKey key
OpFits (ops.RemoveOne key word) = IsKey key × IsWord word
OpFits (ops.Count key) = IsKey key
OpFits (ops.Insert word) = IsWord word
OpFits (ops.Discard word) = IsWord word
OpFits (ops.Has word) = IsWord word
OpFits (ops.Enqueue word) = IsWord word
OpFits (ops.RemoveWord word) = IsWord word
OpFits (ops.Lock id) = IsUnsigned id
OpFits (ops.Try id) = IsUnsigned id
OpFits (ops.Unlock id) = IsUnsigned id
OpFits (ops.Join word) = IsWord word
OpFits (ops.Leave member) = IsUnsigned member
OpFits (ops.Publish word) = IsWord word
OpFits _ = Unit {0}

-- ---- what is asked beyond that: which numbers are indexes

-- an index, a session, an event, an instance, a member, or the sequence of a command
abbrev pub IsIndex : ℕ → Type 0
IsIndex n = (1 ≤ n) × (n ≤ index_limit)

abbrev pub IsCellInRange : Cell → Type 0
IsCellInRange cells.One = Unit {0}
IsCellInRange (cells.Named key) = Unit {0}
IsCellInRange (cells.Member word) = Unit {0}
IsCellInRange (cells.Pair key word) = Unit {0}
IsCellInRange (cells.At index) = IsIndex index
IsCellInRange (cells.Waiter session id) = IsIndex session
IsCellInRange (cells.Of session) = IsIndex session

-- nobody, or a session
abbrev pub IsOwner : Option ℕ → Type 0
IsOwner None = Unit {0}
IsOwner (Some session) = IsIndex session

abbrev pub IsEffectInRange : Effect → Type 0
IsEffectInRange effects.Nothing = Unit {0}
IsEffectInRange (effects.Create name kind) = Unit {0}
IsEffectInRange (effects.Delete name instance) = IsIndex instance
IsEffectInRange (effects.Put instance cell content owner) = IsIndex instance × IsCellInRange cell × IsOwner owner
IsEffectInRange (effects.Drop instance cell) = IsIndex instance × IsCellInRange cell
IsEffectInRange (effects.Wipe instance) = IsIndex instance
IsEffectInRange (effects.WipeKey instance key) = IsIndex instance
IsEffectInRange (effects.Tell instance word) = IsIndex instance

abbrev pub IsReplyInRange : Reply → Type 0
IsReplyInRange replies.None = Unit {0}
IsReplyInRange (replies.Text word) = Unit {0}
IsReplyInRange (replies.Number number) = Unit {0}
IsReplyInRange (replies.Truth truth) = Unit {0}
IsReplyInRange (replies.Index index) = IsIndex index
IsReplyInRange (replies.Holder session id) = IsIndex session
IsReplyInRange (replies.Words words) = Unit {0}
IsReplyInRange (replies.Indexes indexes) = AllByRecursion IsIndex indexes

-- ---- the cells of a log, whose entries all are so

abbrev pub IsPlaceInRange : Place → Type 0
IsPlaceInRange (Name_at name) = IsKey name
IsPlaceInRange (Cell_at instance cell) = IsIndex instance × CellFits cell × IsCellInRange cell
IsPlaceInRange (Register_at session) = IsIndex session
IsPlaceInRange (Alive_at session) = IsIndex session

pub record IsHeldInRange (held : Held) : Type 0 where
  pub index : IsIndex held.index
  pub content : ContentFits held.content
  pub owner : IsOwner held.owner

abbrev pub AreCellsInRange : Cells → Type 0
AreCellsInRange standing = (place : Place) (held : Held) → at standing place ≡ Some held → IsPlaceInRange place × IsHeldInRange held

-- ---- an entry at its index, and an offer

abbrev pub BodyFits : Body → Type 0
BodyFits (bodies.Register timeout) = IsUnsigned timeout
BodyFits (bodies.Alive session seq event) = IsUnsigned session × IsUnsigned seq × IsUnsigned event
BodyFits (bodies.Close session expired) = IsUnsigned session
BodyFits bodies.Tick = Unit {0}
BodyFits (bodies.Command session seq effect reply) = IsUnsigned session × IsUnsigned seq × EffectFits effect × ReplyFits reply

-- what the types of an entry hold by themselves
pub record EntryFits (entry : Entry) : Type 0 where
  pub time : IsUnsigned entry.time
  pub body : BodyFits entry.body

abbrev pub IsBodyInRange : Body → Type 0
IsBodyInRange (bodies.Register timeout) = Unit {0}
IsBodyInRange (bodies.Alive session seq event) = IsIndex session × (seq ≤ index_limit) × IsIndex event
IsBodyInRange (bodies.Close session expired) = IsIndex session
IsBodyInRange bodies.Tick = Unit {0}
IsBodyInRange (bodies.Command session seq effect reply) = IsIndex session × IsIndex seq × IsEffectInRange effect × IsReplyInRange reply

-- which of its numbers are indexes
pub record IsInRange (index : ℕ) (entry : Entry) : Type 0 where
  pub at : IsIndex index
  pub body : IsBodyInRange entry.body

abbrev pub AskFits : Ask → Type 0
AskFits (asks.Register timeout) = IsUnsigned timeout
AskFits (asks.Alive session seq event) = IsUnsigned session × IsUnsigned seq × IsUnsigned event
AskFits (asks.Unregister session) = IsUnsigned session
AskFits asks.Tick = Unit {0}
AskFits (asks.Command session seq name op) = IsUnsigned session × IsUnsigned seq × IsKey name × OpFits op

-- what the types of an offer hold by themselves
pub record OfferFits (offer : Offer) : Type 0 where
  pub time : IsUnsigned offer.time
  pub ask : AskFits offer.ask
