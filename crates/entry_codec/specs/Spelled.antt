-- How an entry at its index is spelled, which entries have a spelling, and which entry bytes spell. Each number of more
-- than one byte stands with its greatest byte first.
use Rattle.std.specs.Prelude.{◌≡◌, ℕ, ℤ, Bool, true, false, List, [], ◌∷◌, ◌++◌, length}
use Rattle.std.specs.List.{flat_map}
use Rattle.std.specs.Int.{w16, w64, to_be_bytes, cast_unsigned}
pub use Rattle.host_types.specs.Ranges.{IsUnsigned, IsKey, IsWord, owner_number, CellFits, ContentFits, EffectFits, ReplyFits, IsIndex, IsCellInRange, IsOwner, IsEffectInRange, IsReplyInRange, BodyFits, EntryFits, IsBodyInRange, IsInRange}
use Rattle.host_types.specs.declared.entry.Entry.{Entry}
use Rattle.host_types.specs.declared.entry.Body.{Body}
use Rattle.host_types.specs.declared.entry.Body.TheVariants as bodies
use Rattle.host_types.specs.declared.entry.Kind.{Kind}
use Rattle.host_types.specs.declared.entry.Kind.TheVariants as kinds
use Rattle.host_types.specs.declared.entry.Cell.{Cell}
use Rattle.host_types.specs.declared.entry.Cell.TheVariants as cells
use Rattle.host_types.specs.declared.entry.Content.{Content}
use Rattle.host_types.specs.declared.entry.Content.TheVariants as contents
use Rattle.host_types.specs.declared.entry.Effect.{Effect}
use Rattle.host_types.specs.declared.entry.Effect.TheVariants as effects
use Rattle.host_types.specs.declared.entry.Reply.{Reply}
use Rattle.host_types.specs.declared.entry.Reply.TheVariants as replies

-- ---- the spelling

-- a number of eight bytes
unfoldable pub number_spelled : ℕ → List ℕ
number_spelled n = to_be_bytes w64 n

-- a number with its sign: eight bytes in two's complement
unfoldable pub signed_spelled : ℤ → List ℕ
signed_spelled z = to_be_bytes w64 (cast_unsigned w64 z)

-- a key or a word: two bytes of length, and its bytes
unfoldable pub text_spelled : List ℕ → List ℕ
text_spelled text = to_be_bytes w16 (length text) ++ text

abbrev pub flag_of : Bool → ℕ
flag_of false = 0
flag_of true = 1

abbrev pub kind_tag : Kind → ℕ
kind_tag kinds.Value = 0
kind_tag kinds.Counter = 1
kind_tag kinds.Map = 2
kind_tag kinds.Multimap = 3
kind_tag kinds.Set = 4
kind_tag kinds.Queue = 5
kind_tag kinds.Lock = 6
kind_tag kinds.Group = 7
kind_tag kinds.Topic = 8

unfoldable pub cell_spelled : Cell → List ℕ
cell_spelled cells.One = 0 ∷ []
cell_spelled (cells.Named key) = 1 ∷ text_spelled key
cell_spelled (cells.Member word) = 2 ∷ text_spelled word
cell_spelled (cells.Pair key word) = 3 ∷ text_spelled key ++ text_spelled word
cell_spelled (cells.At index) = 4 ∷ number_spelled index
cell_spelled (cells.Waiter session id) = 5 ∷ number_spelled session ++ number_spelled id
cell_spelled (cells.Of session) = 6 ∷ number_spelled session

unfoldable pub content_spelled : Content → List ℕ
content_spelled contents.Mark = 0 ∷ []
content_spelled (contents.Text word) = 1 ∷ text_spelled word
content_spelled (contents.Number number) = 2 ∷ signed_spelled number

unfoldable pub effect_spelled : Effect → List ℕ
effect_spelled effects.Nothing = 0 ∷ []
effect_spelled (effects.Create name kind) = 1 ∷ text_spelled name ++ kind_tag kind ∷ []
effect_spelled (effects.Delete name instance) = 2 ∷ text_spelled name ++ number_spelled instance
effect_spelled (effects.Put instance cell content owner) = 3 ∷ number_spelled instance ++ cell_spelled cell ++ content_spelled content ++ number_spelled (owner_number owner)
effect_spelled (effects.Drop instance cell) = 4 ∷ number_spelled instance ++ cell_spelled cell
effect_spelled (effects.Wipe instance) = 5 ∷ number_spelled instance
effect_spelled (effects.WipeKey instance key) = 6 ∷ number_spelled instance ++ text_spelled key
effect_spelled (effects.Tell instance word) = 7 ∷ number_spelled instance ++ text_spelled word

unfoldable pub reply_spelled : Reply → List ℕ
reply_spelled replies.None = 0 ∷ []
reply_spelled (replies.Text word) = 1 ∷ text_spelled word
reply_spelled (replies.Number number) = 2 ∷ signed_spelled number
reply_spelled (replies.Truth truth) = 3 ∷ flag_of truth ∷ []
reply_spelled (replies.Index index) = 4 ∷ number_spelled index
reply_spelled (replies.Holder session id) = 5 ∷ number_spelled session ++ number_spelled id
reply_spelled (replies.Words words) = 6 ∷ length words ∷ flat_map text_spelled words
reply_spelled (replies.Indexes indexes) = 7 ∷ length indexes ∷ flat_map number_spelled indexes

unfoldable pub body_spelled : Body → List ℕ
body_spelled (bodies.Register timeout) = 1 ∷ number_spelled timeout
body_spelled (bodies.Alive session seq event) = 2 ∷ number_spelled session ++ number_spelled seq ++ number_spelled event
body_spelled (bodies.Close session expired) = 3 ∷ number_spelled session ++ flag_of expired ∷ []
body_spelled bodies.Tick = 4 ∷ []
body_spelled (bodies.Command session seq effect reply) = 5 ∷ number_spelled session ++ number_spelled seq ++ effect_spelled effect ++ reply_spelled reply

-- an entry at its index: the index, the time, and the body
unfoldable pub spelled : ℕ → Entry → List ℕ
spelled index entry = number_spelled index ++ number_spelled entry.time ++ body_spelled entry.body

-- these bytes, and no others, spell this entry at this index
pub record IsSpelledBy (bytes : List ℕ) (index : ℕ) (entry : Entry) : Type 0 where
  pub range : IsInRange index entry
  pub fits : EntryFits entry
  pub exact : bytes ≡ spelled index entry
