-- Reading an entry from left to right. A field is its value and the bytes behind it, or a fault: how many bytes are left at
-- the start of the first field that isn't right, and none where a field isn't whole.
use Rattle.std.specs.Prelude.{ℕ, zero, suc, ◌+◌, ◌-◌, ◌==◌, ◌&&◌, ℤ, Bool, true, false, nat_lt, nat_le, if◌then◌else◌, List, [], ◌∷◌, length, take, drop, Option, Some, None, Result, Ok, Err}
use Rattle.std.specs.Int.{w16, w64, from_be_bytes, cast_signed}
use Rattle.host_types.specs.Limits.{index_limit, key_limit, word_limit, words_limit, indexes_limit}
use Rattle.host_types.specs.Text.{first_hidden}
use Rattle.host_types.specs.declared.entry.Entry.{Entry}
use Rattle.host_types.specs.declared.entry.Body.{Body}
use Rattle.host_types.specs.declared.entry.Body.TheVariants as bodies
use Rattle.host_types.specs.declared.entry.Kind.{Kind}
use Rattle.host_types.specs.declared.entry.Kind.TheVariants as kinds
use Rattle.host_types.specs.declared.entry.Cell.{Cell}
use Rattle.host_types.specs.declared.entry.Cell.TheVariants as cells
use Rattle.host_types.specs.declared.entry.Content.{Content}
use Rattle.host_types.specs.declared.entry.Content.TheVariants as contents
use Rattle.host_types.specs.declared.entry.Effect.{Effect}
use Rattle.host_types.specs.declared.entry.Effect.TheVariants as effects
use Rattle.host_types.specs.declared.entry.Reply.{Reply}
use Rattle.host_types.specs.declared.entry.Reply.TheVariants as replies

infixl 10 ◌>>=◌
abbrev pub ◌>>=◌ : {A B : Type 0} → Result A ℕ → (A → Result B ℕ) → Result B ℕ
(Ok x) >>= f = f x
(Err left) >>= f = Err left

-- a variant that is made of one field
abbrev pub made : {A B : Type 0} → (A → B) → Result (A × List ℕ) ℕ → Result (B × List ℕ) ℕ
made variant (Ok x) = Ok (variant x.0, x.1)
made variant (Err left) = Err left

-- ---- numbers

unfoldable pub byte_at : List ℕ → Result (ℕ × List ℕ) ℕ
byte_at [] = Err 0
byte_at (byte ∷ rest) = Ok (byte, rest)

-- any number of eight bytes
unfoldable pub number_at : List ℕ → Result (ℕ × List ℕ) ℕ
number_at bytes = if nat_lt (length bytes) 8 then Err 0 else Ok (from_be_bytes w64 (take 8 bytes), drop 8 bytes)

unfoldable pub signed_at : List ℕ → Result (ℤ × List ℕ) ℕ
signed_at bytes = made (cast_signed w64) (number_at bytes)

-- a number of eight bytes from a least one to the greatest index
unfoldable pub bounded_at : ℕ → List ℕ → Result (ℕ × List ℕ) ℕ
bounded_at least bytes = do
  n ← number_at bytes
  if nat_le least n.0 && nat_le n.0 index_limit then Ok n else Err (length bytes)

abbrev pub index_at : List ℕ → Result (ℕ × List ℕ) ℕ
index_at = bounded_at 1

-- a byte that says how many there are
unfoldable pub count_at : ℕ → List ℕ → Result (ℕ × List ℕ) ℕ
count_at limit bytes = do
  n ← byte_at bytes
  if nat_le n.0 limit then Ok n else Err (length bytes)

-- what a byte means, where it means something
abbrev pub known : {A : Type 0} → ℕ → Option A → List ℕ → Result (A × List ℕ) ℕ
known left None rest = Err left
known left (Some value) rest = Ok (value, rest)

abbrev pub flag_from : ℕ → Option Bool
flag_from byte = if byte == 0 then Some false else if byte == 1 then Some true else None

unfoldable pub flag_at : List ℕ → Result (Bool × List ℕ) ℕ
flag_at bytes = do
  byte ← byte_at bytes
  known (length bytes) (flag_from byte.0) byte.1

abbrev pub kind_from : ℕ → Option Kind
kind_from tag =
    if tag == 0 then Some kinds.Value
    else if tag == 1 then Some kinds.Counter
    else if tag == 2 then Some kinds.Map
    else if tag == 3 then Some kinds.Multimap
    else if tag == 4 then Some kinds.Set
    else if tag == 5 then Some kinds.Queue
    else if tag == 6 then Some kinds.Lock
    else if tag == 7 then Some kinds.Group
    else if tag == 8 then Some kinds.Topic
    else None

unfoldable pub kind_at : List ℕ → Result (Kind × List ℕ) ℕ
kind_at bytes = do
  tag ← byte_at bytes
  known (length bytes) (kind_from tag.0) tag.1

-- ---- keys and words

-- a length of two bytes
unfoldable pub length_at : ℕ → List ℕ → Result (ℕ × List ℕ) ℕ
length_at limit bytes =
    let n = from_be_bytes w16 (take 2 bytes) in
    if nat_lt (length bytes) 2 then Err 0
    else if nat_le 1 n && nat_le n limit then Ok (n, drop 2 bytes)
    else Err (length bytes)

-- so many bytes, whichever they are
unfoldable pub whole_at : ℕ → List ℕ → Result (List ℕ × List ℕ) ℕ
whole_at count bytes = if nat_lt (length bytes) count then Err 0 else Ok (take count bytes, drop count bytes)

-- the length and the bytes are two fields
unfoldable pub piece_at : ℕ → List ℕ → Result (List ℕ × List ℕ) ℕ
piece_at limit bytes = do
  n ← length_at limit bytes
  whole_at n.0 n.1

-- the fault is at the first byte that no key and no word has
abbrev pub unless_hidden : List ℕ → List ℕ → Option ℕ → Result (List ℕ × List ℕ) ℕ
unless_hidden text rest None = Ok (text, rest)
unless_hidden text rest (Some at) = Err (length text + length rest - at)

unfoldable pub text_at : ℕ → List ℕ → Result (List ℕ × List ℕ) ℕ
text_at limit bytes = do
  piece ← piece_at limit bytes
  unless_hidden piece.0 piece.1 (first_hidden piece.0)

abbrev pub key_at : List ℕ → Result (List ℕ × List ℕ) ℕ
key_at = text_at key_limit

abbrev pub word_at : List ℕ → Result (List ℕ × List ℕ) ℕ
word_at = text_at word_limit

-- ---- cells and contents

unfoldable pub pair_at : List ℕ → Result (Cell × List ℕ) ℕ
pair_at bytes = do
  key ← key_at bytes
  word ← word_at key.1
  Ok (cells.Pair key.0 word.0, word.1)

unfoldable pub waiter_at : List ℕ → Result (Cell × List ℕ) ℕ
waiter_at bytes = do
  session ← index_at bytes
  id ← number_at session.1
  Ok (cells.Waiter session.0 id.0, id.1)

-- behind the tag, at whose start so many bytes are left
unfoldable pub cell_behind : ℕ → ℕ → List ℕ → Result (Cell × List ℕ) ℕ
cell_behind left tag bytes =
    if tag == 0 then Ok (cells.One, bytes)
    else if tag == 1 then made cells.Named (key_at bytes)
    else if tag == 2 then made cells.Member (word_at bytes)
    else if tag == 3 then pair_at bytes
    else if tag == 4 then made cells.At (index_at bytes)
    else if tag == 5 then waiter_at bytes
    else if tag == 6 then made cells.Of (index_at bytes)
    else Err left

unfoldable pub cell_at : List ℕ → Result (Cell × List ℕ) ℕ
cell_at bytes = do
  tag ← byte_at bytes
  cell_behind (length bytes) tag.0 tag.1

unfoldable pub content_behind : ℕ → ℕ → List ℕ → Result (Content × List ℕ) ℕ
content_behind left tag bytes =
    if tag == 0 then Ok (contents.Mark, bytes)
    else if tag == 1 then made contents.Text (word_at bytes)
    else if tag == 2 then made contents.Number (signed_at bytes)
    else Err left

unfoldable pub content_at : List ℕ → Result (Content × List ℕ) ℕ
content_at bytes = do
  tag ← byte_at bytes
  content_behind (length bytes) tag.0 tag.1

-- ---- effects

unfoldable pub create_at : List ℕ → Result (Effect × List ℕ) ℕ
create_at bytes = do
  name ← key_at bytes
  kind ← kind_at name.1
  Ok (effects.Create name.0 kind.0, kind.1)

unfoldable pub delete_at : List ℕ → Result (Effect × List ℕ) ℕ
delete_at bytes = do
  name ← key_at bytes
  instance ← index_at name.1
  Ok (effects.Delete name.0 instance.0, instance.1)

-- 0 is nobody
abbrev pub owner_from : ℕ → Option ℕ
owner_from number = if number == 0 then None else Some number

unfoldable pub owner_at : List ℕ → Result (Option ℕ × List ℕ) ℕ
owner_at bytes = made owner_from (bounded_at 0 bytes)

unfoldable pub put_at : List ℕ → Result (Effect × List ℕ) ℕ
put_at bytes = do
  instance ← index_at bytes
  cell ← cell_at instance.1
  content ← content_at cell.1
  owner ← owner_at content.1
  Ok (effects.Put instance.0 cell.0 content.0 owner.0, owner.1)

unfoldable pub removal_at : List ℕ → Result (Effect × List ℕ) ℕ
removal_at bytes = do
  instance ← index_at bytes
  cell ← cell_at instance.1
  Ok (effects.Drop instance.0 cell.0, cell.1)

unfoldable pub wiped_key_at : List ℕ → Result (Effect × List ℕ) ℕ
wiped_key_at bytes = do
  instance ← index_at bytes
  key ← key_at instance.1
  Ok (effects.WipeKey instance.0 key.0, key.1)

unfoldable pub told_at : List ℕ → Result (Effect × List ℕ) ℕ
told_at bytes = do
  instance ← index_at bytes
  word ← word_at instance.1
  Ok (effects.Tell instance.0 word.0, word.1)

unfoldable pub effect_behind : ℕ → ℕ → List ℕ → Result (Effect × List ℕ) ℕ
effect_behind left tag bytes =
    if tag == 0 then Ok (effects.Nothing, bytes)
    else if tag == 1 then create_at bytes
    else if tag == 2 then delete_at bytes
    else if tag == 3 then put_at bytes
    else if tag == 4 then removal_at bytes
    else if tag == 5 then made effects.Wipe (index_at bytes)
    else if tag == 6 then wiped_key_at bytes
    else if tag == 7 then told_at bytes
    else Err left

unfoldable pub effect_at : List ℕ → Result (Effect × List ℕ) ℕ
effect_at bytes = do
  tag ← byte_at bytes
  effect_behind (length bytes) tag.0 tag.1

-- ---- replies

unfoldable pub holder_at : List ℕ → Result (Reply × List ℕ) ℕ
holder_at bytes = do
  session ← index_at bytes
  id ← number_at session.1
  Ok (replies.Holder session.0 id.0, id.1)

unfoldable pub words_behind : ℕ → List ℕ → Result (List (List ℕ) × List ℕ) ℕ
words_behind zero bytes = Ok ([], bytes)
words_behind (suc count) bytes = do
  first ← word_at bytes
  others ← words_behind count first.1
  Ok (first.0 ∷ others.0, others.1)

unfoldable pub words_at : List ℕ → Result (List (List ℕ) × List ℕ) ℕ
words_at bytes = do
  count ← count_at words_limit bytes
  words_behind count.0 count.1

unfoldable pub indexes_behind : ℕ → List ℕ → Result (List ℕ × List ℕ) ℕ
indexes_behind zero bytes = Ok ([], bytes)
indexes_behind (suc count) bytes = do
  first ← index_at bytes
  others ← indexes_behind count first.1
  Ok (first.0 ∷ others.0, others.1)

unfoldable pub indexes_at : List ℕ → Result (List ℕ × List ℕ) ℕ
indexes_at bytes = do
  count ← count_at indexes_limit bytes
  indexes_behind count.0 count.1

unfoldable pub reply_behind : ℕ → ℕ → List ℕ → Result (Reply × List ℕ) ℕ
reply_behind left tag bytes =
    if tag == 0 then Ok (replies.None, bytes)
    else if tag == 1 then made replies.Text (word_at bytes)
    else if tag == 2 then made replies.Number (signed_at bytes)
    else if tag == 3 then made replies.Truth (flag_at bytes)
    else if tag == 4 then made replies.Index (index_at bytes)
    else if tag == 5 then holder_at bytes
    else if tag == 6 then made replies.Words (words_at bytes)
    else if tag == 7 then made replies.Indexes (indexes_at bytes)
    else Err left

unfoldable pub reply_at : List ℕ → Result (Reply × List ℕ) ℕ
reply_at bytes = do
  tag ← byte_at bytes
  reply_behind (length bytes) tag.0 tag.1

-- ---- bodies and entries

unfoldable pub alive_at : List ℕ → Result (Body × List ℕ) ℕ
alive_at bytes = do
  session ← index_at bytes
  seq ← bounded_at 0 session.1
  event ← index_at seq.1
  Ok (bodies.Alive session.0 seq.0 event.0, event.1)

unfoldable pub close_at : List ℕ → Result (Body × List ℕ) ℕ
close_at bytes = do
  session ← index_at bytes
  expired ← flag_at session.1
  Ok (bodies.Close session.0 expired.0, expired.1)

unfoldable pub command_at : List ℕ → Result (Body × List ℕ) ℕ
command_at bytes = do
  session ← index_at bytes
  seq ← index_at session.1
  effect ← effect_at seq.1
  reply ← reply_at effect.1
  Ok (bodies.Command session.0 seq.0 effect.0 reply.0, reply.1)

unfoldable pub body_behind : ℕ → ℕ → List ℕ → Result (Body × List ℕ) ℕ
body_behind left tag bytes =
    if tag == 1 then made bodies.Register (number_at bytes)
    else if tag == 2 then alive_at bytes
    else if tag == 3 then close_at bytes
    else if tag == 4 then Ok (bodies.Tick, bytes)
    else if tag == 5 then command_at bytes
    else Err left

unfoldable pub body_at : List ℕ → Result (Body × List ℕ) ℕ
body_at bytes = do
  tag ← byte_at bytes
  body_behind (length bytes) tag.0 tag.1

-- an index and its entry
unfoldable pub entry_at : List ℕ → Result ((ℕ × Entry) × List ℕ) ℕ
entry_at bytes = do
  index ← index_at bytes
  time ← number_at index.1
  body ← body_at time.1
  Ok ((index.0, record { time = time.0; body = body.0 }), body.1)

-- ---- what bytes begin with

pub data Spelling : Type 0 where
  -- an index, its entry, and how many bytes spell them
  Spells : ℕ → Entry → ℕ → Spelling
  -- the place of the first field that isn't right, or the end where a field isn't whole
  Spoils : ℕ → Spelling

abbrev pub spelling_of : ℕ → Result ((ℕ × Entry) × List ℕ) ℕ → Spelling
spelling_of size (Ok read) = Spells read.0.0 read.0.1 (size - length read.1)
spelling_of size (Err left) = Spoils (size - left)

unfoldable pub spelling : List ℕ → Spelling
spelling bytes = spelling_of (length bytes) (entry_at bytes)
