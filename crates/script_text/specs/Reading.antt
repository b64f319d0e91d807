-- What the reader of a line finds. That this is the grammar of `Lines`, both ways, is what `read_line` promises.
use Rattle.std.specs.Prelude.{ℕ, ◌+◌, ◌-◌, ◌*◌, ◌^◌, ◌==◌, nat_le, nat_lt, Bool, ◌&&◌, if◌then◌else◌, List, [], ◌∷◌, length, Option, Some, None, option_and_then, codes, ℤ, pos, negsuc}
use Rattle.std.specs.Char.{is_ascii_digit}
use Rattle.std.specs.List.{list_all, slice_split}
use Rattle.std.specs.Option.{option_map}
use Rattle.host_types.specs.Limits.{key_limit, word_limit}
use Rattle.host_types.specs.Text.{is_visible}
use Rattle.host_types.specs.declared.entry.Kind.{Kind}
use Rattle.host_types.specs.declared.entry.Op.{Op}
use Rattle.host_types.specs.declared.entry.Op.TheVariants.{Create, Delete, Size, Clear, Get, Set, GetSet, Cas, Unset, Reset, Add, Put, PutIf, Replace, Remove, GetOf, RemoveOne, Count, Insert, Discard, Has, Enqueue, Poll, Peek, RemoveWord, Lock, Try, Unlock, Holder, Join, Leave, Members, Leader, Listen, Unlisten, Publish}
use Rattle.host_types.specs.declared.entry.Offer as offers
use Rattle.host_types.specs.declared.entry.Ask as asked
use Rattle.host_types.specs.declared.entry.Ask.TheVariants.{Register, Alive, Unregister, Tick, Command}
use Rattle.script_text.specs.declared.line.Line as lines
use Rattle.script_text.specs.declared.line.Line.TheVariants.{Skip, Offer, Ask, Take, Global, Minor, Major, Census, Quiet, Reopen}
use Rattle.script_text.specs.Tables.{lookup}
use Rattle.script_text.specs.Kinds.{kind_named}
use Rattle.script_text.specs.Operations.{looks}
use Rattle.script_text.specs.Lines.{is_skipped}

-- the number that these digits make behind those before, where it stays within 64 bits
abbrev pub number_from : ℕ → List ℕ → Option ℕ
number_from n [] = Some n
number_from n (byte ∷ bytes) = if is_ascii_digit byte && nat_lt (10 * n + (byte - 48)) (2 ^ 64) then number_from (10 * n + (byte - 48)) bytes else None

abbrev pub number : List ℕ → Option ℕ
number [] = None
number (byte ∷ []) = number_from 0 (byte ∷ [])
number (byte ∷ next ∷ bytes) = if byte == 48 then None else number_from 0 (byte ∷ next ∷ bytes)

abbrev pub positive : ℕ → Option ℤ
positive n = if nat_lt n (2 ^ 63) then Some (pos n) else None

-- negsuc n is -(n + 1)
abbrev pub negative : ℕ → Option ℤ
negative n = if nat_lt 0 n && nat_le n (2 ^ 63) then Some (negsuc (n - 1)) else None

-- 45 is `-`
abbrev pub signed : List ℕ → Option ℤ
signed [] = None
signed (byte ∷ bytes) = if byte == 45 then option_and_then negative (number bytes) else option_and_then positive (number (byte ∷ bytes))

abbrev pub is_text : ℕ → List ℕ → Bool
is_text limit bytes = nat_le 1 (length bytes) && (nat_le (length bytes) limit && list_all is_visible bytes)

abbrev pub text_within : ℕ → List ℕ → Option (List ℕ)
text_within limit bytes = if is_text limit bytes then Some bytes else None

abbrev pub key : List ℕ → Option (List ℕ)
key bytes = text_within key_limit bytes

abbrev pub word : List ℕ → Option (List ℕ)
word bytes = text_within word_limit bytes

abbrev pub with_kind : (Kind → Op) → List ℕ → Option Op
with_kind make bytes = option_map make (kind_named bytes)

abbrev pub with_signed : (ℤ → Op) → List ℕ → Option Op
with_signed make bytes = option_map make (signed bytes)

abbrev pub with_number : (ℕ → Op) → List ℕ → Option Op
with_number make bytes = option_map make (number bytes)

abbrev pub with_text : (List ℕ → Option (List ℕ)) → (List ℕ → Op) → List ℕ → Option Op
with_text read make bytes = option_map make (read bytes)

abbrev pub with_pair : (List ℕ → Option (List ℕ)) → (List ℕ → List ℕ → Op) → List ℕ → List ℕ → Option Op
with_pair read make first second = option_and_then (λ text. option_map (make text) (word second)) (read first)

-- operations that have nothing behind the name
abbrev pub bare_ops : List (List ℕ × Op)
bare_ops =
    (codes "delete", Delete) ∷
    (codes "size", Size) ∷
    (codes "clear", Clear) ∷
    (codes "get", Get) ∷
    (codes "unset", Unset) ∷
    (codes "poll", Poll) ∷
    (codes "peek", Peek) ∷
    (codes "holder", Holder) ∷
    (codes "members", Members) ∷
    (codes "leader", Leader) ∷
    (codes "listen", Listen) ∷
    (codes "unlisten", Unlisten) ∷
    []

abbrev pub word_ops : List (List ℕ × (List ℕ → Op))
word_ops =
    (codes "set", λ w. Set w) ∷
    (codes "getset", λ w. GetSet w) ∷
    (codes "insert", λ w. Insert w) ∷
    (codes "discard", λ w. Discard w) ∷
    (codes "has", λ w. Has w) ∷
    (codes "offer", λ w. Enqueue w) ∷
    (codes "removeword", λ w. RemoveWord w) ∷
    (codes "join", λ w. Join w) ∷
    (codes "publish", λ w. Publish w) ∷
    []

abbrev pub with_one_word : List ℕ → List ℕ → Option Op
with_one_word verb bytes = option_and_then (λ text. option_map (λ make. make text) (lookup word_ops verb)) (word bytes)

-- operations that have one thing behind the name, which isn't a word
abbrev pub one_ops : List (List ℕ × (List ℕ → Option Op))
one_ops =
    (codes "create", with_kind (λ kind. Create kind)) ∷
    (codes "reset", with_signed (λ z. Reset z)) ∷
    (codes "add", with_signed (λ z. Add z)) ∷
    (codes "lock", with_number (λ id. Lock id)) ∷
    (codes "try", with_number (λ id. Try id)) ∷
    (codes "unlock", with_number (λ id. Unlock id)) ∷
    (codes "leave", with_number (λ member. Leave member)) ∷
    (codes "get", with_text key (λ k. GetOf k)) ∷
    (codes "remove", with_text key (λ k. Remove k)) ∷
    (codes "count", with_text key (λ k. Count k)) ∷
    []

abbrev pub two_ops : List (List ℕ × (List ℕ → List ℕ → Option Op))
two_ops =
    (codes "cas", with_pair word (λ old new. Cas old new)) ∷
    (codes "put", with_pair key (λ k w. Put k w)) ∷
    (codes "putif", with_pair key (λ k w. PutIf k w)) ∷
    (codes "replace", with_pair key (λ k w. Replace k w)) ∷
    (codes "removeone", with_pair key (λ k w. RemoveOne k w)) ∷
    []

abbrev pub one_read : Option (List ℕ → Option Op) → List ℕ → List ℕ → Option Op
one_read (Some read) verb bytes = read bytes
one_read None verb bytes = with_one_word verb bytes

-- the operation of this word, with what stands behind the name
abbrev pub op_read : List ℕ → List (List ℕ) → Option Op
op_read verb [] = lookup bare_ops verb
op_read verb (a ∷ []) = one_read (lookup one_ops verb) verb a
op_read verb (a ∷ b ∷ []) = option_and_then (λ read. read a b) (lookup two_ops verb)
op_read verb (a ∷ b ∷ c ∷ more) = None

abbrev pub offer_at : ℕ → asked.Ask → offers.Offer
offer_at time ask = record { time = time; ask = ask }

-- just one number, and just two
abbrev pub one_number : List (List ℕ) → Option ℕ
one_number (a ∷ []) = number a
one_number arguments = None

abbrev pub two_numbers : List (List ℕ) → Option (ℕ × ℕ)
two_numbers (a ∷ b ∷ []) = option_and_then (λ m. option_map (λ n. (m, n)) (number b)) (number a)
two_numbers arguments = None

abbrev pub alive_read : List (List ℕ) → Option offers.Offer
alive_read (time ∷ session ∷ seq ∷ event ∷ []) =
    option_and_then (λ t.
    option_and_then (λ s.
    option_and_then (λ q.
    option_map (λ e. offer_at t (Alive s q e)) (number event)) (number seq)) (number session)) (number time)
alive_read arguments = None

abbrev pub command_read : List (List ℕ) → Option offers.Offer
command_read (time ∷ session ∷ seq ∷ verb ∷ name ∷ arguments) =
    option_and_then (λ t.
    option_and_then (λ s.
    option_and_then (λ q.
    option_and_then (λ k.
    option_map (λ op. offer_at t (Command s q k op)) (op_read verb arguments)) (key name)) (number seq)) (number session)) (number time)
command_read arguments = None

-- the first words of offers, and what is read behind them
abbrev pub offer_forms : List (List ℕ × (List (List ℕ) → Option offers.Offer))
offer_forms =
    (codes "register", λ arguments. option_map (λ n. offer_at n.0 (Register n.1)) (two_numbers arguments)) ∷
    (codes "alive", alive_read) ∷
    (codes "unregister", λ arguments. option_map (λ n. offer_at n.0 (Unregister n.1)) (two_numbers arguments)) ∷
    (codes "tick", λ arguments. option_map (λ n. offer_at n Tick) (one_number arguments)) ∷
    (codes "do", command_read) ∷
    []

abbrev pub offer_read : List ℕ → List (List ℕ) → Option offers.Offer
offer_read form arguments = option_and_then (λ read. read arguments) (lookup offer_forms form)

-- only looking operations are asked
abbrev pub if_looks : List ℕ → Op → Option lines.Line
if_looks name op = if looks op then Some (Ask name op) else None

abbrev pub ask_read : List (List ℕ) → Option lines.Line
ask_read (verb ∷ name ∷ arguments) = option_and_then (λ k. option_and_then (if_looks k) (op_read verb arguments)) (key name)
ask_read arguments = None

abbrev pub alone : lines.Line → List (List ℕ) → Option lines.Line
alone line [] = Some line
alone line (argument ∷ arguments) = None

-- the first words of the other lines
abbrev pub line_forms : List (List ℕ × (List (List ℕ) → Option lines.Line))
line_forms =
    (codes "ask", ask_read) ∷
    (codes "take", λ arguments. option_map (λ n. Take n) (one_number arguments)) ∷
    (codes "global", λ arguments. option_map (λ n. Global n) (one_number arguments)) ∷
    (codes "minor", λ arguments. option_map (λ n. Minor n) (one_number arguments)) ∷
    (codes "major", λ arguments. option_map (λ n. Major n.0 n.1) (two_numbers arguments)) ∷
    (codes "census", alone Census) ∷
    (codes "quiet", alone Quiet) ∷
    (codes "reopen", alone Reopen) ∷
    []

abbrev pub form_read : Option (List (List ℕ) → Option lines.Line) → List ℕ → List (List ℕ) → Option lines.Line
form_read (Some read) form arguments = read arguments
form_read None form arguments = option_map (λ offer. Offer offer) (offer_read form arguments)

-- the line of these words
abbrev pub words_read : List (List ℕ) → Option lines.Line
words_read [] = None
words_read (form ∷ arguments) = form_read (lookup line_forms form) form arguments

-- The words of a line are what stands between its spaces.
abbrev pub words_of : List ℕ → List (List ℕ)
words_of bytes = slice_split (λ byte. byte == 32) bytes

-- what a line is, or nothing where it isn't in the grammar
unfoldable pub line_read : List ℕ → Option lines.Line
line_read bytes = if is_skipped bytes then Some Skip else words_read (words_of bytes)
