-- How each operation is written: its word, the name of the resource, and what belongs to it.
use Rattle.std.specs.Prelude.{ℕ, Bool, true, false, List, [], ◌∷◌, codes}
use Rattle.host_types.specs.declared.entry.Op.{Op}
use Rattle.host_types.specs.declared.entry.Op.TheVariants.{Create, Delete, Size, Clear, Get, Set, GetSet, Cas, Unset, Reset, Add, Put, PutIf, Replace, Remove, GetOf, RemoveOne, Count, Insert, Discard, Has, Enqueue, Poll, Peek, RemoveWord, Lock, Try, Unlock, Holder, Join, Leave, Members, Leader, Listen, Unlisten, Publish}
use Rattle.script_text.specs.Parts.{Part, Fixed, Key, Word, Number, Signed, OfKind}

abbrev pub op_parts : List ℕ → Op → List Part
op_parts name (Create kind) = Fixed (codes "create") ∷ Key name ∷ OfKind kind ∷ []
op_parts name Delete = Fixed (codes "delete") ∷ Key name ∷ []
op_parts name Size = Fixed (codes "size") ∷ Key name ∷ []
op_parts name Clear = Fixed (codes "clear") ∷ Key name ∷ []
op_parts name Get = Fixed (codes "get") ∷ Key name ∷ []
op_parts name (Set word) = Fixed (codes "set") ∷ Key name ∷ Word word ∷ []
op_parts name (GetSet word) = Fixed (codes "getset") ∷ Key name ∷ Word word ∷ []
op_parts name (Cas old new) = Fixed (codes "cas") ∷ Key name ∷ Word old ∷ Word new ∷ []
op_parts name Unset = Fixed (codes "unset") ∷ Key name ∷ []
op_parts name (Reset number) = Fixed (codes "reset") ∷ Key name ∷ Signed number ∷ []
op_parts name (Add number) = Fixed (codes "add") ∷ Key name ∷ Signed number ∷ []
op_parts name (Put key word) = Fixed (codes "put") ∷ Key name ∷ Key key ∷ Word word ∷ []
op_parts name (PutIf key word) = Fixed (codes "putif") ∷ Key name ∷ Key key ∷ Word word ∷ []
op_parts name (Replace key word) = Fixed (codes "replace") ∷ Key name ∷ Key key ∷ Word word ∷ []
op_parts name (Remove key) = Fixed (codes "remove") ∷ Key name ∷ Key key ∷ []
op_parts name (GetOf key) = Fixed (codes "get") ∷ Key name ∷ Key key ∷ []
op_parts name (RemoveOne key word) = Fixed (codes "removeone") ∷ Key name ∷ Key key ∷ Word word ∷ []
op_parts name (Count key) = Fixed (codes "count") ∷ Key name ∷ Key key ∷ []
op_parts name (Insert word) = Fixed (codes "insert") ∷ Key name ∷ Word word ∷ []
op_parts name (Discard word) = Fixed (codes "discard") ∷ Key name ∷ Word word ∷ []
op_parts name (Has word) = Fixed (codes "has") ∷ Key name ∷ Word word ∷ []
op_parts name (Enqueue word) = Fixed (codes "offer") ∷ Key name ∷ Word word ∷ []
op_parts name Poll = Fixed (codes "poll") ∷ Key name ∷ []
op_parts name Peek = Fixed (codes "peek") ∷ Key name ∷ []
op_parts name (RemoveWord word) = Fixed (codes "removeword") ∷ Key name ∷ Word word ∷ []
op_parts name (Lock id) = Fixed (codes "lock") ∷ Key name ∷ Number id ∷ []
op_parts name (Try id) = Fixed (codes "try") ∷ Key name ∷ Number id ∷ []
op_parts name (Unlock id) = Fixed (codes "unlock") ∷ Key name ∷ Number id ∷ []
op_parts name Holder = Fixed (codes "holder") ∷ Key name ∷ []
op_parts name (Join word) = Fixed (codes "join") ∷ Key name ∷ Word word ∷ []
op_parts name (Leave member) = Fixed (codes "leave") ∷ Key name ∷ Number member ∷ []
op_parts name Members = Fixed (codes "members") ∷ Key name ∷ []
op_parts name Leader = Fixed (codes "leader") ∷ Key name ∷ []
op_parts name Listen = Fixed (codes "listen") ∷ Key name ∷ []
op_parts name Unlisten = Fixed (codes "unlisten") ∷ Key name ∷ []
op_parts name (Publish word) = Fixed (codes "publish") ∷ Key name ∷ Word word ∷ []

-- It changes nothing, so that it can be asked outside of the log.
abbrev pub looks : Op → Bool
looks Size = true
looks Get = true
looks (GetOf key) = true
looks (Count key) = true
looks (Has word) = true
looks Peek = true
looks Holder = true
looks Members = true
looks Leader = true
looks op = false
