-- Operations are read as they are written.
use Rattle.std.proofs.Common.{◌≡◌, ℕ, List, [], ◌∷◌, map, Option, Some, None, refl, ap, ◌∙◌, subst}
use Rattle.std.specs.Prelude.{option_and_then, codes, IsTrue}
use Rattle.std.specs.Option.{option_map}
use Rattle.std.specs.List.{AllByRecursion, list_all}
use Rattle.std.specs.Fmt.{decimal, signed_decimal}
use Rattle.host_types.specs.Limits.{key_limit, word_limit}
use Rattle.host_types.specs.Text.{IsText, is_visible}
use Rattle.host_types.specs.declared.entry.Op.{Op}
use Rattle.host_types.specs.declared.entry.Op.TheVariants.{Create, Delete, Size, Clear, Get, Set, GetSet, Cas, Unset, Reset, Add, Put, PutIf, Replace, Remove, GetOf, RemoveOne, Count, Insert, Discard, Has, Enqueue, Poll, Peek, RemoveWord, Lock, Try, Unlock, Holder, Join, Leave, Members, Leader, Listen, Unlisten, Publish}
use Rattle.script_text.specs.Tables.{lookup}
use Rattle.script_text.specs.Kinds.{kind_word, kind_named, kinds}
use Rattle.script_text.specs.Parts.{Part, Fixed, Key, Word, Number, Signed, OfKind, part_text, Fits, AllFit}
use Rattle.script_text.specs.Operations.{op_parts}
use Rattle.script_text.specs.Reading.{number, signed, key, word, op_read, one_read, bare_ops, word_ops, one_ops, two_ops, with_one_word}
use Rattle.script_text.proofs.NumberLemmas.{number_again, number_found, signed_again, signed_found}
use Rattle.script_text.proofs.PartLemmas.{text_again, text_found, kind_again}
use Rattle.script_text.proofs.TableLemmas.{lookup_found, mapped_some, chained_some}

-- these words are this operation, whatever stands as the name
abbrev pub IsOp : List ℕ → List (List ℕ) → Op → Type 0
IsOp verb arguments op = (name : List ℕ) → ((verb ∷ name ∷ arguments) ≡ map part_text (op_parts name op)) × (IsText key_limit name → AllFit (op_parts name op))

-- a reader finds just what this part is written as
abbrev Inverse : {X : Type 0} → (List ℕ → Option X) → (X → Part) → Type 0
Inverse {X} read part = (bytes : List ℕ) (x : X) → read bytes ≡ Some x → (bytes ≡ part_text (part x)) × Fits (part x)

number_inverse : Inverse number (λ n. Number n)
number_inverse bytes n e = let found = number_found bytes n e in (found.1, found.0)

signed_inverse : Inverse signed (λ z. Signed z)
signed_inverse bytes z e = let found = signed_found bytes z e in (found.1, found.0)

key_inverse : Inverse key (λ text. Key text)
key_inverse bytes text e = text_found key_limit bytes text e

word_inverse : Inverse word (λ text. Word text)
word_inverse bytes text e = text_found word_limit bytes text e

kind_table : AllByRecursion (λ entry. entry.0 ≡ kind_word entry.1) kinds
kind_table = (refl, (refl, (refl, (refl, (refl, (refl, (refl, (refl, (refl, tt)))))))))

kind_inverse : Inverse kind_named (λ kind. OfKind kind)
kind_inverse bytes kind e = (lookup_found (λ bytes kind. bytes ≡ kind_word kind) kinds kind_table bytes kind e, tt)

bare_table : AllByRecursion (λ entry. IsOp entry.0 [] entry.1) bare_ops
bare_table =
    ((λ name. (refl, λ text. (refl, (text, tt)))), ((λ name. (refl, λ text. (refl, (text, tt)))), ((λ name. (refl, λ text. (refl, (text, tt)))), ((λ name. (refl, λ text. (refl, (text, tt)))), ((λ name. (refl, λ text. (refl, (text, tt)))), ((λ name. (refl, λ text. (refl, (text, tt)))), ((λ name. (refl, λ text. (refl, (text, tt)))), ((λ name. (refl, λ text. (refl, (text, tt)))), ((λ name. (refl, λ text. (refl, (text, tt)))), ((λ name. (refl, λ text. (refl, (text, tt)))), ((λ name. (refl, λ text. (refl, (text, tt)))), ((λ name. (refl, λ text. (refl, (text, tt)))), tt))))))))))))

-- an operation with one thing behind the name
One : List ℕ → (List ℕ → Option Op) → Type 0
One verb read = (bytes : List ℕ) (op : Op) → read bytes ≡ Some op → IsOp verb (bytes ∷ []) op

abbrev IsForm : {X : Type 0} → List ℕ → (X → Part) → (X → Op) → Type 0
IsForm {X} verb part make = (name : List ℕ) (x : X) → op_parts name (make x) ≡ Fixed verb ∷ Key name ∷ part x ∷ []

one_is : {X : Type 0} (read : List ℕ → Option X) (part : X → Part) (make : X → Op) (verb : List ℕ) → Inverse read part → IsTrue (list_all is_visible verb) → IsForm verb part make → One verb (λ bytes. option_map make (read bytes))
unfolding One
one_is read part make verb inverse plain form bytes op e name =
    let found = mapped_some make (read bytes) op e in
    let back = inverse bytes found.0 found.1 in
    let written : (verb ∷ name ∷ bytes ∷ []) ≡ map part_text (op_parts name (make found.0)) = rw (form name found.0) (ap (λ (b : List ℕ). verb ∷ name ∷ b ∷ []) back.0) in
    let fit : IsText key_limit name → AllFit (op_parts name (make found.0)) = λ text. rw (form name found.0) (plain, (text, (back.1, tt))) in
    subst (λ (op : Op). ((verb ∷ name ∷ bytes ∷ []) ≡ map part_text (op_parts name op)) × (IsText key_limit name → AllFit (op_parts name op))) found.2 (written, fit)

one_table : AllByRecursion (λ entry. One entry.0 entry.1) one_ops
one_table = (
  one_is kind_named (λ kind. OfKind kind) (λ kind. Create kind) (codes "create") kind_inverse refl (λ name kind. refl),
  (
    one_is signed (λ z. Signed z) (λ z. Reset z) (codes "reset") signed_inverse refl (λ name z. refl),
    (
      one_is signed (λ z. Signed z) (λ z. Add z) (codes "add") signed_inverse refl (λ name z. refl),
      (
        one_is number (λ n. Number n) (λ n. Lock n) (codes "lock") number_inverse refl (λ name n. refl),
        (
          one_is number (λ n. Number n) (λ n. Try n) (codes "try") number_inverse refl (λ name n. refl),
          (
            one_is number (λ n. Number n) (λ n. Unlock n) (codes "unlock") number_inverse refl (λ name n. refl),
            (
              one_is number (λ n. Number n) (λ n. Leave n) (codes "leave") number_inverse refl (λ name n. refl),
              (
                one_is key (λ k. Key k) (λ k. GetOf k) (codes "get") key_inverse refl (λ name k. refl),
                (
                  one_is key (λ k. Key k) (λ k. Remove k) (codes "remove") key_inverse refl (λ name k. refl),
                  (one_is key (λ k. Key k) (λ k. Count k) (codes "count") key_inverse refl (λ name k. refl), tt),
                ),
              ),
            ),
          ),
        ),
      ),
    ),
  ),
)

-- an operation with one word behind the name
OneWord : List ℕ → (List ℕ → Op) → Type 0
OneWord verb make = IsTrue (list_all is_visible verb) × IsForm verb (λ w. Word w) make

word_table : AllByRecursion (λ entry. OneWord entry.0 entry.1) word_ops
unfolding OneWord
word_table =
    ((refl, λ name w. refl), ((refl, λ name w. refl), ((refl, λ name w. refl), ((refl, λ name w. refl), ((refl, λ name w. refl), ((refl, λ name w. refl), ((refl, λ name w. refl), ((refl, λ name w. refl), ((refl, λ name w. refl), tt)))))))))

one_word_is : (verb : List ℕ) → One verb (with_one_word verb)
unfolding One OneWord
one_word_is verb bytes op e =
    let text = chained_some (λ text. option_map (λ (make : List ℕ → Op). make text) (lookup word_ops verb)) (word bytes) op e in
    let make = mapped_some (λ (make : List ℕ → Op). make text.0) (lookup word_ops verb) op text.2 in
    let form = lookup_found OneWord word_ops word_table verb make.0 make.1 in
    one_is word (λ w. Word w) make.0 verb word_inverse form.0 form.1 bytes op (ap (λ (o : Option (List ℕ)). option_map make.0 o) text.1 ∙ ap (λ (op : Op). Some op) make.2)

one_found : (found : Option (List ℕ → Option Op)) (verb bytes : List ℕ) (op : Op) → lookup one_ops verb ≡ found → one_read found verb bytes ≡ Some op → IsOp verb (bytes ∷ []) op
unfolding One
one_found (Some read) verb bytes op is e = lookup_found One one_ops one_table verb read is bytes op e
one_found None verb bytes op is e = one_word_is verb bytes op e

-- an operation with two things behind the name
Two : List ℕ → (List ℕ → List ℕ → Option Op) → Type 0
Two verb read = (first second : List ℕ) (op : Op) → read first second ≡ Some op → IsOp verb (first ∷ second ∷ []) op

two_is : (read : List ℕ → Option (List ℕ)) (part : List ℕ → Part) (make : List ℕ → List ℕ → Op) (verb : List ℕ) → Inverse read part → IsTrue (list_all is_visible verb) → ((name x w : List ℕ) → op_parts name (make x w) ≡ Fixed verb ∷ Key name ∷ part x ∷ Word w ∷ []) → Two verb (λ first second. option_and_then (λ text. option_map (make text) (word second)) (read first))
unfolding Two
two_is read part make verb inverse plain form first second op e name =
    let x = chained_some (λ text. option_map (make text) (word second)) (read first) op e in
    let w = mapped_some (make x.0) (word second) op x.2 in
    let front = inverse first x.0 x.1 in
    let back = word_inverse second w.0 w.1 in
    let written : (verb ∷ name ∷ first ∷ second ∷ []) ≡ map part_text (op_parts name (make x.0 w.0)) = rw (form name x.0 w.0) (ap (λ (b : List ℕ). verb ∷ name ∷ b ∷ second ∷ []) front.0 ∙ ap (λ (b : List ℕ). verb ∷ name ∷ part_text (part x.0) ∷ b ∷ []) back.0) in
    let fit : IsText key_limit name → AllFit (op_parts name (make x.0 w.0)) = λ text. rw (form name x.0 w.0) (plain, (text, (front.1, (back.1, tt)))) in
    subst (λ (op : Op). ((verb ∷ name ∷ first ∷ second ∷ []) ≡ map part_text (op_parts name op)) × (IsText key_limit name → AllFit (op_parts name op))) w.2 (written, fit)

two_table : AllByRecursion (λ entry. Two entry.0 entry.1) two_ops
two_table = (
  two_is word (λ w. Word w) (λ old new. Cas old new) (codes "cas") word_inverse refl (λ name k w. refl),
  (
    two_is key (λ k. Key k) (λ k w. Put k w) (codes "put") key_inverse refl (λ name k w. refl),
    (
      two_is key (λ k. Key k) (λ k w. PutIf k w) (codes "putif") key_inverse refl (λ name k w. refl),
      (
        two_is key (λ k. Key k) (λ k w. Replace k w) (codes "replace") key_inverse refl (λ name k w. refl),
        (two_is key (λ k. Key k) (λ k w. RemoveOne k w) (codes "removeone") key_inverse refl (λ name k w. refl), tt),
      ),
    ),
  ),
)

-- what is read of an operation is written so
pub op_found : (verb : List ℕ) (arguments : List (List ℕ)) (op : Op) → op_read verb arguments ≡ Some op → IsOp verb arguments op
unfolding Two
op_found verb [] op e = lookup_found (λ verb op. IsOp verb [] op) bare_ops bare_table verb op e
op_found verb (a ∷ []) op e = one_found (lookup one_ops verb) verb a op refl e
op_found verb (a ∷ b ∷ []) op e =
    let read = chained_some (λ (read : List ℕ → List ℕ → Option Op). read a b) (lookup two_ops verb) op e in
    lookup_found Two two_ops two_table verb read.0 read.1 a b op read.2
op_found verb (a ∷ b ∷ c ∷ more) op e = absurd (cc)

-- these words are written for an operation, and it is read of them
abbrev pub Again : List ℕ → Op → Type 0
Again name op = (verb : List ℕ) × (arguments : List (List ℕ)) × (map part_text (op_parts name op) ≡ verb ∷ name ∷ arguments) × (op_read verb arguments ≡ Some op) × IsText key_limit name

-- what is written for an operation is read as it
pub op_again : (name : List ℕ) (op : Op) → AllFit (op_parts name op) → Again name op
op_again name (Create kind) fit = (codes "create", kind_word kind ∷ [], refl, rw (kind_again kind) refl, fit.1.0)
op_again name Delete fit = (codes "delete", [], refl, refl, fit.1.0)
op_again name Size fit = (codes "size", [], refl, refl, fit.1.0)
op_again name Clear fit = (codes "clear", [], refl, refl, fit.1.0)
op_again name Get fit = (codes "get", [], refl, refl, fit.1.0)
op_again name (Set w) fit = (codes "set", w ∷ [], refl, rw (text_again word_limit w fit.1.1.0) refl, fit.1.0)
op_again name (GetSet w) fit = (codes "getset", w ∷ [], refl, rw (text_again word_limit w fit.1.1.0) refl, fit.1.0)
op_again name (Cas old new) fit = (codes "cas", old ∷ new ∷ [], refl, rw (text_again word_limit old fit.1.1.0, text_again word_limit new fit.1.1.1.0) refl, fit.1.0)
op_again name Unset fit = (codes "unset", [], refl, refl, fit.1.0)
op_again name (Reset z) fit = (codes "reset", signed_decimal z ∷ [], refl, rw (signed_again z fit.1.1.0) refl, fit.1.0)
op_again name (Add z) fit = (codes "add", signed_decimal z ∷ [], refl, rw (signed_again z fit.1.1.0) refl, fit.1.0)
op_again name (Put k w) fit = (codes "put", k ∷ w ∷ [], refl, rw (text_again key_limit k fit.1.1.0, text_again word_limit w fit.1.1.1.0) refl, fit.1.0)
op_again name (PutIf k w) fit = (codes "putif", k ∷ w ∷ [], refl, rw (text_again key_limit k fit.1.1.0, text_again word_limit w fit.1.1.1.0) refl, fit.1.0)
op_again name (Replace k w) fit = (codes "replace", k ∷ w ∷ [], refl, rw (text_again key_limit k fit.1.1.0, text_again word_limit w fit.1.1.1.0) refl, fit.1.0)
op_again name (Remove k) fit = (codes "remove", k ∷ [], refl, rw (text_again key_limit k fit.1.1.0) refl, fit.1.0)
op_again name (GetOf k) fit = (codes "get", k ∷ [], refl, rw (text_again key_limit k fit.1.1.0) refl, fit.1.0)
op_again name (RemoveOne k w) fit = (codes "removeone", k ∷ w ∷ [], refl, rw (text_again key_limit k fit.1.1.0, text_again word_limit w fit.1.1.1.0) refl, fit.1.0)
op_again name (Count k) fit = (codes "count", k ∷ [], refl, rw (text_again key_limit k fit.1.1.0) refl, fit.1.0)
op_again name (Insert w) fit = (codes "insert", w ∷ [], refl, rw (text_again word_limit w fit.1.1.0) refl, fit.1.0)
op_again name (Discard w) fit = (codes "discard", w ∷ [], refl, rw (text_again word_limit w fit.1.1.0) refl, fit.1.0)
op_again name (Has w) fit = (codes "has", w ∷ [], refl, rw (text_again word_limit w fit.1.1.0) refl, fit.1.0)
op_again name (Enqueue w) fit = (codes "offer", w ∷ [], refl, rw (text_again word_limit w fit.1.1.0) refl, fit.1.0)
op_again name Poll fit = (codes "poll", [], refl, refl, fit.1.0)
op_again name Peek fit = (codes "peek", [], refl, refl, fit.1.0)
op_again name (RemoveWord w) fit = (codes "removeword", w ∷ [], refl, rw (text_again word_limit w fit.1.1.0) refl, fit.1.0)
op_again name (Lock n) fit = (codes "lock", decimal n ∷ [], refl, rw (number_again n fit.1.1.0) refl, fit.1.0)
op_again name (Try n) fit = (codes "try", decimal n ∷ [], refl, rw (number_again n fit.1.1.0) refl, fit.1.0)
op_again name (Unlock n) fit = (codes "unlock", decimal n ∷ [], refl, rw (number_again n fit.1.1.0) refl, fit.1.0)
op_again name Holder fit = (codes "holder", [], refl, refl, fit.1.0)
op_again name (Join w) fit = (codes "join", w ∷ [], refl, rw (text_again word_limit w fit.1.1.0) refl, fit.1.0)
op_again name (Leave n) fit = (codes "leave", decimal n ∷ [], refl, rw (number_again n fit.1.1.0) refl, fit.1.0)
op_again name Members fit = (codes "members", [], refl, refl, fit.1.0)
op_again name Leader fit = (codes "leader", [], refl, refl, fit.1.0)
op_again name Listen fit = (codes "listen", [], refl, refl, fit.1.0)
op_again name Unlisten fit = (codes "unlisten", [], refl, refl, fit.1.0)
op_again name (Publish w) fit = (codes "publish", w ∷ [], refl, rw (text_again word_limit w fit.1.1.0) refl, fit.1.0)
