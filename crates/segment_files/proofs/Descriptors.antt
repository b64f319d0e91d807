-- Which bytes are the descriptor of a file.
use Rattle.std.proofs.Common.{◌≡◌, ℕ, ◌+◌, ◌≤◌, Bool, true, false, nat_lt, nat_le, if◌then◌else◌, List, [], ◌∷◌, ◌++◌, length, take, Option, Some, None, refl, sym, ap, ◌∙◌, arith}
use Rattle.std.proofs.lemmas.Bool.{and_from, and_parts, le-leb, leb-true, le-ltb, ltb-false}
use Rattle.disk_model.specs.declared.file_id.FileId.{FileId}
use Rattle.segment_files.specs.declared.descriptor.Field.{Field}
use Rattle.segment_files.specs.declared.numbers.Size.{Size}
use Rattle.host_types.specs.Limits.{index_limit}
use Rattle.segment_files.specs.Numbers.{Four, Eight, bytes_of, number_at}
use Rattle.segment_files.specs.Parse.{descriptor_fields, exactly, fields_by, first_wrong, in_rewritten, is_right, is_rewritten, last_place, number_or_zero, size_field, wrong_at}

-- the first place, by what the first field is
abbrev go_on : Option ℕ → List Field → List ℕ → Option ℕ
go_on o fields head = elim o [ None ↦ first_wrong fields head | Some at ↦ Some at ]

pub field_passed : (f : Field) (fields : List Field) (head : List ℕ) → wrong_at f head ≡ None → first_wrong (f ∷ fields) head ≡ first_wrong fields head
field_passed f fields head right = ap (λ (o : Option ℕ). go_on o fields head) right

pub field_wrong : (f : Field) (fields : List Field) (head : List ℕ) (at : ℕ) → wrong_at f head ≡ Some at → first_wrong (f ∷ fields) head ≡ Some at
field_wrong f fields head at wrong = ap (λ (o : Option ℕ). go_on o fields head) wrong

-- a field that is whole and right
module _ (f : Field) (head : List ℕ) (whole : f.at + bytes_of f.size ≤ length head) where
  abbrev n : ℕ
  n = number_at f.size f.at head

  by_number : wrong_at f head ≡ (if is_right f (number_at f.size f.at head) then None else Some f.at)
  by_number = ap (λ (t : Bool). if t then Some (length head) else if is_right f (number_at f.size f.at head) then None else Some f.at) (le-ltb (length head) (f.at + bytes_of f.size) whole)

  pub field_right : f.least ≤ number_at f.size f.at head → number_at f.size f.at head ≤ f.most → wrong_at f head ≡ None
  field_right least most = by_number ∙ ap (λ (t : Bool). if t then None else Some f.at) (and_from (nat_le f.least n) (nat_le n f.most) (le-leb f.least n least) (le-leb n f.most most))

pub field_exact : (at : ℕ) (size : Size) (n : ℕ) (head : List ℕ) → at + bytes_of size ≤ length head → number_at size at head ≡ n → wrong_at (exactly at size n) head ≡ None
field_exact at size n head whole is = field_right (exactly at size n) head whole (omega (arith, is)) (omega (arith, is))

-- fields that are right, one after the other
abbrev pub AreRight : List Field → List ℕ → Type 0
AreRight [] head = Unit {0}
AreRight (f ∷ fields) head = (wrong_at f head ≡ None) × AreRight fields head

pub none_wrong : (fields : List Field) (head : List ℕ) → AreRight fields head → first_wrong fields head ≡ None
none_wrong [] head right = refl
none_wrong (f ∷ fields) head (first, rest) = field_passed f fields head first ∙ none_wrong fields head rest

-- a field that isn't wrong is whole
field_whole : (f : Field) (head : List ℕ) → wrong_at f head ≡ None → f.at + bytes_of f.size ≤ length head
field_whole f head right = by (nat_lt (length head) (f.at + bytes_of f.size)) refl right
  where
    by : (t : Bool) → nat_lt (length head) (f.at + bytes_of f.size) ≡ t → (if t then Some (length head) else if is_right f (number_at f.size f.at head) then None else Some f.at) ≡ None → f.at + bytes_of f.size ≤ length head
    by true is right = absurd (cc)
    by false is right = ltb-false (length head) (f.at + bytes_of f.size) is

-- so is the last of them
last_whole : (fields : List Field) (f : Field) (head : List ℕ) → first_wrong (fields ++ f ∷ []) head ≡ None → f.at + bytes_of f.size ≤ length head
last_whole [] f head right = by (wrong_at f head) refl right
  where
    by : (o : Option ℕ) → wrong_at f head ≡ o → go_on o [] head ≡ None → f.at + bytes_of f.size ≤ length head
    by None is right = field_whole f head is
    by (Some at) is right = absurd (cc)
last_whole (g ∷ fields) f head right = by (λ rest. last_whole fields f head rest) (wrong_at g head) right
  where
    by : (first_wrong (fields ++ f ∷ []) head ≡ None → f.at + bytes_of f.size ≤ length head) → (o : Option ℕ) → go_on o (fields ++ f ∷ []) head ≡ None → f.at + bytes_of f.size ≤ length head
    by further None right = further right
    by further (Some at) right = absurd (cc)

-- so a descriptor without a wrong field has all its bytes
pub whole_head : (id : FileId) (rewritten : Bool) (last : ℕ) (head : List ℕ) → first_wrong (fields_by id rewritten last) head ≡ None → 64 ≤ length head
whole_head id rewritten last head right = last_whole (take 11 (fields_by id rewritten last)) (exactly 60 Four 0) head right

-- each field of one without a wrong field is right
pub all_right : (fields : List Field) (head : List ℕ) → first_wrong fields head ≡ None → AreRight fields head
all_right [] head right = tt
all_right (f ∷ fields) head right = by (λ rest. all_right fields head rest) (wrong_at f head) refl right
  where
    by : (first_wrong fields head ≡ None → AreRight fields head) → (o : Option ℕ) → wrong_at f head ≡ o → go_on o fields head ≡ None → AreRight (f ∷ fields) head
    by rest None is right = (is, rest right)
    by rest (Some at) is right = absurd (cc)

-- so its number is one that it may have
pub number_right : (f : Field) (head : List ℕ) → wrong_at f head ≡ None → (f.least ≤ number_at f.size f.at head) × (number_at f.size f.at head ≤ f.most)
number_right f head right = by (is_right f (number_at f.size f.at head)) refl (sym (by_number f head (field_whole f head right)) ∙ right)
  where
    by : (t : Bool) → is_right f (number_at f.size f.at head) ≡ t → (if t then None else Some f.at) ≡ None → (f.least ≤ number_at f.size f.at head) × (number_at f.size f.at head ≤ f.most)
    by true is none =
        let parts = and_parts (nat_le f.least (number_at f.size f.at head)) (nat_le (number_at f.size f.at head) f.most) is in
        (leb-true f.least (number_at f.size f.at head) parts.0, leb-true (number_at f.size f.at head) f.most parts.1)
    by false is none = absurd (cc)

-- the last index of a file that a compaction wrote
pub last_right : (id : FileId) (last : ℕ) (head : List ℕ) → first_wrong (fields_by id true last) head ≡ None → (id.base ≤ number_at Eight last_place head) × (number_at Eight last_place head ≤ index_limit)
last_right id last head right =
    let all = all_right (fields_by id true last) head right in
    number_right (in_rewritten true last_place id.base index_limit) head all.1.1.1.1.1.1.0

-- its cut
pub cut_right : (id : FileId) (last : ℕ) (head : List ℕ) → first_wrong (fields_by id true last) head ≡ None → number_at Eight 32 head ≤ index_limit
cut_right id last head right =
    let all = all_right (fields_by id true last) head right in
    (number_right (in_rewritten true 32 0 index_limit) head all.1.1.1.1.1.1.1.0).1

-- the size of a file that is appended to
pub size_right : (id : FileId) (last : ℕ) (head : List ℕ) → first_wrong (fields_by id false last) head ≡ None → (2 ≤ number_at Four 56 head) × (number_at Four 56 head ≤ 65536)
size_right id last head right =
    let all = all_right (fields_by id false last) head right in
    number_right (size_field false) head all.1.1.1.1.1.1.1.1.1.1.0

-- the fields as they are built
pub fields_are : (id : FileId) (head : List ℕ) (rewritten : Bool) (last : ℕ) (fields : List Field) → rewritten ≡ is_rewritten head → last ≡ number_or_zero Eight last_place head → fields ≡ fields_by id rewritten last
    → first_wrong (descriptor_fields id head) head ≡ first_wrong fields head
unfolding descriptor_fields
fields_are id head rewritten last fields is last_is fields_is =
    sym (ap (λ (l : List Field). first_wrong l head) (fields_is ∙ ap (λ (t : Bool). fields_by id t last) is ∙ ap (λ (n : ℕ). fields_by id (is_rewritten head) n) last_is))
