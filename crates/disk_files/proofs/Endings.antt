-- What stands behind a log's name in the name of a file, cut at its '-' and '.'.
use Rattle.std.proofs.Common.{◌≡◌, ◌≢◌, ◌^◌, ◌<◌, ℕ, List, [], ◌∷◌, ◌++◌, drop, Option, Some, None, Bor, sym, ap, subst, ◌∙◌, arith}
use Rattle.std.specs.Fmt.{decimal}
use Rattle.std.specs.Option.{MatchOption, IfSome}
use Rattle.std.specs.Str.{IsAscii, IsUtf8}
use Rattle.std.proofs.lemmas.Fmt.{IsAscii-decimal}
use Rattle.std.proofs.lemmas.List.{append_cancel_left}
use Rattle.std.proofs.lemmas.Str.{IsAscii-append, IsUtf8-from_ascii}
use Rattle.std.proofs.lemmas.Str.Ascii.{IsAscii-cons, IsAscii-nil}
use Rattle.std.proofs.lemmas.Str.Pattern.{IsSplitOnceResult, split_after}
use Rattle.disk_model.specs.declared.file_id.FileId.{FileId}
use Rattle.disk_model.specs.Image.{IsFileId}
use Rattle.disk_files.specs.Names.{IsNumber, ending, file_name, log_kind}
use Rattle.disk_files.proofs.Numbers.{digits_only}

pub none_of : {T : Type 0} (P : Type 0) (Q : T → Type 0) (r : Option T) → r ≡ None → MatchOption r P Q → P
none_of P Q None is matched = matched
none_of P Q (Some x) is matched = absurd (cc is)

pub some_of : {T : Type 0} (P : Type 0) (Q : T → Type 0) (r : Option T) (x : T) → r ≡ Some x → MatchOption r P Q → Q x
some_of P Q r x is matched = subst (λ (o : Option _). MatchOption o P Q) is matched

module _ (text : List ℕ) (id : FileId) (is : IsFileId id) (e : text ≡ ending id) where
  pub numbers_behind : (r : Option (Bor (List ℕ))) → MatchOption r ((rest : List ℕ) → text ≢ 45 ∷ rest) (λ x. text ≡ 45 ∷ x.now)
      → MatchOption r ⊥ (λ x. x.now ≡ decimal id.base ++ 45 ∷ (decimal id.generation ++ 46 ∷ log_kind))
  numbers_behind None matched = matched _ e
  numbers_behind (Some x) matched = ap (λ (l : List ℕ). drop 1 l) (sym matched ∙ e)

pub base_split : (id : FileId) → IsFileId id → (numbers : List ℕ) → numbers ≡ decimal id.base ++ 45 ∷ (decimal id.generation ++ 46 ∷ log_kind)
    → (r : Option (Bor (List ℕ) × Bor (List ℕ))) → IsSplitOnceResult 45 numbers r
    → MatchOption r ⊥ (λ x. (x.0.now ≡ decimal id.base) × (x.1.now ≡ decimal id.generation ++ 46 ∷ log_kind))
base_split id is numbers e r split =
    split_after 45 numbers (decimal id.base) (decimal id.generation ++ 46 ∷ log_kind) r split (omega arith) e (digits_only id.base 45 (omega (arith, is.base_last)) (omega arith))

pub generation_split : (id : FileId) → IsFileId id → (rest : List ℕ) → rest ≡ decimal id.generation ++ 46 ∷ log_kind
    → (r : Option (Bor (List ℕ) × Bor (List ℕ))) → IsSplitOnceResult 46 rest r
    → MatchOption r ⊥ (λ x. (x.0.now ≡ decimal id.generation) × (x.1.now ≡ log_kind))
generation_split id is rest e r split =
    split_after 46 rest (decimal id.generation) log_kind r split (omega arith) e (digits_only id.generation 46 (omega (arith, is.generation_last)) (omega arith))

-- the pieces make up the whole
pub assembled : (text numbers base rest generation kind : List ℕ) (b g : ℕ) → text ≡ 45 ∷ numbers → numbers ≡ base ++ 45 ∷ rest → rest ≡ generation ++ 46 ∷ kind
    → kind ≡ log_kind → IsNumber b base → IsNumber g generation
    → IsFileId (record { base = b; generation = g }) × (text ≡ ending (record { base = b; generation = g }))
assembled text numbers base rest generation kind b g begins first second last is_base is_generation =
    let whole : text ≡ 45 ∷ (base ++ 45 ∷ (generation ++ 46 ∷ kind)) =
    begins ∙ ap (λ (l : List ℕ). 45 ∷ l) (first ∙ ap (λ (l : List ℕ). base ++ 45 ∷ l) second)
    in
    let kinds : text ≡ 45 ∷ (base ++ 45 ∷ (generation ++ 46 ∷ log_kind)) = whole ∙ ap (λ (l : List ℕ). 45 ∷ (base ++ 45 ∷ (generation ++ 46 ∷ l))) last in
    let bases : text ≡ 45 ∷ (decimal b ++ 45 ∷ (generation ++ 46 ∷ log_kind)) = kinds ∙ ap (λ (l : List ℕ). 45 ∷ (l ++ 45 ∷ (generation ++ 46 ∷ log_kind))) is_base.written in (
      record { base_first = is_base.first; base_last = is_base.last; generation_first = is_generation.first; generation_last = is_generation.last },
      bases ∙ ap (λ (l : List ℕ). 45 ∷ (decimal b ++ 45 ∷ (l ++ 46 ∷ log_kind))) is_generation.written,
    )

pub same_id : (id : FileId) (b g : ℕ) → b ≡ id.base → g ≡ id.generation → Some (record { base = b; generation = g }) ≡ Some id
same_id id b g base generation = λ i. Some (record { base = base i; generation = generation i })

small_base : (id : FileId) → IsFileId id → id.base < 2 ^ 64
small_base id is = omega (arith, is.base_last)

small_generation : (id : FileId) → IsFileId id → id.generation < 2 ^ 64
small_generation id is = omega (arith, is.generation_last)

log_is_ascii : IsAscii (46 ∷ log_kind)
log_is_ascii = IsAscii-cons 46 log_kind (omega arith) (IsAscii-cons 108 (111 ∷ 103 ∷ []) (omega arith) (IsAscii-cons 111 (103 ∷ []) (omega arith) (IsAscii-cons 103 [] (omega arith) IsAscii-nil)))

-- it is text
pub ending_is_text : (id : FileId) → IsFileId id → IsUtf8 (ending id)
ending_is_text id is =
    let generation = IsAscii-append (decimal id.generation) (46 ∷ log_kind) (IsAscii-decimal id.generation (small_generation id is)) log_is_ascii in
    let base = IsAscii-append (decimal id.base) (45 ∷ (decimal id.generation ++ 46 ∷ log_kind)) (IsAscii-decimal id.base (small_base id is)) (IsAscii-cons 45 (decimal id.generation ++ 46 ∷ log_kind) (omega arith) generation) in
    IsUtf8-from_ascii (ending id) (IsAscii-cons 45 (decimal id.base ++ 45 ∷ (decimal id.generation ++ 46 ∷ log_kind)) (omega arith) base)

-- what was cut off behind the log's name
pub rest_is : (name file bytes prefix rest : List ℕ) (id : FileId) → bytes ≡ file → prefix ≡ name → bytes ≡ prefix ++ rest → file ≡ file_name name id → rest ≡ ending id
rest_is name file bytes prefix rest id same_file same_name cut e =
    append_cancel_left name rest (ending id) (sym (ap (λ (l : List ℕ). l ++ rest) same_name) ∙ sym cut ∙ same_file ∙ e)

pub reads_whole : (name text file : List ℕ) (r : Option FileId) → file ≡ name ++ text → IfSome r (λ id. IsFileId id × (text ≡ ending id)) → IfSome r (λ id. IsFileId id × (file ≡ file_name name id))
reads_whole name text file None cut read = tt
reads_whole name text file (Some id) cut read = (read.0, cut ∙ ap (λ (l : List ℕ). name ++ l) read.1)
