-- How the file of an id is named: the log's name, '-', the base, '-', the generation, '.log'.
use Rattle.std.specs.Prelude.{◌≡◌, ◌≤◌, ℕ, List, [], ◌∷◌, ◌++◌, decimal}
use Rattle.disk_model.specs.declared.file_id.FileId.{FileId}
use Rattle.disk_model.specs.Image.{id_limit}

-- this text is a number that may stand in a file's name
pub record IsNumber (n : ℕ) (text : List ℕ) : Type 0 where
  pub first : 1 ≤ n
  pub last : n ≤ id_limit
  pub written : text ≡ decimal n

-- 'log'
abbrev pub log_kind : List ℕ
log_kind = 108 ∷ 111 ∷ 103 ∷ []

-- what stands behind the log's name
abbrev pub ending : FileId → List ℕ
ending id = 45 ∷ (decimal id.base ++ 45 ∷ (decimal id.generation ++ 46 ∷ log_kind))

abbrev pub file_name : List ℕ → FileId → List ℕ
file_name name id = name ++ ending id
