-- The files of two logs never have one name: no log's name has the '-' that ends it.
use Rattle.std.proofs.Common.{◌≡◌, ℕ, IsTrue, List, [], ◌∷◌, ◌++◌, refl, arith}
use Rattle.std.specs.List.{list_all}
use Rattle.std.proofs.lemmas.Grind.{common_steps}
use Rattle.disk_model.specs.declared.file_id.FileId.{FileId}
use Rattle.host_types.specs.Name.{IsName, is_name_byte}
use Rattle.disk_files.specs.Names.{file_name}

first_is : (x : ℕ) (xs : List ℕ) → IsTrue (list_all is_name_byte (x ∷ xs)) → x ≡ 45 → ⊥
first_is x xs all is = grind (arith, common_steps)

rest_are : (x : ℕ) (xs : List ℕ) → IsTrue (list_all is_name_byte (x ∷ xs)) → IsTrue (list_all is_name_byte xs)
rest_are x xs all = grind (arith, common_steps)

same_front : (a b more rest : List ℕ) → IsTrue (list_all is_name_byte a) → IsTrue (list_all is_name_byte b) → a ++ 45 ∷ more ≡ b ++ 45 ∷ rest → a ≡ b
same_front [] [] more rest all every e = refl
same_front [] (y ∷ b) more rest all every e = absurd (first_is y b every (cc))
same_front (x ∷ a) [] more rest all every e = absurd (first_is x a all (cc))
same_front (x ∷ a) (y ∷ b) more rest all every e =
    let heads : x ≡ y = cc in
    let tails : a ++ 45 ∷ more ≡ b ++ 45 ∷ rest = cc in
    let same : a ≡ b = same_front a b more rest (rest_are x a all) (rest_are y b every) tails in
    cc

pub one_log : (a b : List ℕ) → IsName a → IsName b → (i j : FileId) → file_name a i ≡ file_name b j → a ≡ b
one_log a b is are i j e = same_front a b _ _ is.2 are.2 e
