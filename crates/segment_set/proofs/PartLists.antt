-- A list of parts that gets entries more, by its last part.
use Rattle.std.proofs.Common.{◌≡◌, ℕ, Bool, true, not, if◌then◌else◌, List, [], ◌∷◌, ◌++◌, refl, sym, ap, ◌∙◌, append_assoc, Contains}
use Rattle.host_types.specs.declared.entry.Entry.{Entry}
use Rattle.segment_files.specs.Parse.{Part}
use Rattle.segment_files.specs.Folder.{Folder}
use Rattle.segment_set.specs.declared.opened.Opened.{Opened}
use Rattle.segment_set.specs.Fits.{part_list, parts_of}
use Rattle.segment_set.specs.Growth.{begun, gained, has_room, last_in, lengthened, needs_file, new_id, new_tail, with_entries}
use Rattle.segment_set.proofs.Images.{here}
use Rattle.segment_set.proofs.Lying.{there}

pub needs_by_last : (front : List Part) (p : Part) → needs_file (front ++ p ∷ []) ≡ not (has_room p)
needs_by_last [] p = refl
needs_by_last (q ∷ []) p = refl
needs_by_last (q ∷ r ∷ front) p = needs_by_last (r ∷ front) p

pub last_by_last : (front : List Part) (p : Part) → last_in (front ++ p ∷ []) ≡ p.last
last_by_last [] p = refl
last_by_last (q ∷ []) p = refl
last_by_last (q ∷ r ∷ front) p = last_by_last (r ∷ front) p

pub longer_by_last : (front : List Part) (p : Part) (entries : List Entry) → lengthened (front ++ p ∷ []) entries ≡ front ++ with_entries p entries ∷ []
longer_by_last [] p entries = refl
longer_by_last (q ∷ []) p entries = refl
longer_by_last (q ∷ r ∷ front) p entries = ap (λ (l : List Part). q ∷ l) (longer_by_last (r ∷ front) p entries)

-- where the last one has room
pub begun_with_room : (size greatest : ℕ) (front : List Part) (p : Part) → has_room p ≡ true → begun size greatest (front ++ p ∷ []) ≡ front ++ p ∷ []
begun_with_room size greatest front p room =
    ap (λ (t : Bool). if t then (front ++ p ∷ []) ++ new_tail (new_id greatest (front ++ p ∷ [])) size ∷ [] else front ++ p ∷ []) (needs_by_last front p ∙ ap not room)

pub gained_with_room : (size greatest : ℕ) (front : List Part) (p : Part) (entries : List Entry) → has_room p ≡ true → gained size greatest (front ++ p ∷ []) entries ≡ front ++ with_entries p entries ∷ []
gained_with_room size greatest front p entries room = ap (λ (l : List Part). lengthened l entries) (begun_with_room size greatest front p room) ∙ longer_by_last front p entries

-- and where a new file is needed
pub begun_without : (size greatest : ℕ) (parts : List Part) → needs_file parts ≡ true → begun size greatest parts ≡ parts ++ new_tail (new_id greatest parts) size ∷ []
begun_without size greatest parts needs = ap (λ (t : Bool). if t then parts ++ new_tail (new_id greatest parts) size ∷ [] else parts) needs

-- ---- FILES as parts of their folder

pub parts_append : (files : Folder) (xs ys : List Opened) → parts_of files (xs ++ ys) ≡ parts_of files xs ++ parts_of files ys
parts_append files [] ys = refl
parts_append files (x ∷ xs) ys = ap (λ (l : List Part). part_list (files x.id) ++ l) (parts_append files xs ys) ∙ sym (append_assoc (part_list (files x.id)) (parts_of files xs) (parts_of files ys))

pub parts_same : (files others : Folder) (xs : List Opened) → ((one : Opened) → Contains xs one → others one.id ≡ files one.id) → parts_of others xs ≡ parts_of files xs
parts_same files others [] same = refl
parts_same files others (x ∷ xs) same = λ i. part_list (same x (here x xs) i) ++ parts_same files others xs (λ one has. same one (there x xs one has)) i
