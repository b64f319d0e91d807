-- Files with an open gate, one after the other, and those of them that are kept.
use Rattle.std.specs.Prelude.{◌≡◌, ◌≢◌, ◌<◌, ◌⊎◌, ◌+◌, ℕ, List, [], ◌∷◌, ◌++◌, Contains}
use Rattle.std.specs.List.{AllPairs}
use Rattle.disk_model.specs.declared.file_id.FileId.{FileId}
use Rattle.disk_model.specs.Image.{IsBelow}
use Rattle.segment_files.specs.Parse.{Part, Closed, Whole}
use Rattle.segment_files.specs.Folder.{Folder}
use Rattle.segment_set.specs.declared.opened.Opened.{Opened}
use Rattle.segment_files.specs.Folder.{Span, span, LiesIn}

abbrev pub opened_span : Opened → Span
opened_span one = record { id = one.id; last = one.part.last }

-- by rising base, and then by generation
abbrev pub Rise : List Opened → Type 0
Rise files = AllPairs (λ (a : Opened) (b : Opened). IsBelow a.id b.id) files

-- a file of a folder is as it was opened
abbrev pub IsOpenedAs : Folder → Opened → Type 0
IsOpenedAs files one = (part : Part) × (files one.id ≡ Whole part) × (span part ≡ opened_span one)

-- these are the files of a folder whose gate is open
pub record AreOpen (files : Folder) (opened : List Opened) : Type 0 where
  pub each : (one : Opened) → Contains opened one → IsOpenedAs files one
  pub all : (id : FileId) → (files id ≡ Closed) ⊎ ((one : Opened) × Contains opened one × (one.id ≡ id))

-- they stand end to end from one index up to before another
abbrev pub Ends : ℕ → List Opened → ℕ → Type 0
Ends from [] to = from ≡ to
Ends from (one ∷ opened) to = (one.id.base ≡ from) × Ends (one.part.last + 1) opened to

-- it lies in one of these
abbrev pub LiesInOne : List Opened → Opened → Type 0
LiesInOne opened one = (other : Opened) × Contains opened other × LiesIn (opened_span one) (opened_span other)

-- it lies in the last of these
abbrev pub LiesInLast : List Opened → Opened → Type 0
LiesInLast opened one = (front : List Opened) × (last : Opened) × (opened ≡ front ++ last ∷ []) × LiesIn (opened_span one) (opened_span last)

-- the last of these lies in it
abbrev pub LastLiesIn : List Opened → Opened → Type 0
LastLiesIn opened one = (front : List Opened) × (last : Opened) × (opened ≡ front ++ last ∷ []) × LiesIn (opened_span last) (opened_span one)

-- the first of them, if there is one
abbrev pub IfFirst : List Opened → (Opened → Type 0) → Type 0
IfFirst [] P = Unit {0}
IfFirst (one ∷ opened) P = P one

-- they rise; none lies in one behind it, nor in the one right before it
abbrev pub AreStacked : List Opened → Type 0
AreStacked [] = Unit {0}
AreStacked (one ∷ opened) =
    ((other : Opened) → Contains opened other → IsBelow one.id other.id × (LiesIn (opened_span one) (opened_span other) → ⊥))
    × IfFirst opened (λ other. LiesIn (opened_span other) (opened_span one) → ⊥)
    × AreStacked opened

-- Each of these files is kept, or its id stands among the covered ones and it lies in one of the last list.
pub record Sifted (opened kept : List Opened) (covered : List FileId) (tops : List Opened) : Type 0 where
  pub among : (one : Opened) → Contains kept one → Contains opened one
  pub each : (one : Opened) → Contains opened one → Contains kept one ⊎ (Contains covered one.id × LiesInOne tops one)
  pub covered_are : (id : FileId) → Contains covered id → (one : Opened) × Contains opened one × (one.id ≡ id) × LiesInOne tops one
  pub apart : AllPairs (λ (a : FileId) (b : FileId). a ≢ b) covered
  pub disjoint : (one : Opened) → Contains kept one → Contains covered one.id → ⊥
  pub stacked : AreStacked kept

-- the last of these has an empty range
abbrev pub IsLastEmpty : List Opened → Type 0
IsLastEmpty files = (front : List Opened) × (one : Opened) × (files ≡ front ++ one ∷ []) × (one.part.last < one.id.base)

-- the first of these that doesn't begin where the one before it ends, and the first of all at the first index; or that stands behind an
-- empty one
pub record IsFirstApart (opened : List Opened) (id : FileId) : Type 0 where
  pub earlier : List Opened
  pub one : Opened
  pub later : List Opened
  pub are : opened ≡ earlier ++ one ∷ later
  pub id_is : one.id ≡ id
  pub next : ℕ
  pub ends : Ends 1 earlier next
  pub apart : (one.id.base ≢ next) ⊎ IsLastEmpty earlier
