use Rattle.std.proofs.Common.{◌≡◌, ◌<◌, ◌≤◌, ℕ, List, length, get_or, Option, Some, None, IsTrue, Contains, sym, subst, ap, arith}
use Rattle.segment_set.specs.declared.opened.Opened.{Opened}
use Rattle.segment_set.specs.declared.parts.Parts.{Parts}
use Rattle.segment_set.specs.declared.tail.Tail.{Tail}
use Rattle.segment_set.specs.Finding.{IsFirstReaching}
use Rattle.segment_set.specs.Fits.{present, present_of}
use Rattle.segment_set.specs.Tails.{tail_base}
use Rattle.segment_set.proofs.Among.{from_file, from_tail, in_first, in_tail, no_tail, tail_present, file_present}
use Rattle.segment_set.proofs.Reading.{entry_as, file_of, file_of_tail, no_entry, some_as}
use Rattle.segment_set.proofs.parts.Parts.read.Goals as goal

-- the file that was found
first_of : (parts : Parts) (index n : ℕ) (lent : List Opened) → lent ≡ parts.sealed.items → IsFirstReaching index lent n → IsFirstReaching index parts.sealed.items n
first_of parts index n lent is first = subst (λ (l : List Opened). IsFirstReaching index l n) is first

in_file : (parts : Parts) (index n : ℕ) (one : Opened) → IsFirstReaching index parts.sealed.items n → n < length parts.sealed.items → one ≡ get_or parts.sealed.items n one
    → (Contains (present parts) index → Contains (file_present one) index) × (Contains (file_present one) index → Contains (present parts) index)
in_file parts index n one first lt is = (
  λ has. subst (λ (x : Opened). Contains (file_present x) index) (sym is) (in_first parts index n first one lt has),
  λ has. from_file parts n one index lt (subst (λ (x : Opened). Contains (file_present x) index) is has),
)

in_last : (parts : Parts) (index n : ℕ) (tail : Tail) → IsFirstReaching index parts.sealed.items n → length parts.sealed.items ≤ n → parts.tail ≡ Some tail
    → (Contains (present parts) index → Contains (present_of tail.id.base parts.offsets.items) index) × (Contains (present_of tail.id.base parts.offsets.items) index → Contains (present parts) index)
in_last parts index n tail first all is =
    let same : tail_present parts ≡ present_of tail.id.base parts.offsets.items = ap (λ (o : Option Tail). present_of (tail_base o) parts.offsets.items) is in (
      λ has. subst (λ (l : List ℕ). Contains l index) same (in_tail parts index n first all has),
      λ has. from_tail parts index (subst (λ (l : List ℕ). Contains l index) (sym same) has),
    )

none_in : (parts : Parts) (index n : ℕ) → IsFirstReaching index parts.sealed.items n → length parts.sealed.items ≤ n → parts.tail ≡ None → Contains (present parts) index → ⊥
none_in parts index n first all is has = no_tail parts is index (in_tail parts index n first all has)

pub read_in-requires-clause-listed : goal.read_in-requires-clause-listed
read_in-requires-clause-listed g c = λ t.
    let f = file_of (g.D.Disk.view c.args.disk.now) c.args.self.now (c.requires.fits t) c.index-one.result.now (c.first_reaching-n.result, omega (arith, c.if-n-len.true, c.len.ensures), sym c.index-one.ensures) in
    (f.bytes, f.reads)

pub returns-then-n-len-clause-some : goal.returns-then-n-len-clause-some
returns-then-n-len-clause-some g c =
    let parts = c.args.self.now in
    let n = c.first_reaching-n.result in
    let one = c.index-one.result.now in
    let both = in_file parts c.args.index n one (first_of parts c.args.index n c.deref.result.now c.deref.ensures.value c.first_reaching-n.ensures) (omega (arith, c.if-n-len.true, c.len.ensures)) c.index-one.ensures in
    some_as _ (file_present one) (present parts) c.args.index both.0 both.1 c.read_in.result c.read_in.ensures.some

pub returns-then-n-len-clause-entry : goal.returns-then-n-len-clause-entry
returns-then-n-len-clause-entry g c =
    let parts = c.args.self.now in
    let n = c.first_reaching-n.result in
    let one = c.index-one.result.now in
    let lt : n < length parts.sealed.items = omega (arith, c.if-n-len.true, c.len.ensures) in
    let both = in_file parts c.args.index n one (first_of parts c.args.index n c.deref.result.now c.deref.ensures.value c.first_reaching-n.ensures) lt c.index-one.ensures in
    let same = some_as _ (file_present one) (present parts) c.args.index both.0 both.1 c.read_in.result c.read_in.ensures.some in
    entry_as _ (g.D.Disk.view c.args.disk.now) parts (IsTrue g.D.Disk.tells) c.requires.fits one.id one.part.gate one.part.offsets.items (λ t. file_of (g.D.Disk.view c.args.disk.now) parts (c.requires.fits t) one (n, lt, sym c.index-one.ensures))
    c.args.index c.read_in.result same c.read_in.ensures.entry

pub returns-then-n-len-clause-undamaged : goal.returns-then-n-len-clause-undamaged
returns-then-n-len-clause-undamaged g c = λ base generation at err t.
    let f = file_of (g.D.Disk.view c.args.disk.now) c.args.self.now (c.requires.fits t) c.index-one.result.now (c.first_reaching-n.result, omega (arith, c.if-n-len.true, c.len.ensures), sym c.index-one.ensures) in
    c.read_in.ensures.undamaged base generation at err t f.bytes f.part f.reads f.placed f.based f.gate_is

pub returns-in-Some-clause-some : goal.returns-in-Some-clause-some
returns-in-Some-clause-some g c =
    let parts = c.args.self.now in
    let n = c.first_reaching-n.result in
    let tail = c.in-Some.tail in
    let both = in_last parts c.args.index n tail (first_of parts c.args.index n c.deref.result.now c.deref.ensures.value c.first_reaching-n.ensures) (omega (arith, c.if-n-len.false, c.len.ensures)) c.in-Some.is in
    some_as _ (present_of tail.id.base parts.offsets.items) (present parts) c.args.index both.0 both.1 c.read_in-in-Some.result c.read_in-in-Some.ensures.some

pub returns-in-Some-clause-entry : goal.returns-in-Some-clause-entry
returns-in-Some-clause-entry g c =
    let parts = c.args.self.now in
    let n = c.first_reaching-n.result in
    let tail = c.in-Some.tail in
    let both = in_last parts c.args.index n tail (first_of parts c.args.index n c.deref.result.now c.deref.ensures.value c.first_reaching-n.ensures) (omega (arith, c.if-n-len.false, c.len.ensures)) c.in-Some.is in
    let same = some_as _ (present_of tail.id.base parts.offsets.items) (present parts) c.args.index both.0 both.1 c.read_in-in-Some.result c.read_in-in-Some.ensures.some in
    entry_as _ (g.D.Disk.view c.args.disk.now) parts (IsTrue g.D.Disk.tells) c.requires.fits tail.id tail.gate parts.offsets.items (λ t. file_of_tail (g.D.Disk.view c.args.disk.now) parts (c.requires.fits t) tail c.in-Some.is)
    c.args.index c.read_in-in-Some.result same c.read_in-in-Some.ensures.entry

pub returns-in-Some-clause-undamaged : goal.returns-in-Some-clause-undamaged
returns-in-Some-clause-undamaged g c = λ base generation at err t.
    let f = file_of_tail (g.D.Disk.view c.args.disk.now) c.args.self.now (c.requires.fits t) c.in-Some.tail c.in-Some.is in
    c.read_in-in-Some.ensures.undamaged base generation at err t f.bytes f.part f.reads f.placed f.based f.gate_is

pub returns-in-None-clause-entry : goal.returns-in-None-clause-entry
returns-in-None-clause-entry g c = λ t.
    let parts = c.args.self.now in
    let n = c.first_reaching-n.result in
    no_entry (g.D.Disk.view c.args.disk.now) parts (c.requires.fits t) c.args.index
    (none_in parts c.args.index n (first_of parts c.args.index n c.deref.result.now c.deref.ensures.value c.first_reaching-n.ensures) (omega (arith, c.if-n-len.false, c.len.ensures)) c.in-None.is)

pub returns-in-None-clause-some : goal.returns-in-None-clause-some
returns-in-None-clause-some g c =
    let parts = c.args.self.now in
    let n = c.first_reaching-n.result in (
      λ is. absurd (cc is),
      λ has. absurd (none_in parts c.args.index n (first_of parts c.args.index n c.deref.result.now c.deref.ensures.value c.first_reaching-n.ensures) (omega (arith, c.if-n-len.false, c.len.ensures)) c.in-None.is has),
    )
