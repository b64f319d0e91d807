use Rattle.std.proofs.Common.{◌≡◌, ℕ, Contains, refl, sym, subst, ◌∙◌}
use Rattle.host_types.specs.declared.entry.Entry.{Entry}
use Rattle.segment_files.specs.declared.reading.FileFault.{FileFault}
use Rattle.segment_files.specs.declared.reading.FileFault.TheVariants.{Damaged, Failed, NoMemory}
use Rattle.disk_model.specs.declared.file_id.FileId.{FileId}
use Rattle.segment_set.specs.declared.opening.OpenError.TheVariants.{Damaged as Is_damaged}
use Rattle.segment_set.specs.Load.{file_error}
use Rattle.segment_files.specs.Contents.{IsNoDamage}
use Rattle.segment_set.proofs.Entries.{entry, has, none_at, size, stands, within}
use Rattle.segment_set.proofs.Positions.{present_at}
use Rattle.segment_set.proofs.reads.read_in.Goals as goal

pub returns-in_default-clause-entry : goal.returns-in_default-clause-entry
returns-in_default-clause-entry g c = λ t bytes part reads placed begins ends.
    none_at bytes part c.args.offsets.now.items c.args.id.base c.args.gate placed begins ends c.args.index c.in_default.ensures

pub returns-in-Ok-clause-entry : goal.returns-in-Ok-clause-entry
returns-in-Ok-clause-entry g c = λ t bytes part reads placed begins ends.
    let os = c.args.offsets.now.items in
    let base = c.args.id.base in
    let gate = c.args.gate in
    let index = c.args.index in
    let n = c.in-Some.n in
    let lt = c.in-Some.ensures.0 in
    let is = c.in-Some.ensures.1 in
    let found = c.in-Ok.ensures.entry t bytes reads (size bytes part os base gate placed begins ends index n lt is) (entry bytes part os base gate placed begins ends index n lt is)
    (stands bytes part os base gate placed begins ends index n lt is c.span-from.result.0 c.span-from.ensures.from)
    (within bytes part os base gate placed begins ends index n lt is c.span-from.result.0 c.span-from.result.1 c.span-from.ensures.from c.span-from.ensures.to) in
    subst (λ (e : Entry). Contains part.entries (index, e)) (sym found) (has bytes part os base gate placed begins ends index n lt is)

pub returns-in-Ok-clause-some : goal.returns-in-Ok-clause-some
returns-in-Ok-clause-some g c = (λ _. present_at c.args.id.base c.args.offsets.now.items c.in-Some.n c.args.index c.in-Some.ensures.0 c.in-Some.ensures.1, λ _. refl)

-- a fault that says nothing of the file isn't that it is damaged
not_both : (id : FileId) (fault : FileFault) (base generation at : ℕ) → IsNoDamage fault → file_error id fault ≡ Is_damaged base generation at → ⊥
not_both id Failed base generation at none is = absurd (cc is)
not_both id NoMemory base generation at none is = absurd (cc is)
not_both id (Damaged place) base generation at none is = none

pub returns-in-Err-clause-undamaged : goal.returns-in-Err-clause-undamaged
returns-in-Err-clause-undamaged g c = λ b generation at_place err t bytes part reads placed begins ends.
    let os = c.args.offsets.now.items in
    let base = c.args.id.base in
    let gate = c.args.gate in
    let index = c.args.index in
    let n = c.in-Some.n in
    let lt = c.in-Some.ensures.0 in
    let is = c.in-Some.ensures.1 in
    let none = c.in-Err.ensures.entry t bytes reads (size bytes part os base gate placed begins ends index n lt is) (entry bytes part os base gate placed begins ends index n lt is)
    (stands bytes part os base gate placed begins ends index n lt is c.span-from.result.0 c.span-from.ensures.from)
    (within bytes part os base gate placed begins ends index n lt is c.span-from.result.0 c.span-from.result.1 c.span-from.ensures.from c.span-from.ensures.to) in
    let e : c.file_error.result ≡ Is_damaged b generation at_place = cc err in
    not_both c.args.id c.in-Err.fault b generation at_place none (sym c.file_error.ensures ∙ e)
