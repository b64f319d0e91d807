use Rattle.std.proofs.Common.{◌≡◌, ◌-◌, ◌≤◌, ℕ, List, length, take, drop, ◌∙◌, sym, subst, arith}
use Rattle.entry_codec.specs.Spelled.{IsSpelledBy}
use Rattle.segment_files.proofs.Standing.{whole, spelled_here, only_that, written_back}
use Rattle.segment_files.proofs.entries.read_entry.Goals as goal

pub returns-clause-entry : goal.returns-clause-entry
returns-clause-entry g c = λ t bytes reads size entry at fits.
    let into = c.in_ok-count.ensures.bytes t bytes reads in
    let n = c.in_ok-count.count in
    let old = c.deref_mut.result.now in
    let new = c.read.new.buffer in
    let long : length old ≡ c.args.to - c.args.from = omega (arith, c.deref_mut.ensures.len, c.in_ok-buffer.ensures.len) in
    let len : c.in_ok-buffer.buffer.len ≡ length new = omega (arith, c.read.auto.buffer, c.deref_mut.ensures.len, c.in_ok-buffer.buffer.ok.0) in
    let same : c.deref.result.now ≡ new = c.deref.ensures.value ∙ written_back c.in_ok-buffer.buffer.len new (drop (length new) c.in_ok-buffer.buffer.items) len in
    let only = c.in-Ok.ensures.only size c.args.index entry
    (subst (λ (l : List ℕ). size ≤ length (take n l)) (sym same) (whole bytes old new c.args.from c.args.to n size c.args.index entry long c.read.auto.buffer into at fits))
    (subst (λ (l : List ℕ). IsSpelledBy (take size (take n l)) c.args.index entry) (sym same) (spelled_here bytes old new c.args.from c.args.to n size c.args.index entry long c.read.auto.buffer into at fits)) in
    sym (only_that c.in-Ok.found c.args.index entry size only)
