use Rattle.std.proofs.Common.{◌≡◌, ◌+◌, ◌-◌, ◌++◌, ℕ, List, length, take, drop, replicate, ap, ◌∙◌, arith, length-drop}
use Rattle.entry_codec.specs.Spelled.{spelled}
use Rattle.segment_files.proofs.Copying.{behind_front, front_of, longest}
use Rattle.segment_files.proofs.entries.read_raw.Goals as goal

pub returns-in-Ok-clause-raw : goal.returns-in-Ok-clause-raw
returns-in-Ok-clause-raw g c = λ t bytes reads size index entry at fits.
    let old = c.args.out.now.items in
    let more = c.resize.new.self.items in
    let start = c.len-start.result in
    let n = c.min-length.result in
    let whole : start ≡ length old = c.len-start.ensures ∙ c.args.out.now.ok.0 in
    let longer : length more ≡ start + n = omega (arith, c.in_ok-resize.ensures.len, c.resize.new.self.ok.0) in
    let front : take start more ≡ old = front_of old (replicate (start + n - c.args.out.now.len) 0) more start n whole c.in_ok-resize.ensures.items in
    let copied : c.read_over.new.out.items ≡ take start more ++ spelled index entry = c.in-Ok.ensures.raw t bytes reads size index entry at (omega (arith, fits, longer, c.min-length.ensures, longest bytes c.args.from size index entry at)) in
    ◌∙◌ {A = List ℕ} copied (ap (λ (l : List ℕ). l ++ spelled index entry) front)

pub returns-in-Ok-clause-more : goal.returns-in-Ok-clause-more
returns-in-Ok-clause-more g c =
    let old = c.args.out.now.items in
    let more = c.resize.new.self.items in
    let new = c.read_over.new.out.items in
    let start = c.len-start.result in
    let n = c.min-length.result in
    let whole : start ≡ length old = c.len-start.ensures ∙ c.args.out.now.ok.0 in
    let longer : length more ≡ start + n = omega (arith, c.in_ok-resize.ensures.len, c.resize.new.self.ok.0) in
    let front : take start more ≡ old = front_of old (replicate (start + n - c.args.out.now.len) 0) more start n whole c.in_ok-resize.ensures.items in (
      drop start new,
      behind_front old new start (c.in-Ok.ensures.ahead ∙ front),
      omega (arith, length-drop start new, c.in-Ok.ensures.some),
      omega (arith, length-drop start new, c.in-Ok.ensures.most, longer, c.min-length.ensures),
    )
