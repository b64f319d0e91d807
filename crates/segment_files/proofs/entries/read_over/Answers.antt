use Rattle.std.proofs.Common.{◌≡◌, ◌-◌, ◌++◌, ℕ, List, length, take, drop, Some, sym, ap, ◌∙◌, arith}
use Rattle.segment_files.proofs.Copying.{cut_behind}
use Rattle.segment_files.proofs.entries.read_over.Goals as goal

pub returns-in-Some-clause-raw : goal.returns-in-Some-clause-raw
returns-in-Some-clause-raw g c = λ t bytes reads size index entry at fits.
    let items = c.args.out.now.items in
    let start = c.args.start in
    let old = c.deref_mut.result.now in
    let new = c.read_spelled.new.buffer in
    let long : length old ≡ c.args.out.now.len = c.deref_mut.ensures.len in
    let whole : c.args.out.now.len ≡ length items = c.args.out.now.ok.0 in
    let found = c.in_ok-size.ensures.spelled t bytes reads size index entry at (omega (arith, fits, long, whole)) in
    let same : Some c.in-Some.size ≡ Some size = sym c.in-Some.is ∙ found.0 in
    let count : c.in-Some.size ≡ size = cc same in
    let as_long : length new ≡ c.args.out.now.len - start = omega (arith, c.read_spelled.auto.buffer, long) in
    let rest : List ℕ = drop (length old - start) (drop start old) in
    c.truncate.ensures.items
    ∙ cut_behind old new rest (drop (length (take start old ++ (new ++ rest))) items) start c.args.out.now.len c.in-Some.size long (omega (arith, c.requires.some, whole)) as_long (omega (arith, count, fits, whole, as_long))
    ∙ ap (λ (l : List ℕ). take start l ++ take c.in-Some.size new) c.deref_mut.ensures.value
    ∙ ap (λ (k : ℕ). take start items ++ take k new) count
    ∙ ap (λ (l : List ℕ). take start items ++ l) found.1
