use Rattle.std.proofs.Common.{◌≡◌, ℕ, suc, ◌+◌, ◌<◌, List, ◌++◌, Some, take, drop, sym, ap, subst, ◌∙◌, arith}
use Rattle.std.specs.Option.{option_map}
use Rattle.host_types.specs.Cells.{text_cmp, places_of}
use Rattle.commit_lending.specs.Lent.{tokens, one_of}
use Rattle.machine.proofs.ReleaseLaws.{closes_one}
use Rattle.resource_catalog.specs.declared.names.Named.{Named}
use Rattle.resource_catalog.specs.Parts.{name_cells}
use Rattle.resource_catalog.proofs.Search.{find_there, find_gap, where_there, where_gap, rises_where}
use Rattle.resource_catalog.proofs.Places.{names_split, names_left, name_holds}
use Rattle.resource_catalog.proofs.Texts.{text_total}
use Rattle.resource_catalog.proofs.names.Names.take.Goals as goal

abbrev commit_of : Named → ℕ
commit_of n = n.commit

pub close-requires : goal.close-requires
close-requires c =
    let names = c.args.self.now.entries.items in
    let at = c.in-Ok.ensures.found in
    let same : c.remove-commit.result ≡ at.entry = c.remove-commit.ensures.value ∙ at.read c.remove-commit.result in
    let commit : c.remove-commit.result.1.commit ≡ at.entry.1.commit = ap (λ (x : List ℕ × Named). x.1.commit) same in
    let here : 0 < places_of (name_cells names) at.entry.1.commit = name_holds names c.args.name.now c.in-Ok.at at in
    subst (λ n. 0 < tokens c.args.lender.now n) (sym commit) (let out = c.requires at.entry.1.commit here in omega (arith, out, here))

pub returns-in-Ok-clause-names : goal.returns-in-Ok-clause-names
returns-in-Ok-clause-names c =
    let at = c.in-Ok.ensures.found in
    c.remove-commit.ensures.items ∙ sym (where_there text_total c.args.self.now.entries.items c.args.name.now c.in-Ok.at at)

pub returns-in-Ok-clause-instance : goal.returns-in-Ok-clause-instance
returns-in-Ok-clause-instance c =
    let at = c.in-Ok.ensures.found in
    let same : c.remove-commit.result ≡ at.entry = c.remove-commit.ensures.value ∙ at.read c.remove-commit.result in
    ap Some (c.index-index.ensures ∙ ap (λ (x : List ℕ × Named). x.1.commit) same) ∙ sym (ap (option_map commit_of) (find_there text_total c.args.self.now.entries.items c.args.name.now c.in-Ok.at at))

pub returns-in-Ok-clause-released : goal.returns-in-Ok-clause-released
returns-in-Ok-clause-released c =
    let names = c.args.self.now.entries.items in
    let at = c.in-Ok.ensures.found in
    let same : c.remove-commit.result ≡ at.entry = c.remove-commit.ensures.value ∙ at.read c.remove-commit.result in
    let commit : c.remove-commit.result.1.commit ≡ at.entry.1.commit = ap (λ (x : List ℕ × Named). x.1.commit) same in
    let left : c.remove-commit.new.self.items ≡ take c.in-Ok.at names ++ drop (suc c.in-Ok.at) names = c.remove-commit.ensures.items in
    let less : (j : ℕ) → places_of (name_cells c.remove-commit.new.self.items) j + one_of c.remove-commit.result.1.commit j ≡ places_of (name_cells names) j =
    λ j. (λ i. places_of (name_cells (left i)) j + one_of (commit i) j) ∙ ap (λ n. n + one_of at.entry.1.commit j) (names_left names c.args.name.now c.in-Ok.at at j) ∙ sym (names_split names c.args.name.now c.in-Ok.at at j) in
    closes_one (places_of (name_cells names)) (places_of (name_cells c.remove-commit.new.self.items)) c.remove-commit.result.1.commit c.args.by c.args.lender.now c.close.new.self c.requires less c.close.ensures.tokens c.close.ensures.closed c.close.ensures.spare

pub returns-in-Err-clause-names : goal.returns-in-Err-clause-names
returns-in-Err-clause-names c =
    let at = c.in-Err.ensures.gap in
    sym (where_gap text_total c.args.self.now.entries.items c.args.name.now c.in-Err.field-0 at)

pub returns-in-Err-clause-instance : goal.returns-in-Err-clause-instance
returns-in-Err-clause-instance c =
    let at = c.in-Err.ensures.gap in
    sym (ap (option_map commit_of) (find_gap text_total c.args.self.now.entries.items c.args.name.now c.in-Err.field-0 at))

pub invariant_of-self : goal.invariant_of-self
invariant_of-self c = record { rises = rises_where text_cmp _ c.args.self.now.entries.items _ (c.remove-commit.ensures.items ∙ sym (where_there text_total c.args.self.now.entries.items c.args.name.now c.in-Ok.at c.in-Ok.ensures.found)) c.args.self.now.rises }
