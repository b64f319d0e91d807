use Rattle.std.proofs.Common.{◌≡◌, ◌∷◌, [], ℕ, true, Option, refl, Some, None, is_some, ap, sym, subst, ◌∙◌}
use Rattle.std.specs.Prelude.{IfNone, IfSome}
use Rattle.std.specs.Option.{option_copied}
use Rattle.std.proofs.lemmas.Result.{on_ok_weaker}
use Rattle.cell_table.specs.declared.change.Change.TheVariants as change
use Rattle.cell_table.specs.Changes.{change_of}
use Rattle.cell_table.specs.Seen.{puts_in}
use Rattle.cell_table.proofs.Effects.{puts_some, ready_now, ready_wiped}
use Rattle.cell_table.proofs.table.CellTable.prepare.Goals as goal

some_unless : {A : Type 0} {P : Type 0} (o : Option A) → IfNone o P → (P → ⊥) → is_some o ≡ true
some_unless None h deny = absurd (deny h)
some_unless (Some x) h deny = refl

pub unwrap-owner-requires : goal.unwrap-owner-requires
unwrap-owner-requires c =
    some_unless c.put_in.result c.put_in.ensures.none (λ h. puts_some c.self.inside.kind c.self.inside.instance c.args.index c.args.effect.now (sym c.change_of.ensures ∙ c.in-Puts.is) (h c.args.index))

pub returns-in-Puts-clause-ready : goal.returns-in-Puts-clause-ready
returns-in-Puts-clause-ready c =
    let r = c.unwrap-owner.result in
    let put : puts_in c.args.index c.args.effect.now ≡ record { cell = r.0.now; content = r.1.now; owner = r.2; index = c.args.index } ∷ [] =
    subst (λ o. IfSome o (λ p. (i : ℕ) → puts_in i c.args.effect.now ≡ record { cell = p.0.now; content = p.1.now; owner = p.2; index = i } ∷ [])) c.unwrap-owner.ensures c.put_in.ensures.some c.args.index in
    let changes : change_of c.prepare_put.new.self.kind c.prepare_put.new.self.instance c.args.effect.now ≡ change.Puts =
    (λ j. change_of ((c.prepare_put.ensures.kind ∙ sym (ap (λ x. x.kind) c.self.view_is)) j) ((c.prepare_put.ensures.instance ∙ sym (ap (λ x. x.instance) c.self.view_is)) j) c.args.effect.now) ∙ sym c.change_of.ensures ∙ c.in-Puts.is in
    on_ok_weaker c.prepare_put.result (λ e. ready_now c.prepare_put.new.self c.args.index c.args.effect.now changes (e ∙ sym put)) c.prepare_put.ensures.ready

pub returns-in-Wipes-clause-ready : goal.returns-in-Wipes-clause-ready
returns-in-Wipes-clause-ready c = on_ok_weaker c.prepare_wipe.result (λ h. ready_wiped c.prepare_wipe.new.self c.args.index c.args.effect.now _ (sym c.key_in.ensures ∙ ap option_copied c.unwrap.ensures) h) c.prepare_wipe.ensures.ready
