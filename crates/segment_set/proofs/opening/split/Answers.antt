use Rattle.std.proofs.Common.{◌≡◌, ◌-◌, List, [], ◌∷◌, ◌++◌, length, get_or, Some, None, true, false, refl, sym, ap, subst, ◌∙◌, arith}
use Rattle.std.specs.List.{slice_get}
use Rattle.std.proofs.lemmas.List.{append-nil}
use Rattle.std.proofs.lemmas.Option.{slice_get-get_or}
use Rattle.segment_set.specs.declared.opened.Opened.{Opened}
use Rattle.segment_set.specs.Joined.{last_is_full}
use Rattle.segment_set.specs.Split.{has_room}
use Rattle.segment_set.proofs.Lying.{last_is, same_snoc}
use Rattle.segment_set.proofs.Splitting.{full_at}
use Rattle.segment_set.proofs.opening.split.Goals.{in-Some, in-None, then-ends_open+in_default, else-ends_open}
use Rattle.segment_set.proofs.opening.split.Goals as goal

pub returns-in-Some-pop : goal.returns-in-Some-pop
returns-in-Some-pop c =
    let files = c.args.files.items in
    let one = c.in-Some-pop.one in
    let are : files ≡ c.pop.new.self.items ++ one ∷ [] = c.in-Some-pop.ensures.items in
    let room : has_room one ≡ true = elim c.match-last.branch [
      | in-Some w ↦
          let last = w.in-Some.one.now in
          let is = last_is files c.deref.result.now last c.deref.ensures.value w.in-Some.ensures.item.3 in
          subst (λ (o : Opened). has_room o ≡ true) (same_snoc is.0 c.pop.new.self.items last one (sym is.1 ∙ are)).1
          (sym w.has_room-ends_open.ensures ∙ sym w.ends_open-is ∙ c.if-ends_open.true)
      | in-None w ↦ absurd (cc (w.ends_open-is, c.if-ends_open.true))
    ] in
    (one, are, record { room = room; id = refl; last = refl; gate = refl; size = refl; offsets_are = refl })

none_there : (files items : List Opened) → items ≡ files → None ≡ slice_get items (length items - 1) → files ≡ []
none_there [] items same none = refl
none_there (one ∷ files) items same none =
    let some : slice_get items (length items - 1) ≡ Some (get_or items (length items - 1) one) = slice_get-get_or items (length items - 1) one (omega (arith, ap length same)) in
    absurd (cc (none, some))

pub returns : goal.returns
returns c =
    elim c.if-ends_open.branch [
      | then-ends_open+in_default w ↦ (
        ap (λ v. v.items) w.files-is ∙ sym (append-nil w.pop.new.self.items) ∙ sym w.in_default.ensures.items,
        c.new.ensures.items,
        elim c.match-last.branch [
          | in-Some u ↦
              let e : false ≡ true = w.in_default.ensures.variant.1 (omega (arith, u.in-Some.ensures.item.3.0, c.deref.ensures.len)) in
              absurd (cc e)
          | in-None u ↦ absurd (cc (u.ends_open-is, w.if-ends_open.true))
        ],
      )
      | else-ends_open w ↦ (
        ap (λ v. v.items) w.files-is,
        c.new.ensures.items,
        elim c.match-last.branch [
          | in-Some u ↦
              let is = last_is c.args.files.items c.deref.result.now u.in-Some.one.now c.deref.ensures.value u.in-Some.ensures.item.3 in
              full_at c.args.files.items is.0 u.in-Some.one.now is.1 (sym u.has_room-ends_open.ensures ∙ sym u.ends_open-is ∙ w.if-ends_open.false)
          | in-None u ↦ subst (λ (l : List Opened). last_is_full l ≡ true) (sym (none_there c.args.files.items c.deref.result.now c.deref.ensures.value u.in-None.ensures.value)) refl
        ],
      )
    ]
