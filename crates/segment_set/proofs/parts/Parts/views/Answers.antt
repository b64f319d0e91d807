use Rattle.std.proofs.Common.{◌≡◌, ◌≤◌, ℕ, List, [], ◌∷◌, ◌++◌, length, map, take, Option, None, Some, ap, subst, sym, ◌∙◌, arith, rules}
use Rattle.std.proofs.lemmas.List.{append-nil, take_all}
use Rattle.segment_set.specs.declared.opened.Opened.{Opened}
use Rattle.segment_set.specs.declared.parts.Parts.{Parts}
use Rattle.segment_set.specs.declared.tail.Tail.{Tail}
use Rattle.segment_set.specs.declared.views.PartView.{PartView}
use Rattle.segment_set.specs.Views.{LieFrom, tail_views, view_of_file, view_of_tail, views_of}
use Rattle.segment_set.proofs.Viewing.{AreInRange, all_lie}
use Rattle.segment_set.proofs.parts.Parts.views.Goals as goal

-- all files were gone over
module _ (parts : Parts) (files : List Opened) (n : ℕ) (is : files ≡ parts.sealed.items) (over : length files ≤ n) (ranges : AreInRange files n) (list : List PartView) (views : list ≡ map view_of_file (take n files)) where
  sealed_views : list ≡ map view_of_file parts.sealed.items
  sealed_views = views ∙ ap (map view_of_file) (take_all n files over ∙ is)

  all_over : LieFrom 1 (views_of parts)
  all_over = all_lie parts (λ k d lt. subst (λ (l : List Opened). AreInRange l n) is ranges k d (omega (arith, lt, over, ap length is)))

  lie_with : (tail : Tail) → parts.tail ≡ Some tail → (view : PartView) → view ≡ view_of_tail tail → (new : List PartView) → new ≡ list ++ view ∷ [] → LieFrom 1 new
  lie_with tail some view view_is new new_is =
      subst (LieFrom 1)
      (sym (new_is ∙ (λ i. sealed_views i ++ view_is i ∷ []) ∙ ap (λ (o : Option Tail). map view_of_file parts.sealed.items ++ tail_views o) (sym some))) all_over

  lie_without : parts.tail ≡ None → LieFrom 1 list
  lie_without none =
      subst (LieFrom 1)
      (sym (sealed_views ∙ sym (append-nil (map view_of_file parts.sealed.items)) ∙ ap (λ (o : Option Tail). map view_of_file parts.sealed.items ++ tail_views o) (sym none))) all_over

pub returns-in_ok-push-in-Some-clause-lie : goal.returns-in_ok-push-in-Some-clause-lie
returns-in_ok-push-in-Some-clause-lie c =
    let end : length c.deref-one-items.result.now ≤ c.loop-one.one-index = omega (arith, c.loop-one-test.false) in
    let items : c.push-in-Some.new.self.items ≡ c.loop-one.list.items ++ c.view_tail.result ∷ [] = search rules in
    lie_with c.args.self.now c.deref-one-items.result.now c.loop-one.one-index c.deref-one-items.ensures.value end c.loop-one.invariant.ranges c.loop-one.list.items c.loop-one.invariant.views
    c.in-Some.tail c.in-Some.is c.view_tail.result c.view_tail.ensures c.push-in-Some.new.self.items items

pub returns-in-None-clause-lie : goal.returns-in-None-clause-lie
returns-in-None-clause-lie c =
    let end : length c.deref-one-items.result.now ≤ c.loop-one.one-index = omega (arith, c.loop-one-test.false) in
    lie_without c.args.self.now c.deref-one-items.result.now c.loop-one.one-index c.deref-one-items.ensures.value end c.loop-one.invariant.ranges c.loop-one.list.items c.loop-one.invariant.views c.in-None.is
