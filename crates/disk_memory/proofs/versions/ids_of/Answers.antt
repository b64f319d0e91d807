use Rattle.std.proofs.Common.{◌≡◌, ◌≢◌, ◌+◌, ◌<◌, ℕ, Bool, true, false, List, [], ◌∷◌, ◌++◌, length, take, Option, Some, None, Vec, All, filter, not, is_some, rules, refl, sym, ◌∙◌, ap, subst}
use Rattle.std.specs.List.{AllPairs}
use Rattle.std.proofs.lemmas.List.{take_more, take_all}
use Rattle.std.proofs.lemmas.List.Elements.{All-filter}
use Rattle.std.proofs.lemmas.List.Kept.{AllPairs-filter}
use Rattle.std.proofs.lemmas.Bool.{both_ways}
use Rattle.std.proofs.lemmas.Slice.Eq.{bytes_eq-Decides}
use Rattle.std.specs.Str.{bytes_eq}
use Rattle.std.specs.declared.alloc.Global.{Global}
use Rattle.disk_memory.specs.declared.steps.Step.{Step}
use Rattle.disk_model.specs.declared.file_id.FileId.{FileId}
use Rattle.disk_model.specs.Image.{IsBelow, IsFileId}
use Rattle.disk_memory.specs.Versions.{bytes_of, same_id}
use Rattle.disk_memory.proofs.Listed.{AreIds, other_name, removed, stored}
use Rattle.disk_memory.proofs.versions.ids_of.Goals as goal
use Rattle.disk_memory.proofs.versions.ids_of.Goals.{then-eq+then-is_some+in_ok-put_in, then-eq+else-is_some, else-eq}

got : (o : Option (Vec ℕ Global)) → is_some o ≡ true → (b : List ℕ) × (bytes_of o ≡ Some b)
got None h = absurd (cc h)
got (Some b) h = (b.items, refl)

missing : (o : Option (Vec ℕ Global)) → is_some o ≡ false → bytes_of o ≡ None
missing None h = refl
missing (Some b) h = absurd (cc h)

other : (a b x y : List ℕ) (r : Bool) → r ≡ bytes_eq x y → x ≡ a → y ≡ b → r ≡ false → a ≢ b
other a b x y r is xa yb no_hit = λ same. both_ways r no_hit (is ∙ (bytes_eq-Decides x y).1 (xa ∙ same ∙ sym yb))

pub loop-version-preserved : goal.loop-version-preserved
loop-version-preserved c =
    let vs = c.args.versions.now in
    let i = c.loop-version.version-index in
    let v = c.version-item.result in
    let ids = c.loop-version.ids.items in
    let before = c.loop-version.invariant in
    let lt : i < length vs = search rules in
    let one_more : take (i + 1) vs ≡ take i vs ++ v ∷ [] = take_more vs i v lt ∙ ap (λ (u : Step). take i vs ++ u ∷ []) (sym c.version-item.is) in
    elim c.if-eq.branch [
      | then-eq+then-is_some+in_ok-put_in w ↦
          let name_is : v.name ≡ c.args.name.now = search rules in
          let some : is_some v.bytes ≡ true = search rules in
          let b = got v.bytes some in
          let same : w.put_in.new.ids.items ≡ c.if-eq.ids.items = ap (λ (l : Vec FileId Global). l.items) (sym w.ids-is) in record {
            are = subst (AreIds (take (i + 1) vs) c.args.name.now) same (stored (take i vs) (take (i + 1) vs) v c.args.name.now ids one_more before.are name_is w.put_in.new.ids.items w.in_ok-put_in.ensures.has b.0 b.1);
            rising = subst (AllPairs IsBelow) same w.in_ok-put_in.ensures.rising;
            named = subst (All IsFileId) same w.in_ok-put_in.ensures.named;
          }
      | then-eq+else-is_some w ↦
          let name_is : v.name ≡ c.args.name.now = search rules in
          let none : is_some v.bytes ≡ false = search rules in
          let same : filter (λ one. not (same_id one v.id)) ids ≡ c.if-eq.ids.items = sym w.take_out.ensures ∙ ap (λ (l : Vec FileId Global). l.items) (sym w.ids-is) in record {
            are = subst (AreIds (take (i + 1) vs) c.args.name.now) same (removed (take i vs) (take (i + 1) vs) v c.args.name.now ids one_more before.are name_is (missing v.bytes none));
            rising = subst (AllPairs IsBelow) same (AllPairs-filter IsBelow (λ one. not (same_id one v.id)) ids before.rising);
            named = subst (All IsFileId) same (All-filter (λ one. not (same_id one v.id)) IsFileId ids before.named);
          }
      | else-eq w ↦
          let ne = other v.name c.args.name.now c.bytes.result.now c.bytes-in-loop-version.result.now c.eq.result c.eq.ensures (search rules) (search rules) w.if-eq.false in
          let same : ids ≡ c.if-eq.ids.items = ap (λ (l : Vec FileId Global). l.items) (sym w.ids-is) in record {
            are = subst (AreIds (take (i + 1) vs) c.args.name.now) same (other_name (take i vs) (take (i + 1) vs) v c.args.name.now ids one_more before.are ne);
            rising = subst (AllPairs IsBelow) same before.rising;
            named = subst (All IsFileId) same before.named;
          }
    ]

pub returns-clause-are : goal.returns-clause-are
returns-clause-are c =
    let vs = c.args.versions.now in
    let all : take c.loop-version.version-index vs ≡ vs = take_all c.loop-version.version-index vs (search rules) in
    subst (λ (l : List Step). AreIds l c.args.name.now c.loop-version.ids.items) all c.loop-version.invariant.are
