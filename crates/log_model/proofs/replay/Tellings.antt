-- The events that are read off the cells are those of the plain step. For `cells_tell`.
use Rattle.std.proofs.Common.{◌≡◌, ℕ, ℤ, ◌+◌, Bool, true, false, cond, ◌||◌, ◌==◌, nat_le, List, [], ◌∷◌, ◌++◌, length, Option, Some, None, is_some, refl, sym, ap, subst, ◌∙◌}
use Rattle.std.specs.List.{flat_map, list_any}
use Rattle.std.specs.FinMap.{find, nat_cmp-IsAntisymmetric}
use Rattle.std.specs.Ordering.{nat_cmp, eq_by_cmp}
use Rattle.std.specs.Cmp.{nat_cmp_total}
use Rattle.host_types.specs.declared.entry.Kind.{Kind}
use Rattle.host_types.specs.declared.entry.Ask.{Ask}
use Rattle.host_types.specs.declared.entry.Ask.TheVariants.{Register, Alive, Unregister, Tick, Command}
use Rattle.host_types.specs.declared.entry.Effect.{Effect}
use Rattle.host_types.specs.declared.entry.Effect.TheVariants.{Nothing, Create as Creates}
use Rattle.host_types.specs.declared.entry.Event.{Event}
use Rattle.host_types.specs.declared.entry.Op.{Op}
use Rattle.host_types.specs.declared.entry.Op.TheVariants as op
use Rattle.host_types.specs.declared.entry.Refusal.TheVariants.{Names, Kind as Other_kind}
use Rattle.host_types.specs.declared.entry.Reply.{Reply}
use Rattle.host_types.specs.declared.entry.Reply.TheVariants.{Index}
use Rattle.host_types.specs.Cells.{Place, Name_at, Cell_at, Register_at, Alive_at, Held, is_text, Cells, at, named as held_name}
use Rattle.log_model.specs.cleaning.Cells.{after}
use Rattle.log_model.specs.plain.Plain.{Member, Plain, Value_is, Counter_is, Map_is, Multimap_is, Set_is, Queue_is, Lock_is, Group_is, Topic_is, kind_of, Named_resource, State, named, nothing_yet}
use Rattle.log_model.specs.plain.Rows.{Row, Does, Out_of_range, Of_no_kind, Call, either, row, value_row, counter_row, map_row, multimap_row, set_row, takes_out, queue_row, lock_row, group_row, topic_row, without_session}
use Rattle.log_model.specs.plain.Admission.{Item, Offered, Expired}
use Rattle.log_model.specs.plain.Commands.{outcome, Decided, Declined, row_outcome, outcome_there, outcome_new, outcome_at, kind_number}
use Rattle.log_model.specs.plain.Stored.{decided_body, asked_body, entry_of}
use Rattle.log_model.specs.serving.Batches.{told, told_ask, told_outcome}
use Rattle.log_model.specs.plain.Step.{told_close, step}
use Rattle.log_model.specs.kinds.Shows.{Shows}
use Rattle.log_model.specs.kinds.Deciding.{effect_tells}
use Rattle.log_model.specs.kinds.Reading.{gather, plain_in}
use Rattle.log_model.specs.replay.Telling.{named_pick, effect_instance, tells_there, tells_at, closes_kind, told_by_cells, name_held, by_instance, EachName, ShowsState, ShownFrom, CellsShow}
use Rattle.log_model.specs.replay.ReplayLaws.{TellsFrom, TellsAsPlain}
use Rattle.log_model.proofs.Lookups.{T_from, tied_same, found_from_any}
use Rattle.log_model.proofs.plain.Tracks.{find_passes, found_name, same_text}
use Rattle.log_model.proofs.kinds.Gather.{none_some, gather_is}
use Rattle.log_model.proofs.kinds.Readings.{reads}

-- a row tells what is read off its effect

abbrev pub OnInstance : ℕ → Option ℕ → Type 0
OnInstance m None = Unit {0}
OnInstance m (Some n) = n ≡ m

abbrev pub told_on : Call → Plain → Effect → Option ℕ → List (ℕ × Event)
told_on c plain effect None = []
told_on c plain effect (Some m) = effect_tells c.index c.name plain effect

abbrev pub RowTells : Call → Plain → Row → Type 0
RowTells c plain (Does effect reply next told) = OnInstance c.instance (effect_instance effect) × (told_on c plain effect (effect_instance effect) ≡ told)
RowTells c plain _ = Unit {0}

either_tells : (c : Call) (plain : Plain) (b : Bool) (r s : Row) → RowTells c plain r → RowTells c plain s → RowTells c plain (either b r s)
either_tells c plain true r s h k = h
either_tells c plain false r s h k = k

value_tells : (c : Call) (cur : Option (List ℕ)) (op : Op) → RowTells c (Value_is cur) (value_row c cur op)
value_tells c cur (op.Set word) = (refl, refl)
value_tells c cur _ = search (either_tells, refl, tt)

counter_tells : (c : Call) (cur : ℤ) (op : Op) → RowTells c (Counter_is cur) (counter_row c cur op)
counter_tells c cur (op.Reset number) = (refl, refl)
counter_tells c cur _ = search (either_tells, refl, tt)

map_tells : (c : Call) (m : List (List ℕ × List ℕ)) (op : Op) → RowTells c (Map_is m) (map_row c m op)
map_tells c m (op.Put key word) = (refl, refl)
map_tells c m _ = search (either_tells, refl, tt)

multimap_tells : (c : Call) (m : List (List ℕ × List ℕ)) (op : Op) → RowTells c (Multimap_is m) (multimap_row c m op)
multimap_tells c m (op.Put key word) = search (either_tells, refl, tt)
multimap_tells c m _ = search (either_tells, refl, tt)

set_tells : (c : Call) (m : List (List ℕ)) (op : Op) → RowTells c (Set_is m) (set_row c m op)
set_tells c m (op.Insert word) = search (either_tells, refl, tt)
set_tells c m _ = search (either_tells, refl, tt)

takes_out_tells : (c : Call) (q : List (ℕ × List ℕ)) (o : Option (ℕ × List ℕ)) (found : List ℕ → Reply) (missing : Reply) → RowTells c (Queue_is q) (takes_out c q o found missing)
takes_out_tells c q None found missing = (tt, refl)
takes_out_tells c q (Some item) found missing = (refl, refl)

queue_tells : (c : Call) (q : List (ℕ × List ℕ)) (op : Op) → RowTells c (Queue_is q) (queue_row c q op)
queue_tells c q (op.Enqueue word) = (refl, refl)
queue_tells c q op.Poll = takes_out_tells c q _ _ _
queue_tells c q (op.RemoveWord word) = takes_out_tells c q _ _ _
queue_tells c q _ = search (either_tells, refl, tt)

lock_tells : (c : Call) (ws : List (ℕ × ℕ)) (op : Op) → RowTells c (Lock_is ws) (lock_row c ws op)
lock_tells c ws (op.Lock id) = search (either_tells, refl, tt)
lock_tells c ws _ = search (either_tells, refl, tt)

group_tells : (c : Call) (ms : List Member) (ls : List ℕ) (op : Op) → RowTells c (Group_is ms ls) (group_row c ms ls op)
group_tells c ms ls (op.Join word) = (refl, refl)
group_tells c ms ls _ = search (either_tells, refl, tt)

topic_tells : (c : Call) (ls : List ℕ) (op : Op) → RowTells c (Topic_is ls) (topic_row c ls op)
topic_tells c ls (op.Publish word) = (refl, refl)
topic_tells c ls _ = search (either_tells, refl, tt)

pub row_tells : (c : Call) (plain : Plain) (op : Op) → RowTells c plain (row c plain op)
row_tells c (Value_is cur) op = value_tells c cur op
row_tells c (Counter_is number) op = counter_tells c number op
row_tells c (Map_is pairs) op = map_tells c pairs op
row_tells c (Multimap_is pairs) op = multimap_tells c pairs op
row_tells c (Set_is words) op = set_tells c words op
row_tells c (Queue_is items) op = queue_tells c items op
row_tells c (Lock_is waiters) op = lock_tells c waiters op
row_tells c (Group_is members listeners) op = group_tells c members listeners op
row_tells c (Topic_is listeners) op = topic_tells c listeners op

-- names

abbrev pub entry_kind : List ℕ → Option Kind → List ℕ × Option Kind
entry_kind name kind = (name, kind)

abbrev picked_name : ℕ → List ℕ → Option Kind → Option (ℕ × (List ℕ × Option Kind))
picked_name k name kind = Some (k, (name, kind))

abbrev name_or : Option (ℕ × (List ℕ × Option Kind)) → ℕ × (List ℕ × Option Kind)
name_or None = (0, ([], None))
name_or (Some w) = w

pub name_found : (P : Named_resource → Type 0) (ns : List Named_resource) → EachName P ns → (k : ℕ) (y : List ℕ × Option Kind) → find nat_cmp k (by_instance ns) ≡ Some y → (n : Named_resource) × P n × (k ≡ n.instance) × (entry_kind n.name (Some (kind_of n.plain)) ≡ y)
name_found P [] h k y f = absurd (none_some f)
name_found P (n ∷ ns) h k y f =
    elim (eq_by_cmp nat_cmp k n.instance) as (λ t. eq_by_cmp nat_cmp k n.instance ≡ t → cond t (Some (entry_kind n.name (Some (kind_of n.plain)))) (find nat_cmp k (by_instance ns)) ≡ Some y → (n : Named_resource) × P n × (k ≡ n.instance) × (entry_kind n.name (Some (kind_of n.plain)) ≡ y)) [
      | true ↦ λ t f. (n, h.0, tied_same nat_cmp_total nat_cmp-IsAntisymmetric k n.instance t, (cc))
      | false ↦ λ t f. name_found P ns h.1 k y f
    ] refl f

any_name : (x : List ℕ) (ns : List Named_resource) → is_some (found_name x ns) ≡ list_any (λ (e : ℕ × (List ℕ × Option Kind)). is_text x e.1.0) (by_instance ns)
any_name x [] = refl
any_name x (n ∷ ns) = elim (is_text x n.name) as (λ b. is_some (cond b (Some n) (found_name x ns)) ≡ (b || list_any (λ (e : ℕ × (List ℕ × Option Kind)). is_text x e.1.0) (by_instance ns))) [ true ↦ refl | false ↦ any_name x ns ]

module _ (c : Cells) (s : State) (shows : ShowsState c s) where
  pub found_at : (x : List ℕ) (n : Named_resource) → found_name x s.names ≡ Some n → find nat_cmp n.instance (by_instance s.names) ≡ Some (entry_kind n.name (Some (kind_of n.plain)))
  found_at x n f =
      let r = found_from_any nat_cmp_total nat_cmp-IsAntisymmetric (λ (e : ℕ × (List ℕ × Option Kind)). is_text x e.1.0) (by_instance s.names) (T_from _ shows.rising) (sym (any_name x s.names) ∙ ap is_some f) in
      let q = name_found (λ n. named n.name s ≡ Some n) s.names shows.distinct r.0 r.1 r.2 in
      let named_so : x ≡ q.0.name = same_text x r.1.0 r.3 ∙ ap (λ (y : List ℕ × Option Kind). y.0) (sym q.3) in
      let both : Some n ≡ Some q.0 = sym f ∙ ap (λ y. found_name y s.names) named_so ∙ q.1 in
      let same : n ≡ q.0 = some n q.0 both in
      (λ j. find nat_cmp ((ap (λ (z : Named_resource). z.instance) same ∙ sym q.2) j) (by_instance s.names)) ∙ r.2 ∙ ap Some (sym q.3 ∙ ap (λ (z : Named_resource). entry_kind z.name (Some (kind_of z.plain))) (sym same))
    where
      some : (x y : Named_resource) → Some x ≡ Some y → x ≡ y
      some x y e = (cc)

  pub names_are : gather nat_cmp named_pick c ≡ by_instance s.names
  names_are = gather_is nat_cmp_total nat_cmp-IsAntisymmetric named_pick (by_instance s.names) c (T_from _ shows.sorted) (T_from _ shows.rising) sound full
    where
      held : (x : List ℕ) (h : Held) (o : Option Named_resource) → found_name x s.names ≡ o → name_held o ≡ Some h → find nat_cmp h.index (by_instance s.names) ≡ Some (entry_kind x h.kind)
      held x h None f e = absurd (none_some e)
      held x h (Some n) f e =
          let same : held_name n.instance (kind_of n.plain) ≡ h = (cc) in
          let is : x ≡ n.name = same_text x n.name (find_passes (λ m. is_text x m.name) s.names n f) in
          (λ j. find nat_cmp (sym (ap (λ (g : Held). g.index) same) j) (by_instance s.names)) ∙ found_at x n f ∙ (λ j. Some (entry_kind (sym is j) (ap (λ (g : Held). g.kind) same j)))

      sound : (p : Place) (h : Held) (k : ℕ) (x : List ℕ × Option Kind) → at c p ≡ Some h → named_pick (p, h) ≡ Some (k, x) → find nat_cmp k (by_instance s.names) ≡ Some x
      sound (Name_at name) h k x there e =
          let e' : picked_name h.index name h.kind ≡ picked_name k x.0 x.1 = e in
          let key : h.index ≡ k = ap (λ o. (name_or o).0) e' in
          let is : entry_kind name h.kind ≡ x = ap (λ o. (name_or o).1) e' in
          subst (λ n. find nat_cmp n (by_instance s.names) ≡ Some x) key (held name h (found_name name s.names) refl (sym (shows.names name) ∙ there) ∙ ap Some is)
      sound (Cell_at instance cell) h k x there e = absurd (none_some e)
      sound (Register_at session) h k x there e = absurd (none_some e)
      sound (Alive_at session) h k x there e = absurd (none_some e)

      full : (k : ℕ) (x : List ℕ × Option Kind) → find nat_cmp k (by_instance s.names) ≡ Some x → (p : Place) × (h : Held) × (at c p ≡ Some h) × (named_pick (p, h) ≡ Some (k, x))
      full k x f =
          let q = name_found (λ n. named n.name s ≡ Some n) s.names shows.distinct k x f in
          (Name_at q.0.name, held_name q.0.instance (kind_of q.0.plain), shows.names q.0.name ∙ ap name_held q.1, (λ j. picked_name (sym q.2 j) (q.3 j).0 (q.3 j).1))

  -- a closing
  closes_from : (session : ℕ) (ns : List Named_resource) → EachName (λ n. Shows n.instance c n.plain) ns → flat_map (λ (n : ℕ × (List ℕ × Option Kind)). closes_kind c session n.0 n.1.0 n.1.1) (by_instance ns) ≡ flat_map (λ n. (without_session n.name session n.plain).1) ns
  closes_from session [] h = refl
  closes_from session (n ∷ ns) h = (λ j. (without_session n.name session (reads n.instance c n.plain (T_from _ shows.sorted) h.0 j)).1 ++ closes_from session ns h.1 j)

  pub close_told : (session : ℕ) → flat_map (λ (n : ℕ × (List ℕ × Option Kind)). closes_kind c session n.0 n.1.0 n.1.1) (gather nat_cmp named_pick c) ≡ told_close s session
  close_told session = ap (flat_map (λ (n : ℕ × (List ℕ × Option Kind)). closes_kind c session n.0 n.1.0 n.1.1)) names_are ∙ closes_from session s.names shows.shown

  -- a command
  pub shown_found : (P : Named_resource → Type 0) (x : List ℕ) (ns : List Named_resource) (n : Named_resource) → EachName P ns → found_name x ns ≡ Some n → P n
  shown_found P x [] n h f = absurd (none_some f)
  shown_found P x (y ∷ ns) n h f =
      elim (is_text x y.name) as (λ t. cond t (Some y) (found_name x ns) ≡ Some n → P n) [
        | true ↦ λ f. let same : y ≡ n = (cc) in subst P same h.0
        | false ↦ λ f. shown_found P x ns n h.1 f
      ] f

  row_told : (x : List ℕ) (n : Named_resource) (session seq : ℕ) → found_name x s.names ≡ Some n → (r : Row) → RowTells (record { name = n.name; instance = n.instance; session = session; index = s.last + 1 }) n.plain r → told_by_cells c (s.last + 1) (decided_body session seq (row_outcome s.names n r)) ≡ told_outcome (row_outcome s.names n r)
  row_told x n session seq f (Does effect reply next told) h = go (effect_instance effect) h.0 h.1
    where
      call : Call
      call = record { name = n.name; instance = n.instance; session = session; index = s.last + 1 }

      go : (o : Option ℕ) → OnInstance n.instance o → told_on (record { name = n.name; instance = n.instance; session = session; index = s.last + 1 }) n.plain effect o ≡ told → tells_at c (s.last + 1) effect o ≡ told
      go None a e = e
      go (Some m) a e =
          let there : find nat_cmp m (gather nat_cmp named_pick c) ≡ Some (entry_kind n.name (Some (kind_of n.plain))) = (λ j. find nat_cmp (a j) (names_are j)) ∙ found_at x n f in
          ap (tells_there c (s.last + 1) m effect) there
          ∙ (λ j. effect_tells (s.last + 1) n.name (plain_in (kind_of n.plain) (a j) c) effect)
          ∙ (λ j. effect_tells (s.last + 1) n.name (reads n.instance c n.plain (T_from _ shows.sorted) (shown_found (λ n. Shows n.instance c n.plain) x s.names n shows.shown f) j) effect)
          ∙ e
  row_told x n session seq f (Out_of_range cur) h = refl
  row_told x n session seq f Of_no_kind h = refl

  there_told : (x : List ℕ) (n : Named_resource) (session seq : ℕ) → found_name x s.names ≡ Some n → (o : Op) → told_by_cells c (s.last + 1) (decided_body session seq (outcome_there s.names n session (s.last + 1) o)) ≡ told_outcome (outcome_there s.names n session (s.last + 1) o)
  there_told x n session seq f (op.Create kind) =
      elim (kind_number kind == kind_number (kind_of n.plain)) as (λ b. told_by_cells c (s.last + 1) (decided_body session seq (cond b (Decided Nothing (Index n.instance) s.names []) (Declined (Other_kind (kind_of n.plain))))) ≡ told_outcome (cond b (Decided Nothing (Index n.instance) s.names []) (Declined (Other_kind (kind_of n.plain))))) [ true ↦ refl | false ↦ refl ]
  there_told x n session seq f op.Delete = refl
  there_told x n session seq f o = row_told x n session seq f (row (record { name = n.name; instance = n.instance; session = session; index = s.last + 1 }) n.plain o) (row_tells (record { name = n.name; instance = n.instance; session = session; index = s.last + 1 }) n.plain o)

  new_told : (name : List ℕ) (session seq : ℕ) (o : Op) → told_by_cells c (s.last + 1) (decided_body session seq (outcome_new s.names name (s.last + 1) o)) ≡ told_outcome (outcome_new s.names name (s.last + 1) o)
  new_told name session seq (op.Create kind) =
      elim (nat_le 1024 (length s.names)) as (λ b. told_by_cells c (s.last + 1) (decided_body session seq (cond b (Declined Names) (Decided (Creates name kind) (Index (s.last + 1)) (s.names ++ record { name = name; instance = s.last + 1; plain = Rattle.log_model.specs.plain.Plain.new_plain kind } ∷ []) []))) ≡ told_outcome (cond b (Declined Names) (Decided (Creates name kind) (Index (s.last + 1)) (s.names ++ record { name = name; instance = s.last + 1; plain = Rattle.log_model.specs.plain.Plain.new_plain kind } ∷ []) []))) [ true ↦ refl | false ↦ refl ]
  new_told name session seq o = refl

  command_told : (name : List ℕ) (session seq : ℕ) (o : Op) (found : Option Named_resource) → named name s ≡ found → told_by_cells c (s.last + 1) (decided_body session seq (outcome_at s.names found name session (s.last + 1) o)) ≡ told_outcome (outcome_at s.names found name session (s.last + 1) o)
  command_told name session seq o None f = new_told name session seq o
  command_told name session seq o (Some n) f = there_told name n session seq f o

  -- what the cells tell of a decision, and of the end of a session
  pub tells_shown : (name : List ℕ) (o : Op) (session : ℕ) (effect : Effect) (reply : Reply) (names : List Named_resource) (told : List (ℕ × Event)) → outcome s name session o ≡ Decided effect reply names told → tells_at c (s.last + 1) effect (effect_instance effect) ≡ told
  tells_shown name o session effect reply names told e =
      (λ j. told_by_cells c (s.last + 1) (decided_body session 0 (sym e j)))
      ∙ command_told name session 0 o (named name s) refl
      ∙ ap told_outcome e

  item_told : (item : Item) → told_by_cells c (s.last + 1) (entry_of s item).body ≡ told s item
  item_told (Expired time session) = close_told session
  item_told (Offered o) = go o.ask
    where
      go : (a : Ask) → told_by_cells c (s.last + 1) (asked_body s a) ≡ told_ask s a
      go (Register timeout) = refl
      go (Alive session seq event) = refl
      go (Unregister session) = close_told session
      go Tick = refl
      go (Command session seq name o) = command_told name session seq o (named name s) refl

told_from : (s : State) (c : Cells) (items : List Item) → ShownFrom s c items → TellsFrom told_by_cells s c items
told_from s c [] h = tt
told_from s c (item ∷ items) h = (item_told c s h.0 item, told_from (step s item) (after c (s.last + 1) (entry_of s item)) items h.1)

pub telling_law : CellsShow → TellsAsPlain told_by_cells
telling_law shown items log = told_from nothing_yet [] items (shown items log)
