-- The cells of a log show at each moment the names and the resources that tell events. For `cells_show`, `cells_tell`, `replay_of_logs`.
use Rattle.std.proofs.Common.{◌≡◌, ◌⊎◌, inl, inr, ⊎_elim, ℕ, ℤ, ◌+◌, ◌<◌, ◌≤◌, Bool, true, false, cond, not, ◌&&◌, ◌==◌, nat_le, T, List, [], ◌∷◌, ◌++◌, map, length, Option, Some, None, is_some, refl, sym, ap, subst, ◌∙◌, arith, eqb-true}
use Rattle.std.proofs.lemmas.Bool.{and_parts, false_from_ne_true}
use Rattle.std.specs.List.{filter}
use Rattle.std.specs.FinMap.{find, is_sorted}
use Rattle.std.specs.Option.{option_map, option_map_or}
use Rattle.std.specs.Ordering.{nat_cmp, eq_by_cmp}
use Rattle.host_types.specs.declared.entry.Kind.{Kind}
use Rattle.host_types.specs.declared.entry.Kind.TheVariants as kind
use Rattle.host_types.specs.declared.entry.Cell.{Cell}
use Rattle.host_types.specs.declared.entry.Cell.TheVariants.{One, Named, Pair, At, Waiter, Of}
use Rattle.host_types.specs.declared.entry.Ask.{Ask}
use Rattle.host_types.specs.declared.entry.Ask.TheVariants.{Register, Alive, Unregister, Tick, Command}
use Rattle.host_types.specs.declared.entry.Body.{Body}
use Rattle.host_types.specs.declared.entry.Body.TheVariants.{Register as Registered, Alive as Kept_alive, Close as Closed, Tick as Ticked, Command as Commanded}
use Rattle.host_types.specs.declared.entry.Effect.{Effect}
use Rattle.host_types.specs.declared.entry.Effect.TheVariants.{Nothing, Create, Delete, Put, Drop, Wipe, WipeKey}
use Rattle.host_types.specs.declared.entry.Entry.{Entry}
use Rattle.host_types.specs.declared.entry.Event.{Event}
use Rattle.host_types.specs.declared.entry.Op.{Op}
use Rattle.host_types.specs.declared.entry.Op.TheVariants as op
use Rattle.host_types.specs.declared.entry.Refusal.TheVariants.{Names as Too_many, Kind as Other_kind}
use Rattle.host_types.specs.declared.entry.Reply.{Reply}
use Rattle.host_types.specs.declared.entry.Reply.TheVariants.{None as No_reply, Index}
use Rattle.host_types.specs.Cells.{Place, Name_at, Cell_at, Register_at, Alive_at, Held, is_text, place_cmp, Cells, at, named as held_name, filled, effect_puts, is_owned_by, effect_covers, is_name_for, stands}
use Rattle.log_model.specs.cleaning.Cells.{fits_with_owner, puts, covers, fits, after}
use Rattle.log_model.specs.plain.Plain.{Member, Plain, Value_is, Counter_is, Map_is, Multimap_is, Set_is, Queue_is, Lock_is, Group_is, Topic_is, kind_of, new_plain, Named_resource, State, nothing_yet, named}
use Rattle.log_model.specs.plain.Rows.{Row, Does, Out_of_range, Of_no_kind, Call, either, row, value_row, counter_row, map_row, multimap_row, set_row, takes_out, queue_row, lock_row, group_row, topic_row, without_session}
use Rattle.log_model.specs.plain.Admission.{Item, Offered, Expired}
use Rattle.log_model.specs.plain.Commands.{Outcome, Decided, Declined, with_plain, row_outcome, outcome_there, outcome_new, outcome_at, outcome, kind_number}
use Rattle.log_model.specs.plain.Step.{closed_name, commanded, asked, step}
use Rattle.log_model.specs.plain.Stored.{decided_body, asked_body, entry_of, is_admitted, is_log_from}
use Rattle.log_model.specs.kinds.Shows.{Shows, IsFresh, OwnersSuit}
use Rattle.log_model.specs.replay.Telling.{name_held, by_instance, EachName, ShowsState, ShownFrom, CellsShow, CellsTell, ReplayOfLogs, told_by_cells}
use Rattle.log_model.proofs.Lookups.{from_T}
use Rattle.log_model.proofs.cleaning.Changes.{Change, Written, Taken, Left, change, sorted-after}
use Rattle.log_model.proofs.cleaning.Entries.{single, puts-index}
use Rattle.log_model.proofs.cleaning.Growth.{last_step}
use Rattle.log_model.proofs.plain.RowEffects.{RowSuits, row_suits, closing_kind}
use Rattle.log_model.proofs.hosted.Sounds.{put_instance}
use Rattle.log_model.proofs.Sets.{sorted_push, sorted_where}
use Rattle.log_model.proofs.kinds.ShownRows.{rows_shown}
use Rattle.log_model.proofs.kinds.ShownCloses.{others_shown, closes_shown}
use Rattle.log_model.proofs.plain.Tracks.{find_passes, find_map, find_push, find_beside, untouched, other_place, Tracks, OwnerRule, Tracked, tracked, held_of, found_name, same_text, text_itself}
use Rattle.log_model.proofs.kinds.Gather.{none_some, clash}
use Rattle.log_model.proofs.replay.WholeFold.{gives_fold}
use Rattle.log_model.proofs.replay.Tellings.{entry_kind, name_found, found_at, telling_law}

-- what a row stores is on its resource's instance

abbrev OnOne : ℕ → Effect → Type 0
OnOne m (Put n cell content owner) = n ≡ m
OnOne m (Drop n cell) = n ≡ m
OnOne m (Wipe n) = n ≡ m
OnOne m (WipeKey n key) = n ≡ m
OnOne m (Create name kind) = ⊥
OnOne m (Delete name n) = n ≡ m
OnOne m _ = Unit {0}

abbrev RowOn : Call → Row → Type 0
RowOn c (Does effect reply next told) = OnOne c.instance effect
RowOn c _ = Unit {0}

either_on : (c : Call) (b : Bool) (r s : Row) → RowOn c r → RowOn c s → RowOn c (either b r s)
either_on c true r s h k = h
either_on c false r s h k = k

takes_out_on : (c : Call) (q : List (ℕ × List ℕ)) (o : Option (ℕ × List ℕ)) (found : List ℕ → Reply) (missing : Reply) → RowOn c (takes_out c q o found missing)
takes_out_on c q None found missing = tt
takes_out_on c q (Some item) found missing = refl

value_on : (c : Call) (cur : Option (List ℕ)) (op : Op) → RowOn c (value_row c cur op)
value_on c cur (op.Set word) = refl
value_on c cur _ = search (either_on, refl, tt)

counter_on : (c : Call) (cur : ℤ) (op : Op) → RowOn c (counter_row c cur op)
counter_on c cur (op.Reset number) = refl
counter_on c cur _ = search (either_on, refl, tt)

map_on : (c : Call) (m : List (List ℕ × List ℕ)) (op : Op) → RowOn c (map_row c m op)
map_on c m (op.Put key word) = refl
map_on c m _ = search (either_on, refl, tt)

multimap_on : (c : Call) (m : List (List ℕ × List ℕ)) (op : Op) → RowOn c (multimap_row c m op)
multimap_on c m (op.Put key word) = search (either_on, refl, tt)
multimap_on c m _ = search (either_on, refl, tt)

set_on : (c : Call) (m : List (List ℕ)) (op : Op) → RowOn c (set_row c m op)
set_on c m (op.Insert word) = search (either_on, refl, tt)
set_on c m _ = search (either_on, refl, tt)

queue_on : (c : Call) (q : List (ℕ × List ℕ)) (op : Op) → RowOn c (queue_row c q op)
queue_on c q (op.Enqueue word) = refl
queue_on c q op.Poll = takes_out_on c q _ _ _
queue_on c q (op.RemoveWord word) = takes_out_on c q _ _ _
queue_on c q _ = search (either_on, refl, tt)

lock_on : (c : Call) (ws : List (ℕ × ℕ)) (op : Op) → RowOn c (lock_row c ws op)
lock_on c ws (op.Lock id) = search (either_on, refl, tt)
lock_on c ws _ = search (either_on, refl, tt)

group_on : (c : Call) (ms : List Member) (ls : List ℕ) (op : Op) → RowOn c (group_row c ms ls op)
group_on c ms ls (op.Join word) = refl
group_on c ms ls _ = search (either_on, refl, tt)

topic_on : (c : Call) (ls : List ℕ) (op : Op) → RowOn c (topic_row c ls op)
topic_on c ls (op.Publish word) = tt
topic_on c ls _ = search (either_on, refl, tt)

row_on : (c : Call) (plain : Plain) (op : Op) → RowOn c (row c plain op)
row_on c (Value_is cur) op = value_on c cur op
row_on c (Counter_is number) op = counter_on c number op
row_on c (Map_is pairs) op = map_on c pairs op
row_on c (Multimap_is pairs) op = multimap_on c pairs op
row_on c (Set_is words) op = set_on c words op
row_on c (Queue_is items) op = queue_on c items op
row_on c (Lock_is waiters) op = lock_on c waiters op
row_on c (Group_is members listeners) op = group_on c members listeners op
row_on c (Topic_is listeners) op = topic_on c listeners op

differs : (n m : ℕ) → (n ≡ m → ⊥) → (n == m) ≡ false
differs n m ne = false_from_ne_true (n == m) (λ u. ne (eqb-true n m u))

unput_other : (i m n : ℕ) (cell : Cell) (effect : Effect) → OnOne m effect → (n ≡ m → ⊥) → at (effect_puts i effect) (Cell_at n cell) ≡ None
unput_other i m n cell (Put k other content owner) on ne = ap (λ b. cond b (Some (filled i content owner)) None) (other_place (Cell_at n cell) (Cell_at k other) (λ e. let same : n ≡ k = (cc) in ne (same ∙ on)))
unput_other i m n cell (Create name kind) on ne = absurd on
unput_other i m n cell _ on ne = refl

uncovered_other : (m n : ℕ) (cell : Cell) (effect : Effect) → OnOne m effect → (n ≡ m → ⊥) → effect_covers effect (Cell_at n cell) ≡ false
uncovered_other m n cell (Drop k other) on ne = ap (λ b. b && eq_by_cmp Rattle.host_types.specs.Cells.cell_cmp other cell) (differs k n (λ e. ne (sym e ∙ on)))
uncovered_other m n cell (Wipe k) on ne = differs k n (λ e. ne (sym e ∙ on))
uncovered_other m n (Pair key word) (WipeKey k other) on ne = ap (λ b. b && is_text other key) (differs k n (λ e. ne (sym e ∙ on)))
uncovered_other m n _ (WipeKey k other) on ne = refl
uncovered_other m n cell (Delete name k) on ne = differs k n (λ e. ne (sym e ∙ on))
uncovered_other m n cell _ on ne = refl

-- whose cells have owners

-- the cells of the other kinds have none
abbrev Unowned : ℕ → Cells → Kind → Type 0
Unowned m c kind.Lock = Unit {0}
Unowned m c kind.Group = Unit {0}
Unowned m c kind.Topic = Unit {0}
Unowned m c _ = (cell : Cell) (held : Held) → at c (Cell_at m cell) ≡ Some held → held.owner ≡ None

abbrev PutsUnowned : Kind → Effect → Type 0
PutsUnowned kind.Lock effect = Unit {0}
PutsUnowned kind.Group effect = Unit {0}
PutsUnowned kind.Topic effect = Unit {0}
PutsUnowned k (Put instance cell content owner) = owner ≡ None
PutsUnowned k _ = Unit {0}

abbrev RowUnowned : Kind → Row → Type 0
RowUnowned k (Does effect reply next told) = PutsUnowned k effect
RowUnowned k _ = Unit {0}

either_unowned : (k : Kind) (b : Bool) (r s : Row) → RowUnowned k r → RowUnowned k s → RowUnowned k (either b r s)
either_unowned k true r s h g = h
either_unowned k false r s h g = g

takes_out_unowned : (c : Call) (q : List (ℕ × List ℕ)) (o : Option (ℕ × List ℕ)) (found : List ℕ → Reply) (missing : Reply) → RowUnowned kind.Queue (takes_out c q o found missing)
takes_out_unowned c q None found missing = tt
takes_out_unowned c q (Some item) found missing = tt

value_unowned : (c : Call) (cur : Option (List ℕ)) (op : Op) → RowUnowned kind.Value (value_row c cur op)
value_unowned c cur (op.Set word) = refl
value_unowned c cur _ = search (either_unowned, refl, tt)

counter_unowned : (c : Call) (cur : ℤ) (op : Op) → RowUnowned kind.Counter (counter_row c cur op)
counter_unowned c cur (op.Reset number) = refl
counter_unowned c cur _ = search (either_unowned, refl, tt)

map_unowned : (c : Call) (m : List (List ℕ × List ℕ)) (op : Op) → RowUnowned kind.Map (map_row c m op)
map_unowned c m (op.Put key word) = refl
map_unowned c m _ = search (either_unowned, refl, tt)

multimap_unowned : (c : Call) (m : List (List ℕ × List ℕ)) (op : Op) → RowUnowned kind.Multimap (multimap_row c m op)
multimap_unowned c m (op.Put key word) = search (either_unowned, refl, tt)
multimap_unowned c m _ = search (either_unowned, refl, tt)

set_unowned : (c : Call) (m : List (List ℕ)) (op : Op) → RowUnowned kind.Set (set_row c m op)
set_unowned c m (op.Insert word) = search (either_unowned, refl, tt)
set_unowned c m _ = search (either_unowned, refl, tt)

queue_unowned : (c : Call) (q : List (ℕ × List ℕ)) (op : Op) → RowUnowned kind.Queue (queue_row c q op)
queue_unowned c q (op.Enqueue word) = refl
queue_unowned c q op.Poll = takes_out_unowned c q _ _ _
queue_unowned c q (op.RemoveWord word) = takes_out_unowned c q _ _ _
queue_unowned c q _ = search (either_unowned, refl, tt)

owned_row : (k : Kind) → ((effect : Effect) → PutsUnowned k effect) → (r : Row) → RowUnowned k r
owned_row k all (Does effect reply next told) = all effect
owned_row k all (Out_of_range cur) = tt
owned_row k all Of_no_kind = tt

row_unowned : (c : Call) (plain : Plain) (op : Op) → RowUnowned (kind_of plain) (row c plain op)
row_unowned c (Value_is cur) op = value_unowned c cur op
row_unowned c (Counter_is number) op = counter_unowned c number op
row_unowned c (Map_is pairs) op = map_unowned c pairs op
row_unowned c (Multimap_is pairs) op = multimap_unowned c pairs op
row_unowned c (Set_is words) op = set_unowned c words op
row_unowned c (Queue_is items) op = queue_unowned c items op
row_unowned c (Lock_is waiters) op = owned_row kind.Lock (λ effect. tt) (lock_row c waiters op)
row_unowned c (Group_is members listeners) op = owned_row kind.Group (λ effect. tt) (group_row c members listeners op)
row_unowned c (Topic_is listeners) op = owned_row kind.Topic (λ effect. tt) (topic_row c listeners op)

-- of a kind without owners
plainly : (m : ℕ) (c : Cells) (k : Kind) → ((cell : Cell) (held : Held) → at c (Cell_at m cell) ≡ Some held → held.owner ≡ None) → Unowned m c k
plainly m c kind.Lock h = tt
plainly m c kind.Group h = tt
plainly m c kind.Topic h = tt
plainly m c kind.Value h = h
plainly m c kind.Counter h = h
plainly m c kind.Map h = h
plainly m c kind.Multimap h = h
plainly m c kind.Set h = h
plainly m c kind.Queue h = h

-- what stands later stood before, or is put with no owner
unowned_later : (m : ℕ) (c d : Cells) (k : Kind) → ((cell : Cell) (held : Held) → at d (Cell_at m cell) ≡ Some held → (held.owner ≡ None) ⊎ (at c (Cell_at m cell) ≡ Some held)) → Unowned m c k → Unowned m d k
unowned_later m c d kind.Lock later h = tt
unowned_later m c d kind.Group later h = tt
unowned_later m c d kind.Topic later h = tt
unowned_later m c d kind.Value later h = λ cell held e. ⊎_elim (λ (n : held.owner ≡ None). n) (λ (f : at c (Cell_at m cell) ≡ Some held). h cell held f) (later cell held e)
unowned_later m c d kind.Counter later h = λ cell held e. ⊎_elim (λ (n : held.owner ≡ None). n) (λ (f : at c (Cell_at m cell) ≡ Some held). h cell held f) (later cell held e)
unowned_later m c d kind.Map later h = λ cell held e. ⊎_elim (λ (n : held.owner ≡ None). n) (λ (f : at c (Cell_at m cell) ≡ Some held). h cell held f) (later cell held e)
unowned_later m c d kind.Multimap later h = λ cell held e. ⊎_elim (λ (n : held.owner ≡ None). n) (λ (f : at c (Cell_at m cell) ≡ Some held). h cell held f) (later cell held e)
unowned_later m c d kind.Set later h = λ cell held e. ⊎_elim (λ (n : held.owner ≡ None). n) (λ (f : at c (Cell_at m cell) ≡ Some held). h cell held f) (later cell held e)
unowned_later m c d kind.Queue later h = λ cell held e. ⊎_elim (λ (n : held.owner ≡ None). n) (λ (f : at c (Cell_at m cell) ≡ Some held). h cell held f) (later cell held e)

put_by_nobody : (m i : ℕ) (effect : Effect) (cell : Cell) (held : Held) → PutsUnowned kind.Value effect → at (effect_puts i effect) (Cell_at m cell) ≡ Some held → held.owner ≡ None
put_by_nobody m i (Put instance other content owner) cell held none f = ap (λ (h : Held). h.owner) (sym (single (Cell_at instance other) (filled i content owner) (Cell_at m cell) held f).1) ∙ none
put_by_nobody m i (Create name other) cell held none f = absurd (none_some f)
put_by_nobody m i _ cell held none f = absurd (none_some f)

-- the same where the effect of a kind puts it
unowned_put : (m i : ℕ) (c d : Cells) (k : Kind) (effect : Effect) → PutsUnowned k effect → ((cell : Cell) (held : Held) → at d (Cell_at m cell) ≡ Some held → (at (effect_puts i effect) (Cell_at m cell) ≡ Some held) ⊎ (at c (Cell_at m cell) ≡ Some held)) → Unowned m c k → Unowned m d k
unowned_put m i c d kind.Lock effect puts later h = tt
unowned_put m i c d kind.Group effect puts later h = tt
unowned_put m i c d kind.Topic effect puts later h = tt
unowned_put m i c d kind.Value effect puts later h = λ cell held e. ⊎_elim (λ (f : at (effect_puts i effect) (Cell_at m cell) ≡ Some held). put_by_nobody m i effect cell held puts f) (λ (f : at c (Cell_at m cell) ≡ Some held). h cell held f) (later cell held e)
unowned_put m i c d kind.Counter effect puts later h = λ cell held e. ⊎_elim (λ (f : at (effect_puts i effect) (Cell_at m cell) ≡ Some held). put_by_nobody m i effect cell held puts f) (λ (f : at c (Cell_at m cell) ≡ Some held). h cell held f) (later cell held e)
unowned_put m i c d kind.Map effect puts later h = λ cell held e. ⊎_elim (λ (f : at (effect_puts i effect) (Cell_at m cell) ≡ Some held). put_by_nobody m i effect cell held puts f) (λ (f : at c (Cell_at m cell) ≡ Some held). h cell held f) (later cell held e)
unowned_put m i c d kind.Multimap effect puts later h = λ cell held e. ⊎_elim (λ (f : at (effect_puts i effect) (Cell_at m cell) ≡ Some held). put_by_nobody m i effect cell held puts f) (λ (f : at c (Cell_at m cell) ≡ Some held). h cell held f) (later cell held e)
unowned_put m i c d kind.Set effect puts later h = λ cell held e. ⊎_elim (λ (f : at (effect_puts i effect) (Cell_at m cell) ≡ Some held). put_by_nobody m i effect cell held puts f) (λ (f : at c (Cell_at m cell) ≡ Some held). h cell held f) (later cell held e)
unowned_put m i c d kind.Queue effect puts later h = λ cell held e. ⊎_elim (λ (f : at (effect_puts i effect) (Cell_at m cell) ≡ Some held). put_by_nobody m i effect cell held puts f) (λ (f : at c (Cell_at m cell) ≡ Some held). h cell held f) (later cell held e)

-- the cells show the resource, and have owners only where its kind has
abbrev Good : ℕ → Cells → Plain → Type 0
Good m c plain = Shows m c plain × Unowned m c (kind_of plain)

told_same : (c d : Cells) (m : ℕ) (plain : Plain) → ((cell : Cell) → at d (Cell_at m cell) ≡ at c (Cell_at m cell)) → Good m c plain → Good m d plain
told_same c d m plain same s = (others_shown c d m plain same s.0, unowned_later m c d (kind_of plain) (λ cell held e. inr (sym (same cell) ∙ e)) s.1)

pub new_shown : (m : ℕ) (c : Cells) (k : Kind) → ((cell : Cell) → at c (Cell_at m cell) ≡ None) → Shows m c (new_plain k)
new_shown m c kind.Lock none = (refl, λ a b. ap is_some (none (Waiter a b)))
new_shown m c kind.Group none = (refl, λ j. ap (option_map (λ (h : Held). (h.content, h.owner))) (none (At j)), (refl, λ q. ap is_some (none (Of q))))
new_shown m c kind.Topic none = (refl, λ q. ap is_some (none (Of q)))
new_shown m c kind.Value none = ap (option_map (λ (h : Held). h.content)) (none One)
new_shown m c kind.Counter none = ap (λ o. Rattle.log_model.specs.kinds.Shows.number_of (option_map (λ (h : Held). h.content) o)) (none One)
new_shown m c kind.Map none = (refl, λ key. ap (option_map (λ (h : Held). h.content)) (none (Named key)))
new_shown m c kind.Multimap none = (refl, λ key word. ap is_some (none (Pair key word)))
new_shown m c kind.Set none = (refl, λ word. ap is_some (none (Rattle.host_types.specs.declared.entry.Cell.TheVariants.Member word)))
new_shown m c kind.Queue none = (refl, λ j. ap (option_map (λ (h : Held). h.content)) (none (At j)))

new_told : (m : ℕ) (c : Cells) (k : Kind) → ((cell : Cell) → at c (Cell_at m cell) ≡ None) → Good m c (new_plain k)
new_told m c k none = (new_shown m c k none, plainly m c (kind_of (new_plain k)) (λ cell held e. absurd (none_some (sym (none cell) ∙ e))))

-- names and their resources
pub record Names (last : ℕ) (c : Cells) (ns : List Named_resource) : Type 0 where
  pub rising : is_sorted nat_cmp (by_instance ns) ≡ true
  pub distinct : EachName (λ n. found_name n.name ns ≡ Some n) ns
  pub low : EachName (λ n. n.instance ≤ last) ns
  pub shown : EachName (λ n. Good n.instance c n.plain) ns

pub record Whole (s : State) (c : Cells) : Type 0 where
  pub tracks : Tracks s.sessions s.names c
  pub sorted : T (is_sorted place_cmp c)
  pub below : (p : Place) (h : Held) → at c p ≡ Some h → h.index ≤ s.last
  pub owners : (p : Place) (h : Held) → at c p ≡ Some h → OwnerRule h.index p h.owner
  pub instances : (m : ℕ) (cell : Cell) (h : Held) → at c (Cell_at m cell) ≡ Some h → m ≤ s.last
  pub names : Names s.last c s.names

pub each_name : (P Q : Named_resource → Type 0) → ((n : Named_resource) → P n → Q n) → (ns : List Named_resource) → EachName P ns → EachName Q ns
each_name P Q f [] h = tt
each_name P Q f (n ∷ ns) h = (f n h.0, each_name P Q f ns h.1)

both_name : (P Q : Named_resource → Type 0) (ns : List Named_resource) → EachName P ns → EachName Q ns → EachName (λ n. P n × Q n) ns
both_name P Q [] h k = tt
both_name P Q (n ∷ ns) h k = ((h.0, k.0), both_name P Q ns h.1 k.1)

map_name : (P : Named_resource → Type 0) (f : Named_resource → Named_resource) (ns : List Named_resource) → EachName (λ n. P (f n)) ns → EachName P (map f ns)
map_name P f [] h = tt
map_name P f (n ∷ ns) h = (h.0, map_name P f ns h.1)

filter_name : (P : Named_resource → Type 0) (p : Named_resource → Bool) (ns : List Named_resource) → EachName (λ n. p n ≡ true → P n) ns → EachName P (filter p ns)
filter_name P p [] h = tt
filter_name P p (n ∷ ns) h = elim (p n) as (λ b. p n ≡ b → EachName P (cond b (n ∷ filter p ns) (filter p ns))) [ true ↦ λ t. (h.0 t, filter_name P p ns h.1) | false ↦ λ t. filter_name P p ns h.1 ] refl

push_name : (P : Named_resource → Type 0) (ns : List Named_resource) (n : Named_resource) → EachName P ns → P n → EachName P (ns ++ n ∷ [])
push_name P [] n h k = (k, tt)
push_name P (x ∷ ns) n h k = (h.0, push_name P ns n h.1 k)

same_instances : (f : Named_resource → Named_resource) (ns : List Named_resource) → EachName (λ n. ((f n).instance ≡ n.instance) × ((f n).name ≡ n.name) × (kind_of (f n).plain ≡ kind_of n.plain)) ns → by_instance (map f ns) ≡ by_instance ns
same_instances f [] h = refl
same_instances f (n ∷ ns) h = (λ j. (h.0.0 j, (h.0.1 j, Some (h.0.2 j))) ∷ same_instances f ns h.1 j)

same_held : (o : Option Named_resource) → held_of o ≡ name_held o
same_held None = refl
same_held (Some n) = refl

pub shows_state : (s : State) (c : Cells) → Whole s c → ShowsState c s
shows_state s c w = record {
  sorted = from_T _ w.sorted;
  names = λ x. w.tracks.by_name x ∙ same_held (named x s);
  rising = w.names.rising;
  distinct = w.names.distinct;
  shown = each_name (λ n. Good n.instance c n.plain) (λ n. Shows n.instance c n.plain) (λ n h. h.0) s.names w.names.shown;
}

some_name : (x y : Named_resource) → Some x ≡ Some y → x ≡ y
some_name x y e = (cc)

module _ (s : State) (c : Cells) (w : Whole s c) where
  i : ℕ
  i = s.last + 1

  -- two names have two instances
  apart : (x y : List ℕ) (n m : Named_resource) → found_name x s.names ≡ Some n → found_name y s.names ≡ Some m → n.instance ≡ m.instance → n.name ≡ m.name
  apart x y n m f g e =
      let at_n = found_at c s (shows_state s c w) x n f in
      let at_m = found_at c s (shows_state s c w) y m g in
      name_part n m (sym at_n ∙ (λ j. find nat_cmp (e j) (by_instance s.names)) ∙ at_m)
    where
      name_part : (n m : Named_resource) → Some (entry_kind n.name (Some (kind_of n.plain))) ≡ Some (entry_kind m.name (Some (kind_of m.plain))) → n.name ≡ m.name
      name_part n m e = ap name_in e
        where
          name_in : Option (List ℕ × Option Kind) → List ℕ
          name_in None = []
          name_in (Some z) = z.0

  unfresh : (m : ℕ) → IsFresh m (s.last + 1) c
  unfresh m = (λ j st. arrived j (at c (Cell_at m (At j))) refl st, λ a b st. waited a b (at c (Cell_at m (Waiter a b))) refl)
    where
      arrived : (j : ℕ) (o : Option Held) → at c (Cell_at m (At j)) ≡ o → is_some (at c (Cell_at m (At j))) ≡ true → j < s.last + 1
      arrived j None e st = absurd (clash (is_some (at c (Cell_at m (At j)))) st (ap is_some e))
      arrived j (Some h) e st = let own : j ≡ h.index = w.owners (Cell_at m (At j)) h e in let low = w.below (Cell_at m (At j)) h e in omega arith

      waited : (a b : ℕ) (o : Option Held) → at c (Cell_at m (Waiter a b)) ≡ o → Rattle.log_model.specs.kinds.Shows.index_at c (Cell_at m (Waiter a b)) < s.last + 1
      waited a b None e = subst (λ o. option_map_or (λ (h : Held). h.index) o 0 < s.last + 1) (sym e) (omega arith)
      waited a b (Some h) e = let low = w.below (Cell_at m (Waiter a b)) h e in subst (λ o. option_map_or (λ (h : Held). h.index) o 0 < s.last + 1) (sym e) (omega arith)

  -- nothing of the names changes
  names_kept : (e : Entry) → ((m : ℕ) (cell : Cell) → at (after c (s.last + 1) e) (Cell_at m cell) ≡ at c (Cell_at m cell)) → Names (s.last + 1) (after c (s.last + 1) e) s.names
  names_kept e same = record {
    rising = w.names.rising;
    distinct = w.names.distinct;
    low = each_name (λ n. n.instance ≤ s.last) (λ n. n.instance ≤ s.last + 1) (λ n l. omega arith) s.names w.names.low;
    shown = each_name (λ n. Good n.instance c n.plain) (λ n. Good n.instance (after c (s.last + 1) e) n.plain) (λ n h. told_same c (after c (s.last + 1) e) n.instance n.plain (same n.instance) h) s.names w.names.shown;
  }

  -- a closing
  closed_told : (t session : ℕ) (expired : Bool) (n : Named_resource) → Good n.instance c n.plain → Good n.instance (after c (s.last + 1) (record { time = t; body = Closed session expired })) (closed_name session n).plain
  closed_told t session expired n h = go n.plain h
    where
      waits : (m a b : ℕ) (h : Held) → at c (Cell_at m (Waiter a b)) ≡ Some h → h.owner ≡ Some a
      waits m a b h e = w.owners (Cell_at m (Waiter a b)) h e

      listens : (m q : ℕ) (h : Held) → at c (Cell_at m (Of q)) ≡ Some h → h.owner ≡ Some q
      listens m q h e = w.owners (Cell_at m (Of q)) h e

      d : Cells
      d = after c (s.last + 1) (record { time = t; body = Closed session expired })

      before : (cell : Cell) (held : Held) → at (after c (s.last + 1) (record { time = t; body = Closed session expired })) (Cell_at n.instance cell) ≡ Some held → Change c (s.last + 1) (record { time = t; body = Closed session expired }) (Cell_at n.instance cell) → at c (Cell_at n.instance cell) ≡ Some held
      before cell held e (Written h f w a) = absurd (none_some w)
      before cell held e (Taken h w v a) = absurd (none_some (sym a ∙ e))
      before cell held e (Left u v same) = sym same ∙ e

      still : (k : Kind) → Unowned n.instance c k → Unowned n.instance (after c (s.last + 1) (record { time = t; body = Closed session expired })) k
      still k h = unowned_later n.instance c (after c (s.last + 1) (record { time = t; body = Closed session expired })) k (λ cell held e. inr (before cell held e (change c (s.last + 1) (record { time = t; body = Closed session expired }) (Cell_at n.instance cell)))) h

      go : (plain : Plain) → Good n.instance c plain → Good n.instance (after c (s.last + 1) (record { time = t; body = Closed session expired })) (without_session n.name session plain).0
      go (Lock_is ws) h = (closes_shown c n.instance (s.last + 1) t session expired n.name (Lock_is ws) h.0 (waits n.instance), tt)
      go (Group_is ms ls) h = (closes_shown c n.instance (s.last + 1) t session expired n.name (Group_is ms ls) h.0 (listens n.instance), tt)
      go (Topic_is ls) h = (closes_shown c n.instance (s.last + 1) t session expired n.name (Topic_is ls) h.0 (listens n.instance), tt)
      go (Value_is cur) h = (closes_shown c n.instance (s.last + 1) t session expired n.name (Value_is cur) h.0 h.1, still kind.Value h.1)
      go (Counter_is number) h = (closes_shown c n.instance (s.last + 1) t session expired n.name (Counter_is number) h.0 h.1, still kind.Counter h.1)
      go (Map_is pairs) h = (closes_shown c n.instance (s.last + 1) t session expired n.name (Map_is pairs) h.0 h.1, still kind.Map h.1)
      go (Multimap_is pairs) h = (closes_shown c n.instance (s.last + 1) t session expired n.name (Multimap_is pairs) h.0 h.1, still kind.Multimap h.1)
      go (Set_is words) h = (closes_shown c n.instance (s.last + 1) t session expired n.name (Set_is words) h.0 h.1, still kind.Set h.1)
      go (Queue_is items) h = (closes_shown c n.instance (s.last + 1) t session expired n.name (Queue_is items) h.0 h.1, still kind.Queue h.1)

  names_closed : (t session : ℕ) (expired : Bool) → Names (s.last + 1) (after c (s.last + 1) (record { time = t; body = Closed session expired })) (map (closed_name session) s.names)
  names_closed t session expired = record {
    rising = ap (is_sorted nat_cmp) (same_instances (closed_name session) s.names (each_name (λ n. n.instance ≤ s.last) (λ n. ((closed_name session n).instance ≡ n.instance) × ((closed_name session n).name ≡ n.name) × (kind_of (closed_name session n).plain ≡ kind_of n.plain)) (λ n _. (refl, refl, closing_kind n.name session n.plain)) s.names w.names.low)) ∙ w.names.rising;
    distinct = map_name (λ n. found_name n.name (map (closed_name session) s.names) ≡ Some n) (closed_name session) s.names (each_name (λ n. found_name n.name s.names ≡ Some n) (λ n. found_name n.name (map (closed_name session) s.names) ≡ Some (closed_name session n)) (λ n f. find_map (λ m. is_text n.name m.name) (closed_name session) (λ y. refl) s.names ∙ ap (option_map (closed_name session)) f) s.names w.names.distinct);
    low = map_name (λ n. n.instance ≤ s.last + 1) (closed_name session) s.names (each_name (λ n. n.instance ≤ s.last) (λ n. n.instance ≤ s.last + 1) (λ n l. omega arith) s.names w.names.low);
    shown = map_name (λ n. Good n.instance (after c (s.last + 1) (record { time = t; body = Closed session expired })) n.plain) (closed_name session) s.names (each_name (λ n. Good n.instance c n.plain) (λ n. Good n.instance (after c (s.last + 1) (record { time = t; body = Closed session expired })) (closed_name session n).plain) (closed_told t session expired) s.names w.names.shown);
  }

  module _ (t session seq : ℕ) where
    -- a row
    row_told : (n : Named_resource) (o : Op) (effect : Effect) (reply : Reply) (next : Plain) (told : List (ℕ × Event)) → row (record { name = n.name; instance = n.instance; session = session; index = s.last + 1 }) n.plain o ≡ Does effect reply next told → fits_with_owner c effect ≡ true → kind_of next ≡ kind_of n.plain → Good n.instance c n.plain → Good n.instance (after c (s.last + 1) (record { time = t; body = Commanded session seq effect reply })) next
    row_told n o effect reply next told e f same h = (
      rows_shown c n.instance (s.last + 1) t session seq n.name n.plain next o effect reply told h.0 (unfresh n.instance) e f,
      subst (Unowned n.instance (after c (s.last + 1) (record { time = t; body = Commanded session seq effect reply }))) (sym same)
          (unowned_put n.instance (s.last + 1) c (after c (s.last + 1) (record { time = t; body = Commanded session seq effect reply })) (kind_of n.plain) effect puts_unowned (λ cell held g. before cell held g (change c (s.last + 1) (record { time = t; body = Commanded session seq effect reply }) (Cell_at n.instance cell))) h.1),
    )
      where
        puts_unowned : PutsUnowned (kind_of n.plain) effect
        puts_unowned = subst (RowUnowned (kind_of n.plain)) e (row_unowned (record { name = n.name; instance = n.instance; session = session; index = s.last + 1 }) n.plain o)

        before : (cell : Cell) (held : Held) → at (after c (s.last + 1) (record { time = t; body = Commanded session seq effect reply })) (Cell_at n.instance cell) ≡ Some held → Change c (s.last + 1) (record { time = t; body = Commanded session seq effect reply }) (Cell_at n.instance cell) → (at (effect_puts (s.last + 1) effect) (Cell_at n.instance cell) ≡ Some held) ⊎ (at c (Cell_at n.instance cell) ≡ Some held)
        before cell held g (Written z fit w a) = inl (w ∙ sym a ∙ g)
        before cell held g (Taken z w v a) = absurd (none_some (sym a ∙ g))
        before cell held g (Left u v same) = inr (sym same ∙ g)

    -- another instance than the effect's
    kept_other : (m : ℕ) (effect : Effect) (reply : Reply) → OnOne m effect → (n : ℕ) → (n ≡ m → ⊥) → (cell : Cell) → at (after c (s.last + 1) (record { time = t; body = Commanded session seq effect reply })) (Cell_at n cell) ≡ at c (Cell_at n cell)
    kept_other m effect reply on n ne cell =
        untouched c (s.last + 1) (record { time = t; body = Commanded session seq effect reply }) (Cell_at n cell) (unput_other (s.last + 1) m n cell effect on ne) (λ h _. uncovered_other m n cell effect on ne)

    names_row : (x : List ℕ) (n : Named_resource) (o : Op) (effect : Effect) (reply : Reply) (next : Plain) (told : List (ℕ × Event)) → found_name x s.names ≡ Some n → row (record { name = n.name; instance = n.instance; session = session; index = s.last + 1 }) n.plain o ≡ Does effect reply next told → fits_with_owner c effect ≡ true → Names (s.last + 1) (after c (s.last + 1) (record { time = t; body = Commanded session seq effect reply })) (with_plain n.name next s.names)
    names_row x n o effect reply next told f e fit = record {
      rising = ap (is_sorted nat_cmp) (same_instances g s.names (each_name (λ m. found_name m.name s.names ≡ Some m) (λ m. ((g m).instance ≡ m.instance) × ((g m).name ≡ m.name) × (kind_of (g m).plain ≡ kind_of m.plain)) parts s.names w.names.distinct)) ∙ w.names.rising;
      distinct = map_name (λ m. found_name m.name (map g s.names) ≡ Some m) g s.names (each_name (λ m. found_name m.name s.names ≡ Some m) (λ m. found_name (g m).name (map g s.names) ≡ Some (g m)) (λ m h. ap (λ y. found_name y (map g s.names)) (parts m h).1 ∙ find_map (λ z. is_text m.name z.name) g (λ y. ap (is_text m.name) (named_so y)) s.names ∙ ap (option_map g) h) s.names w.names.distinct);
      low = map_name (λ m. m.instance ≤ s.last + 1) g s.names (each_name (λ m. (found_name m.name s.names ≡ Some m) × (m.instance ≤ s.last)) (λ m. (g m).instance ≤ s.last + 1) (λ m h. (let l = h.1 in let e = (parts m h.0).0 in omega arith)) s.names (both_name (λ m. found_name m.name s.names ≡ Some m) (λ m. m.instance ≤ s.last) s.names w.names.distinct w.names.low));
      shown = map_name (λ m. Good m.instance d m.plain) g s.names (each_name (λ m. (found_name m.name s.names ≡ Some m) × Good m.instance c m.plain) (λ m. Good (g m).instance d (g m).plain) (λ m h. told_at m h.0 h.1) s.names (both_name (λ m. found_name m.name s.names ≡ Some m) (λ m. Good m.instance c m.plain) s.names w.names.distinct w.names.shown));
    }
      where
        d : Cells
        d = after c (s.last + 1) (record { time = t; body = Commanded session seq effect reply })

        g : Named_resource → Named_resource
        g m = cond (is_text n.name m.name) (record { name = m.name; instance = m.instance; plain = next }) m

        facts : RowSuits (record { name = n.name; instance = n.instance; session = session; index = s.last + 1 }) (kind_of n.plain) (Does effect reply next told)
        facts = subst (RowSuits (record { name = n.name; instance = n.instance; session = session; index = s.last + 1 }) (kind_of n.plain)) e (row_suits (record { name = n.name; instance = n.instance; session = session; index = s.last + 1 }) n.plain o)

        on : OnOne n.instance effect
        on = subst (RowOn (record { name = n.name; instance = n.instance; session = session; index = s.last + 1 })) e (row_on (record { name = n.name; instance = n.instance; session = session; index = s.last + 1 }) n.plain o)

        named_so : (m : Named_resource) → (g m).name ≡ m.name
        named_so m = elim (is_text n.name m.name) as (λ b. (cond b (record { name = m.name; instance = m.instance; plain = next }) m).name ≡ m.name) [ true ↦ refl | false ↦ refl ]

        n_named : x ≡ n.name
        n_named = same_text x n.name (find_passes (λ m. is_text x m.name) s.names n f)

        n_found : found_name n.name s.names ≡ Some n
        n_found = subst (λ y. found_name y s.names ≡ Some n) n_named f

        same_one : (m : Named_resource) → is_text n.name m.name ≡ true → found_name m.name s.names ≡ Some m → n ≡ m
        same_one m u h = some_name n m (sym n_found ∙ ap (λ y. found_name y s.names) (same_text n.name m.name u) ∙ h)

        parts : (m : Named_resource) → found_name m.name s.names ≡ Some m → ((g m).instance ≡ m.instance) × ((g m).name ≡ m.name) × (kind_of (g m).plain ≡ kind_of m.plain)
        parts m h = elim (is_text n.name m.name) as (λ b. is_text n.name m.name ≡ b → ((cond b (record { name = m.name; instance = m.instance; plain = next }) m).instance ≡ m.instance) × ((cond b (record { name = m.name; instance = m.instance; plain = next }) m).name ≡ m.name) × (kind_of (cond b (record { name = m.name; instance = m.instance; plain = next }) m).plain ≡ kind_of m.plain)) [
          | true ↦ λ u. (refl, refl, facts.1 ∙ ap (λ (z : Named_resource). kind_of z.plain) (same_one m u h))
          | false ↦ λ u. (refl, refl, refl)
        ] refl

        told_at : (m : Named_resource) → found_name m.name s.names ≡ Some m → Good m.instance c m.plain → Good (g m).instance d (g m).plain
        told_at m h shown = elim (is_text n.name m.name) as (λ b. is_text n.name m.name ≡ b → Good (cond b (record { name = m.name; instance = m.instance; plain = next }) m).instance d (cond b (record { name = m.name; instance = m.instance; plain = next }) m).plain) [
          | true ↦ λ u.
              let same : n ≡ m = same_one m u h in
              subst (λ (z : Named_resource). Good z.instance d next) same (row_told n o effect reply next told e fit facts.1 (subst (λ (z : Named_resource). Good z.instance c z.plain) (sym same) shown))
          | false ↦ λ u.
              told_same c d m.instance m.plain (kept_other n.instance effect reply on m.instance (λ at_one. clash (is_text n.name m.name) (ap (is_text n.name) (apart m.name n.name m n h n_found at_one) ∙ text_itself n.name) u)) shown
        ] refl

    names_deleted : (x : List ℕ) (n : Named_resource) (reply : Reply) → found_name x s.names ≡ Some n → Names (s.last + 1) (after c (s.last + 1) (record { time = t; body = Commanded session seq (Delete n.name n.instance) reply })) (filter (λ m. not (is_text n.name m.name)) s.names)
    names_deleted x n reply f = record {
      rising = ap (is_sorted nat_cmp) (filtered s.names) ∙ sorted_where nat_cmp (λ (e : ℕ × (List ℕ × Option Kind)). not (is_text n.name e.1.0)) (by_instance s.names) w.names.rising;
      distinct = filter_name (λ m. found_name m.name (filter left s.names) ≡ Some m) left s.names (each_name (λ m. found_name m.name s.names ≡ Some m) (λ m. left m ≡ true → found_name m.name (filter left s.names) ≡ Some m) (λ m h k. find_beside (λ y. is_text m.name y.name) (λ y. is_text n.name y.name) (λ y u. false_from_ne_true (is_text n.name y.name) (λ v. clash (is_text n.name m.name) (ap (is_text n.name) (same_text m.name y.name u) ∙ v) (other m k))) s.names ∙ h) s.names w.names.distinct);
      low = filter_name (λ m. m.instance ≤ s.last + 1) left s.names (each_name (λ m. m.instance ≤ s.last) (λ m. left m ≡ true → m.instance ≤ s.last + 1) (λ m l _. omega arith) s.names w.names.low);
      shown = filter_name (λ m. Good m.instance d m.plain) left s.names (each_name (λ m. (found_name m.name s.names ≡ Some m) × Good m.instance c m.plain) (λ m. left m ≡ true → Good m.instance d m.plain) (λ m h k. told_same c d m.instance m.plain (kept_other n.instance (Delete n.name n.instance) reply refl m.instance (λ at_one. clash (is_text n.name m.name) (ap (is_text n.name) (apart m.name n.name m n h.0 n_found at_one) ∙ text_itself n.name) (other m k))) h.1) s.names (both_name (λ m. found_name m.name s.names ≡ Some m) (λ m. Good m.instance c m.plain) s.names w.names.distinct w.names.shown));
    }
      where
        d : Cells
        d = after c (s.last + 1) (record { time = t; body = Commanded session seq (Delete n.name n.instance) reply })

        left : Named_resource → Bool
        left m = not (is_text n.name m.name)

        n_found : found_name n.name s.names ≡ Some n
        n_found = subst (λ y. found_name y s.names ≡ Some n) (same_text x n.name (find_passes (λ m. is_text x m.name) s.names n f)) f

        other : (m : Named_resource) → left m ≡ true → is_text n.name m.name ≡ false
        other m k = Rattle.std.proofs.lemmas.Bool.not-true (is_text n.name m.name) k

        filtered : (ns : List Named_resource) → by_instance (filter left ns) ≡ filter (λ (e : ℕ × (List ℕ × Option Kind)). not (is_text n.name e.1.0)) (by_instance ns)
        filtered [] = refl
        filtered (m ∷ ns) = elim (is_text n.name m.name) as (λ b. by_instance (cond (not b) (m ∷ filter left ns) (filter left ns)) ≡ cond (not b) ((m.instance, (m.name, Some (kind_of m.plain))) ∷ filter (λ (e : ℕ × (List ℕ × Option Kind)). not (is_text n.name e.1.0)) (by_instance ns)) (filter (λ (e : ℕ × (List ℕ × Option Kind)). not (is_text n.name e.1.0)) (by_instance ns))) [
          | true ↦ filtered ns
          | false ↦ ap (λ l. (m.instance, (m.name, Some (kind_of m.plain))) ∷ l) (filtered ns)
        ]

    names_created : (name : List ℕ) (k : Kind) (reply : Reply) → found_name name s.names ≡ None → Names (s.last + 1) (after c (s.last + 1) (record { time = t; body = Commanded session seq (Create name k) reply })) (s.names ++ record { name = name; instance = s.last + 1; plain = new_plain k } ∷ [])
    names_created name k reply out = record {
      rising = ap (is_sorted nat_cmp) (pushed s.names) ∙ sorted_push (s.last + 1) (entry_kind name (Some (kind_of (new_plain k)))) (by_instance s.names) w.names.rising (λ j y f. (let q = name_found (λ n. n.instance ≤ s.last) s.names w.names.low j y f in let l = q.1 in let e = q.2 in omega arith));
      distinct = push_name (λ m. found_name m.name (s.names ++ new ∷ []) ≡ Some m) s.names new (each_name (λ m. found_name m.name s.names ≡ Some m) (λ m. found_name m.name (s.names ++ new ∷ []) ≡ Some m) (λ m h. stays m.name m s.names h) s.names w.names.distinct) (find_push (λ m. is_text name m.name) new s.names out ∙ ap (λ b. cond b (Some new) None) (text_itself name));
      low = push_name (λ m. m.instance ≤ s.last + 1) s.names new (each_name (λ m. m.instance ≤ s.last) (λ m. m.instance ≤ s.last + 1) (λ m l. omega arith) s.names w.names.low) (omega arith);
      shown = push_name (λ m. Good m.instance d m.plain) s.names new (each_name (λ m. Good m.instance c m.plain) (λ m. Good m.instance d m.plain) (λ m h. told_same c d m.instance m.plain (λ cell. same m.instance cell) h) s.names w.names.shown) (new_told (s.last + 1) d k (λ cell. same (s.last + 1) cell ∙ fresh cell (at c (Cell_at (s.last + 1) cell)) refl));
    }
      where
        d : Cells
        d = after c (s.last + 1) (record { time = t; body = Commanded session seq (Create name k) reply })

        new : Named_resource
        new = record { name = name; instance = s.last + 1; plain = new_plain k }

        same : (m : ℕ) (cell : Cell) → at d (Cell_at m cell) ≡ at c (Cell_at m cell)
        same m cell = untouched c (s.last + 1) (record { time = t; body = Commanded session seq (Create name k) reply }) (Cell_at m cell) refl (λ h _. refl)

        fresh : (cell : Cell) (o : Option Held) → at c (Cell_at (s.last + 1) cell) ≡ o → at c (Cell_at (s.last + 1) cell) ≡ None
        fresh cell None e = e
        fresh cell (Some h) e = let low = w.instances (s.last + 1) cell h e in absurd (omega arith)

        pushed : (ns : List Named_resource) → by_instance (ns ++ new ∷ []) ≡ by_instance ns ++ (s.last + 1, entry_kind name (Some (kind_of (new_plain k)))) ∷ []
        pushed [] = refl
        pushed (m ∷ ns) = ap (λ l. (m.instance, (m.name, Some (kind_of m.plain))) ∷ l) (pushed ns)

        stays : (y : List ℕ) (m : Named_resource) (ns : List Named_resource) → found_name y ns ≡ Some m → found_name y (ns ++ new ∷ []) ≡ Some m
        stays y m [] h = absurd (none_some h)
        stays y m (z ∷ ns) h = elim (is_text y z.name) as (λ b. cond b (Some z) (found_name y ns) ≡ Some m → cond b (Some z) (found_name y (ns ++ new ∷ [])) ≡ Some m) [ true ↦ λ h. h | false ↦ λ h. stays y m ns h ] h

    -- whatever comes of a command
    names_in : Outcome → List Named_resource
    names_in (Decided effect reply ns told) = ns
    names_in (Declined refusal) = s.names

    quietly : (b : Body) → ((m : ℕ) (cell : Cell) → at (puts (s.last + 1) b) (Cell_at m cell) ≡ None) → ((m : ℕ) (cell : Cell) (h : Held) → covers b (Cell_at m cell) h ≡ false) → Names (s.last + 1) (after c (s.last + 1) (record { time = t; body = b })) s.names
    quietly b none kept = names_kept (record { time = t; body = b }) (λ m cell. untouched c (s.last + 1) (record { time = t; body = b }) (Cell_at m cell) (none m cell) (λ h _. kept m cell h))

    names_of_row : (x : List ℕ) (n : Named_resource) (o : Op) → found_name x s.names ≡ Some n → (r : Row) → row (record { name = n.name; instance = n.instance; session = session; index = s.last + 1 }) n.plain o ≡ r → fits c (decided_body session seq (row_outcome s.names n r)) ≡ true → Names (s.last + 1) (after c (s.last + 1) (record { time = t; body = decided_body session seq (row_outcome s.names n r) })) (names_in (row_outcome s.names n r))
    unfolding names_in
    names_of_row x n o f (Does effect reply next told) e fit = names_row x n o effect reply next told f e fit
    names_of_row x n o f (Out_of_range cur) e fit = quietly Ticked (λ m cell. refl) (λ m cell h. refl)
    names_of_row x n o f Of_no_kind e fit = quietly Ticked (λ m cell. refl) (λ m cell h. refl)

    names_there : (x : List ℕ) (n : Named_resource) → found_name x s.names ≡ Some n → (o : Op) → fits c (decided_body session seq (outcome_there s.names n session (s.last + 1) o)) ≡ true → Names (s.last + 1) (after c (s.last + 1) (record { time = t; body = decided_body session seq (outcome_there s.names n session (s.last + 1) o) })) (names_in (outcome_there s.names n session (s.last + 1) o))
    unfolding names_in
    names_there x n f (op.Create k) fit =
        elim (kind_number k == kind_number (kind_of n.plain)) as (λ b. Names (s.last + 1) (after c (s.last + 1) (record { time = t; body = decided_body session seq (cond b (Decided Nothing (Index n.instance) s.names []) (Declined (Other_kind (kind_of n.plain)))) })) (names_in (cond b (Decided Nothing (Index n.instance) s.names []) (Declined (Other_kind (kind_of n.plain)))))) [
          | true ↦ quietly (Commanded session seq Nothing (Index n.instance)) (λ m cell. refl) (λ m cell h. refl)
          | false ↦ quietly Ticked (λ m cell. refl) (λ m cell h. refl)
        ]
    names_there x n f op.Delete fit = names_deleted x n No_reply f
    names_there x n f o fit = names_of_row x n o f (row (record { name = n.name; instance = n.instance; session = session; index = s.last + 1 }) n.plain o) refl fit

    names_new : (name : List ℕ) → found_name name s.names ≡ None → (o : Op) → Names (s.last + 1) (after c (s.last + 1) (record { time = t; body = decided_body session seq (outcome_new s.names name (s.last + 1) o) })) (names_in (outcome_new s.names name (s.last + 1) o))
    unfolding names_in
    names_new name out (op.Create k) =
        elim (nat_le 1024 (length s.names)) as (λ b. Names (s.last + 1) (after c (s.last + 1) (record { time = t; body = decided_body session seq (cond b (Declined Too_many) (Decided (Create name k) (Index (s.last + 1)) (s.names ++ record { name = name; instance = s.last + 1; plain = new_plain k } ∷ []) [])) })) (names_in (cond b (Declined Too_many) (Decided (Create name k) (Index (s.last + 1)) (s.names ++ record { name = name; instance = s.last + 1; plain = new_plain k } ∷ []) [])))) [
          | true ↦ quietly Ticked (λ m cell. refl) (λ m cell h. refl)
          | false ↦ names_created name k (Index (s.last + 1)) out
        ]
    names_new name out o = quietly Ticked (λ m cell. refl) (λ m cell h. refl)

    names_command : (name : List ℕ) (o : Op) (found : Option Named_resource) → found_name name s.names ≡ found → fits c (decided_body session seq (outcome_at s.names found name session (s.last + 1) o)) ≡ true → Names (s.last + 1) (after c (s.last + 1) (record { time = t; body = decided_body session seq (outcome_at s.names found name session (s.last + 1) o) })) (names_in (outcome_at s.names found name session (s.last + 1) o))
    names_command name o None f fit = names_new name f o
    names_command name o (Some n) f fit = names_there name n f o fit

    commanded_names : (out : Outcome) → (commanded s t session seq out).names ≡ names_in out
    unfolding names_in
    commanded_names (Decided effect reply ns told) = refl
    commanded_names (Declined refusal) = refl

  names_next : (item : Item) → fits c (entry_of s item).body ≡ true → Names (s.last + 1) (after c (s.last + 1) (entry_of s item)) (step s item).names
  names_next (Expired time session) fit = names_closed time session true
  names_next (Offered o) fit = go o.time o.ask fit
    where
      go : (t : ℕ) (a : Ask) → fits c (asked_body s a) ≡ true → Names (s.last + 1) (after c (s.last + 1) (record { time = t; body = asked_body s a })) (asked s t a).names
      go t (Register timeout) fit = names_kept (record { time = t; body = Registered timeout }) (λ m cell. untouched c (s.last + 1) (record { time = t; body = Registered timeout }) (Cell_at m cell) refl (λ h _. refl))
      go t (Alive session seq event) fit = names_kept (record { time = t; body = Kept_alive session seq event }) (λ m cell. untouched c (s.last + 1) (record { time = t; body = Kept_alive session seq event }) (Cell_at m cell) refl (λ h _. refl))
      go t (Unregister session) fit = names_closed t session false
      go t Tick fit = names_kept (record { time = t; body = Ticked }) (λ m cell. untouched c (s.last + 1) (record { time = t; body = Ticked }) (Cell_at m cell) refl (λ h _. refl))
      go t (Command session seq name op) fit =
          subst (Names (s.last + 1) (after c (s.last + 1) (record { time = t; body = decided_body session seq (outcome s name session op) }))) (sym (commanded_names t session seq (outcome s name session op)))
          (names_command t session seq name op (found_name name s.names) refl fit)

  pub whole_next : (item : Item) → is_admitted s item ≡ true → Whole (step s item) (after c (s.last + 1) (entry_of s item))
  whole_next item ok = record {
    tracks = k.tracks;
    sorted = sorted-after c (s.last + 1) e w.sorted;
    below = λ p h g. subst (λ n. h.index ≤ n) (sym (last_step s item)) (below p h g (change c (s.last + 1) e p));
    owners = λ p h g. owners p h g (change c (s.last + 1) e p);
    instances = λ m cell h g. subst (λ n. m ≤ n) (sym (last_step s item)) (instances m cell h g (change c (s.last + 1) e (Cell_at m cell)));
    names = subst (λ n. Names n (after c (s.last + 1) e) (step s item).names) (sym (last_step s item)) (names_next item k.fitting);
  }
    where
      e : Entry
      e = entry_of s item

      k : Tracked s c item
      k = tracked s c item w.tracks ok

      below : (p : Place) (h : Held) → at (after c (s.last + 1) (entry_of s item)) p ≡ Some h → Change c (s.last + 1) (entry_of s item) p → h.index ≤ s.last + 1
      below p h g (Written h' f put a) = let same = puts-index (s.last + 1) (entry_of s item).body p h (put ∙ sym a ∙ g) in omega arith
      below p h g (Taken h' there v a) = absurd (none_some (sym a ∙ g))
      below p h g (Left u v same) = let l = w.below p h (sym same ∙ g) in omega arith

      owners : (p : Place) (h : Held) → at (after c (s.last + 1) (entry_of s item)) p ≡ Some h → Change c (s.last + 1) (entry_of s item) p → OwnerRule h.index p h.owner
      owners p h g (Written h' f put a) = subst (λ n. OwnerRule n p h.owner) (sym (puts-index (s.last + 1) (entry_of s item).body p h (put ∙ sym a ∙ g))) (k.owns p h (put ∙ sym a ∙ g))
      owners p h g (Taken h' there v a) = absurd (none_some (sym a ∙ g))
      owners p h g (Left u v same) = w.owners p h (sym same ∙ g)

      instances : (m : ℕ) (cell : Cell) (h : Held) → at (after c (s.last + 1) (entry_of s item)) (Cell_at m cell) ≡ Some h → Change c (s.last + 1) (entry_of s item) (Cell_at m cell) → m ≤ s.last + 1
      instances m cell h g (Written h' f put a) =
          let r = put_instance c (s.last + 1) (entry_of s item).body m cell h' w.sorted f put in
          let l = w.below (Name_at r.0) r.1 r.2 in
          let same = r.3 in
          omega arith
      instances m cell h g (Taken h' there v a) = absurd (none_some (sym a ∙ g))
      instances m cell h g (Left u v same) = let l = w.instances m cell h (sym same ∙ g) in omega arith

shown_from : (s : State) (c : Cells) (items : List Item) → is_log_from s items ≡ true → Whole s c → ShownFrom s c items
shown_from s c [] log w = tt
shown_from s c (item ∷ items) log w =
    let p = and_parts (is_admitted s item) (is_log_from (step s item) items) log in
    (shows_state s c w, shown_from (step s item) (after c (s.last + 1) (entry_of s item)) items p.1 (whole_next s c w item p.0))

pub whole_nothing : Whole nothing_yet []
whole_nothing = record {
  tracks = record { by_name = λ x. refl; by_session = λ id. refl };
  sorted = tt;
  below = λ p h g. absurd (none_some g);
  owners = λ p h g. absurd (none_some g);
  instances = λ m cell h g. absurd (none_some g);
  names = record { rising = refl; distinct = tt; low = tt; shown = tt };
}

pub cells_show : CellsShow
cells_show items log = shown_from nothing_yet [] items log whole_nothing

pub cells_tell : CellsTell
cells_tell = telling_law cells_show

pub replay_of_logs : ReplayOfLogs
replay_of_logs items left k f log cleaned = gives_fold told_by_cells items left k f cells_tell log cleaned
