-- What the rows of each kind store. For `kinds_store_their_own`.
use Rattle.std.proofs.Common.{◌≡◌, ℕ, ℤ, Bool, true, false, List, [], Option, Some, None, refl, subst}
use Rattle.host_types.specs.Decision.{Decides}
use Rattle.host_types.specs.declared.entry.Kind.{Kind}
use Rattle.host_types.specs.declared.entry.Kind.TheVariants as kind
use Rattle.host_types.specs.declared.entry.Effect.{Effect}
use Rattle.host_types.specs.declared.entry.Op.{Op}
use Rattle.host_types.specs.declared.entry.Op.TheVariants as op
use Rattle.host_types.specs.declared.entry.Reply.{Reply}
use Rattle.log_model.specs.plain.Plain.{Member, Plain, Value_is, Counter_is, Map_is, Multimap_is, Set_is, Queue_is, Lock_is, Group_is, Topic_is, kind_of}
use Rattle.log_model.specs.plain.Rows.{Row, Does, Out_of_range, Of_no_kind, Call, either, row, value_row, counter_row, map_row, multimap_row, set_row, takes_out, queue_row, lock_row, group_row, topic_row}
use Rattle.log_model.specs.kinds.Deciding.{chosen, call_of}
use Rattle.log_model.specs.kinds.KindEffects.{stores, KindsStoreTheirOwn}
use Rattle.log_model.specs.kinds.Reading.{plain_in}
use Rattle.log_model.proofs.kinds.Readings.{kind_read}

abbrev Stores : Kind → Row → Type 0
Stores kind (Does effect reply next told) = stores kind effect ≡ true
Stores kind _ = Unit {0}

either_stores : (kind : Kind) (b : Bool) (r s : Row) → Stores kind r → Stores kind s → Stores kind (either b r s)
either_stores kind true r s h k = h
either_stores kind false r s h k = k

module _ (c : Call) where
  value_stores : (cur : Option (List ℕ)) (o : Op) → Stores kind.Value (value_row c cur o)
  value_stores cur (op.Set word) = refl
  value_stores cur _ = search (either_stores, refl, tt)

  counter_stores : (cur : ℤ) (o : Op) → Stores kind.Counter (counter_row c cur o)
  counter_stores cur (op.Reset number) = refl
  counter_stores cur _ = search (either_stores, refl, tt)

  map_stores : (m : List (List ℕ × List ℕ)) (o : Op) → Stores kind.Map (map_row c m o)
  map_stores m (op.Put key word) = refl
  map_stores m _ = search (either_stores, refl, tt)

  multimap_stores : (m : List (List ℕ × List ℕ)) (o : Op) → Stores kind.Multimap (multimap_row c m o)
  multimap_stores m (op.Put key word) = search (either_stores, refl, tt)
  multimap_stores m _ = search (either_stores, refl, tt)

  set_stores : (m : List (List ℕ)) (o : Op) → Stores kind.Set (set_row c m o)
  set_stores m (op.Insert word) = search (either_stores, refl, tt)
  set_stores m _ = search (either_stores, refl, tt)

  takes_out_stores : (q : List (ℕ × List ℕ)) (o : Option (ℕ × List ℕ)) (found : List ℕ → Reply) (missing : Reply) → Stores kind.Queue (takes_out c q o found missing)
  takes_out_stores q None found missing = refl
  takes_out_stores q (Some item) found missing = refl

  queue_stores : (q : List (ℕ × List ℕ)) (o : Op) → Stores kind.Queue (queue_row c q o)
  queue_stores q (op.Enqueue word) = refl
  queue_stores q op.Poll = takes_out_stores q _ _ _
  queue_stores q (op.RemoveWord word) = takes_out_stores q _ _ _
  queue_stores q _ = search (either_stores, refl, tt)

  lock_stores : (ws : List (ℕ × ℕ)) (o : Op) → Stores kind.Lock (lock_row c ws o)
  lock_stores ws (op.Lock id) = search (either_stores, refl, tt)
  lock_stores ws _ = search (either_stores, refl, tt)

  group_stores : (ms : List Member) (ls : List ℕ) (o : Op) → Stores kind.Group (group_row c ms ls o)
  group_stores ms ls (op.Join word) = refl
  group_stores ms ls _ = search (either_stores, refl, tt)

  topic_stores : (ls : List ℕ) (o : Op) → Stores kind.Topic (topic_row c ls o)
  topic_stores ls (op.Publish word) = refl
  topic_stores ls _ = search (either_stores, refl, tt)

  pub row_stores : (plain : Plain) (o : Op) → Stores (kind_of plain) (row c plain o)
  row_stores (Value_is cur) o = value_stores cur o
  row_stores (Counter_is number) o = counter_stores number o
  row_stores (Map_is pairs) o = map_stores pairs o
  row_stores (Multimap_is pairs) o = multimap_stores pairs o
  row_stores (Set_is words) o = set_stores words o
  row_stores (Queue_is items) o = queue_stores items o
  row_stores (Lock_is waiters) o = lock_stores waiters o
  row_stores (Group_is members listeners) o = group_stores members listeners o
  row_stores (Topic_is listeners) o = topic_stores listeners o

chosen_stores : (k : Kind) (r : Row) (effect : Effect) (reply : Reply) → Stores k r → chosen k r ≡ Decides effect reply → stores k effect ≡ true
chosen_stores k (Does effect' reply' next told) effect reply h same = let is : effect' ≡ effect = (cc) in subst (λ e. stores k e ≡ true) is h
chosen_stores k (Out_of_range cur) effect reply h same = absurd (cc)
chosen_stores k Of_no_kind effect reply h same = absurd (cc)

pub kind_stores : KindsStoreTheirOwn
kind_stores k m c o session index effect reply decides =
    let call = call_of [] m session index in
    let plain = plain_in k m c in
    subst (λ k. stores k effect ≡ true) (kind_read k m c) (chosen_stores (kind_of plain) (row call plain o) effect reply (row_stores call plain o) decides)
