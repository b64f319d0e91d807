-- Each kind decides, shows and tells as its plain resource does, and its cells go on to show it. For `kinds_decide_as_plain`, `kinds_keep_showing`.
use Rattle.std.proofs.Common.{◌≡◌, ℕ, ℤ, ◌&&◌, ◌==◌, Bool, true, false, T, List, [], Option, Some, None, refl, sym, ap, subst, ◌∙◌}
use Rattle.std.specs.List.{list_any}
use Rattle.std.specs.FinMap.Entries.{is_sorted}
use Rattle.host_types.specs.declared.entry.Kind.{Kind}
use Rattle.host_types.specs.declared.entry.Effect.{Effect}
use Rattle.host_types.specs.declared.entry.Effect.TheVariants as effect
use Rattle.host_types.specs.declared.entry.Event.{Event}
use Rattle.host_types.specs.declared.entry.Op.{Op}
use Rattle.host_types.specs.declared.entry.Op.TheVariants as op
use Rattle.host_types.specs.declared.entry.Reply.{Reply}
use Rattle.host_types.specs.Cells.{Cells, place_cmp, instance_after}
use Rattle.host_types.specs.Decision.{is_looking}
use Rattle.log_model.specs.plain.Plain.{Member, Plain, Value_is, Counter_is, Map_is, Multimap_is, Set_is, Queue_is, Lock_is, Group_is, Topic_is, kind_of}
use Rattle.log_model.specs.plain.Rows.{Row, Does, Call, either, row, value_row, counter_row, map_row, multimap_row, set_row, takes_out, queue_row, is_waiter, lock_row, group_row, topic_row, without_session}
use Rattle.log_model.specs.kinds.Shows.{Shows, IsFresh}
use Rattle.log_model.specs.kinds.Deciding.{chosen, shown, call_of, effect_tells, DecidesAsPlain, KeepsShowing}
use Rattle.log_model.specs.kinds.Reading.{plain_in, kind_decision}
use Rattle.log_model.specs.replay.Telling.{effect_instance}
use Rattle.log_model.proofs.Lookups.{T_from}
use Rattle.log_model.proofs.kinds.Readings.{reads}
use Rattle.log_model.proofs.plain.RowEffects.{RowSuits, row_suits, closing_kind}
use Rattle.log_model.proofs.replay.Shown.{new_shown}
use Rattle.log_model.proofs.kinds.ShownCloses.{others_shown}
use Rattle.log_model.proofs.kinds.ShownResources.{resource_rows_shown, resource_closes_shown}
use Rattle.log_model.proofs.replay.Tellings.{RowTells, told_on, row_tells}

-- ---- only the events know the name

either_alike : (kind : Kind) (b : Bool) (r s r' s' : Row) → chosen kind r ≡ chosen kind r' → chosen kind s ≡ chosen kind s' → chosen kind (either b r s) ≡ chosen kind (either b r' s')
either_alike kind true r s r' s' h k = h
either_alike kind false r s r' s' h k = k

module _ (kind : Kind) (m session i : ℕ) (name : List ℕ) where
  abbrev here : Call
  here = call_of name m session i

  abbrev nameless : Call
  nameless = call_of [] m session i

  value_chosen : (cur : Option (List ℕ)) (o : Op) → chosen kind (value_row nameless cur o) ≡ chosen kind (value_row here cur o)
  value_chosen cur _ = refl

  counter_chosen : (cur : ℤ) (o : Op) → chosen kind (counter_row nameless cur o) ≡ chosen kind (counter_row here cur o)
  counter_chosen cur _ = refl

  map_chosen : (es : List (List ℕ × List ℕ)) (o : Op) → chosen kind (map_row nameless es o) ≡ chosen kind (map_row here es o)
  map_chosen es _ = refl

  multimap_chosen : (es : List (List ℕ × List ℕ)) (o : Op) → chosen kind (multimap_row nameless es o) ≡ chosen kind (multimap_row here es o)
  multimap_chosen es _ = refl

  set_chosen : (es : List (List ℕ)) (o : Op) → chosen kind (set_row nameless es o) ≡ chosen kind (set_row here es o)
  set_chosen es _ = refl

  taken_chosen : (q : List (ℕ × List ℕ)) (o : Option (ℕ × List ℕ)) (found : List ℕ → Reply) (missing : Reply) → chosen kind (takes_out nameless q o found missing) ≡ chosen kind (takes_out here q o found missing)
  taken_chosen q None found missing = refl
  taken_chosen q (Some item) found missing = refl

  queue_chosen : (q : List (ℕ × List ℕ)) (o : Op) → chosen kind (queue_row nameless q o) ≡ chosen kind (queue_row here q o)
  queue_chosen q op.Poll = taken_chosen q _ _ _
  queue_chosen q (op.RemoveWord word) = taken_chosen q _ _ _
  queue_chosen q _ = refl

  lock_chosen : (ws : List (ℕ × ℕ)) (o : Op) → chosen kind (lock_row nameless ws o) ≡ chosen kind (lock_row here ws o)
  lock_chosen ws (op.Unlock id) = either_alike kind (list_any (is_waiter (session, id)) ws) _ _ _ _ refl refl
  lock_chosen ws _ = refl

  group_chosen : (ms : List Member) (ls : List ℕ) (o : Op) → chosen kind (group_row nameless ms ls o) ≡ chosen kind (group_row here ms ls o)
  group_chosen ms ls (op.Leave member) = either_alike kind (list_any (λ (x : Member). x.index == member && x.session == session) ms) _ _ _ _ refl refl
  group_chosen ms ls _ = refl

  topic_chosen : (ls : List ℕ) (o : Op) → chosen kind (topic_row nameless ls o) ≡ chosen kind (topic_row here ls o)
  topic_chosen ls (op.Publish word) = refl
  topic_chosen ls _ = refl

  pub row_chosen : (plain : Plain) (o : Op) → chosen kind (row nameless plain o) ≡ chosen kind (row here plain o)
  row_chosen (Value_is cur) o = value_chosen cur o
  row_chosen (Counter_is number) o = counter_chosen number o
  row_chosen (Map_is pairs) o = map_chosen pairs o
  row_chosen (Multimap_is pairs) o = multimap_chosen pairs o
  row_chosen (Set_is words) o = set_chosen words o
  row_chosen (Queue_is items) o = queue_chosen items o
  row_chosen (Lock_is waiters) o = lock_chosen waiters o
  row_chosen (Group_is members listeners) o = group_chosen members listeners o
  row_chosen (Topic_is listeners) o = topic_chosen listeners o

-- ---- what only looks is the same for each session and index

module _ (kind : Kind) (c d : Call) where
  value_looks : (cur : Option (List ℕ)) (o : Op) → is_looking o ≡ true → shown kind (value_row c cur o) ≡ shown kind (value_row d cur o)
  value_looks cur (op.Cas old new) e = absurd (cc)
  value_looks cur op.Unset e = absurd (cc)
  value_looks cur _ e = refl

  counter_looks : (cur : ℤ) (o : Op) → is_looking o ≡ true → shown kind (counter_row c cur o) ≡ shown kind (counter_row d cur o)
  counter_looks cur (op.Add number) e = absurd (cc)
  counter_looks cur _ e = refl

  map_looks : (es : List (List ℕ × List ℕ)) (o : Op) → is_looking o ≡ true → shown kind (map_row c es o) ≡ shown kind (map_row d es o)
  map_looks es (op.PutIf key word) e = absurd (cc)
  map_looks es (op.Replace key word) e = absurd (cc)
  map_looks es (op.Remove key) e = absurd (cc)
  map_looks es op.Clear e = absurd (cc)
  map_looks es _ e = refl

  multimap_looks : (es : List (List ℕ × List ℕ)) (o : Op) → is_looking o ≡ true → shown kind (multimap_row c es o) ≡ shown kind (multimap_row d es o)
  multimap_looks es (op.Put key word) e = absurd (cc)
  multimap_looks es (op.RemoveOne key word) e = absurd (cc)
  multimap_looks es (op.Remove key) e = absurd (cc)
  multimap_looks es op.Clear e = absurd (cc)
  multimap_looks es _ e = refl

  set_looks : (es : List (List ℕ)) (o : Op) → is_looking o ≡ true → shown kind (set_row c es o) ≡ shown kind (set_row d es o)
  set_looks es (op.Insert word) e = absurd (cc)
  set_looks es (op.Discard word) e = absurd (cc)
  set_looks es op.Clear e = absurd (cc)
  set_looks es _ e = refl

  queue_looks : (q : List (ℕ × List ℕ)) (o : Op) → is_looking o ≡ true → shown kind (queue_row c q o) ≡ shown kind (queue_row d q o)
  queue_looks q op.Poll e = absurd (cc)
  queue_looks q (op.RemoveWord word) e = absurd (cc)
  queue_looks q op.Clear e = absurd (cc)
  queue_looks q _ e = refl

  lock_looks : (ws : List (ℕ × ℕ)) (o : Op) → is_looking o ≡ true → shown kind (lock_row c ws o) ≡ shown kind (lock_row d ws o)
  lock_looks ws (op.Lock id) e = absurd (cc)
  lock_looks ws (op.Try id) e = absurd (cc)
  lock_looks ws (op.Unlock id) e = absurd (cc)
  lock_looks ws _ e = refl

  topic_looks : (ls : List ℕ) (o : Op) → is_looking o ≡ true → shown kind (topic_row c ls o) ≡ shown kind (topic_row d ls o)
  topic_looks ls op.Listen e = absurd (cc)
  topic_looks ls op.Unlisten e = absurd (cc)
  topic_looks ls _ e = refl

  group_looks : (ms : List Member) (ls : List ℕ) (o : Op) → is_looking o ≡ true → shown kind (group_row c ms ls o) ≡ shown kind (group_row d ms ls o)
  group_looks ms ls (op.Join word) e = absurd (cc)
  group_looks ms ls (op.Leave member) e = absurd (cc)
  group_looks ms ls op.Listen e = absurd (cc)
  group_looks ms ls op.Unlisten e = absurd (cc)
  group_looks ms ls _ e = refl

  pub row_looks : (plain : Plain) (o : Op) → is_looking o ≡ true → shown kind (row c plain o) ≡ shown kind (row d plain o)
  row_looks (Value_is cur) o e = value_looks cur o e
  row_looks (Counter_is number) o e = counter_looks number o e
  row_looks (Map_is pairs) o e = map_looks pairs o e
  row_looks (Multimap_is pairs) o e = multimap_looks pairs o e
  row_looks (Set_is words) o e = set_looks words o e
  row_looks (Queue_is items) o e = queue_looks items o e
  row_looks (Lock_is waiters) o e = lock_looks waiters o e
  row_looks (Group_is members listeners) o e = group_looks members listeners o e
  row_looks (Topic_is listeners) o e = topic_looks listeners o e

-- ---- what a row tells is read off its effect

no_instance : (i : ℕ) (name : List ℕ) (plain : Plain) (e : Effect) → effect_instance e ≡ None → effect_tells i name plain e ≡ []
no_instance i name plain (effect.Put m cell content owner) none = absurd (cc)
no_instance i name plain (effect.Drop m cell) none = absurd (cc)
no_instance i name plain (effect.Tell m word) none = absurd (cc)
no_instance i name (Value_is cur) _ none = refl
no_instance i name (Counter_is number) _ none = refl
no_instance i name (Map_is pairs) _ none = refl
no_instance i name (Multimap_is pairs) _ none = refl
no_instance i name (Set_is words) _ none = refl
no_instance i name (Queue_is items) _ none = refl
no_instance i name (Lock_is waiters) _ none = refl
no_instance i name (Group_is members listeners) _ none = refl
no_instance i name (Topic_is listeners) _ none = refl

pub tells_row : (c : Call) (plain next : Plain) (e : Effect) (reply : Reply) (told : List (ℕ × Event)) (o : Op) → row c plain o ≡ Does e reply next told → effect_tells c.index c.name plain e ≡ told
tells_row c plain next e reply told o same = go (effect_instance e) refl r.1
  where
    r : RowTells c plain (Does e reply next told)
    r = subst (RowTells c plain) same (row_tells c plain o)

    go : (i : Option ℕ) → effect_instance e ≡ i → told_on c plain e i ≡ told → effect_tells c.index c.name plain e ≡ told
    go None none h = no_instance c.index c.name plain e none ∙ h
    go (Some m) some h = h

-- ---- all of it, for a kind

pub as_plain : (kind : Kind) → DecidesAsPlain kind (kind_decision kind)
as_plain kind = record { resolves = resolves; looks = looks; tells = tells; tells_close = tells_close }
  where
    read : (m : ℕ) (c : Cells) (plain : Plain) → kind_of plain ≡ kind → T (is_sorted place_cmp c) → Shows m c plain → plain_in kind m c ≡ plain
    read m c plain k s shows = (λ j. plain_in (sym k j) m c) ∙ reads m c plain s shows

    resolves : (m : ℕ) (c : Cells) (plain : Plain) → kind_of plain ≡ kind → is_sorted place_cmp c ≡ true → Shows m c plain → (name : List ℕ) (o : Op) (session index : ℕ) → chosen (kind_of (plain_in kind m c)) (row (call_of [] m session index) (plain_in kind m c) o) ≡ chosen kind (row (call_of name m session index) plain o)
    resolves m c plain k s shows name o session index =
        let same = read m c plain k (T_from _ s) shows in
        (λ j. chosen (kind_of (same j)) (row (call_of [] m session index) (same j) o))
        ∙ (λ j. chosen (k j) (row (call_of [] m session index) plain o))
        ∙ row_chosen kind m session index name plain o

    looks : (m : ℕ) (c : Cells) (plain : Plain) → kind_of plain ≡ kind → is_sorted place_cmp c ≡ true → Shows m c plain → (name : List ℕ) (o : Op) (session index : ℕ) → is_looking o ≡ true → shown (kind_of (plain_in kind m c)) (row (call_of [] m 0 0) (plain_in kind m c) o) ≡ shown kind (row (call_of name m session index) plain o)
    looks m c plain k s shows name o session index looking =
        let same = read m c plain k (T_from _ s) shows in
        (λ j. shown (kind_of (same j)) (row (call_of [] m 0 0) (same j) o))
        ∙ (λ j. shown (k j) (row (call_of [] m 0 0) plain o))
        ∙ row_looks kind (call_of [] m 0 0) (call_of name m session index) plain o looking

    tells : (m : ℕ) (c : Cells) (plain next : Plain) → kind_of plain ≡ kind → is_sorted place_cmp c ≡ true → Shows m c plain → (name : List ℕ) (o : Op) (session index : ℕ) (e : Effect) (reply : Reply) (told : List (ℕ × Event)) → row (call_of name m session index) plain o ≡ Does e reply next told → effect_tells index name (plain_in kind m c) e ≡ told
    tells m c plain next k s shows name o session index e reply told same =
        (λ j. effect_tells index name (read m c plain k (T_from _ s) shows j) e) ∙ tells_row (call_of name m session index) plain next e reply told o same

    tells_close : (m : ℕ) (c : Cells) (plain : Plain) → kind_of plain ≡ kind → is_sorted place_cmp c ≡ true → Shows m c plain → (name : List ℕ) (session : ℕ) → (without_session name session (plain_in kind m c)).1 ≡ (without_session name session plain).1
    tells_close m c plain k s shows name session = ap (λ p. (without_session name session p).1) (read m c plain k (T_from _ s) shows)

-- ---- and its cells go on to show the resource

-- after what a row stores
row_shown : (m : ℕ) (c : Cells) (plain next : Plain) (name : List ℕ) (o : Op) (session index : ℕ) (e : Effect) (reply : Reply) (told : List (ℕ × Event)) → Shows m c plain → IsFresh m index c → row (call_of name m session index) plain o ≡ Does e reply next told → (kind_of next ≡ kind_of plain) × Shows m (instance_after (kind_of plain) m c index e) next
row_shown m c plain next name o session index e reply told shows fresh same =
    let call = call_of name m session index in
    let stored : RowSuits call (kind_of plain) (Does e reply next told) = subst (RowSuits call (kind_of plain)) same (row_suits call plain o) in
    (stored.1, resource_rows_shown c m index session name plain next o e reply told shows fresh same)

pub goes_on_to_show : (kind : Kind) → KeepsShowing kind
goes_on_to_show kind = record {
  rows = λ m c plain next k shows name o session index e reply told fresh same.
      let r = row_shown m c plain next name o session index e reply told shows fresh same in
      (r.0 ∙ k, subst (λ (x : Kind). Shows m (instance_after x m c index e) next) k r.1);
  closes = λ m c plain k shows owners name session. (closing_kind name session plain ∙ k, resource_closes_shown c m session name plain shows owners);
  starts = λ m c empty. new_shown m c kind empty;
  stays = λ m c d plain k same shows. others_shown c d m plain same shows;
}
