-- Each row of a plain resource in range is lawful, of every kind. For `rows_are_lawful`.
use Rattle.std.proofs.Common.{◌≡◌, ℕ, ℤ, pos, negsuc, ◌+ℤ◌, ◌≤◌, ◌&&◌, ◌==◌, Bool, true, false, cond, not, ◌||◌, zero, suc, List, [], ◌∷◌, map, length, take, Option, Some, None, is_some, refl, inr, sym, ap, subst, ◌∙◌, arith, FitsSigned, Ordering, eqb-true}
use Rattle.std.proofs.lemmas.Int.{ints}
use Rattle.std.proofs.lemmas.Bool.{and_parts}
use Rattle.std.proofs.lemmas.List.{length-take}
use Rattle.std.specs.Int.{w64}
use Rattle.std.specs.List.{AllByRecursion, filter, list_any, find as find_first, count_by}
use Rattle.std.specs.Option.{option_map_or}
use Rattle.std.specs.FinMap.Entries.{find}
use Rattle.std.specs.Ordering.{eq_by_cmp}
use Rattle.std.specs.Cmp.{nat_eq_equiv}
use Rattle.host_types.specs.Cells.{Cells, Cell_at, is_of_kind, is_text, text_cmp, filled}
use Rattle.host_types.specs.Ranges.{IsIndex, IsUnsigned, IsKey, IsWord, CellFits, IsCellInRange, ContentFits, OpFits}
use Rattle.host_types.specs.declared.entry.Kind.{Kind}
use Rattle.host_types.specs.declared.entry.Kind.TheVariants as kind
use Rattle.host_types.specs.declared.entry.Cell.{Cell}
use Rattle.host_types.specs.declared.entry.Cell.TheVariants.{One, Named, Member as Member_cell, Pair, At, Waiter, Of}
use Rattle.host_types.specs.declared.entry.Content.{Content}
use Rattle.host_types.specs.declared.entry.Content.TheVariants.{Mark, Text, Number}
use Rattle.host_types.specs.declared.entry.Effect.TheVariants.{Put, Drop, Wipe, WipeKey, Tell}
use Rattle.host_types.specs.declared.entry.Op.{Op}
use Rattle.host_types.specs.declared.entry.Op.TheVariants as op
use Rattle.host_types.specs.declared.entry.Reply.{Reply}
use Rattle.host_types.specs.declared.entry.Reply.TheVariants.{None as No_reply, Text as Text_reply, Number as Number_reply, Truth, Index, Holder}
use Rattle.host_types.specs.declared.entry.Event.TheVariants.{Left}
use Rattle.log_model.specs.plain.Plain.{Member, Plain, Value_is, Counter_is, Map_is, Multimap_is, Set_is, Queue_is, Lock_is, Group_is, Topic_is, kind_of, head_of, has_item}
use Rattle.log_model.specs.plain.Rows.{Does, Out_of_range, Call, either, looks, text_or_none, counted, count_reply, clears, fits_i64, value_row, counter_row, map_row, multimap_row, set_row, takes_out, queue_row, is_holder, lock_row, listen_row, unlisten_row, group_row, topic_row, row, tells_all}
use Rattle.log_model.specs.kinds.Deciding.{call_of}
use Rattle.log_model.specs.kinds.LawfulRows.{Asking, IsLawfulHere, IsLawfulRow, IsRightReply, lawful_either, nothing_is_lawful, drop_is_lawful, put_is_lawful, found_owner}
use Rattle.log_model.specs.kinds.PlainRanges.{IsWordIfAny, IsPlainInRange}

-- ---- replies

unsigned : (n : ℕ) → IsIndex n → IsUnsigned n
unsigned n is = omega (arith, is.1)

word_right : (cur : Option (List ℕ)) → IsWordIfAny cur → IsRightReply (text_or_none cur)
word_right None h = (tt, tt)
word_right (Some word) h = (h, tt)

fits_signed : (z : ℤ) → fits_i64 z ≡ true → FitsSigned w64 z
fits_signed (pos n) h = record { sfits = grind (arith, ints, h) }
fits_signed (negsuc n) h = record { sfits = grind (arith, ints, h) }

number_fits : (n : ℕ) → n ≤ 9223372036854775807 → FitsSigned w64 (pos n)
number_fits n low = record { sfits = grind (arith, ints, low) }

counted_low : (n : ℕ) → counted n ≤ 9223372036854775807
counted_low n = omega arith

count_right : (n : ℕ) → IsRightReply (count_reply n)
count_right n = (number_fits (counted n) (counted_low n), tt)

-- ---- what is of a list

all_filtered : {X : Type 0} (P : X → Type 0) (p : X → Bool) (xs : List X) → AllByRecursion P xs → AllByRecursion P (filter p xs)
all_filtered P p [] h = tt
all_filtered P p (x ∷ xs) h = elim (p x) as (λ b. AllByRecursion P (cond b (x ∷ filter p xs) (filter p xs))) [ true ↦ (h.0, all_filtered P p xs h.1) | false ↦ all_filtered P p xs h.1 ]

all_mapped : {X Y : Type 0} (P : Y → Type 0) (f : X → Y) (xs : List X) → AllByRecursion (λ x. P (f x)) xs → AllByRecursion P (map f xs)
all_mapped P f [] h = tt
all_mapped P f (x ∷ xs) h = (h.0, all_mapped P f xs h.1)

all_weaker : {X : Type 0} (P Q : X → Type 0) → ((x : X) → P x → Q x) → (xs : List X) → AllByRecursion P xs → AllByRecursion Q xs
all_weaker P Q f [] h = tt
all_weaker P Q f (x ∷ xs) h = (f x h.0, all_weaker P Q f xs h.1)

all_taken : {X : Type 0} (P : X → Type 0) (n : ℕ) (xs : List X) → AllByRecursion P xs → AllByRecursion P (take n xs)
all_taken P zero xs h = tt
all_taken P (suc n) [] h = tt
all_taken P (suc n) (x ∷ xs) h = (h.0, all_taken P n xs h.1)

taken_few : {X : Type 0} (n : ℕ) (xs : List X) → length (take n xs) ≤ n
taken_few n xs = let e = length-take n xs in omega (arith, e)

found_word : {K : Type 0} (R : K → K → Ordering) (k : K) (es : List (K × List ℕ)) → AllByRecursion (λ (p : K × List ℕ). IsWord p.1) es → IsWordIfAny (find R k es)
found_word R k [] h = tt
found_word R k (e ∷ es) h = elim (eq_by_cmp R k e.0) as (λ b. IsWordIfAny (cond b (Some e.1) (find R k es))) [ true ↦ h.0 | false ↦ found_word R k es h.1 ]

abbrev IsItem : ℕ × List ℕ → Type 0
IsItem x = IsIndex x.0 × IsWord x.1

abbrev IsItemIfAny : Option (ℕ × List ℕ) → Type 0
IsItemIfAny None = Unit {0}
IsItemIfAny (Some x) = IsItem x

first_item : (q : List (ℕ × List ℕ)) → AllByRecursion IsItem q → IsItemIfAny (head_of q)
first_item [] h = tt
first_item (x ∷ q) h = h.0

found_item : (p : ℕ × List ℕ → Bool) (q : List (ℕ × List ℕ)) → AllByRecursion IsItem q → IsItemIfAny (find_first p q)
found_item p [] h = tt
found_item p (x ∷ q) h = elim (p x) as (λ b. IsItemIfAny (cond b (Some x) (find_first p q))) [ true ↦ h.0 | false ↦ found_item p q h.1 ]

-- ---- more forms of a lawful row

-- a put that the asking session owns
own_put_is_lawful : (a : Asking) (cell : Cell) (content : Content) (reply : Reply) → IsIndex a.instance → IsIndex a.session → CellFits cell → IsCellInRange cell → ContentFits content → is_of_kind a.kind cell content ≡ true → IsRightReply reply → IsLawfulHere a (Put a.instance cell content (Some a.session)) reply
own_put_is_lawful a cell content reply here known cell_fits in_range content_fits of_kind right = record {
  effect_in_range = ((unsigned a.instance here, cell_fits, content_fits, unsigned a.session known), (here, in_range, known));
  reply_in_range = right;
  fits_there = ap (λ b. b && is_of_kind a.kind cell content) (nat_eq_equiv.refl a.instance) ∙ of_kind;
  owns = λ place held found. inr (found_owner place (Cell_at a.instance cell) (filled a.index content (Some a.session)) held found);
  deletes = refl;
}

wipe_is_lawful : (a : Asking) (reply : Reply) → IsIndex a.instance → IsRightReply reply → IsLawfulHere a (Wipe a.instance) reply
wipe_is_lawful a reply here right = record {
  effect_in_range = (unsigned a.instance here, here);
  reply_in_range = right;
  fits_there = refl;
  owns = λ place held found. absurd (cc);
  deletes = refl;
}

wipe_key_is_lawful : (a : Asking) (key : List ℕ) (reply : Reply) → IsIndex a.instance → IsKey key → IsRightReply reply → IsLawfulHere a (WipeKey a.instance key) reply
wipe_key_is_lawful a key reply here is_key right = record {
  effect_in_range = ((unsigned a.instance here, is_key), here);
  reply_in_range = right;
  fits_there = refl;
  owns = λ place held found. absurd (cc);
  deletes = refl;
}

tell_is_lawful : (a : Asking) (word : List ℕ) (reply : Reply) → IsIndex a.instance → IsWord word → IsRightReply reply → IsLawfulHere a (Tell a.instance word) reply
tell_is_lawful a word reply here is_word right = record {
  effect_in_range = ((unsigned a.instance here, is_word), here);
  reply_in_range = right;
  fits_there = refl;
  owns = λ place held found. absurd (cc);
  deletes = refl;
}

-- ---- the rows

module _ (cells : Cells) (name : List ℕ) (m session index : ℕ) (here : IsIndex m) (known : IsIndex session) (later : IsIndex index) where
  abbrev call : Call
  call = call_of name m session index

  abbrev by : Kind → Asking
  by k = record { kind = k; instance = m; cells = cells; session = session; index = index }

  none_right : IsRightReply No_reply
  none_right = (tt, tt)

  truth_right : (b : Bool) → IsRightReply (Truth b)
  truth_right b = (tt, tt)

  clears_lawful : (k : Kind) (any : Bool) (cleared plain : Plain) → IsLawfulRow (by k) (clears call any cleared plain)
  clears_lawful k any cleared plain = lawful_either (by k) any (Does (Wipe m) No_reply cleared []) (looks No_reply plain) (wipe_is_lawful (by k) No_reply here none_right) (nothing_is_lawful (by k) No_reply none_right)

  value_lawful : (cur : Option (List ℕ)) (o : Op) → OpFits o → IsWordIfAny cur → IsLawfulRow (by kind.Value) (value_row call cur o)
  value_lawful cur (op.Set word) fits h = put_is_lawful (by kind.Value) One (Text word) No_reply here tt tt fits refl none_right
  value_lawful cur (op.GetSet word) fits h = put_is_lawful (by kind.Value) One (Text word) _ here tt tt fits refl (word_right cur h)
  value_lawful cur (op.Cas old new) fits h = search (lawful_either, put_is_lawful (by kind.Value) One (Text new) (Truth true) here tt tt fits.1 refl (truth_right true), nothing_is_lawful (by kind.Value) (Truth false) (truth_right false))
  value_lawful cur op.Unset fits h = search (lawful_either, drop_is_lawful (by kind.Value) One (text_or_none cur) here tt tt (word_right cur h), nothing_is_lawful (by kind.Value) No_reply none_right)
  value_lawful cur op.Get fits h = nothing_is_lawful (by kind.Value) _ (word_right cur h)
  value_lawful cur _ fits h = tt

  counter_lawful : (cur : ℤ) (o : Op) → OpFits o → FitsSigned w64 cur → IsLawfulRow (by kind.Counter) (counter_row call cur o)
  counter_lawful cur (op.Reset number) fits h = put_is_lawful (by kind.Counter) One (Number number) No_reply here tt tt fits refl none_right
  counter_lawful cur (op.Add number) fits h = go (fits_i64 (cur +ℤ number)) refl
    where
      go : (b : Bool) → fits_i64 (cur +ℤ number) ≡ b → IsLawfulRow (by kind.Counter) (either b (Does (Put m One (Number (cur +ℤ number)) None) (Number_reply (cur +ℤ number)) (Counter_is (cur +ℤ number)) []) (Out_of_range cur))
      go true e = put_is_lawful (by kind.Counter) One (Number (cur +ℤ number)) _ here tt tt (fits_signed (cur +ℤ number) e) refl (fits_signed (cur +ℤ number) e, tt)
      go false e = tt
  counter_lawful cur op.Get fits h = nothing_is_lawful (by kind.Counter) _ (h, tt)
  counter_lawful cur _ fits h = tt

  map_lawful : (es : List (List ℕ × List ℕ)) (o : Op) → OpFits o → IsPlainInRange (Map_is es) → IsLawfulRow (by kind.Map) (map_row call es o)
  map_lawful es (op.Put key word) fits h = put_is_lawful (by kind.Map) (Named key) (Text word) _ here fits.0 tt fits.1 refl (word_right _ (found_word text_cmp key es h))
  map_lawful es (op.PutIf key word) fits h = search (lawful_either, nothing_is_lawful (by kind.Map) (text_or_none (find text_cmp key es)) (word_right (find text_cmp key es) (found_word text_cmp key es h)), put_is_lawful (by kind.Map) (Named key) (Text word) No_reply here fits.0 tt fits.1 refl none_right)
  map_lawful es (op.Replace key word) fits h = search (lawful_either, put_is_lawful (by kind.Map) (Named key) (Text word) (text_or_none (find text_cmp key es)) here fits.0 tt fits.1 refl (word_right (find text_cmp key es) (found_word text_cmp key es h)), nothing_is_lawful (by kind.Map) No_reply none_right)
  map_lawful es (op.Remove key) fits h = search (lawful_either, drop_is_lawful (by kind.Map) (Named key) (text_or_none (find text_cmp key es)) here fits tt (word_right (find text_cmp key es) (found_word text_cmp key es h)), nothing_is_lawful (by kind.Map) No_reply none_right)
  map_lawful es (op.GetOf key) fits h = nothing_is_lawful (by kind.Map) _ (word_right _ (found_word text_cmp key es h))
  map_lawful es op.Size fits h = nothing_is_lawful (by kind.Map) _ (count_right (length es))
  map_lawful es op.Clear fits h = clears_lawful kind.Map (is_some (head_of es)) (Map_is []) (Map_is es)
  map_lawful es _ fits h = tt

  multimap_lawful : (es : List (List ℕ × List ℕ)) (o : Op) → OpFits o → IsPlainInRange (Multimap_is es) → IsLawfulRow (by kind.Multimap) (multimap_row call es o)
  multimap_lawful es (op.Put key word) fits h = search (lawful_either, nothing_is_lawful (by kind.Multimap) (Truth false) (truth_right false), put_is_lawful (by kind.Multimap) (Pair key word) Mark (Truth true) here fits tt tt refl (truth_right true))
  multimap_lawful es (op.RemoveOne key word) fits h = search (lawful_either, drop_is_lawful (by kind.Multimap) (Pair key word) (Truth true) here fits tt (truth_right true), nothing_is_lawful (by kind.Multimap) (Truth false) (truth_right false))
  multimap_lawful es (op.Remove key) fits h = search (lawful_either, wipe_key_is_lawful (by kind.Multimap) key (count_reply (count_by (λ (p : List ℕ × List ℕ). is_text key p.0) es)) here fits (count_right (count_by (λ (p : List ℕ × List ℕ). is_text key p.0) es)), nothing_is_lawful (by kind.Multimap) (count_reply 0) (count_right 0))
  multimap_lawful es (op.GetOf key) fits h =
      nothing_is_lawful (by kind.Multimap) _ ((taken_few 16 (map (λ (p : List ℕ × List ℕ). p.1) (filter (λ (p : List ℕ × List ℕ). is_text key p.0) es)), all_taken IsWord 16 _ (all_mapped IsWord (λ (p : List ℕ × List ℕ). p.1) _ (all_filtered (λ (p : List ℕ × List ℕ). IsWord p.1) (λ (p : List ℕ × List ℕ). is_text key p.0) es h))), tt)
  multimap_lawful es (op.Count key) fits h = nothing_is_lawful (by kind.Multimap) _ (count_right (count_by (λ (p : List ℕ × List ℕ). is_text key p.0) es))
  multimap_lawful es op.Size fits h = nothing_is_lawful (by kind.Multimap) _ (count_right (length es))
  multimap_lawful es op.Clear fits h = clears_lawful kind.Multimap (is_some (head_of es)) (Multimap_is []) (Multimap_is es)
  multimap_lawful es _ fits h = tt

  set_lawful : (es : List (List ℕ)) (o : Op) → OpFits o → IsLawfulRow (by kind.Set) (set_row call es o)
  set_lawful es (op.Insert word) fits = search (lawful_either, nothing_is_lawful (by kind.Set) (Truth false) (truth_right false), put_is_lawful (by kind.Set) (Member_cell word) Mark (Truth true) here fits tt tt refl (truth_right true))
  set_lawful es (op.Discard word) fits = search (lawful_either, drop_is_lawful (by kind.Set) (Member_cell word) (Truth true) here fits tt (truth_right true), nothing_is_lawful (by kind.Set) (Truth false) (truth_right false))
  set_lawful es (op.Has word) fits = nothing_is_lawful (by kind.Set) _ (truth_right (has_item text_cmp word es))
  set_lawful es op.Size fits = nothing_is_lawful (by kind.Set) _ (count_right (length es))
  set_lawful es op.Clear fits = clears_lawful kind.Set (is_some (head_of es)) (Set_is []) (Set_is es)
  set_lawful es _ fits = tt

  taken_lawful : (q : List (ℕ × List ℕ)) (o : Option (ℕ × List ℕ)) (found : List ℕ → Reply) (missing : Reply) → IsItemIfAny o → ((word : List ℕ) → IsWord word → IsRightReply (found word)) → IsRightReply missing → IsLawfulRow (by kind.Queue) (takes_out call q o found missing)
  taken_lawful q None found missing h right none = nothing_is_lawful (by kind.Queue) _ none
  taken_lawful q (Some item) found missing h right none = drop_is_lawful (by kind.Queue) (At item.0) _ here (unsigned item.0 h.0) h.0 (right item.1 h.1)

  peeked : (o : Option (ℕ × List ℕ)) → IsItemIfAny o → IsRightReply (option_map_or (λ (x : ℕ × List ℕ). Text_reply x.1) o No_reply)
  peeked None h = none_right
  peeked (Some item) h = (h.1, tt)

  queue_lawful : (q : List (ℕ × List ℕ)) (o : Op) → OpFits o → IsPlainInRange (Queue_is q) → IsLawfulRow (by kind.Queue) (queue_row call q o)
  queue_lawful q (op.Enqueue word) fits h = put_is_lawful (by kind.Queue) (At index) (Text word) _ here (unsigned index later) later fits refl none_right
  queue_lawful q op.Poll fits h = taken_lawful q (head_of q) Text_reply No_reply (first_item q h) (λ word is. (is, tt)) none_right
  queue_lawful q op.Peek fits h = nothing_is_lawful (by kind.Queue) _ (peeked (head_of q) (first_item q h))
  queue_lawful q (op.RemoveWord word) fits h = taken_lawful q (find_first (λ (x : ℕ × List ℕ). is_text word x.1) q) (λ _. Truth true) (Truth false) (found_item (λ (x : ℕ × List ℕ). is_text word x.1) q h) (λ word is. truth_right true) (truth_right false)
  queue_lawful q op.Size fits h = nothing_is_lawful (by kind.Queue) _ (count_right (length q))
  queue_lawful q op.Clear fits h = clears_lawful kind.Queue (is_some (head_of q)) (Queue_is []) (Queue_is q)
  queue_lawful q _ fits h = tt

  holder_right : (ws : List (ℕ × ℕ)) → AllByRecursion (λ (w : ℕ × ℕ). IsIndex w.0 × IsUnsigned w.1) ws → IsRightReply (option_map_or (λ (w : ℕ × ℕ). Holder w.0 w.1) (head_of ws) No_reply)
  holder_right [] h = none_right
  holder_right (w ∷ ws) h = ((unsigned w.0 h.0.0, h.0.1), h.0.0)

  lock_lawful : (ws : List (ℕ × ℕ)) (o : Op) → OpFits o → IsPlainInRange (Lock_is ws) → IsLawfulRow (by kind.Lock) (lock_row call ws o)
  lock_lawful ws (op.Lock id) fits h = search (lawful_either, nothing_is_lawful (by kind.Lock) (Truth (is_holder (session, id) ws)) (truth_right (is_holder (session, id) ws)), own_put_is_lawful (by kind.Lock) (Waiter session id) Mark (Truth (not (is_some (head_of ws)))) here known (unsigned session known, fits) known tt refl (truth_right (not (is_some (head_of ws)))))
  lock_lawful ws (op.Try id) fits h = search (lawful_either, nothing_is_lawful (by kind.Lock) (Truth (is_holder (session, id) ws)) (truth_right (is_holder (session, id) ws)), own_put_is_lawful (by kind.Lock) (Waiter session id) Mark (Truth true) here known (unsigned session known, fits) known tt refl (truth_right true))
  lock_lawful ws (op.Unlock id) fits h = search (lawful_either, drop_is_lawful (by kind.Lock) (Waiter session id) (Truth true) here (unsigned session known, fits) known (truth_right true), nothing_is_lawful (by kind.Lock) (Truth false) (truth_right false))
  lock_lawful ws op.Holder fits h = nothing_is_lawful (by kind.Lock) _ (holder_right ws h)
  lock_lawful ws op.Size fits h = nothing_is_lawful (by kind.Lock) _ (count_right (length ws))
  lock_lawful ws _ fits h = tt

  listen_lawful : (k : Kind) (plain : List ℕ → Plain) (ls : List ℕ) → is_of_kind k (Of session) Mark ≡ true → IsLawfulRow (by k) (listen_row call plain ls)
  listen_lawful k plain ls of_kind = search (lawful_either, nothing_is_lawful (by k) (Truth false) (truth_right false), own_put_is_lawful (by k) (Of session) Mark (Truth true) here known (unsigned session known) known tt of_kind (truth_right true))

  unlisten_lawful : (k : Kind) (plain : List ℕ → Plain) (ls : List ℕ) → IsLawfulRow (by k) (unlisten_row call plain ls)
  unlisten_lawful k plain ls = search (lawful_either, drop_is_lawful (by k) (Of session) (Truth true) here (unsigned session known) known (truth_right true), nothing_is_lawful (by k) (Truth false) (truth_right false))

  leader_right : (ms : List Member) → AllByRecursion (λ (x : Member). IsIndex x.index) ms → IsRightReply (option_map_or (λ (x : Member). Index x.index) (head_of ms) No_reply)
  leader_right [] h = none_right
  leader_right (x ∷ ms) h = (unsigned x.index h.0, h.0)

  -- a member that is there has an index
  member_there : (member : ℕ) (ms : List Member) → AllByRecursion (λ (x : Member). IsIndex x.index) ms → list_any (λ (x : Member). x.index == member && x.session == session) ms ≡ true → IsIndex member
  member_there member [] h e = absurd (cc)
  member_there member (x ∷ ms) h e =
      elim (x.index == member && x.session == session) as (λ b. (x.index == member && x.session == session) ≡ b → list_any (λ (x : Member). x.index == member && x.session == session) (x ∷ ms) ≡ true → IsIndex member) [
        | true ↦ λ t e. subst IsIndex (eqb-true x.index member (and_parts (x.index == member) (x.session == session) t).0) h.0
        | false ↦ λ t e. member_there member ms h.1 (sym (ap (λ b. b || (list_any (λ (x : Member). x.index == member && x.session == session) ms)) t) ∙ e)
      ] refl e

  group_lawful : (ms : List Member) (ls : List ℕ) (o : Op) → OpFits o → IsPlainInRange (Group_is ms ls) → IsLawfulRow (by kind.Group) (group_row call ms ls o)
  group_lawful ms ls (op.Join word) fits h = own_put_is_lawful (by kind.Group) (At index) (Text word) _ here known (unsigned index later) later fits refl (unsigned index later, later)
  group_lawful ms ls (op.Leave member) fits h = go (list_any (λ (x : Member). x.index == member && x.session == session) ms) refl
    where
      go : (b : Bool) → list_any (λ (x : Member). x.index == member && x.session == session) ms ≡ b → IsLawfulRow (by kind.Group) (either b (Does (Drop m (At member)) (Truth true) (Group_is (filter (λ (x : Member). not (x.index == member)) ms) ls) (tells_all ls (Left name member))) (looks (Truth false) (Group_is ms ls)))
      go true e = drop_is_lawful (by kind.Group) (At member) _ here fits (member_there member ms h e) (truth_right true)
      go false e = nothing_is_lawful (by kind.Group) _ (truth_right false)
  group_lawful ms ls op.Members fits h =
      let indexes : AllByRecursion IsIndex (take 64 (map (λ (x : Member). x.index) ms)) = all_taken IsIndex 64 _ (all_mapped IsIndex (λ (x : Member). x.index) ms h) in
      nothing_is_lawful (by kind.Group) _ ((taken_few 64 (map (λ (x : Member). x.index) ms), all_weaker IsIndex IsUnsigned unsigned _ indexes), indexes)
  group_lawful ms ls op.Leader fits h = nothing_is_lawful (by kind.Group) _ (leader_right ms h)
  group_lawful ms ls op.Listen fits h = listen_lawful kind.Group (Group_is ms) ls refl
  group_lawful ms ls op.Unlisten fits h = unlisten_lawful kind.Group (Group_is ms) ls
  group_lawful ms ls op.Size fits h = nothing_is_lawful (by kind.Group) _ (count_right (length ms))
  group_lawful ms ls _ fits h = tt

  topic_lawful : (ls : List ℕ) (o : Op) → OpFits o → IsLawfulRow (by kind.Topic) (topic_row call ls o)
  topic_lawful ls (op.Publish word) fits = tell_is_lawful (by kind.Topic) word _ here fits (count_right (length ls))
  topic_lawful ls op.Listen fits = listen_lawful kind.Topic Topic_is ls refl
  topic_lawful ls op.Unlisten fits = unlisten_lawful kind.Topic Topic_is ls
  topic_lawful ls op.Size fits = nothing_is_lawful (by kind.Topic) _ (count_right (length ls))
  topic_lawful ls _ fits = tt

  pub row_lawful : (plain : Plain) (o : Op) → OpFits o → IsPlainInRange plain → IsLawfulRow (by (kind_of plain)) (row call plain o)
  row_lawful (Value_is cur) o fits h = value_lawful cur o fits h
  row_lawful (Counter_is number) o fits h = counter_lawful number o fits h
  row_lawful (Map_is pairs) o fits h = map_lawful pairs o fits h
  row_lawful (Multimap_is pairs) o fits h = multimap_lawful pairs o fits h
  row_lawful (Set_is words) o fits h = set_lawful words o fits
  row_lawful (Queue_is items) o fits h = queue_lawful items o fits h
  row_lawful (Lock_is waiters) o fits h = lock_lawful waiters o fits h
  row_lawful (Group_is members listeners) o fits h = group_lawful members listeners o fits h
  row_lawful (Topic_is listeners) o fits h = topic_lawful listeners o fits
