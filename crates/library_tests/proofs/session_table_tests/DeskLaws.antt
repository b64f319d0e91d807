-- The steps of the small caller.
use Rattle.std.proofs.Common.{◌≡◌, ◌≢◌, ℕ, ◌+◌, ◌<◌, ◌≤◌, ◌==◌, Bool, true, false, not, cond, nat_le, nat_lt, List, [], ◌∷◌, ◌++◌, map, Option, Some, None, refl, sym, ap, subst, ◌∙◌, arith, append-nil}
use Rattle.std.proofs.lemmas.Bool.{false_from_ne_true}
use Rattle.std.proofs.lemmas.Option.{none-some, same_Some}
use Rattle.std.specs.List.{filter, find, flat_map}
use Rattle.std.specs.Option.{option_map}
use Rattle.host_types.specs.Cells.{places_of}
use Rattle.host_types.specs.declared.entry.Event.{Event}
use Rattle.host_types.specs.declared.entry.Reply.{Reply}
use Rattle.commit_lending.specs.Lent.{Lent, tokens, one_of}
use Rattle.machine.specs.Release.{AreOut, Releases}
use Rattle.machine.proofs.ReleaseLaws.{are_out_lent, are_out_with, are_out_still, are_out_same, holds_nothing}
use Rattle.log_model.specs.plain.Plain.{Kept_reply, Kept_batch, Session}
use Rattle.log_model.specs.plain.Quiet.{kept_indexes}
use Rattle.log_model.specs.plain.Step.{changed, new_session, one_batch, with_reply}
use Rattle.log_model.specs.replay.Replay.{after_alive, pushed}
use Rattle.log_model.proofs.replay.Rising.{alive_id, push_id}
use Rattle.event_batches.specs.Rising.{AreBelow}
use Rattle.event_batches.proofs.RisingLists.{below_append}
use Rattle.session_table.specs.Kept.{session_indexes, batch_indexes}
use Rattle.session_table.specs.Replies.{reply_indexes}
use Rattle.session_table.specs.Asked.{NewerReply, NewerBatch}
use Rattle.session_table.specs.Table.{Table, as_state, session_at, ids, view_of, view_at, confirmed_of, without_id}
use Rattle.session_table.specs.Places.{table_cells}
use Rattle.library_tests.specs.Desks.{IsSound}
use Rattle.session_table.specs.declared.view.SessionView.{SessionView}
use Rattle.session_table.proofs.ReplyLists.{below_weaker, below_mapped, below_filter}

-- ---- bounds

below_parts : (top : ℕ) (ns ms : List ℕ) → AreBelow top (ns ++ ms) → AreBelow top ns × AreBelow top ms
below_parts top [] ms b = (tt, b)
below_parts top (n ∷ ns) ms b = let r = below_parts top ns ms b.1 in ((b.0, r.0), r.1)

abbrev all_kept : List Session → List ℕ
all_kept ss = kept_indexes (as_state ss)

below_changed : (top id : ℕ) (f : Session → Session) → ((x : Session) → AreBelow top (session_indexes x) → AreBelow top (session_indexes (f x))) → (ss : List Session) → AreBelow top (all_kept ss) → AreBelow top (all_kept (changed id f ss))
below_changed top id f h [] b = tt
below_changed top id f h (x ∷ ss) b =
    let r = below_parts top (session_indexes x) (all_kept ss) b in
    below_append top (session_indexes (cond (x.id == id) (f x) x)) (all_kept (changed id f ss)) (one (x.id == id) r.0) (below_changed top id f h ss r.1)
  where
    one : (q : Bool) → AreBelow top (session_indexes x) → AreBelow top (session_indexes (cond q (f x) x))
    one true b = h x b
    one false b = b

below_left : (top : ℕ) (p : Session → Bool) (ss : List Session) → AreBelow top (all_kept ss) → AreBelow top (all_kept (filter p ss))
below_left top p [] b = tt
below_left top p (x ∷ ss) b = go (p x) (below_parts top (session_indexes x) (all_kept ss) b) (below_left top p ss (below_parts top (session_indexes x) (all_kept ss) b).1)
  where
    go : (q : Bool) → AreBelow top (session_indexes x) × AreBelow top (all_kept ss) → AreBelow top (all_kept (filter p ss)) → AreBelow top (all_kept (cond q (x ∷ filter p ss) (filter p ss)))
    go true r later = below_append top (session_indexes x) (all_kept (filter p ss)) r.0 later
    go false r later = later

below_more : (top : ℕ) (ss : List Session) (x : Session) → AreBelow top (all_kept ss) → AreBelow top (session_indexes x) → AreBelow top (all_kept (ss ++ x ∷ []))
below_more top [] x b n = below_append top (session_indexes x) [] n tt
below_more top (y ∷ ss) x b n =
    let r = below_parts top (session_indexes y) (all_kept ss) b in
    below_append top (session_indexes y) (all_kept (ss ++ x ∷ [])) r.0 (below_more top ss x r.1 n)

below_found : (top id : ℕ) (ss : List Session) (x : Session) → find (λ y. y.id == id) ss ≡ Some x → AreBelow top (all_kept ss) → AreBelow top (session_indexes x)
below_found top id [] x e b = absurd (none-some x e)
below_found top id (y ∷ ss) x e b = go (y.id == id) e (below_parts top (session_indexes y) (all_kept ss) b) (below_found top id ss x)
  where
    go : (q : Bool) → cond q (Some y) (find (λ y. y.id == id) ss) ≡ Some x → AreBelow top (session_indexes y) × AreBelow top (all_kept ss) → (find (λ y. y.id == id) ss ≡ Some x → AreBelow top (all_kept ss) → AreBelow top (session_indexes x)) → AreBelow top (session_indexes x)
    go true e r later = subst (λ (z : Session). AreBelow top (session_indexes z)) (same_Some y x e) r.0
    go false e r later = later e r.1

same_ids : (id : ℕ) (f : Session → Session) → ((x : Session) → (f x).id ≡ x.id) → (ss : List Session) → map (λ x. x.id) (changed id f ss) ≡ map (λ x. x.id) ss
same_ids id f h [] = refl
same_ids id f h (x ∷ ss) = (λ i. one (x.id == id) i ∷ same_ids id f h ss i)
  where
    one : (q : Bool) → (cond q (f x) x).id ≡ x.id
    one true = h x
    one false = refl

-- ---- what changes keep below

reply_below : (top seq index : ℕ) (reply : Reply) (x : Session) → index < top → AreBelow top (session_indexes x) → AreBelow top (session_indexes (with_reply seq index reply x))
reply_below top seq index reply x l b =
    let r = below_parts top (reply_indexes x.replies) (batch_indexes x.batches) b in
    below_append top (reply_indexes (with_reply seq index reply x).replies) (batch_indexes x.batches) (below_mapped (λ (r : Kept_reply). r.index) top x.replies (record { seq = seq; index = index; reply = reply }) r.0 l) r.1

one_below : (top index : ℕ) (events : List Event) (bs : List Kept_batch) → index < top → AreBelow top (map (λ (k : Kept_batch). k.index) bs) → AreBelow top (map (λ (k : Kept_batch). k.index) (bs ++ one_batch index events))
one_below top index [] bs l b = subst (λ (ks : List Kept_batch). AreBelow top (map (λ (k : Kept_batch). k.index) ks)) (sym (append-nil bs)) b
one_below top index (e ∷ es) bs l b = below_mapped (λ (k : Kept_batch). k.index) top bs (record { index = index; events = e ∷ es }) b l

batch_below : (top index : ℕ) (events : List Event) (x : Session) → index < top → AreBelow top (session_indexes x) → AreBelow top (session_indexes (pushed index events x))
batch_below top index events x l b = go (nat_le index x.acked_event)
  where
    go : (q : Bool) → AreBelow top (session_indexes (cond q x (record x { batches = x.batches ++ one_batch index events })))
    go true = b
    go false =
        let r = below_parts top (reply_indexes x.replies) (batch_indexes x.batches) b in
        below_append top (reply_indexes x.replies) (batch_indexes (x.batches ++ one_batch index events)) r.0 (one_below top index events x.batches l r.1)

alive_below : (top time seq event : ℕ) (x : Session) → AreBelow top (session_indexes x) → AreBelow top (session_indexes (after_alive time seq event x))
alive_below top time seq event x b = go (nat_lt event x.acked_event)
  where
    y : Session
    y = record x { last_time = time; acked_seq = seq; replies = filter (λ (r : Kept_reply). nat_lt seq r.seq) x.replies }

    kept : AreBelow top (reply_indexes x.replies) × AreBelow top (batch_indexes x.batches)
    kept = below_parts top (reply_indexes x.replies) (batch_indexes x.batches) b

    replies : AreBelow top (reply_indexes (filter (λ (r : Kept_reply). nat_lt seq r.seq) x.replies))
    replies = below_filter (λ (r : Kept_reply). r.index) (λ r. nat_lt seq r.seq) top x.replies kept.0

    go : (q : Bool) → AreBelow top (session_indexes (cond q y (record y { acked_event = event; batches = filter (λ (k : Kept_batch). nat_lt event k.index) y.batches })))
    go true = below_append top (reply_indexes (filter (λ (r : Kept_reply). nat_lt seq r.seq) x.replies)) (batch_indexes x.batches) replies kept.1
    go false =
        below_append top (reply_indexes (filter (λ (r : Kept_reply). nat_lt seq r.seq) x.replies)) (batch_indexes (filter (λ (k : Kept_batch). nat_lt event k.index) x.batches))
        replies (below_filter (λ (k : Kept_batch). k.index) (λ k. nat_lt event k.index) top x.batches kept.1)

-- ---- what is out and what is free

other_index : (n j : ℕ) → n + 1 ≤ j → one_of n j ≡ 0
other_index n j l = ap (λ b. cond b 1 0) (false_from_ne_true (n == j) (λ t. let e = Rattle.std.proofs.Common.eqb-true n j t in absurd (omega (arith, e, l))))

-- a commit is lent
record Lends (t : Table) (lent : Lent) (next : ℕ) : Type 0 where
  held : AreOut (places_of (table_cells t)) lent
  absent : places_of (table_cells t) next ≡ 0
  once : tokens lent next ≡ 1
  free : (j : ℕ) → next + 1 ≤ j → tokens lent j ≡ 0

lends : (t : Table) (before lent : Lent) (next : ℕ) → IsSound t before next → ((j : ℕ) → tokens lent j ≡ tokens before j + one_of next j) → Lends t lent next
lends t before lent next sound more =
    let none = sound.free next (omega arith) in
    record {
      held = are_out_lent (places_of (table_cells t)) before lent next sound.out none more;
      absent = holds_nothing (places_of (table_cells t)) before next sound.out none;
      once = (let a = more next in let b = Rattle.session_table.proofs.Holding.one_itself next in omega (arith, a, b, none));
      free = λ j l. let a = more j in let b = sound.free j (omega (arith, l)) in let c = other_index next j l in omega (arith, a, b, c);
    }

pub free_after : (was held : ℕ → ℕ) (by : ℕ) (before now : Lent) (j : ℕ) → AreOut was before → Releases was held by before now → tokens before j ≡ 0 → tokens now j ≡ 0
free_after was held by before now j out step none =
    let a = holds_nothing was before j out none in
    let b = step.none_new j a in
    let c = step.tokens j in
    omega (arith, a, b, c, none)

-- ---- steps

pub tokens_stay : (before now : Lent) → now.out ≡ before.out → (j : ℕ) → tokens now j ≡ tokens before j
tokens_stay before now e j = ap (λ o. tokens (record { out = o; closed = now.closed; spare = now.spare }) j) e

-- nothing that counts has changed
pub stays_sound : (t t' : Table) (lent lent' : Lent) (next : ℕ) → t'.sessions ≡ t.sessions → table_cells t' ≡ table_cells t → lent'.out ≡ lent.out → IsSound t lent next → IsSound t' lent' next
stays_sound t t' lent lent' next sessions cells same s = record {
  some = s.some;
  out = subst (λ cs. AreOut (places_of cs) lent') (sym cells) (are_out_same (places_of (table_cells t)) lent lent' same s.out);
  free = λ j l. tokens_stay lent lent' same j ∙ s.free j l;
  opened = subst (λ ss. AreBelow next (map (λ x. x.id) ss)) (sym sessions) s.opened;
  kept = subst (λ ss. AreBelow next (all_kept ss)) (sym sessions) s.kept;
}

-- one session keeps more, of the next index
grows_sound : (t t' : Table) (lent : Lent) (next id : ℕ) (f : Session → Session) → ((x : Session) → (f x).id ≡ x.id) → ((x : Session) → AreBelow (next + 1) (session_indexes x) → AreBelow (next + 1) (session_indexes (f x)))
    → t'.sessions ≡ changed id f t.sessions → t'.beside ≡ t.beside → IsSound t lent next → IsSound t' lent (next + 1)
grows_sound t t' lent next id f same below sessions beside s = record {
  some = omega arith;
  out = subst (λ bs. AreOut (places_of (Rattle.session_table.specs.Places.cells_of bs)) lent) (sym beside) s.out;
  free = λ j l. s.free j (omega (arith, l));
  opened = below_weaker next (next + 1) (ids t') (omega arith) (subst (AreBelow next) (sym (same_ids id f same t.sessions) ∙ ap (map (λ (x : Session). x.id)) (sym sessions)) s.opened);
  kept = subst (λ ss. AreBelow (next + 1) (all_kept ss)) (sym sessions) (below_changed (next + 1) id f below t.sessions (below_weaker next (next + 1) (all_kept t.sessions) (omega arith) s.kept));
}

pub reply_sound : (t t' : Table) (lent : Lent) (next id seq : ℕ) (reply : Reply) → t'.sessions ≡ changed id (with_reply seq next reply) t.sessions → t'.beside ≡ t.beside → IsSound t lent next → IsSound t' lent (next + 1)
reply_sound t t' lent next id seq reply = grows_sound t t' lent next id (with_reply seq next reply) (λ x. refl) (λ x b. reply_below (next + 1) seq next reply x (omega arith) b)

pub batch_sound : (t t' : Table) (lent : Lent) (next id : ℕ) (events : List Event) → t'.sessions ≡ changed id (pushed next events) t.sessions → t'.beside ≡ t.beside → IsSound t lent next → IsSound t' lent (next + 1)
batch_sound t t' lent next id events = grows_sound t t' lent next id (pushed next events) (push_id next events) (λ x b. batch_below (next + 1) next events x (omega arith) b)

pub register_sound : (t t' : Table) (before lent : Lent) (next time timeout : ℕ) → ((j : ℕ) → tokens lent j ≡ tokens before j + one_of next j) → t'.sessions ≡ t.sessions ++ new_session next time timeout ∷ []
    → ((j : ℕ) → places_of (table_cells t') j ≡ places_of (table_cells t) j + one_of next j) → IsSound t before next → IsSound t' lent (next + 1)
register_sound t t' before lent next time timeout more sessions places s =
    let l = lends t before lent next s more in
    let both = are_out_with (places_of (table_cells t)) lent next l.held l.absent l.once in
    record {
      some = omega arith;
      out = λ j above. let p = places j in let o = both j (omega (arith, above, p)) in omega (arith, o, p);
      free = l.free;
      opened = subst (λ ss. AreBelow (next + 1) (map (λ x. x.id) ss)) (sym sessions) (below_mapped (λ (x : Session). x.id) (next + 1) t.sessions (new_session next time timeout) (below_weaker next (next + 1) (ids t) (omega arith) s.opened) (omega arith));
      kept = subst (λ ss. AreBelow (next + 1) (all_kept ss)) (sym sessions) (below_more (next + 1) t.sessions (new_session next time timeout) (below_weaker next (next + 1) (all_kept t.sessions) (omega arith) s.kept) tt);
    }

pub alive_sound : (t t' : Table) (before lent now : Lent) (next id time seq event : ℕ) → ((j : ℕ) → tokens lent j ≡ tokens before j + one_of next j) → t'.sessions ≡ changed id (after_alive time seq event) t.sessions
    → Releases (λ j. places_of (table_cells t) j + one_of next j) (places_of (table_cells t')) next lent now → IsSound t before next → IsSound t' now (next + 1)
alive_sound t t' before lent now next id time seq event more sessions step s =
    let l = lends t before lent next s more in
    let was : ℕ → ℕ = λ j. places_of (table_cells t) j + one_of next j in
    let both : AreOut was lent = are_out_with (places_of (table_cells t)) lent next l.held l.absent l.once in
    record {
      some = omega arith;
      out = are_out_still was (places_of (table_cells t')) next lent now both step;
      free = λ j a. free_after was (places_of (table_cells t')) next lent now j both step (l.free j a);
      opened = below_weaker next (next + 1) (ids t') (omega arith) (subst (AreBelow next) (sym (same_ids id (after_alive time seq event) (alive_id time seq event) t.sessions) ∙ ap (map (λ (x : Session). x.id)) (sym sessions)) s.opened);
      kept = subst (λ ss. AreBelow (next + 1) (all_kept ss)) (sym sessions) (below_changed (next + 1) id (after_alive time seq event) (λ x b. alive_below (next + 1) time seq event x b) t.sessions (below_weaker next (next + 1) (all_kept t.sessions) (omega arith) s.kept));
    }

pub close_sound : (t t' : Table) (before now : Lent) (next id by : ℕ) → t'.sessions ≡ without_id id t.sessions → Releases (places_of (table_cells t)) (places_of (table_cells t')) by before now → IsSound t before next → IsSound t' now (next + 1)
close_sound t t' before now next id by sessions step s = record {
  some = omega arith;
  out = are_out_still (places_of (table_cells t)) (places_of (table_cells t')) by before now s.out step;
  free = λ j a. free_after (places_of (table_cells t)) (places_of (table_cells t')) by before now j s.out step (s.free j (omega (arith, a)));
  opened = below_weaker next (next + 1) (ids t') (omega arith) (subst (λ ss. AreBelow next (map (λ x. x.id) ss)) (sym sessions) (below_filter (λ (x : Session). x.id) (λ x. not (x.id == id)) next t.sessions s.opened));
  kept = below_weaker next (next + 1) (all_kept t'.sessions) (omega arith) (subst (λ ss. AreBelow next (all_kept ss)) (sym sessions) (below_left next (λ x. not (x.id == id)) t.sessions s.kept));
}

-- ---- what is asked of a session that was found

pub newer_reply : (t t' : Table) (lent : Lent) (next id : ℕ) (v : SessionView) → IsSound t lent next → view_at id t ≡ Some v → t'.sessions ≡ t.sessions → NewerReply (v.seq + 1) next (session_at id t')
newer_reply t t' lent next id v s found same = subst (λ ss. NewerReply (v.seq + 1) next (find (λ x. x.id == id) ss)) (sym same) (go (session_at id t) refl found)
  where
    go : (o : Option Session) → session_at id t ≡ o → option_map (view_of (confirmed_of id t)) o ≡ Some v → NewerReply (v.seq + 1) next o
    go None e f = tt
    go (Some x) e f =
        let is : x.seq ≡ v.seq = ap (λ (w : SessionView). w.seq) (same_Some (view_of (confirmed_of id t) x) v f) in
        (omega (arith, is), (below_parts next (reply_indexes x.replies) (batch_indexes x.batches) (below_found next id t.sessions x e s.kept)).0)

pub newer_batch : (t t' : Table) (lent : Lent) (next id : ℕ) → IsSound t lent next → t'.sessions ≡ t.sessions → NewerBatch next (session_at id t')
newer_batch t t' lent next id s same = subst (λ ss. NewerBatch next (find (λ x. x.id == id) ss)) (sym same) (go (session_at id t) refl)
  where
    go : (o : Option Session) → session_at id t ≡ o → NewerBatch next o
    go None e = tt
    go (Some x) e = (below_parts next (reply_indexes x.replies) (batch_indexes x.batches) (below_found next id t.sessions x e s.kept)).1
