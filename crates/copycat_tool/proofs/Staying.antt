-- Only a line that takes events moves a client.
use Rattle.std.proofs.Common.{◌≡◌, ℕ, zero, suc, Bool, true, false, List, [], ◌∷◌, refl, ap, sym, ◌∙◌}
use Rattle.host_types.specs.declared.entry.Offer.{Offer}
use Rattle.log_model.specs.plain.Admission.{Admission, Admitted, Repeats, Refused, Expiry, Expires, Nobody, Not_now}
use Rattle.log_model.specs.serving.Positions.{Position, event_at}
use Rattle.copycat_tool.specs.declared.clients.Clients.{Clients}
use Rattle.copycat_tool.specs.declared.lines.Command.{Command}
use Rattle.copycat_tool.specs.declared.lines.Command.TheVariants as commands
use Rattle.copycat_tool.specs.Report.{Run, after, all_expired, admission, answer_after, answer_by, answers_to, changed, expired, expired_answer, expiry, offer_answer, with_expired}
use Rattle.copycat_tool.specs.ClientTakes.{HasClients}
use Rattle.copycat_tool.proofs.Prefixes.{after-append}

abbrev pub is_take : Command → Bool
is_take (commands.Take session) = true
is_take _ = false

expired_stay : (size n : ℕ) (run : Run) (time : ℕ) → (after size run (expired size n run time)).clients ≡ run.clients
expired_stay size zero run time = refl
expired_stay size (suc n) run time = elim (expiry run time) as (λ e. (after size run (with_expired e run time (λ this. expired size n (changed size run this.does) time))).clients ≡ run.clients) [
  | Expires session ↦ expired_stay size n (changed size run (expired_answer run time session).does) time
  | Nobody ↦ refl
  | Not_now why ↦ refl
]

answer_stays : (size : ℕ) (run : Run) (o : Offer) (adm : Admission) → (changed size run (answer_by adm run o).does).clients ≡ run.clients
answer_stays size run o Admitted = refl
answer_stays size run o (Repeats reply) = refl
answer_stays size run o (Refused why) = refl

offer_stays : (size : ℕ) (run : Run) (o : Offer) (e : Expiry) → (changed size run (answer_after e run o).does).clients ≡ run.clients
offer_stays size run o (Expires session) = answer_stays size run o (admission run o)
offer_stays size run o Nobody = answer_stays size run o (admission run o)
offer_stays size run o (Not_now why) = refl

clients_stay : (size : ℕ) (run : Run) (asked : Command) → is_take asked ≡ false → (after size run (answers_to size run asked)).clients ≡ run.clients
clients_stay size run commands.Skip isnt = refl
clients_stay size run (commands.Offer o) isnt =
    let there = after size run (all_expired size run o.time) in
    ap (λ (r : Run). r.clients) (sym (after-append size run (all_expired size run o.time) (offer_answer there o ∷ [])))
    ∙ offer_stays size there o (expiry there o.time)
    ∙ expired_stay size _ run o.time
clients_stay size run (commands.Ask name op) isnt = refl
clients_stay size run (commands.Take session) isnt = absurd (cc isnt)
clients_stay size run commands.Census isnt = refl
clients_stay size run commands.Quiet isnt = refl
clients_stay size run commands.Reopen isnt = refl

pub still_has : (size : ℕ) (run : Run) (asked : Command) (clients : Clients) → is_take asked ≡ false → HasClients run clients → HasClients (after size run (answers_to size run asked)) clients
still_has size run asked clients isnt are id = are id ∙ ap (λ (ps : List Position). event_at id id ps) (sym (clients_stay size run asked isnt))
