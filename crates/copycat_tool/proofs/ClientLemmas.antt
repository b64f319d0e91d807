-- What a client says to a batch, and where it stands then.
use Rattle.std.proofs.Common.{◌≡◌, ℕ, ◌==◌, cond, nat_le, true, false, refl}
use Rattle.log_model.specs.serving.Batches.{Batch, Take, Taken, Repeated, Missed, last_after, take_batch}
use Rattle.event_batches.specs.declared.client.Take.TheVariants as says
use Rattle.event_batches.specs.Taking.{answered}

pub says_taken : (last : ℕ) (t : Take) → answered last t ≡ says.Taken → t ≡ Taken
says_taken last Taken is = refl
says_taken last Repeated is = absurd (cc is)
says_taken last Missed is = absurd (cc is)

pub says_repeat : (last : ℕ) (t : Take) → answered last t ≡ says.Repeat → t ≡ Repeated
says_repeat last Taken is = absurd (cc is)
says_repeat last Repeated is = refl
says_repeat last Missed is = absurd (cc is)

pub says_missed : (last n : ℕ) (t : Take) → answered last t ≡ says.Missed n → (t ≡ Missed) × (n ≡ last)
says_missed last n Taken is = absurd (cc is)
says_missed last n Repeated is = absurd (cc is)
says_missed last n Missed is = (refl, cc is)

-- the event that it took last then
pub last_taken_is : (last : ℕ) (b : Batch) → take_batch last b ≡ Taken → last_after last b ≡ b.index
last_taken_is last b is = elim (b.previous == last) as (λ q. cond q Taken (cond (nat_le b.index last) Repeated Missed) ≡ Taken → cond q b.index last ≡ b.index) [
  | true ↦ λ _. refl
  | false ↦ elim (nat_le b.index last) as (λ q. cond q Repeated Missed ≡ Taken → last ≡ b.index) [ true ↦ λ no. absurd (cc no) | false ↦ λ no. absurd (cc no) ]
] is

pub last_stays : (last : ℕ) (b : Batch) → take_batch last b ≡ Repeated → last_after last b ≡ last
last_stays last b is = elim (b.previous == last) as (λ q. cond q Taken (cond (nat_le b.index last) Repeated Missed) ≡ Repeated → cond q b.index last ≡ last) [
  | true ↦ λ no. absurd (cc no)
  | false ↦ λ _. refl
] is
