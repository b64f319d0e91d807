-- Replays of worked logs, played by computation.
use Rattle.std.proofs.Common.{◌≡◌, true, not, ◌==◌, List, [], ◌∷◌, ◌++◌, take, refl, codes}
use Rattle.std.specs.List.{filter}
use Rattle.host_types.specs.declared.entry.Ask.TheVariants.{Register, Alive, Tick}
use Rattle.host_types.specs.declared.entry.Kind.TheVariants.{Topic as Topic_kind, Lock as Lock_kind}
use Rattle.host_types.specs.declared.entry.Op.TheVariants.{Create, Listen, Publish, Lock, Unlock}
use Rattle.log_model.specs.cleaning.Cleaning.{numbered}
use Rattle.log_model.specs.plain.Admission.{Item, Expired}
use Rattle.log_model.specs.plain.Quiet.{quiet}
use Rattle.log_model.specs.plain.Step.{folded}
use Rattle.log_model.specs.plain.Stored.{stored, is_log}
use Rattle.log_model.specs.replay.Replay.{replayed}
use Rattle.log_model.specs.replay.ReplayLaws.{as_folded}
use Rattle.log_model.specs.replay.Telling.{told_by_cells}
use Rattle.log_model.proofs.plain.Examples.{offered, does, compacted, tombstone_over_parts, tombstone_over_parts_left, sent_again, expiry, ordinary_use, span}

sent_again_whole : replayed told_by_cells 0 (numbered (stored sent_again)) ≡ as_folded sent_again
sent_again_whole = refl

expiry_whole : replayed told_by_cells 0 (numbered (stored (expiry ++ Expired 11 1 ∷ offered 11 Tick ∷ []))) ≡ as_folded (expiry ++ Expired 11 1 ∷ offered 11 Tick ∷ [])
expiry_whole = refl

ordinary_use_whole : replayed told_by_cells 0 (numbered (stored ordinary_use)) ≡ as_folded ordinary_use
ordinary_use_whole = refl

-- after compactions
tombstone_over_parts_replayed : replayed told_by_cells 9 (compacted (span 1 8) (1 ∷ 2 ∷ []) tombstone_over_parts_left) ≡ as_folded tombstone_over_parts
tombstone_over_parts_replayed = refl

ordinary_use_replayed : (replayed told_by_cells 10 (filter (λ x. not (x.0 == 6)) (numbered (stored (take 15 ordinary_use))))).sessions ≡ (folded (take 15 ordinary_use)).sessions
ordinary_use_replayed = refl

-- a lock that goes from one to the next, and a message, above a cut
abbrev handed_on : List Item
handed_on =
    offered 0 (Register 100) ∷ offered 0 (Register 100) ∷ does 1 1 1 (codes "l") (Create Lock_kind) ∷ does 2 1 2 (codes "l") (Lock 7) ∷ does 3 2 1 (codes "l") (Lock 8) ∷ does 3 2 2 (codes "l") (Lock 9)
    ∷ does 3 1 3 (codes "t") (Create Topic_kind) ∷ does 3 2 3 (codes "t") Listen ∷ offered 4 (Alive 1 3 1) ∷ offered 4 (Alive 2 3 2) ∷ does 5 1 4 (codes "l") (Unlock 7) ∷ does 6 2 4 (codes "l") (Unlock 8) ∷ does 7 1 5 (codes "t") (Publish (codes "hi")) ∷ offered 8 Tick ∷ []

handed_on_admitted : is_log handed_on ≡ true
handed_on_admitted = refl

handed_on_quiet : quiet handed_on ≡ 10
handed_on_quiet = refl

handed_on_replayed : (replayed told_by_cells 10 (numbered (stored handed_on))).sessions ≡ (folded handed_on).sessions
handed_on_replayed = refl
