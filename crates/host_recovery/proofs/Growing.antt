-- A host that stands at a log, and an item more.
use Rattle.std.proofs.Common.{◌≡◌, inl, inr, ⊎_elim, ℕ, ◌+◌, ◌≤◌, ◌<◌, nat_le, nat_lt, Bool, cond, None, Some, arith, false, IsTrue, Ok, List, [], ◌∷◌, ◌++◌, length, refl, sym, ap, subst, ◌∙◌}
use Rattle.std.proofs.lemmas.Bool.{and_from}
use Rattle.std.proofs.lemmas.Bool.Decides.{nat_tests}
use Rattle.host_types.specs.Cells.{Cells}
use Rattle.host_types.specs.Decision.{MachineDecision, MachineIsLawful}
use Rattle.host_types.specs.Ranges.{EntryFits, IsInRange}
use Rattle.host_types.specs.declared.entry.Body.{Body}
use Rattle.host_types.specs.declared.entry.Body.TheVariants as bodies
use Rattle.host_types.specs.declared.entry.Entry.{Entry}
use Rattle.host_types.specs.declared.entry.Refusal.{Refusal}
use Rattle.host_types.specs.declared.entry.Refusal.TheVariants.{Time, LogEnd}
use Rattle.host_types.specs.Limits.{index_limit}
use Rattle.std.specs.Cmp.{nat_eq_equiv}
use Rattle.std.specs.FinMap.{insert}
use Rattle.disk_model.specs.Image.{Image}
use Rattle.disk_model.specs.View.{View, IsSound as IsDiskSound, LeavesOnly, MayLeave}
use Rattle.disk_model.proofs.Moments.{started, weaker}
use Rattle.host_types.specs.declared.entry.Offer.{Offer}
use Rattle.segment_files.specs.Folder.{entries_of}
use Rattle.segment_files.specs.Parse.{Part}
use Rattle.segment_set.specs.declared.parts.Parts.{Parts}
use Rattle.segment_set.specs.Fits.{IsHeld, cut_of, last_of, parts_in}
use Rattle.segment_set.specs.Growth.{HasOrGains, gained}
use Rattle.log_model.specs.plain.Admission.{Item, Expired, Expiry, Expires, Nobody, Not_now, Offered, due_in, expires_due, Admission, Admitted, Repeats, Refused, first_refusal}
use Rattle.log_model.specs.plain.Fitting.{ItemFits, ItemsFit}
use Rattle.log_model.specs.hosted.Hosted.{Hosted, hosted_admits, hosted_expires, hosted_entry, hosted_folded, hosted_stored, hosted_told, is_hosted_admitted, is_hosted_log}
use Rattle.log_model.specs.replay.Replay.{replay_entry}
use Rattle.log_model.specs.hosted.Sound.{IsSound}
use Rattle.log_model.specs.plain.Stored.{is_admission, is_expiry_of}
use Rattle.log_model.proofs.hosted.HostedLogs.{grown, whole}
use Rattle.log_model.proofs.hosted.OfMachines.{admitted_in_range, logs_sound, step_is_replay}
use Rattle.host_core.specs.CoreState.{hosted}
use Rattle.host_core.specs.Marking.{AreMarked, HasMarks, TellReleased}
use Rattle.host_recovery.specs.HostState.{HostState}
use Rattle.host_recovery.specs.Logs.{AreOf, StandsFor, hosted_form}
use Rattle.host_recovery.specs.Standing.{IsKept, StandsAt, StandsOrExpires, StandsOrGains, StandsOrTakes}
use Rattle.host_recovery.specs.Answers.{OnAnswer, admits_file, admits_stored, answer_of, expiry_stored, if_filed}
use Rattle.host_recovery.specs.declared.answers.Answer.{Answer}
use Rattle.host_recovery.proofs.Files.{marks_gained, of_gained, parts_whole, stands, stands_begun, stands_gained}
use Rattle.host_recovery.proofs.Lengthening.{AreWhole}

fit_more : (items : List Item) (item : Item) → ItemsFit items → ItemFits item → ItemsFit (items ++ item ∷ [])
fit_more [] item fit here = (here, tt)
fit_more (x ∷ items) item fit here = (fit.0, fit_more items item fit.1 here)

-- the files stand end to end up to the log's last index
pub whole_at : {D M : Type 0} (d : MachineDecision) (tells : Bool) (view : D → View) (cells : M → Cells) (h : HostState D M) (items : List Item) → IsKept tells view cells h → IsTrue tells → StandsAt d view cells h items
    → AreWhole (parts_in (view h.disk).reading h.parts) (length items)
whole_at d tells view cells h items kept t at =
    let last : last_of h.parts ≡ length items = sym (kept.last at.runs) ∙ ap (λ (s : Hosted). s.last) at.state ∙ (whole d items).last in
    subst (AreWhole (parts_in (view h.disk).reading h.parts)) last (parts_whole (view h.disk) h.parts (kept.fits at.runs t))

module _ {D M : Type 0} (d : MachineDecision) (tells : Bool) (view : D → View) (cells : M → Cells) (old : HostState D M) (items : List Item) (item : Item) (entry : Entry) (kept : IsKept tells view cells old) (t : IsTrue tells) where
  abbrev ps : List Part
  ps = parts_in (view old.disk).reading old.parts

  of_log : StandsAt d view cells old items → entry ≡ hosted_entry d (hosted cells old.core) item → entry ≡ hosted_entry d (hosted_folded d items) item
  of_log at is = is ∙ ap (λ (s : Hosted). hosted_entry d s item) at.state

  -- with the item it stands at the log with the item
  pub stands_more : (new : HostState D M) → MachineIsLawful d → StandsAt d view cells old items → ItemFits item → IsTrue (is_hosted_admitted d (hosted cells old.core) item)
      → entry ≡ hosted_entry d (hosted cells old.core) item → new.stopped ≡ false
      → hosted cells new.core ≡ replay_entry (hosted_told d) 0 (hosted cells old.core) ((hosted cells old.core).last + 1, entry)
      → parts_in (view new.disk).reading new.parts ≡ gained old.size old.parts.greatest (parts_in (view old.disk).reading old.parts) (entry ∷ []) → IsHeld (view new.disk) new.parts
      → HasMarks old.core.last (hosted cells old.core).cells old.core.marks
      → AreMarked ((hosted cells old.core).last + 1) (hosted cells old.core).cells (hosted cells new.core).cells (insert old.core.marks ((hosted cells old.core).last + 1) None) new.core.marks
      → StandsAt d view cells new (items ++ item ∷ [])
  stands_more new lawful at fit admitted is runs state parts held has step =
      let g = grown d items item in
      let f : Hosted = hosted_folded d items in
      let ok : IsTrue (is_hosted_admitted d f item) = subst (λ (s : Hosted). IsTrue (is_hosted_admitted d s item)) at.state admitted in
      let sound = logs_sound d items lawful at.log.fits at.log.admitted in
      record {
        runs = runs;
        log = record {
          admitted = subst IsTrue (sym g.log) (and_from (is_hosted_log d items) (is_hosted_admitted d f item) at.log.admitted ok);
          fits = fit_more items item at.log.fits fit;
        };
        of = subst (λ (l : List Part). AreOf (hosted_form d) l (items ++ item ∷ [])) (sym parts) (of_gained d items item entry old.size old.parts.greatest ps kept.size_first (whole_at d tells view cells old items kept t at) at.of (of_log at is));
        held = held;
        state = state
            ∙ (λ i. replay_entry (hosted_told d) 0 (at.state i) ((at.state i).last + 1, (is ∙ ap (λ (s : Hosted). hosted_entry d s item) at.state) i))
            ∙ sym (step_is_replay d f item sound.sound sound.acks_are_past ok)
            ∙ sym g.folded;
        marks = subst (λ (l : List Part). TellReleased (entries_of l) (hosted_stored d (items ++ item ∷ [])) (cut_of l) new.core.marks) (sym parts)
            (marks_gained d items item entry old.size old.parts.greatest ps kept.size_first (whole_at d tells view cells old items kept t at) at.of (of_log at is)
            (hosted cells old.core) (hosted cells new.core) old.core.marks new.core.marks at.state (ap (λ (s : Hosted). s.cells) state) at.marks has step);
      }

  -- what a crash leaves while the entry is stored stands for the log without the item or with it
  pub leaves_more : (w : View) → StandsAt d view cells old items → entry ≡ hosted_entry d (hosted cells old.core) item
      → LeavesOnly (view old.disk) w (HasOrGains old.parts.name old.size old.parts.greatest (parts_in (view old.disk).reading old.parts) (entry ∷ [])) → LeavesOnly (view old.disk) w (StandsOrGains d old.parts.name items item)
  leaves_more w at is only =
      weaker (view old.disk) w (HasOrGains old.parts.name old.size old.parts.greatest ps (entry ∷ [])) (StandsOrGains d old.parts.name items item) only
      (λ c has. ⊎_elim
      (λ same. inl (stands d old.parts.name c items ps (length items) same (whole_at d tells view cells old items kept t at) refl at.of))
      (λ rest. ⊎_elim
      (λ begun. inl (stands_begun d items item entry old.size old.parts.greatest ps kept.size_first (whole_at d tells view cells old items kept t at) at.of old.parts.name c begun))
      (λ more. inr (stands_gained d items item entry old.size old.parts.greatest ps kept.size_first (whole_at d tells view cells old items kept t at) at.of (of_log at is) old.parts.name c more))
      rest)
      has)

-- what a crash leaves of a host where nothing is done
pub stands_for : {D M : Type 0} (d : MachineDecision) (view : D → View) (cells : M → Cells) (h : HostState D M) (items : List Item) → StandsAt d view cells h items
    → AreWhole (parts_in (view h.disk).reading h.parts) (length items) → (c : Image) → MayLeave (view h.disk) c → StandsFor (hosted_form d) h.parts.name c items
stands_for d view cells h items at whole c may = stands d h.parts.name c items (parts_in (view h.disk).reading h.parts) (length items) (at.held c may) whole refl at.of

module _ {D M : Type 0} (d : MachineDecision) (view : D → View) (cells : M → Cells) (h : HostState D M) (items : List Item) (item : Item) where
  none_taken : (admission : Admission) (c : Image) → StandsFor (hosted_form d) h.parts.name c items → StandsOrTakes d h.parts.name items item admission c
  none_taken Admitted c stands = inl stands
  none_taken (Repeats reply) c stands = stands
  none_taken (Refused why) c stands = stands

  -- a log that is left alone stays, whatever is offered
  pub stays_untaken : (admission : Admission) → IsDiskSound (view h.disk) → StandsAt d view cells h items → AreWhole (parts_in (view h.disk).reading h.parts) (length items)
      → LeavesOnly (view h.disk) (view h.disk) (StandsOrTakes d h.parts.name items item admission)
  stays_untaken admission sound at fits =
      started (view h.disk) (StandsOrTakes d h.parts.name items item admission) sound (λ c may. none_taken admission c (stands_for d view cells h items at fits c may))

-- ---- refusals

pub by_state : (a : Admission) (parts : Parts) (why : Refusal) → a ≡ Refused why → admits_stored a parts ≡ Refused why
by_state a parts why is = ap (λ (x : Admission). admits_stored x parts) is

alone : (a : Admission) → first_refusal (a ∷ []) ≡ a
alone Admitted = refl
alone (Repeats reply) = refl
alone (Refused why) = refl

-- who expires by the state does so where the files take the entry
pub expires_by : (e : Expiry) (parts : Parts) (session : ℕ) → e ≡ Expires session → admits_file parts ≡ Admitted → expiry_stored e parts ≡ Expires session
expires_by e parts session is files = ap (λ (x : Expiry). expiry_stored x parts) is ∙ ap (λ (a : Admission). if_filed a session) files

pub by_files : (a b : Admission) (parts : Parts) → a ≡ Admitted → admits_file parts ≡ b → admits_stored a parts ≡ b
by_files a b parts is files = ap (λ (x : Admission). admits_stored x parts) is ∙ ap (λ (x : Admission). first_refusal (x ∷ [])) files ∙ alone b

-- ---- what is admitted is in range

pub item_in_range : (d : MachineDecision) (s : Hosted) (item : Item) (entry : Entry) → MachineIsLawful d → IsSound s → ItemFits item → IsTrue (is_hosted_admitted d s item) → entry ≡ hosted_entry d s item
    → EntryFits entry × IsInRange (s.last + 1) entry
item_in_range d s item entry lawful sound fit ok is = subst (λ (e : Entry). EntryFits e × IsInRange (s.last + 1) e) (sym is) (admitted_in_range d s item lawful sound fit ok)

-- an offer that is admitted
pub offer_admitted : (d : MachineDecision) (s : Hosted) (o : Offer) → hosted_admits d s o ≡ Admitted → IsTrue (is_hosted_admitted d s (Offered o))
offer_admitted d s o is = ap is_admission is

-- ---- the answer to what was stored

not_repeated : (index : ℕ) (body : Body) (X Y : Type 0) → Y → OnAnswer (Ok (answer_of index body)) X Y
not_repeated index (bodies.Register timeout) X Y y = y
not_repeated index (bodies.Alive session seq event) X Y y = y
not_repeated index (bodies.Close session expired) X Y y = y
not_repeated index bodies.Tick X Y y = y
not_repeated index (bodies.Command session seq effect reply) X Y y = y

-- it is no repeat
pub answered : (index : ℕ) (body : Body) (answer : Answer) (X Y : Type 0) → answer ≡ answer_of index body → Y → OnAnswer (Ok answer) X Y
answered index body answer X Y is y = subst (λ (a : Answer). OnAnswer (Ok a) X Y) (sym is) (not_repeated index body X Y y)

-- ---- who expires

-- the due session with the least id does, where the time isn't early and the log goes on
pub expires_so : (s : Hosted) (time session : ℕ) → s.now ≤ time → due_in time s.sessions ≡ Some session → s.last < index_limit → hosted_expires s time ≡ Expires session
expires_so s time session late due short =
    ap (λ (b : Bool). cond b (Not_now (Time s.now)) (expires_due s.last (due_in time s.sessions))) (not_below time s.now late)
    ∙ ap (expires_due s.last) due
    ∙ ap (λ (b : Bool). cond b (Not_now LogEnd) (Expires session)) (not_within index_limit s.last short)
  where
    not_below : (a b : ℕ) → b ≤ a → nat_lt a b ≡ false
    not_below a b le = grind (arith, nat_tests)

    not_within : (a b : ℕ) → b < a → nat_le a b ≡ false
    not_within a b lt = grind (arith, nat_tests)

pub expiry_admitted : (d : MachineDecision) (s : Hosted) (time session : ℕ) → hosted_expires s time ≡ Expires session → IsTrue (is_hosted_admitted d s (Expired time session))
expiry_admitted d s time session is = ap (is_expiry_of session) is ∙ nat_eq_equiv.refl session

module _ {D M : Type 0} (d : MachineDecision) (view : D → View) (cells : M → Cells) (h : HostState D M) (items : List Item) (time : ℕ) where
  none_expired : (expiry : Expiry) (c : Image) → StandsFor (hosted_form d) h.parts.name c items → StandsOrExpires d h.parts.name items time expiry c
  none_expired (Expires session) c stands = inl stands
  none_expired Nobody c stands = stands
  none_expired (Not_now why) c stands = stands

  -- a log that is left alone stays, whoever is due
  pub stays_unexpired : (expiry : Expiry) → IsDiskSound (view h.disk) → StandsAt d view cells h items → AreWhole (parts_in (view h.disk).reading h.parts) (length items)
      → LeavesOnly (view h.disk) (view h.disk) (StandsOrExpires d h.parts.name items time expiry)
  stays_unexpired expiry sound at fits =
      started (view h.disk) (StandsOrExpires d h.parts.name items time expiry) sound (λ c may. none_expired expiry c (stands_for d view cells h items at fits c may))
