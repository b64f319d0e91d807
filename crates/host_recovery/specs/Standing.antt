-- The log that a host stands at, and what its files are.
use Rattle.std.specs.Prelude.{◌≡◌, ◌≤◌, ◌⊎◌, ℕ, Bool, false, List, [], ◌∷◌, ◌++◌, map, IsTrue}
use Rattle.host_types.specs.declared.entry.Entry.{Entry}
use Rattle.host_types.specs.Cells.{Cells}
use Rattle.host_types.specs.Decision.{MachineDecision}
use Rattle.disk_model.specs.Image.{Image}
use Rattle.disk_model.specs.View.{View}
use Rattle.segment_files.specs.Folder.{entries_of}
use Rattle.segment_files.specs.Parse.{Part}
use Rattle.segment_set.specs.declared.parts.Parts.{Parts}
use Rattle.segment_set.specs.Fits.{Fits, IsAlone, IsHeld, cut_of, last_of, parts_in}
use Rattle.log_model.specs.plain.Admission.{Item, Admission, Admitted, Repeats, Refused, Expired, Expiry, Expires, Nobody, Not_now}
use Rattle.log_model.specs.hosted.Hosted.{hosted_folded, hosted_stored}
use Rattle.log_model.specs.cleaning.Layout.{Layout, PartLayout}
use Rattle.host_core.specs.CoreState.{hosted}
use Rattle.host_core.specs.Marking.{TellReleased}
use Rattle.host_recovery.specs.Logs.{AreOf, IsLog, StandsFor, hosted_form}
use Rattle.host_recovery.specs.HostState.{HostState}

-- an image stands for the log without the item or with it
abbrev pub StandsOrGains : MachineDecision → List ℕ → List Item → Item → Image → Type 0
StandsOrGains d name items item image = StandsFor (hosted_form d) name image items ⊎ StandsFor (hosted_form d) name image (items ++ item ∷ [])

-- or, where the item is admitted, without it or with it
abbrev pub StandsOrTakes : MachineDecision → List ℕ → List Item → Item → Admission → Image → Type 0
StandsOrTakes d name items item Admitted image = StandsOrGains d name items item image
StandsOrTakes d name items item (Repeats reply) image = StandsFor (hosted_form d) name image items
StandsOrTakes d name items item (Refused why) image = StandsFor (hosted_form d) name image items

-- or without the end of a session that expires, or with it
abbrev pub StandsOrExpires : MachineDecision → List ℕ → List Item → ℕ → Expiry → Image → Type 0
StandsOrExpires d name items time (Expires session) image = StandsOrGains d name items (Expired time session) image
StandsOrExpires d name items time Nobody image = StandsFor (hosted_form d) name image items
StandsOrExpires d name items time (Not_now why) image = StandsFor (hosted_form d) name image items

abbrev pub part_layout : Part → PartLayout
part_layout p = record { base = p.id.base; last = p.last; present = map (λ (e : ℕ × Entry). e.0) p.entries; cut = p.cut; floor = p.floor; generation = p.id.generation; size = p.size; rewritten = p.rewritten }

-- how the files of a host lie
abbrev pub layout_in : View → Parts → Layout
layout_in v parts = record { parts = map part_layout (parts_in v.reading parts); greatest = parts.greatest }

-- A host stands at a log: it runs, its files hold what is left of the log, so does whatever a crash leaves now, its state is what the log
-- comes to, and from the files' greatest cut on its marks tell what the log has released.
pub record StandsAt {D M : Type 0} (d : MachineDecision) (view : D → View) (cells : M → Cells) (h : HostState D M) (items : List Item) : Type 0 where
  pub runs : h.stopped ≡ false
  pub log : IsLog (hosted_form d) items
  pub of : AreOf (hosted_form d) (parts_in (view h.disk).reading h.parts) items
  pub held : IsHeld (view h.disk) h.parts
  pub state : hosted cells h.core ≡ hosted_folded d items
  pub marks : TellReleased (entries_of (parts_in (view h.disk).reading h.parts)) (hosted_stored d items) (cut_of (parts_in (view h.disk).reading h.parts)) h.core.marks

-- ---- what a host keeps

-- Where it runs, the disk fits what is remembered of the files, no other one is listed, and their last index is that of the core.
pub record IsKept {D M : Type 0} (tells : Bool) (view : D → View) (cells : M → Cells) (h : HostState D M) : Type 0 where
  pub size_first : 2 ≤ h.size
  pub size_last : h.size ≤ 65536
  pub last : h.stopped ≡ false → h.core.last ≡ last_of h.parts
  pub fits : h.stopped ≡ false → IsTrue tells → Fits (view h.disk) h.parts
  pub alone : h.stopped ≡ false → IsTrue tells → IsAlone (view h.disk) h.parts
