-- For the laws of folders that are in order.
use Rattle.std.proofs.Common.{◌≡◌, ℕ, List, [], ◌∷◌, ◌++◌, length, take, Option, Some, None, refl, sym, ap, ◌∙◌, subst, arith, length-take}
use Rattle.disk_model.specs.declared.file_id.FileId.{FileId}
use Rattle.disk_model.specs.Image.{Image, place}
use Rattle.disk_model.specs.View.{View, EachSettled, IsListed, MayLeave}
use Rattle.segment_files.specs.Folder.{AreParts, Folder, IsChoice, folder, found}
use Rattle.segment_files.specs.Parse.{Closed, Part}
use Rattle.segment_set.proofs.Images.{nothing}
use Rattle.log_model.specs.plain.Admission.{Item}
use Rattle.log_model.specs.plain.Quiet.{quiet}
use Rattle.log_model.proofs.cleaning.Appends.{fresh}
use Rattle.host_recovery.specs.Logs.{HasPrefix, IsInOrder, IsLog, StandsFor, plain_form}
use Rattle.copycat_tool.specs.Runs.{IsInOrderFor}
use Rattle.copycat_tool.proofs.LogLemmas.{logged_front}
use Rattle.copycat_tool.proofs.Prefixes.{all_of}

-- no file has an open gate
no_parts : (files : Folder) → ((id : FileId) → files id ≡ Closed) → IsChoice files []
no_parts files closed = record {
  stand = λ p has. absurd (nothing p has);
  cover = λ id q is. absurd (cc (closed id, is));
  undamaged = λ id at is. cc (closed id, is);
}

-- and so it stands for the empty log
no_log : (name : List ℕ) (image : Image) → ((id : FileId) → folder name image id ≡ Closed) → StandsFor plain_form name image []
no_log name image closed = record {
  parts = [];
  are = record { choice = no_parts (folder name image) closed; tile = refl; ended = λ p f. absurd (none_in f.front p f.back f.are) };
  of = fresh [] (quiet []);
}
  where
    none_in : (front : List Part) (p : Part) (back : List Part) → [] ≡ front ++ p ∷ back → ⊥
    none_in [] p back is = cc is
    none_in (x ∷ front) p back is = cc is

module _ (v : View) (settled : EachSettled v) where
  -- whatever a crash leaves, its files are those that are read
  same_files : (name : List ℕ) (image : Image) → MayLeave v image → folder name image ≡ folder name v.reading
  same_files name image may = λ i id. found id (settled (place name id) (image (place name id)) (may (place name id)) i)

  closed_files : (name : List ℕ) → ((id : FileId) → v.reading (place name id) ≡ None) → (image : Image) → MayLeave v image → (id : FileId) → folder name image id ≡ Closed
  closed_files name none image may id = ap (found id) (settled (place name id) (image (place name id)) (may (place name id)) ∙ none id)

  -- where nothing is listed there is nothing
  unlisted : (name : List ℕ) → ((id : FileId) → IsListed v (place name id) → ⊥) → (id : FileId) → v.reading (place name id) ≡ None
  unlisted name none id = at (v.reading (place name id)) refl
    where
      at : (o : Option (List ℕ)) → v.reading (place name id) ≡ o → v.reading (place name id) ≡ None
      at None is = is
      at (Some bytes) is = absurd (none id (bytes, is))

  pub empty_in_order : (name : List ℕ) → ((id : FileId) → v.reading (place name id) ≡ None) → IsInOrder plain_form v name [] 0
  empty_in_order name none = record {
    log = record { admitted = refl; fits = tt };
    each = λ image may. all_of name [] 0 image (omega arith) (no_log name image (closed_files name none image may));
    empty = λ no image may. no_parts (folder name image) (closed_files name none image may);
  }

  -- what is read stands for a log, and so does whatever a crash leaves
  pub settled_in_order : (name : List ℕ) (log : List Item) → IsLog plain_form log → StandsFor plain_form name v.reading log → IsInOrder plain_form v name log (length log)
  settled_in_order name log logged stands = record {
    log = logged;
    each = λ image may. all_of name log (length log) image (omega arith) (record {
      parts = stands.parts;
      are = subst (λ (f : Folder). AreParts f stands.parts (length log)) (sym (same_files name image may)) stands.are;
      of = stands.of;
    });
    empty = λ no image may. no_parts (folder name image) (closed_files name (unlisted name no) image may);
  }

  pub crashed_in_order : (name : List ℕ) (log : List Item) (least : ℕ) → IsLog plain_form log → HasPrefix plain_form name log least v.reading → IsInOrderFor v name log least
  crashed_in_order name log least logged p = record {
    count = p.count;
    enough = p.enough;
    within = p.within;
    in_order = subst (IsInOrder plain_form v name (take p.count log)) (omega (arith, length-take p.count log, p.within)) (settled_in_order name (take p.count log) (logged_front p.count log logged) p.stands);
  }
