use Rattle.std.proofs.Common.{◌≡◌, ◌+◌, ℕ, List, length, Option, Some, is_none, sym, ap, subst, ◌∙◌, rules}
use Rattle.host_types.specs.declared.entry.Entry.{Entry}
use Rattle.segment_files.specs.Parse.{Part}
use Rattle.segment_set.specs.declared.parts.Parts.{Parts}
use Rattle.segment_set.specs.declared.tail.Tail.{Tail}
use Rattle.segment_set.specs.Advance.{noted}
use Rattle.segment_set.specs.Fits.{ArePlaced, last_of}
use Rattle.segment_set.specs.Growth.{IsFrameFor, frame_size, gained, greatest_after, numbered, with_entries}
use Rattle.segment_set.specs.Joined.{last_index_of}
use Rattle.segment_set.proofs.Advancing.{advanced_last, alone_now, fits_now, front_apart, held_at, held_now, keeps_names, left_pushing, parts_now, still_listed}
use Rattle.segment_set.proofs.Frames.{count_is, places_in, places_rising, some_place}
use Rattle.segment_set.proofs.Images.{whole_plain}
use Rattle.segment_set.proofs.Joining.{tail_apart}
use Rattle.segment_set.proofs.Known.{sealed_parts, tail_fits, tail_has_room, tail_id, with_tail}
use Rattle.segment_set.proofs.PartLists.{gained_with_room}
use Rattle.segment_set.proofs.parts.Parts.append_to.Goals as goal

pub push_frame-requires-clause-fits : goal.push_frame-requires-clause-fits
push_frame-requires-clause-fits g c = λ t. (c.args.self.now.offsets.items, tail_fits (g.D.Disk.view c.args.disk.now) c.args.self.now (c.requires.fits t) c.args.tail c.requires.tail)

-- the next frame is that behind the tail
at_tail : (old : Parts) (tail : Tail) → old.tail ≡ Some tail → last_of old ≡ tail.last
at_tail old tail some = ap (λ (o : Option Tail). last_index_of o old.sealed.items) some

frame_at : (old : Parts) (tail : Tail) → old.tail ≡ Some tail → (frame : List ℕ) (entries : List Entry) → IsFrameFor (last_of old) frame entries → IsFrameFor tail.last frame entries
frame_at old tail some frame entries f = subst (λ (k : ℕ). IsFrameFor k frame entries) (at_tail old tail some) f

same_greatest : (old : Parts) (tail : Tail) → old.tail ≡ Some tail → old.greatest ≡ greatest_after (is_none old.tail) old.greatest
same_greatest old tail some = sym (ap (λ (o : Option Tail). greatest_after (is_none o) old.greatest) some)

pub advance-requires-clause-some : goal.advance-requires-clause-some
advance-requires-clause-some g c = some_place c.args.tail.last c.args.frame.now c.args.places.now c.requires.frame

pub advance-requires-clause-rise : goal.advance-requires-clause-rise
advance-requires-clause-rise g c = places_rising c.args.tail.last c.args.frame.now c.args.places.now c.requires.frame

pub advance-requires-clause-within : goal.advance-requires-clause-within
advance-requires-clause-within g c = places_in c.args.tail.last c.args.frame.now c.args.places.now c.requires.frame c.args.tail.gate c.in-Ok.gate c.in-Ok.ensures.longer.0

pub push_frame-requires-clause-frame : goal.push_frame-requires-clause-frame
push_frame-requires-clause-frame g c = (c.requires.frame.0, c.requires.frame.1)

pub returns-in-Ok : goal.returns-in-Ok
returns-in-Ok g c = λ size.
    let v = g.D.Disk.view c.args.disk.now in
    let w = g.D.Disk.view c.push_frame.new.disk in
    let old = c.args.self.now in
    let new = c.advance.new.self in
    let tail = c.args.tail in
    let some = c.requires.tail in
    let gate = c.in-Ok.gate in
    let a = c.advance.ensures in
    let entries = c.requires.frame.0 in
    let next = c.requires.frame.1 in
    let places = c.args.places.now in
    let apart = tail_apart old tail some in
    record {
      last = advanced_last old new tail gate places a ∙ ap (λ (k : ℕ). k + length places) (sym (at_tail old tail some));
      greatest = a.greatest ∙ same_greatest old tail some;
      name = a.name;
      told = λ t.
          let fits = c.requires.fits t in
          let tf = tail_fits v old fits tail some in
          let at = c.in-Ok.ensures.grown t tf.part entries tf.at.whole next in
          let placed = subst (λ (l : List ℕ). ArePlaced w old.name tail.id (with_entries tf.part entries) (noted old.offsets.items tail l)) (sym c.requires.frame.2) (c.in-Ok.ensures.placed t tf.part entries old.offsets.items tf.at.whole next tf.placed) in
          let many = ap (λ (k : ℕ). tail.last + k) (sym (count_is tail.last c.args.frame.now places c.requires.frame)) in
          let keeps = c.push_frame.ensures.others t in
          let plain = whole_plain old.name v.reading tail.id tf.part tf.at.whole tf.at.plain in
          record {
            fits = fits_now v old fits tail some apart w keeps new gate places a (with_entries tf.part entries) (tail.last + length entries) at many placed (tail_id v old fits tail some) tf.at.plain plain.cut plain.floor;
            parts = λ one f.
                let now = c.in-Ok.ensures.grown t tf.part one tf.at.whole (frame_at old tail some c.args.frame.now one f) in
                parts_now v old fits tail some apart w keeps new gate places a (with_entries tf.part one) (tail.last + length one) now
                ∙ sym (gained_with_room size old.greatest (sealed_parts v old fits) tf.part one (tail_has_room v old fits tail some))
                ∙ ap (λ (l : List Part). gained size old.greatest l one) (sym (with_tail v old fits tail some));
            alone = alone_now v old fits tail some apart w keeps new gate places a (with_entries tf.part entries) (tail.last + length entries) at;
            held = λ held. held_now v old fits tail some apart w keeps new gate places a (with_entries tf.part entries) (tail.last + length entries) at
                (c.in-Ok.ensures.held t (sealed_parts v old fits) tf.part entries tf.at.whole next (front_apart v old fits tail some apart) (held_at v old fits tail some apart held));
            any_moment = λ held one f. left_pushing v old fits tail some apart w size one
                (c.push_frame.ensures.any_moment t (sealed_parts v old fits) tf.part one tf.at.whole (frame_at old tail some c.args.frame.now one f) (front_apart v old fits tail some apart) (held_at v old fits tail some apart held));
            empty = λ held none. absurd (none tail.id (still_listed v old fits tail some apart w (numbered tf.part.last entries) (frame_size (numbered tf.part.last entries)) (g.met.D.Disk.sound c.push_frame.new.disk t)
                (c.push_frame.ensures.any_moment t (sealed_parts v old fits) tf.part entries tf.at.whole next (front_apart v old fits tail some apart) (held_at v old fits tail some apart held))));
            others = keeps_names v w old.name tail.id keeps;
          };
      cause = search rules;
    }

pub returns-in-Err : goal.returns-in-Err
returns-in-Err g c = λ size.
    let v = g.D.Disk.view c.args.disk.now in
    let w = g.D.Disk.view c.push_frame.new.disk in
    let old = c.args.self.now in
    let tail = c.args.tail in
    let some = c.requires.tail in
    let entries = c.requires.frame.0 in
    let next = c.requires.frame.1 in
    let apart = tail_apart old tail some in
    record {
      last = tt;
      greatest = tt;
      name = search rules;
      told = λ t.
          let fits = c.requires.fits t in
          let tf = tail_fits v old fits tail some in
          record {
            fits = tt;
            parts = tt;
            alone = tt;
            held = tt;
            any_moment = λ held one f. left_pushing v old fits tail some apart w size one
                (c.push_frame.ensures.any_moment t (sealed_parts v old fits) tf.part one tf.at.whole (frame_at old tail some c.args.frame.now one f) (front_apart v old fits tail some apart) (held_at v old fits tail some apart held));
            empty = λ held none. absurd (none tail.id (still_listed v old fits tail some apart w (numbered tf.part.last entries) (frame_size (numbered tf.part.last entries)) (g.met.D.Disk.sound c.push_frame.new.disk t)
                (c.push_frame.ensures.any_moment t (sealed_parts v old fits) tf.part entries tf.at.whole next (front_apart v old fits tail some apart) (held_at v old fits tail some apart held))));
            others = keeps_names v w old.name tail.id (c.push_frame.ensures.others t);
          };
      cause = search rules;
    }
