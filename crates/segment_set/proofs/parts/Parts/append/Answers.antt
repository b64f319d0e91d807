use Rattle.std.proofs.Common.{◌≡◌, length, Option, Some, ap, ◌∙◌, arith, rules}
use Rattle.segment_set.specs.Fits.{last_of}
use Rattle.segment_set.specs.Joined.{last_index_of}
use Rattle.segment_set.specs.declared.parts.Parts.{Parts}
use Rattle.segment_set.specs.declared.tail.Tail.{Tail}
use Rattle.segment_set.proofs.Beginning.{appends_first, appends_none}
use Rattle.segment_set.proofs.Frames.{some_place}
use Rattle.segment_set.proofs.parts.Parts.append.Goals as goal

pub begin-requires-clause-room : goal.begin-requires-clause-room
begin-requires-clause-room g c = omega (arith, c.requires.room, some_place (last_of c.args.self.now) c.args.frame.now c.args.places.now c.requires.frame)

pub returns-in-Some : goal.returns-in-Some
returns-in-Some g c = c.append_to.ensures c.args.size

-- the tail that was begun ends where the parts ended
begun_last : (old mid : Parts) (tail : Tail) → mid.tail ≡ Some tail → tail.last ≡ last_of old → last_of mid ≡ last_of old
begun_last old mid tail some last = ap (λ (o : Option Tail). last_index_of o mid.sealed.items) some ∙ last

pub returns-in-Ok : goal.returns-in-Ok
returns-in-Ok g c =
    appends_first (g.D.Disk.view c.args.disk.now) (g.D.Disk.view c.begin.new.disk) (g.D.Disk.view c.append_to-in-Ok.new.disk) c.args.self.now c.begin.new.self c.append_to-in-Ok.new.self c.args.frame.now (length c.args.places.now) c.args.size
    c.in-None.is c.requires.least c.in-Ok.ensures.name c.in-Ok.ensures.greatest (begun_last c.args.self.now c.begin.new.self c.in-Ok.tail c.in-Ok.ensures.tail.0 c.in-Ok.ensures.tail.1)
    c.in-Ok.tail c.append_to-in-Ok.result g.D.Disk.tells (g.D.Disk.faults c.args.disk.now) (g.D.Disk.faults c.begin.new.disk) (g.D.Disk.faults c.append_to-in-Ok.new.disk)
    (λ t. c.requires.fits t) c.begin.ensures.cause.later c.in-Ok.ensures.told (c.append_to-in-Ok.ensures c.args.size) c.in-Ok.ensures.tail.0

pub returns-in-Err : goal.returns-in-Err
returns-in-Err g c = record {
  last = tt;
  greatest = tt;
  name = c.begin.ensures.name;
  told = λ t. appends_none (g.D.Disk.view c.args.disk.now) (g.D.Disk.view c.begin.new.disk) c.args.self.now c.begin.new.self c.args.frame.now c.args.size c.in-Err.fault (c.in-Err.ensures.told t);
  cause = search rules;
}
