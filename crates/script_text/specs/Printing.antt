-- The text of each printed line, without its line feed.
use Rattle.std.specs.Prelude.{ℕ, ◌+◌, ◌-◌, ◌≤◌, if◌then◌else◌, List, [], ◌∷◌, ◌++◌, codes}
use Rattle.std.specs.List.{flat_map}
use Rattle.std.specs.Fmt.{decimal, signed_decimal}
use Rattle.host_types.specs.Limits.{index_limit}
use Rattle.host_types.specs.declared.entry.Reply as replies
use Rattle.host_types.specs.declared.entry.Reply.TheVariants as reply
use Rattle.host_types.specs.declared.entry.Event as events
use Rattle.host_types.specs.declared.entry.Event.TheVariants.{Message, Granted, Joined, Left}
use Rattle.host_types.specs.declared.entry.Refusal as refusals
use Rattle.host_types.specs.declared.entry.Refusal.TheVariants.{Time, Due, NoSession, Forgotten, Gap, Ack, NoName, Kind, Sessions, Names, Range, LogEnd, GenEnd}
use Rattle.script_text.specs.Kinds.{kind_word}
use Rattle.script_text.specs.declared.printed.Printed as printed
use Rattle.script_text.specs.declared.printed.Printed.TheVariants.{Opened, Expired, Session, Done, Replied, Repeat, Answer, Event, Nothing, Missed, Global, Minor, Major, Part, Total, Quiet, Made, Follow, Refused, Falls, Past, Busy, NoSegment, Idle}

-- a space in front
abbrev pub spaced : List ℕ → List ℕ
spaced text = 32 ∷ text

abbrev pub reply_text : replies.Reply → List ℕ
reply_text reply.None = codes "none"
reply_text (reply.Text word) = codes "text " ++ word
reply_text (reply.Number z) = codes "number " ++ signed_decimal z
reply_text (reply.Truth truth) = if truth then codes "true" else codes "false"
reply_text (reply.Index index) = codes "index " ++ decimal index
reply_text (reply.Holder session id) = codes "holder " ++ decimal session ++ codes " " ++ decimal id
reply_text (reply.Words words) = codes "words" ++ flat_map spaced words
reply_text (reply.Indexes indexes) = codes "indexes" ++ flat_map (λ index. spaced (decimal index)) indexes

abbrev pub event_text : events.Event → List ℕ
event_text (Message name word) = codes "message " ++ name ++ codes " " ++ word
event_text (Granted name id) = codes "granted " ++ name ++ codes " " ++ decimal id
event_text (Joined name member) = codes "joined " ++ name ++ codes " " ++ decimal member
event_text (Left name member) = codes "left " ++ name ++ codes " " ++ decimal member

abbrev pub refusal_text : refusals.Refusal → List ℕ
refusal_text (Time now) = codes "refused time " ++ decimal now
refusal_text (Due session) = codes "refused due " ++ decimal session
refusal_text (NoSession session) = codes "refused no session " ++ decimal session
refusal_text (Forgotten acked) = codes "refused forgotten " ++ decimal acked
refusal_text (Gap next) = codes "refused gap " ++ decimal next
refusal_text (Ack seq event) = codes "refused ack " ++ decimal seq ++ codes " " ++ decimal event
refusal_text NoName = codes "refused no name"
refusal_text (Kind is) = codes "refused kind " ++ kind_word is
refusal_text Sessions = codes "refused sessions"
refusal_text Names = codes "refused names"
refusal_text (Range value) = codes "refused range " ++ signed_decimal value
refusal_text LogEnd = codes "refused log end"
refusal_text (GenEnd generation) = codes "refused gen end"

-- a range of indexes, how many present entries it has, and of how many indexes
abbrev pub range_text : ℕ → ℕ → ℕ → List ℕ
range_text base last kept = decimal base ++ codes ".." ++ decimal last ++ codes " kept " ++ decimal kept ++ codes " of " ++ decimal (last + 1 - base)

abbrev pub printed_text : printed.Printed → List ℕ
printed_text (Opened last) = codes "open " ++ decimal last
printed_text (Expired index session) = decimal index ++ codes " expired " ++ decimal session
printed_text (Session index) = decimal index ++ codes " session " ++ decimal index
printed_text (Done index) = decimal index ++ codes " ok"
printed_text (Replied index reply) = decimal index ++ codes " " ++ reply_text reply
printed_text (Repeat reply) = codes "repeat " ++ reply_text reply
printed_text (Answer reply) = codes "answer " ++ reply_text reply
printed_text (Event session index previous event) = codes "event " ++ decimal session ++ codes " at " ++ decimal index ++ codes " after " ++ decimal previous ++ codes ": " ++ event_text event
printed_text (Nothing session) = codes "none " ++ decimal session
printed_text (Missed session last after) = codes "missed " ++ decimal session ++ codes " last " ++ decimal last ++ codes " after " ++ decimal after
printed_text (Global index) = codes "global " ++ decimal index
printed_text (Minor base last kept cut) = codes "minor " ++ range_text base last kept ++ codes " cut " ++ decimal cut
printed_text (Major base last kept cut floor) = codes "major " ++ range_text base last kept ++ codes " cut " ++ decimal cut ++ codes " floor " ++ decimal floor
printed_text (Part base last kept cut floor) = codes "part " ++ range_text base last kept ++ codes " cut " ++ decimal cut ++ codes " floor " ++ decimal floor
printed_text (Total kept count) = codes "total kept " ++ decimal kept ++ codes " of " ++ decimal count
printed_text (Quiet index) = codes "quiet " ++ decimal index
printed_text (Made lines stored refused kept count) = codes "made " ++ decimal lines ++ codes " lines, stored " ++ decimal stored ++ codes ", refused " ++ decimal refused ++ codes ", kept " ++ decimal kept ++ codes " of " ++ decimal count
printed_text (Follow from to sent) = codes "follow " ++ decimal from ++ codes " to " ++ decimal to ++ codes " sent " ++ decimal sent
printed_text (Refused refusal) = refusal_text refusal
printed_text (Falls now) = codes "refused falls " ++ decimal now
printed_text (Past last) = codes "refused past " ++ decimal last
printed_text (Busy generation) = codes "refused busy " ++ decimal generation
printed_text (NoSegment base) = codes "refused no segment " ++ decimal base
printed_text Idle = codes "refused idle"

-- what stands before a reply or an event, or else all of the text
abbrev pub front_text : printed.Printed → List ℕ
front_text (Replied index reply) = decimal index ++ codes " "
front_text (Repeat reply) = codes "repeat "
front_text (Answer reply) = codes "answer "
front_text (Event session index previous event) = codes "event " ++ decimal session ++ codes " at " ++ decimal index ++ codes " after " ++ decimal previous ++ codes ": "
front_text answer = printed_text answer

-- what stands behind that: the reply, the event, or nothing
abbrev pub back_text : printed.Printed → List ℕ
back_text (Replied index reply) = reply_text reply
back_text (Repeat reply) = reply_text reply
back_text (Answer reply) = reply_text reply
back_text (Event session index previous event) = event_text event
back_text answer = []

-- 10 is a line feed
abbrev pub printed_line : printed.Printed → List ℕ
printed_line answer = printed_text answer ++ 10 ∷ []

-- From base to last stand the indexes of a part, or none.
abbrev pub IsRange : ℕ → ℕ → Type 0
IsRange base last = (1 ≤ base) × (base ≤ last + 1) × (last ≤ index_limit)

abbrev pub HasRange : printed.Printed → Type 0
HasRange (Minor base last kept cut) = IsRange base last
HasRange (Major base last kept cut floor) = IsRange base last
HasRange (Part base last kept cut floor) = IsRange base last
HasRange answer = Unit {0}
