-- To which readers an act of a writer is sent, and the order of audiences. DDSI-RTPS 2.5, 8.3.4 "The RTPS Message
-- Receiver". own: the standard gives audiences no order, and a map needs one.
use Rattle.std.specs.Option.{option_cmp}
use Rattle.std.specs.Prelude.{Option, Some, None}
use Rattle.std.specs.Cmp.Lexicographic.{slice_cmp}
use Rattle.std.specs.Ordering.{nat_cmp, ordering_then}
use Rattle.std.specs.declared.cmp.Ordering.{Ordering}
use Rattle.rtps_ids.specs.declared.identity.EntityId.{EntityId}
use Rattle.rtps_ids.specs.declared.identity.GuidPrefix.{GuidPrefix}
use Rattle.rtps_receiver.specs.Speech as speech
use Rattle.rtps_receiver.specs.Values as values
use Rattle.rtps_receiver.specs.declared.speech.Audience.{Audience}

-- the order of two audiences: by destination, everyone first, and then by reader
abbrev pub audience_cmp : Audience → Audience → Ordering
audience_cmp a b = ordering_then (option_cmp (λ x y. slice_cmp nat_cmp x.0 y.0) a.dest b.dest) (slice_cmp nat_cmp a.reader.0 b.reader.0)

-- the audience with this destination and this reader; None if no reader is named
abbrev pub audience_at : Option GuidPrefix → Option EntityId → Option Audience
audience_at dest (Some reader) = Some (record { dest = dest; reader = reader })
audience_at dest None = None

-- the readers that an act of a writer is sent to; an ACKNACK and a NACK_FRAG have none
abbrev pub audience_of : values.ActValue → Option Audience
audience_of act = audience_at act.dest (speech.reader_named act.body)
