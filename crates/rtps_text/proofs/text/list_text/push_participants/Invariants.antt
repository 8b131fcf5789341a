use Rattle.std.proofs.Common.{◌≡◌, ◌++◌, take, flat_map, string_bytes}
use Rattle.rtps_text.specs.ListText as list_text
use Rattle.rtps_text.proofs.text.list_text.push_participants.Given as goal

abbrev pub invariant-loop-guid : goal.invariant-loop-guid
invariant-loop-guid l = string_bytes l.text ≡ string_bytes l.initial.text ++ flat_map list_text.participant_line (take l.guid-index l.guids)
