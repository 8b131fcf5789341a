use Rattle.std.proofs.Common.{◌≡◌, ◌++◌, take, flat_map, string_bytes}
use Rattle.rtps_text.specs.ListText as list_text
use Rattle.rtps_text.proofs.text.list_text.push_matches.Given as goal

abbrev pub invariant-loop-found : goal.invariant-loop-found
invariant-loop-found l = string_bytes l.text ≡ string_bytes l.initial.text ++ flat_map list_text.match_line (take l.found-index l.matches)
