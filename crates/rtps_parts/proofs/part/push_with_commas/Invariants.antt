use Rattle.std.proofs.Common.{◌≡◌, ◌++◌, length}
use Rattle.std.specs.String.{string_bytes}
use Rattle.std.specs.Str.{IsAscii}
use Rattle.rtps_parts.specs.Parts as parts
use Rattle.rtps_parts.proofs.part.push_with_commas.Given as goal

abbrev pub invariant-digits : goal.invariant-digits
invariant-digits l = record {
  ascii : IsAscii l.rest;
  same : string_bytes l.text ++ parts.with_commas l.rest ≡ string_bytes l.initial.text ++ parts.with_commas l.fn.digits;
}

abbrev pub decreases-digits : goal.decreases-digits
decreases-digits l = length l.rest
