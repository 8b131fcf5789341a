-- Who asks for a number.
use Rattle.std.proofs.Common.{◌≡◌, true, rules}
use Rattle.rtps_ids.specs.declared.identity.Guid.{Guid}
use Rattle.rtps_receiver.specs.Speech as speech
use Rattle.rtps_audit.specs.Placed as placed_spec

pub requester_is_origin : (reader writer : Guid) (placed : placed_spec.PlacedValue) → speech.is_request placed.act reader writer ≡ true → placed_spec.is_from reader placed ≡ true
requester_is_origin reader writer placed e = search rules
