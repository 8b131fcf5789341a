use Rattle.std.proofs.Common.{◌≡◌, ◌*◌, true, take}
use Rattle.std.specs.List.{list_all}
use Rattle.hex.specs.Hex.{is_hex_digit}
use Rattle.rtps_digits.specs.Pairs as pairs
use Rattle.rtps_digits.proofs.decode_vectors.Given as goal

abbrev pub invariant-vectors : goal.invariant-vectors
invariant-vectors l = record {
  found : list_all pairs.is_low l.worst ≡ list_all is_hex_digit (take (32 * l.k) l.digits);
  octets : list_all pairs.is_low l.worst ≡ true → take (16 * l.k) l.octets ≡ pairs.pairs_of (take (32 * l.k) l.digits);
}
