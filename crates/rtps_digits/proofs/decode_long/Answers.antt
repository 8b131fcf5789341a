use Rattle.std.proofs.Common.{◌≡◌, ◌-◌, ◌*◌, ◌/◌, ◌&&◌, ◌++◌, Bool, ℕ, length, take, drop, sym, ap, ◌∙◌, arith}
use Rattle.std.specs.List.{list_all}
use Rattle.hex.specs.Hex.{is_hex_digit}
use Rattle.rtps_digits.specs.Pairs as pairs
use Rattle.rtps_digits.proofs.Decoding.{found_parts, octets_parts}
use Rattle.rtps_digits.proofs.decode_long.Goals as goal

pub returns-then-found-clause-found : goal.returns-then-found-clause-found
returns-then-found-clause-found c =
    let s = c.args.digits.now in
    let first = sym c.decode_vectors-found.ensures.found ∙ c.if-found.true in
    let parts = found_parts s (length s - 32) (32 * (length c.args.octets.now / 16)) (omega arith) (omega arith) in
    c.decode_last-found_last.ensures.found ∙ sym (ap (λ (b : Bool). b && list_all is_hex_digit (drop (length s - 32) s)) first) ∙ parts

pub returns-else-found-clause-found : goal.returns-else-found-clause-found
returns-else-found-clause-found c =
    let s = c.args.digits.now in
    let first = sym c.decode_vectors-found.ensures.found ∙ c.if-found.false in
    let parts = found_parts s (length s - 32) (32 * (length c.args.octets.now / 16)) (omega arith) (omega arith) in
    c.if-found.false ∙ sym (ap (λ (b : Bool). b && list_all is_hex_digit (drop (length s - 32) s)) first) ∙ parts

pub returns-then-found-clause-octets : goal.returns-then-found-clause-octets
returns-then-found-clause-octets c ok =
    let s = c.args.digits.now in
    let k = length c.decode_vectors-found.new.octets - 16 in
    let place : length s - 32 ≡ 2 * k = omega arith in
    let found = sym (returns-then-found-clause-found c) ∙ ok in
    c.decode_last-found_last.ensures.octets ok
    ∙ ap (λ (n : ℕ). take k c.decode_vectors-found.new.octets ++ pairs.pairs_of (drop n s)) place
    ∙ octets_parts s c.decode_vectors-found.new.octets k (16 * (length c.args.octets.now / 16)) (32 * (length c.args.octets.now / 16)) (omega arith) (omega arith) (omega arith) (omega arith) found
    (c.decode_vectors-found.ensures.octets c.if-found.true)
