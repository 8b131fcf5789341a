use Rattle.std.proofs.Common.{◌≡◌, ◌++◌, drop, take, ℕ, List, [], ◌∷◌, ◌/◌, ◌%◌, ◌^◌, refl, ap, ◌∙◌}
use Rattle.std.specs.Int.{cast_unsigned, w64}
use Rattle.std.proofs.lemmas.Int.{to_z-of_z}
use borrow.Rule.Slice.PartMut.{put_mid}
use Rattle.rtps_ids.specs.Octets as octets_spec
use Rattle.rtps_ids.specs.declared.order.Order.{Order}
use Rattle.rtps_ids.proofs.octets.put_number.Goals as goal

-- four octets over the first four, and four over those behind them
both_parts : (order : Order) (high low : ℕ) (first octets : List ℕ) → first ≡ octets_spec.octets_of order 4 high ++ 0 ∷ 0 ∷ 0 ∷ 0 ∷ []
    → octets ≡ octets_spec.octets_of order 4 low ++ drop 4 (take 4 (drop 4 first)) → put_mid 4 4 first octets ≡ octets_spec.octets_of order 4 high ++ octets_spec.octets_of order 4 low
unfolding octets_spec.octets_of
both_parts Order.Big high low first octets one two = rw (two, one) refl
both_parts Order.Little high low first octets one two = rw (two, one) refl

pub returns-clause-ok : goal.returns-clause-ok
unfolding octets_spec.sequence_number_octets
returns-clause-ok c =
    let appended = both_parts c.args.order _ _ _ _ c.write_u32.ensures c.write_u32-2.ensures in
    let bits : c.cast_unsigned-bits.result ≡ cast_unsigned w64 c.args.value =
    c.cast_unsigned-bits.ensures ∙ ap (cast_unsigned w64) (to_z-of_z w64 c.args.value c.ranges.value) in
    c.in_ok-extend_from_slice.ensures.items ∙ ap (λ (l : List ℕ). c.args.out.now.items ++ l) appended
    ∙ ap (λ (n : ℕ). c.args.out.now.items ++ (octets_spec.octets_of c.args.order 4 (n / 2 ^ 32) ++ octets_spec.octets_of c.args.order 4 (n % 2 ^ 32))) bits
