use Rattle.std.proofs.Common.{◌≡◌, ◌∙◌, ◌+◌, ap, arith, filter, length, sym}
use Rattle.std.proofs.lemmas.Int.{ints}
use Rattle.std.proofs.lemmas.List.{length_push}
use Rattle.std.specs.List.{range_with_len}
use Rattle.rtps_ids.specs.NumberSet as number_set
use Rattle.rtps_page.proofs.ChartLemmas.{member_no, member_yes}
use Rattle.rtps_page.proofs.entry_counts.members_among.Goals as goal
use Rattle.rtps_page.proofs.entry_counts.members_among.Goals.{then-has_number, else-has_number}

pub loop-bit-preserved : goal.loop-bit-preserved
loop-bit-preserved c =
    let set = c.args.set.now in
    let bit = c.loop-bit.bit in
    let few = c.loop-bit.invariant.few in
    let number : c.cast_unsigned-base.result + c.from.result ≡ set.base + bit = omega (arith, ints) in
    let is = ap (number_set.is_member set) (sym number) ∙ sym c.has_number.ensures in
    elim c.if-has_number.branch [
      | then-has_number w ↦ rw (w.count-is) record {
        value = ap (λ n. n + 1) c.loop-bit.invariant.value
            ∙ sym (ap length (member_yes (number_set.is_member set) set.base bit (is ∙ w.if-has_number.true)) ∙ length_push (filter (number_set.is_member set) (range_with_len set.base bit)) (set.base + bit));
        few = omega (arith, few);
      }
      | else-has_number w ↦ rw (w.count-is) record {
        value = c.loop-bit.invariant.value ∙ sym (ap length (member_no (number_set.is_member set) set.base bit (is ∙ w.if-has_number.false)));
        few = omega (arith, few);
      }
    ]
