use Rattle.std.proofs.Common.{◌≡◌, ◌∙◌, ◌+◌, ◌++◌, List, ℕ, ap, arith, filter, flat_map, sym}
use Rattle.std.proofs.lemmas.Int.{ints}
use Rattle.std.proofs.lemmas.List.{flat_map_more}
use Rattle.std.specs.List.{range_with_len}
use Rattle.rtps_ids.specs.NumberSet as number_set
use Rattle.rtps_page.proofs.ChartLemmas.{member_no, member_yes}
use Rattle.rtps_page.proofs.Written.{Token, count_json, json_tokens}
use Rattle.rtps_page.proofs.chart_answers.push_numbers.Goals as goal
use Rattle.rtps_page.proofs.chart_answers.push_numbers.Goals.{then-has_number+in_ok-u64, else-has_number}

pub loop-bit-preserved : goal.loop-bit-preserved
loop-bit-preserved c =
    let set = c.args.set.now in
    let bit = c.loop-bit.bit in
    let start : List Token = c.args.writer.now.tokens in
    let so_far = filter (number_set.is_member set) (range_with_len set.base bit) in
    let said : ℕ → List Token = λ number. json_tokens (count_json number) in
    let number : c.cast_unsigned-base.result + c.from.result ≡ set.base + bit = omega (arith, ints) in
    let is = ap (number_set.is_member set) (sym number) ∙ sym c.has_number.ensures in
    elim c.if-has_number.branch [
      | then-has_number+in_ok-u64 w ↦ rw (w.writer-is) (
        w.in_ok-u64.ensures.ok ∙ ap (λ n. c.loop-bit.writer.tokens ++ said n) number ∙ ap (λ l. l ++ said (set.base + bit)) c.loop-bit.invariant.0
            ∙ flat_map_more said start so_far (set.base + bit) ∙ ap (λ l. start ++ flat_map said l) (sym (member_yes (number_set.is_member set) set.base bit (is ∙ w.if-has_number.true))),
        w.in_ok-u64.ensures.room.0 ∙ c.loop-bit.invariant.1,
      )
      | else-has_number w ↦ rw (w.writer-is) (
        c.loop-bit.invariant.0 ∙ ap (λ l. start ++ flat_map said l) (sym (member_no (number_set.is_member set) set.base bit (is ∙ w.if-has_number.false))),
        c.loop-bit.invariant.1,
      )
    ]
