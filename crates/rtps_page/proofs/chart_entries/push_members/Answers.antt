use Rattle.std.proofs.Common.{◌≡◌, ◌∙◌, ◌+◌, ◌++◌, List, ℕ, ap, arith, filter, sym, flat_map}
use Rattle.std.proofs.lemmas.Int.{ints}
use Rattle.std.proofs.lemmas.List.{flat_map_more}
use Rattle.std.specs.List.{range_with_len}
use Rattle.rtps_ids.specs.NumberSet as number_set
use Rattle.rtps_page.proofs.ChartLemmas.{member_no, member_yes}
use Rattle.rtps_page.proofs.Written.{json_tokens, one_gone_json, Token}
use Rattle.rtps_page.proofs.chart_entries.push_members.Goals as goal
use Rattle.rtps_page.proofs.chart_entries.push_members.Goals.{then-has_number+in_ok-push_one_gone, else-has_number}

pub loop-bit-preserved : goal.loop-bit-preserved
loop-bit-preserved c =
    let set = c.args.set.now in
    let bit = c.loop-bit.bit in
    let start : List Token = c.args.writer.now.tokens in
    let so_far = filter (number_set.is_member set) (range_with_len set.base bit) in
    let gone : ℕ → List Token = λ number. json_tokens (one_gone_json c.args.head.place c.args.head.named.now number) in
    let number : c.cast_unsigned-base.result + c.from.result ≡ set.base + bit = omega (arith, ints) in
    let is = ap (number_set.is_member set) (sym number) ∙ sym c.has_number.ensures in
    elim c.if-has_number.branch [
      | then-has_number+in_ok-push_one_gone w ↦ rw (w.writer-is) (
        w.in_ok-push_one_gone.ensures.tokens ∙ ap (λ n. c.loop-bit.writer.tokens ++ gone n) number ∙ ap (λ l. l ++ gone (set.base + bit)) c.loop-bit.invariant.0
            ∙ flat_map_more gone start so_far (set.base + bit) ∙ ap (λ l. start ++ flat_map gone l) (sym (member_yes (number_set.is_member set) set.base bit (is ∙ w.if-has_number.true))),
        w.in_ok-push_one_gone.ensures.before ∙ c.loop-bit.invariant.1,
      )
      | else-has_number w ↦ rw (w.writer-is) (
        c.loop-bit.invariant.0 ∙ ap (λ l. start ++ flat_map gone l) (sym (member_no (number_set.is_member set) set.base bit (is ∙ w.if-has_number.false))),
        c.loop-bit.invariant.1,
      )
    ]
