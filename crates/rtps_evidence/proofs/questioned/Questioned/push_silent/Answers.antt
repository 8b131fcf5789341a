use Rattle.std.proofs.Common.{◌≤◌, ◌∙◌, ◌&&◌, ◌||◌, ap, arith, nat_le, nat_lt}
use Rattle.rtps_coverage.specs.Stretches as stretches
use Rattle.rtps_evidence.proofs.QuestionedLemmas.{hushed_more}
use Rattle.rtps_evidence.proofs.questioned.Questioned.push_silent.Goals as goal

pub pieces-preserved : goal.pieces-preserved
pieces-preserved c =
    let at = c.pieces.at in
    let one = c.min-alike_end.ensures in
    let two = c.min-hi.ensures in
    let lo = c.pieces.invariant.onward in
    let test = c.pieces-test.true in
    let past = c.in-Some.ensures.past in
    let far = c.alike-is_gone.ensures.onward in
    let up : at ≤ c.min-hi.result = omega (arith, one, two, test, past, far) in
    let within : c.min-hi.result ≤ c.in-Some.asked_end = omega (arith, two) in
    let alike : c.min-hi.result ≤ c.alike-is_gone.result.1 = omega (arith, one, two) in
    let end : c.min-hi.result ≤ c.args.numbers.end = omega (arith, one, two) in
    record {
      onward = omega (arith, lo, up);
      within = omega (arith, end);
      hushed = hushed_more c.args.self.now c.args.moment.now c.args.numbers.start at c.min-hi.result c.in-Some.asked_end c.in-Some.asked _ _ _ lo up within
          (λ n from to. c.alike-is_gone.ensures.left c.if-is_gone.false n from (omega arith)) c.in-Some.ensures
          (λ n. c.in_ok-push_if.ensures n ∙ ap (λ b. stretches.stretches_have c.pieces.silent.items n || (b && (nat_le at n && nat_lt n c.min-hi.result))) c.is_long-is_long.ensures) c.pieces.invariant.hushed;
    }
