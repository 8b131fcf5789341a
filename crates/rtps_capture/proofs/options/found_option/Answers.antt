use Rattle.std.proofs.Common.{◌∙◌, length, sym}
use Rattle.rtps_capture.specs.Options as options
use Rattle.rtps_capture.proofs.PassedLemmas.{last_within-end, last_within-step, options_lead_on}
use Rattle.rtps_capture.proofs.options.found_option.Goals as goal

pub loop-behind-preserved : goal.loop-behind-preserved
loop-behind-preserved c =
    let octets = c.args.options.now in (
      c.in-Some.ensures.onward.1,
      sym (last_within-step (options.option_passed c.args.order c.args.code octets) (length octets) (options_lead_on c.args.order c.args.code octets) c.loop-behind.header c.in-Some.behind (sym c.in-Some.ensures.passed)) ∙ c.loop-behind.invariant.1,
    )

pub returns-clause-found : goal.returns-clause-found
returns-clause-found c =
    let octets = c.args.options.now in
    sym (last_within-end (options.option_passed c.args.order c.args.code octets) (length octets) c.loop-behind.header (sym c.option_passed.ensures.passed ∙ c.in_default.is)) ∙ c.loop-behind.invariant.1
