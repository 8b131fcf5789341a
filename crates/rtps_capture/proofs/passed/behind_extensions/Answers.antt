use Rattle.std.proofs.Common.{◌∙◌, length, sym}
use Rattle.rtps_capture.specs.Passed as passed
use Rattle.rtps_capture.proofs.PassedLemmas.{last_within-end, last_within-step, extensions_lead_on}
use Rattle.rtps_capture.proofs.passed.behind_extensions.Goals as goal

pub loop-behind-preserved : goal.loop-behind-preserved
loop-behind-preserved c =
    let octets = c.args.packet.now in (
      c.in-Some.ensures.onward.1,
      sym (last_within-step (passed.extension_passed octets) (length octets) (extensions_lead_on octets) c.loop-behind.header c.in-Some.behind (sym c.in-Some.ensures.passed)) ∙ c.loop-behind.invariant.1,
    )

pub returns-clause-last : goal.returns-clause-last
returns-clause-last c =
    let octets = c.args.packet.now in
    sym (last_within-end (passed.extension_passed octets) (length octets) c.loop-behind.header (sym c.extension_passed.ensures.passed ∙ c.in_default.is)) ∙ c.loop-behind.invariant.1
