use Rattle.std.proofs.Common.{◌==◌, ◌∙◌, ap, sym}
use Rattle.rtps_policies.specs.Fitting as fitting
use Rattle.rtps_policies.proofs.UnmatchedLemmas.{some_reasons}
use Rattle.rtps_policies.proofs.unmatched.unmatched_of.Goals as goal

pub returns : goal.returns
returns c =
    some_reasons (fitting.profile_value c.args.writer.now) (fitting.profile_value c.args.reader.now) c.in_ok-reasons.reasons.items (sym c.may_match.ensures ∙ c.if-not-may_match.false) c.in_ok-reasons.ensures
    (ap (λ n. n == 0) (sym c.in_ok-reasons.reasons.ok.0) ∙ sym c.is_empty.ensures ∙ c.if-is_empty.false)
