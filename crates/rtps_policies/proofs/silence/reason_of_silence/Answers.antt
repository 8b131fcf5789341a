use Rattle.std.proofs.Common.{◌∙◌, ap}
use Rattle.rtps_policies.specs.Silence as silence
use Rattle.rtps_policies.proofs.SilenceLemmas.{reason_same}
use Rattle.rtps_policies.proofs.silence.reason_of_silence.Goals as goal

pub returns-clause-kept : goal.returns-clause-kept
returns-clause-kept c =
    c.first_reason.ensures
    ∙ ap (λ in_two. silence.first_reason c.eq.result in_two c.talks_one_way-one_way.result) c.two_domains.ensures
    ∙ reason_same _ _ _ _ _ _ _ _ c.eq.ensures c.host_of-one.ensures.kept c.host_of-other.ensures.kept c.talks_one_way-one_way.ensures.kept

pub returns-clause-recorded : goal.returns-clause-recorded
returns-clause-recorded c = λ traffic said counted.
    c.first_reason.ensures
    ∙ ap (λ in_two. silence.first_reason c.eq.result in_two c.talks_one_way-one_way.result) c.two_domains.ensures
    ∙ reason_same _ _ _ _ _ _ _ _ c.eq.ensures (c.host_of-one.ensures.announced traffic.announcing said) (c.host_of-other.ensures.announced traffic.announcing said)
    (c.talks_one_way-one_way.ensures.recorded traffic said counted)
