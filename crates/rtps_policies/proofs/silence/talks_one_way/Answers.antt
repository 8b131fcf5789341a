use Rattle.std.proofs.Common.{◌∙◌, ap}
use Rattle.rtps_policies.specs.Namings as namings
use Rattle.rtps_policies.proofs.SilenceLemmas.{one_way_same}
use Rattle.rtps_policies.proofs.silence.talks_one_way.Goals as goal

pub returns-clause-kept : goal.returns-clause-kept
returns-clause-kept c =
    c.is_one_way.ensures
    ∙ one_way_same _ _ _ _ _ _ _ _ c.named-count.ensures (c.named-answered.ensures ∙ ap (namings.named_by c.args.namings.now) c.reversed.ensures) c.host_of-one.ensures.kept c.host_of-other.ensures.kept

pub returns-clause-recorded : goal.returns-clause-recorded
returns-clause-recorded c = λ traffic said counted.
    c.is_one_way.ensures
    ∙ one_way_same _ _ _ _ _ _ _ _ (c.named-count.ensures ∙ counted c.args.naming)
    (c.named-answered.ensures ∙ counted c.reversed.result ∙ ap (namings.named_in traffic.datagrams) c.reversed.ensures)
    (c.host_of-one.ensures.announced traffic.announcing said) (c.host_of-other.ensures.announced traffic.announcing said)
