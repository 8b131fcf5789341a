use Rattle.std.proofs.Common.{◌∙◌, ◌∷◌, ap}
use Rattle.rtps_policies.specs.Segments as segments
use Rattle.rtps_policies.proofs.SegmentLemmas.{opened_front}
use Rattle.rtps_policies.proofs.name_pattern.front.Goals as goal

pub returns-in-91 : goal.returns-in-91
returns-in-91 c =
    opened_front c.args.pattern.now c.in_ok-octet.behind.now c.opened.result.1.now (segments.part_value c.opened.result.0)
    (c.in_ok-octet.ensures.cases.0 ∙ ap (λ octet. octet ∷ c.in_ok-octet.behind.now) c.in-91.is) c.opened.ensures.0 c.opened.ensures.1
