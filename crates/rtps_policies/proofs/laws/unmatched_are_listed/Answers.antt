use Rattle.rtps_discovery.specs.Directory as directory_spec
use Rattle.rtps_policies.proofs.UnmatchedLaws.{unmatched_listed}
use Rattle.rtps_policies.proofs.laws.unmatched_are_listed.Goals as goal

pub returns : goal.returns
returns c = λ acts directory one of_acts.
    unmatched_listed acts (directory_spec.settled_in directory.endpoints) one (λ endpoint. c.settled_and_unsettled.ensures.settled acts directory endpoint of_acts)
