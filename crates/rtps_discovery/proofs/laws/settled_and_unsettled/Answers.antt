use Rattle.rtps_discovery.proofs.MapLaws.{settled_listed, unsettled_listed}
use Rattle.rtps_discovery.proofs.laws.settled_and_unsettled.Goals as goal

pub returns : goal.returns
returns c =
    record {
      settled = λ acts directory endpoint h. settled_listed _ directory.endpoints endpoint h.endpoints;
      unsettled = λ acts directory guid h. unsettled_listed _ directory.endpoints guid h.endpoints;
    }
