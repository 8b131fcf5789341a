use Rattle.rtps_discovery.proofs.ListingLaws.{match_listed, pair_listed}
use Rattle.rtps_discovery.proofs.laws.matches_and_pairs.Goals as goal

pub returns : goal.returns
returns c =
    record {
      matches = λ acts directory found h. match_listed _ directory.endpoints found h.endpoints;
      pairs = λ acts directory pair h. pair_listed _ directory.endpoints pair h.endpoints;
    }
