use Rattle.rtps_discovery.proofs.ListingLaws.{listed_in_order, pairs_in_order, settled_in_order, unsettled_in_order}
use Rattle.rtps_discovery.proofs.laws.in_order.Goals as goal

pub returns : goal.returns
returns c =
    record {
      participants = λ acts directory h. h.participants.in_order;
      endpoints = λ acts directory h. settled_in_order _ directory.endpoints h.endpoints;
      unsettled = λ acts directory h. unsettled_in_order _ directory.endpoints h.endpoints;
      matches = λ acts directory h. listed_in_order _ directory.endpoints h.endpoints;
      pairs = λ acts directory h. pairs_in_order _ directory.endpoints h.endpoints;
    }
