use Rattle.rtps_discovery.specs.Endpoint as endpoint
use Rattle.rtps_discovery.proofs.Matched.{is_match_from_meaning}
use Rattle.rtps_discovery.proofs.matching.matches.Goals as goal

pub returns-clause-test : goal.returns-clause-test
returns-clause-test c = is_match_from_meaning c.suits.result (endpoint.endpoint_value c.args.writer.now) (endpoint.endpoint_value c.args.reader.now) c.suits.ensures
