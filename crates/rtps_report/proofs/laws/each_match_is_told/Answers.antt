use Rattle.rtps_report.proofs.MatchLemmas.{each_match}
use Rattle.rtps_report.proofs.laws.each_match_is_told.Goals as goal

pub returns : goal.returns
returns c = each_match (record { matches = c.matches_and_pairs.ensures.matches; pairs = c.matches_and_pairs.ensures.pairs }) c.one_map.ensures.unique
