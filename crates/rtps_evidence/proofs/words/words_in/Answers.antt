use Rattle.std.proofs.Common.{rules}
use Rattle.std.proofs.lemmas.List.Sorted.{IsNonDecreasingBy-from_sort_by_key}
use Rattle.rtps_audit.specs.Placed as placed
use Rattle.rtps_audit.specs.declared.placed.Placed.{Placed}
use Rattle.rtps_evidence.specs.WayRound as way_round
use Rattle.rtps_evidence.proofs.WayLemmas.{as_often_moved}
use Rattle.rtps_evidence.proofs.words.words_in.Goals as goal

pub returns-clause-words : goal.returns-clause-words
returns-clause-words c = λ intake is.
    as_often_moved (way_round.words_of c.args.pair (placed.placed_in intake.acts)) c.in_ok-words.words.items c.sort_by_key.new.self.items c.in_ok-sort_by_key.ensures.permutation (c.in_ok-words.ensures intake is)

pub returns-clause-by_key : goal.returns-clause-by_key
returns-clause-by_key c = IsNonDecreasingBy-from_sort_by_key (λ (one : Placed). way_round.key_of (placed.placed_value one)) _ c.in_ok-sort_by_key.ensures.sorted (λ a r q k. search rules)
