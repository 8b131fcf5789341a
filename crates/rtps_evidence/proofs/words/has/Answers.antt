use Rattle.std.proofs.Common.{◌∙◌, ap, drop, leb, ltb, map, rules, take}
use Rattle.std.specs.List.{list_any}
use Rattle.std.proofs.lemmas.List.Sorted.{IsPartitionPoint-from_clause, IsNonDecreasingBy-drop, IsPartitionedBy-leb, IsPartitionedBy-ltb}
use Rattle.rtps_audit.specs.Placed as placed
use Rattle.rtps_audit.specs.declared.placed.Placed.{Placed}
use Rattle.rtps_evidence.specs.WayRound as way_round
use Rattle.rtps_evidence.proofs.KeptLemmas.{take_behind}
use Rattle.rtps_evidence.proofs.WayLemmas.{shared_of_key}
use Rattle.rtps_evidence.proofs.words.has.Goals as goal

pub returns : goal.returns
returns c =
    let words = c.args.words.now in
    let number = λ (one : Placed). way_round.key_of (placed.placed_value one) in
    let key = c.key_of-key.result in
    let start = c.partition_point-start.result in
    let size = c.partition_point-end.result in
    let first = IsPartitionPoint-from_clause (λ (one : Placed). ltb (number one) key) words start c.partition_point-start.ensures.partitioned (IsPartitionedBy-ltb number words key c.requires) (λ a r f h. search rules) in
    let partitioned = rw (take_behind start words) at c.partition_point-end.ensures.partitioned in
    let room = rw (take_behind start words) at c.partition_point-end.ensures.bound in
    let last = IsPartitionPoint-from_clause (λ (one : Placed). leb (number one) key) (drop start words) size partitioned (IsPartitionedBy-leb number (drop start words) key (IsNonDecreasingBy-drop number start words c.requires)) (λ a r f h. search rules) in
    c.has_same.ensures ∙ ap (λ l. list_any (way_round.is_same (placed.placed_value c.args.placed.now)) (map placed.placed_value (take size l))) (take_behind start words)
    ∙ shared_of_key words (placed.placed_value c.args.placed.now) key start size c.key_of-key.ensures c.partition_point-start.ensures.bound room first last
