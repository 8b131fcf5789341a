use Rattle.std.proofs.Common.{rules}
use Rattle.std.proofs.lemmas.List.Sorted.{answers_always}
use Rattle.rtps_policies.proofs.UnmatchedLemmas.{topics_kept}
use Rattle.rtps_policies.proofs.topic_readers.readers_by_topic.Goals as goal

pub returns-clause-sorted : goal.returns-clause-sorted
returns-clause-sorted c = c.in_ok-sort_by_key.ensures.sorted (λ reader. reader.endpoint.topic) (answers_always _ _ _ (λ f a r g h. search rules))

pub returns-clause-stable : goal.returns-clause-stable
returns-clause-stable c =
    rw (← c.in_ok-readers.ensures)
    (topics_kept _ _ (c.in_ok-sort_by_key.ensures.stable (λ reader. reader.endpoint.topic) (answers_always _ _ _ (λ f a r g h. search rules))))
