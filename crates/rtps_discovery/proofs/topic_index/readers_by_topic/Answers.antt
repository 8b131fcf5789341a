use Rattle.std.proofs.Common.{rules}
use Rattle.std.proofs.lemmas.List.Sorted.{answers_always}
use Rattle.rtps_discovery.proofs.Listing.{typed_in_topics, types_kept}
use Rattle.rtps_discovery.proofs.topic_index.readers_by_topic.Goals as goal

pub returns-clause-sorted : goal.returns-clause-sorted
returns-clause-sorted c = c.in_ok-sort_by_key-2.ensures.sorted (λ reader. reader.topic) (answers_always _ _ _ (λ f a r g h. search rules))

pub returns-clause-typed : goal.returns-clause-typed
returns-clause-typed c =
    typed_in_topics _ _ (c.in_ok-sort_by_key.ensures.sorted (λ reader. reader.type_name) (answers_always _ _ _ (λ f a r g h. search rules)))
    (c.in_ok-sort_by_key-2.ensures.stable (λ reader. reader.topic) (answers_always _ _ _ (λ f a r g h. search rules)))

pub returns-clause-stable : goal.returns-clause-stable
returns-clause-stable c =
    rw (← c.in_ok-readers.ensures)
    (types_kept _ _ _ (c.in_ok-sort_by_key.ensures.stable (λ reader. reader.type_name) (answers_always _ _ _ (λ f a r g h. search rules)))
    (c.in_ok-sort_by_key-2.ensures.stable (λ reader. reader.topic) (answers_always _ _ _ (λ f a r g h. search rules))))
