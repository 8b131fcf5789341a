use Rattle.std.proofs.Common.{◌<◌, arith, ap, filter, length, sym, ◌∙◌}
use Rattle.std.specs.Global.{Vec}
use Rattle.std.proofs.lemmas.List.{take_all}
use denote.Enum.Bare.{same_false, same_true}
use Rattle.rtps_discovery.specs.Offers as offers
use Rattle.rtps_discovery.specs.contracts.endpoint.Side.{the_type}
use Rattle.rtps_discovery.specs.declared.endpoint.Endpoint.{Endpoint}
use Rattle.rtps_discovery.proofs.Listing.{listed, listed_all, listed_other}
use Rattle.rtps_discovery.proofs.OfferedReaders.{by_topic, by_type, listed_writer}
use Rattle.rtps_discovery.proofs.topic_index.matches_among.Goals as goal
use Rattle.rtps_discovery.proofs.topic_index.matches_among.Goals.{then-eq+in_ok-push_matches, else-eq}

pub loop-writer-preserved : goal.loop-writer-preserved
loop-writer-preserved c =
    let endpoints = c.args.endpoints.now in
    let readers = c.in_ok-readers.readers.items in
    let lt : c.loop-writer.writer-index < length endpoints = omega arith in
    let sorted = rw c.deref.ensures.value at c.in_ok-by_offer.ensures.lists in
    elim c.if-eq.branch [
      | then-eq+in_ok-push_matches w ↦
          let within = w.deref-then-eq.ensures.value ∙ ap (λ (list : Vec Endpoint). list.items) w.index.ensures
          ∙ sorted w.offer_of.result w.index.result.now (omega (arith, w.offer_of.ensures.within, c.in_ok-by_offer.ensures.each))
          ∙ ap (offers.readers_within endpoints readers) w.offer_of.ensures.value in
          let found = w.of_one_type.ensures ∙ ap (filter _) (w.readers_of-of_topic.ensures ∙ ap (filter _) within) in
          rw w.found-is (listed_writer endpoints readers c.loop-writer.writer-index _ c.loop-writer.found.items w.push_matches.new.found.items w.of_one_type.result.now lt
          (same_true the_type tt _ _ (sym c.eq.ensures ∙ w.if-eq.true)) c.in_ok-readers.ensures.stable found c.loop-writer.invariant w.in_ok-push_matches.ensures)
      | else-eq w ↦ rw w.found-is (listed_other endpoints c.loop-writer.writer-index _ c.loop-writer.found.items lt (same_false the_type _ _ (sym c.eq.ensures ∙ w.if-eq.false)) c.loop-writer.invariant)
    ]

pub returns : goal.returns
returns c =
    c.loop-writer.invariant
    ∙ ap (listed c.args.endpoints.now) (take_all c.loop-writer.writer-index c.args.endpoints.now (omega arith))
    ∙ listed_all c.args.endpoints.now c.args.endpoints.now

pub readers_of-of_topic-requires : goal.readers_of-of_topic-requires
readers_of-of_topic-requires c =
    let within = c.deref-then-eq.ensures.value ∙ ap (λ (list : Vec Endpoint). list.items) c.index.ensures
    ∙ c.in_ok-by_offer.ensures.lists c.offer_of.result c.index.result.now (omega (arith, c.offer_of.ensures.within, c.in_ok-by_offer.ensures.each)) in
    rw (within, c.deref.ensures.value) (by_topic c.args.endpoints.now c.in_ok-readers.readers.items c.offer_of.result c.in_ok-readers.ensures.sorted)

pub of_one_type-requires : goal.of_one_type-requires
of_one_type-requires c =
    let within = c.deref-then-eq.ensures.value ∙ ap (λ (list : Vec Endpoint). list.items) c.index.ensures
    ∙ c.in_ok-by_offer.ensures.lists c.offer_of.result c.index.result.now (omega (arith, c.offer_of.ensures.within, c.in_ok-by_offer.ensures.each)) in
    by_type c.args.endpoints.now c.in_ok-readers.readers.items c.offer_of.result c.loop-writer.writer-index _ c.readers_of-of_topic.result.now c.in_ok-readers.ensures.typed
    (c.readers_of-of_topic.ensures ∙ ap (filter _) (rw c.deref.ensures.value at within))
