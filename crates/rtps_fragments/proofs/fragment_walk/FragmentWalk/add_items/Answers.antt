use Rattle.std.proofs.Common.{◌≡◌, ◌+◌, ◌<◌, ◌^◌, ◌∷◌, ◌++◌, ◌∙◌, List, Ok, ap, arith, cond, length, subst, sym}
use Rattle.std.specs.Prelude.{◌||◌, is_some}
use Rattle.std.proofs.lemmas.List.Sums.{sum_by-cons}
use Rattle.rtps_wire.specs.Tally as tally
use Rattle.rtps_wire.specs.Reading as reading
use Rattle.rtps_wire.specs.Values as values
use Rattle.rtps_receiver.specs.Acts as acts
use Rattle.rtps_fragments.specs.SampleActs as sample_acts
use Rattle.rtps_fragments.specs.FragmentWalk as fragment_walk
use Rattle.rtps_fragments.proofs.FragmentWalkLemmas.{IsReading, at_most_one, behind-item, few_more, reading_step, unusable-item}
use Rattle.rtps_fragments.proofs.fragment_walk.FragmentWalk.add_items.Goals as goal

pub items-preserved-in-Continue-1 : goal.items-preserved-in-Continue-1
items-preserved-in-Continue-1 c =
    let octets = c.args.datagram.now in
    let state = c.items.state in
    let item = values.item_value c.in-Some-Ok.item in
    let later = reading.outcomes_left c.next.new.self in
    let all = fragment_walk.piece_acts_behind octets c.args.start (reading.items_among (reading.outcomes_left c.args.items)) in
    let next : reading.outcomes_left c.items.items ≡ Ok item ∷ later = c.in-Some-Ok.ensures.steps ∙ ap (λ o. reading.outcome_value o ∷ reading.outcomes_left c.next.new.self) c.in-Some-Ok.field-0-is in
    let one = fragment_walk.one_unusable octets item in
    let adds = c.in_ok-add-in-Some-Ok.ensures.acts in
    let step = ap (λ (o : List reading.Outcome). fragment_walk.piece_acts_behind octets state (reading.items_among o)) next ∙ behind-item octets state item (reading.items_among later) ∙ ap (λ s. fragment_walk.piece_acts_of_item octets state item (acts.act_body item.body) ++ fragment_walk.piece_acts_behind octets s (reading.items_among later)) (sym c.in_ok-add-in-Some-Ok.ensures.state) in
    let counted = ap (λ (o : List reading.Outcome). fragment_walk.unusable_among octets (reading.items_among o)) next ∙ unusable-item octets item (reading.items_among later) in
    let unusable = fragment_walk.unusable_among octets (reading.items_among (reading.outcomes_left c.args.items)) in
    let plain = c.in_ok-add-in-Some-Ok.ensures.plain in
    let skips = ap (λ (o : List reading.Outcome). tally.skipped_in (reading.items_among o)) next ∙ sum_by-cons (λ (i : values.ItemValue). cond (tally.is_skipped i.body) 1 0) item (reading.items_among later) in
    let fragmented = ap (λ (o : List reading.Outcome). tally.fragments_in (reading.items_among o)) next ∙ sum_by-cons (λ (i : values.ItemValue). cond (tally.is_fragment i.body) 1 0) item (reading.items_among later) in
    let fewer = ap length next in
    record {
      few_skipped = omega (arith, c.items.invariant.few_skipped, plain.skipped, fewer, at_most_one (tally.is_skipped item.body));
      few_fragments = omega (arith, c.items.invariant.few_fragments, plain.fragments, fewer, at_most_one (tally.is_fragment item.body));
      skipped = omega (arith, c.items.invariant.skipped, plain.skipped, skips);
      fragments = omega (arith, c.items.invariant.fragments, plain.fragments, fragmented);
      refused = ap (λ r. r || is_some (reading.refusal_among later)) plain.refused ∙ ap (λ (o : List reading.Outcome). c.items.self.plain.refused || is_some (reading.refusal_among o)) (sym next) ∙ c.items.invariant.refused;
      few = few_more octets state item (length later) c.items.self c.add.new.self adds (subst (λ n. c.items.self.unusable + length c.items.self.sents.items + n < 2 ^ 64) (ap length next) c.items.invariant.few);
      reading = λ none.
          reading_step (fragment_walk.piece_acts_of_item octets state item (acts.act_body item.body)) (fragment_walk.piece_acts_behind octets c.add.new.state (reading.items_among later)) all one (fragment_walk.unusable_among octets (reading.items_among later)) unusable c.items.self c.add.new.self adds
          (subst (λ n. IsReading (fragment_walk.piece_acts_of_item octets state item (acts.act_body item.body) ++ fragment_walk.piece_acts_behind octets c.add.new.state (reading.items_among later)) all n unusable c.items.self) counted
          (subst (λ (left : List sample_acts.PieceAct). IsReading left all (fragment_walk.unusable_among octets (reading.items_among (reading.outcomes_left c.items.items))) unusable c.items.self) step (c.items.invariant.reading none)));
    }
