use Rattle.std.proofs.Common.{◌≡◌, ◌∙◌, ℕ, ◌+◌, ◌-◌, ◌∷◌, List, ap, arith, cond, drop, length, map, max, sym, None}
use Rattle.rtps_audit.specs.Delivery as delivery
use Rattle.rtps_audit.specs.Placed as placed
use Rattle.rtps_coverage.specs.Stretches as stretches
use Rattle.rtps_evidence.specs.LastAsks as last_asks
use Rattle.rtps_evidence.specs.Locations as locations
use Rattle.rtps_evidence.proofs.LastAskLemmas.{dropped_more, front_more}
use Rattle.rtps_evidence.proofs.last_asks.last_asks.Goals as goal

max_same : (m a b c d : ℕ) → m ≡ max a b → a ≡ c → b ≡ d → m ≡ max d c
max_same m a b c d is left right = omega (arith, is, left, right)

pub loop-last-preserved : goal.loop-last-preserved
loop-last-preserved c =
    let pair = c.args.pair in
    let acts = c.args.acts.now in
    let last = c.loop-last.last in
    let x = placed.placed_value c.index-acts-acts.result in
    let xs : List placed.PlacedValue = map placed.placed_value (drop (length acts - last) acts) in
    let more : map placed.placed_value (drop (length acts - (last + 1)) acts) ≡ x ∷ xs = dropped_more acts last c.index-acts-acts.result c.loop-last-test.true c.index-acts-acts.is in
    record {
      asks = λ n.
          c.in_ok-note_act.ensures n
          ∙ front_more pair x xs n (stretches.stretches_have c.args.numbers.now n) c.loop-last.below _ (c.loop-last.invariant.asks n) c.loop-last.invariant.below
          ∙ ap (λ l. cond (stretches.stretches_have c.args.numbers.now n) (last_asks.last_ask pair l n) None) (sym more);
      below =
          let is = c.max-below.ensures in
          let said = c.base_of.ensures in
          let so_far = c.loop-last.invariant.below in
          max_same c.max-below.result c.loop-last.below c.base_of.result _ _ is so_far said ∙ ap (λ l. delivery.greatest (map (locations.base_said pair.writer pair.reader) l)) (sym more);
    }
