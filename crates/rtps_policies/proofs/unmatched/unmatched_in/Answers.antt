use Rattle.std.proofs.Common.{◌<◌, ◌∙◌, ap, arith, filter, length, map, sym}
use Rattle.std.proofs.lemmas.List.{take_all}
use denote.Enum.Bare.{same_false}
use Rattle.rtps_discovery.specs.contracts.endpoint.Side.{the_type}
use Rattle.rtps_policies.specs.Unmatched as unmatched
use Rattle.rtps_policies.proofs.UnmatchedLemmas.{listed, listed_all, listed_other, listed_writer, no_writer}
use Rattle.rtps_policies.proofs.unmatched.unmatched_in.Goals as goal
use Rattle.rtps_policies.proofs.unmatched.unmatched_in.Goals.{then-eq+in_ok-push_unmatched, else-eq}

pub loop-writer-preserved : goal.loop-writer-preserved
loop-writer-preserved c =
    let lt : c.loop-writer.writer-index < length c.args.profiles.now = omega arith in
    elim c.if-eq.branch [
      | then-eq+in_ok-push_unmatched w ↦
          rw w.found-is (listed_writer c.args.profiles.now c.in_ok-readers.readers.items c.loop-writer.writer-index _ (map unmatched.unmatched_value c.loop-writer.found.items) (map unmatched.unmatched_value w.push_unmatched.new.found.items)
          w.readers_of-of_topic.result.now lt c.in_ok-readers.ensures.stable (w.readers_of-of_topic.ensures ∙ ap (filter _) w.deref.ensures.value) c.loop-writer.invariant w.in_ok-push_unmatched.ensures)
      | else-eq w ↦
          rw w.found-is (listed_other c.args.profiles.now c.loop-writer.writer-index _ (map unmatched.unmatched_value c.loop-writer.found.items) lt (no_writer _ (same_false the_type _ _ (sym c.eq.ensures ∙ w.if-eq.false))) c.loop-writer.invariant)
    ]

pub returns : goal.returns
returns c =
    c.loop-writer.invariant
    ∙ ap (listed c.args.profiles.now) (take_all c.loop-writer.writer-index c.args.profiles.now (omega arith))
    ∙ listed_all c.args.profiles.now c.args.profiles.now
