use Rattle.std.proofs.Common.{◌≡◌, ◌∙◌, ap, sym, Option}
use Rattle.rtps_audit.specs.Placed as placed
use Rattle.rtps_evidence.specs.Spans as spans
use Rattle.rtps_evidence.specs.declared.location.Location.{Location}
use Rattle.rtps_evidence.proofs.NewcomerLemmas.{owed_at_first}
use Rattle.rtps_evidence.proofs.span.Spanning.new.Goals as goal
use Rattle.rtps_evidence.proofs.span.Spanning.new.Goals.{in-Some, in-None}

pub returns : goal.returns
returns c = λ intake is.
    let whole = c.whole-whole.ensures intake is in
    let left = λ (o : Option Location). spans.left_in o c.args.pair.reader (placed.placed_in intake.acts) in
    let until : c.match-whole.until ≡ left c.whole-whole.result.joined = elim c.match-whole.branch [
      | in-Some w ↦ w.until-is ∙ w.left_in-until.ensures intake is ∙ sym (ap left w.in-Some.is)
      | in-None w ↦ w.until-is ∙ sym (ap left w.in-None.is)
    ] in
    record {
      joined = whole.joined;
      here = whole.here;
      first = whole.first;
      until = until;
      newcomer = c.newcomer_of.ensures c.args.from intake is whole;
      owed = owed_at_first c.new.result c.newcomer_of.result c.new.ensures;
    }
