use Rattle.rtps_fragments.specs.Hearing as hearing
use Rattle.rtps_receiver.specs.Values as values
use Rattle.rtps_audit.specs.Placed as placed
use Rattle.rtps_audit.specs.RunVerdict as run_verdict
use Rattle.rtps_audit.specs.Said as said
use Rattle.rtps_audit.specs.Speech as speech
use Rattle.std.proofs.Common.{◌≡◌, List, ap, false, filter, map, sym, ◌∙◌}
use Rattle.rtps_evidence.proofs.evidence.Evidence.of_sent.Goals as goal

pub returns : goal.returns
returns c =
    let exchange = c.args.exchange.now in
    let pair = exchange.pair in
    let verdict = c.in_ok-verdict.verdict in
    let hears = λ (recording : List (List values.ActValue)) (is : said.IsSaid pair recording exchange.said). c.pairs_are_heard_without_fragments.ensures pair recording exchange.said is c.requires.acts c.requires.asks in
    let judged : (recording : List (List values.ActValue)) → said.IsSaid pair recording exchange.said → run_verdict.IsVerdictFrom exchange.span.from (speech.speech_by pair.writer pair.reader recording) verdict
    → run_verdict.IsVerdictFrom exchange.span.from (speech.speech_by pair.writer pair.reader (hearing.heard_by pair.reader recording)) verdict =
    λ recording is known.
    let none : hearing.have_fragments (filter (placed.is_from pair.writer) (placed.placed_in recording)) ≡ false = ap hearing.have_fragments (sym is.acts) ∙ c.requires.acts in
    (c.verdicts_stay_without_fragments.ensures exchange.span.from pair.writer pair.reader recording verdict none).1 known in
    record {
      shown = λ recording there is known has.
          c.of_exchange.ensures.shown (hearing.heard_by pair.reader recording) there (hears recording is) (judged recording is (c.in_ok-verdict.ensures recording is known)) has;
      beside = λ whole recording beside is known there times.
          c.of_exchange.ensures.beside whole (hearing.heard_by pair.reader recording) beside (hears recording is) (judged recording is (c.in_ok-verdict.ensures recording is known)) there times;
    }
