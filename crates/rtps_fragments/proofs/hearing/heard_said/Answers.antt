use Rattle.std.proofs.Common.{◌≡◌, ◌∙◌, ap, sym}
use Rattle.rtps_fragments.specs.Hearing as hearing_spec
use Rattle.rtps_fragments.proofs.ViewLemmas.{answers_heard, heard_of_origin}
use Rattle.rtps_fragments.proofs.hearing.heard_said.Goals as goal

pub returns : goal.returns
returns c = λ recording is.
    let pair = c.args.pair in record {
      acts = c.in_ok-acts.ensures ∙ ap (hearing_spec.heard_of pair.reader) is.acts ∙ sym (heard_of_origin pair.writer pair.reader recording);
      answers = is.answers ∙ sym (answers_heard pair pair.reader recording);
      asks = c.in_ok-asks.ensures ∙ ap (hearing_spec.heard_of pair.reader) is.asks ∙ sym (heard_of_origin pair.reader pair.reader recording);
    }
