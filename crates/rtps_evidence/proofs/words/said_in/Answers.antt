use Rattle.std.proofs.Common.{◌∙◌, ◌++◌, List, ap, filter, map}
use Rattle.rtps_receiver.specs.Speech as speech
use Rattle.rtps_audit.specs.Placed as placed
use Rattle.rtps_audit.specs.declared.placed.Placed.{Placed}
use Rattle.rtps_evidence.specs.WayRound as way_round
use Rattle.rtps_evidence.proofs.WayLemmas.{words_are}
use Rattle.rtps_evidence.proofs.words.said_in.Goals as goal

pub returns : goal.returns
returns c = λ intake is.
    let pair = c.args.pair in
    let acts = way_round.is_said_to pair in
    let answers = λ (at : placed.PlacedValue). speech.is_answer at.act pair.reader pair.writer in
    words_are pair (placed.placed_in intake.acts) (map placed.placed_value c.acts_of.result.now) (map placed.placed_value c.acts_of-2.result.now) (map placed.placed_value c.add_answers.new.words.items) (c.acts_of.ensures intake is) (c.acts_of-2.ensures intake is)
    (c.in_ok-add_answers.ensures ∙ ap (λ l. l ++ filter answers (map placed.placed_value c.acts_of-2.result.now))
    (c.in_ok-add_acts.ensures ∙ ap (λ (l : List Placed). map placed.placed_value l ++ filter acts (map placed.placed_value c.acts_of.result.now)) c.new-words.ensures.items))
