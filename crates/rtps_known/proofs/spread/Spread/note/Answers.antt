use Rattle.rtps_receiver.specs.Values as values
use Rattle.rtps_known.proofs.SpreadLemmas.{answer_more, hearing_more}
use Rattle.rtps_known.proofs.spread.Spread.note.Goals as goal

pub returns-in_default : goal.returns-in_default
returns-in_default c = λ writer acts here were.
    answer_more writer acts (record { act = values.spoken_value c.args.act.now; place = c.args.place }) c.args.self.now c.note_answer.new.self here c.in_default.ensures
    c.in_ok-note_answer.ensures were

pub returns : goal.returns
returns c = λ writer acts here were.
    hearing_more writer acts (record { act = values.spoken_value c.args.act.now; place = c.args.place }) c.args.self.now c.note_answer.new.self c.note_hearing.new.self c.in-Some.hearing here
    c.in-Some.ensures c.in_ok-note_answer.ensures c.in_ok-note_hearing.ensures were
