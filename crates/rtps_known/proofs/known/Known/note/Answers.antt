use Rattle.std.proofs.Common.{◌∷◌, [], List, subst, sym}
use Rattle.std.proofs.lemmas.List.{map-append}
use Rattle.rtps_receiver.specs.Values as values
use Rattle.rtps_known.specs.Lives as lives
use Rattle.rtps_known.specs.Recorded as recorded
use Rattle.rtps_known.specs.Tellings as tellings
use Rattle.rtps_known.proofs.known.Known.note.Goals as goal

pub returns : goal.returns
returns c = λ acts were.
    let timed : tellings.TimedAct = record { act = values.spoken_value c.args.act.now; time = c.args.time } in
    let P : List values.ActValue → Type 0 = λ l. lives.AreBirthsOf l c.note_birth.new.births.entries in
    record {
      bulletins = c.in_ok-note_bulletin.ensures acts were.bulletins;
      met = c.in_ok-note_meeting.ensures acts were.met;
      births = subst P (sym (map-append (λ (t : tellings.TimedAct). t.act) acts (timed ∷ []))) (c.in_ok-note_birth.ensures (recorded.acts_of acts) were.births);
    }
