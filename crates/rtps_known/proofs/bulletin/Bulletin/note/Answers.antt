use Rattle.rtps_receiver.specs.Values as values
use Rattle.rtps_known.specs.Tellings as tellings
use Rattle.rtps_known.proofs.BulletinLemmas.{one_more}
use Rattle.rtps_known.proofs.bulletin.Bulletin.note.Goals as goal

pub returns : goal.returns
returns c = λ acts were.
    let timed : tellings.TimedAct = record { act = values.spoken_value c.args.act.now; time = c.args.time } in
    record {
      told = c.in_ok-note_told.ensures acts were.told;
      ended = λ test. one_more acts timed (λ t. tellings.holds test (tellings.number_ended t.act.body)) _ _ (c.in_ok-note_ended.ensures test) (were.ended test);
      announced = λ test. one_more acts timed (λ t. tellings.holds test (tellings.announcement_in t.act)) _ _ (c.in_ok-note_announced.ensures test) (were.announced test);
      bases = λ prefix n. one_more acts timed (tellings.acknowledges prefix n) _ _ (c.in_ok-note_base.ensures prefix n) (were.bases prefix n);
    }
