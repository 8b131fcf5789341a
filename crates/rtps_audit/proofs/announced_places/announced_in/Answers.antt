use Rattle.rtps_receiver.specs.Values as values
use Rattle.rtps_discovery.specs.Notice as notice
use Rattle.rtps_audit.proofs.AnnouncedLemmas.{none_announced, one_announced}
use Rattle.rtps_audit.proofs.announced_places.announced_in.Goals as goal

pub returns-in-Some : goal.returns-in-Some
returns-in-Some c = λ guid. one_announced c.args.datagram c.args.act.now.at guid c.in-Some.endpoint (notice.endpoint_in (notice.announcement_of (values.spoken_value c.args.act.now))) c.in-Some.ensures

pub returns-in-None : goal.returns-in-None
returns-in-None c = λ guid. none_announced c.args.datagram c.args.act.now.at guid (notice.endpoint_in (notice.announcement_of (values.spoken_value c.args.act.now))) c.in-None.ensures
