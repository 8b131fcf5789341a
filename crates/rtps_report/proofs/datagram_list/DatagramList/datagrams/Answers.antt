use Rattle.std.proofs.Common.{ap, arith, length}
use Rattle.rtps_report.proofs.PiecesLemmas.{length-pieces}
use Rattle.rtps_report.proofs.datagram_list.DatagramList.datagrams.Goals as goal

pub returns-clause-few : goal.returns-clause-few
returns-clause-few c =
    rw (← c.self.view_is, length-pieces) (omega (arith, c.as_slice-2.type_inv.0, ap length c.as_slice-2.ensures.value))
