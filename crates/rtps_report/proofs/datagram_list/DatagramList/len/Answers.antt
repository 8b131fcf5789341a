use Rattle.std.proofs.Common.{arith}
use Rattle.rtps_report.proofs.PiecesLemmas.{length-pieces}
use Rattle.rtps_report.proofs.datagram_list.DatagramList.len.Goals as goal

pub returns : goal.returns
returns c = rw (← c.self.view_is, length-pieces) (omega (arith, c.len.ensures))
