use Rattle.std.proofs.Common.{◌++◌, take, arith}
use Rattle.std.proofs.lemmas.List.{length-append}
use Rattle.std.proofs.KnownBytes.{Consumes-trans}
use Rattle.rtps_tool.proofs.streams.read_on.Goals as goal

pub rest-preserved : goal.rest-preserved
rest-preserved g c =
    let text = c.rest.invariant.0 in
    let piece = take c.in-Ok.got c.read.new.buf in (
      text ++ piece,
      Consumes-trans _ _ _ text piece c.rest.invariant.1 c.in-Ok.ensures.bytes.0,
      omega (arith, length-append text piece, c.rest.invariant.2, c.in-Ok.ensures.bound),
    )
