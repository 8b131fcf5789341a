use Rattle.std.proofs.Common.{◌+◌, ◌-◌, take, subst, sym, arith}
use Rattle.std.specs.Io.KnownBytes.{Consumes}
use Rattle.std.proofs.KnownBytes.{Consumes-trans}
use Rattle.rtps_tool.proofs.ReadingLemmas.{take_both}
use Rattle.rtps_tool.proofs.streams.read_start.Goals as goal

pub start-preserved : goal.start-preserved
start-preserved g c =
    let start = c.start.start in
    let got = c.in-Ok.got in
    let held = c.start.held in
    let both = take_both start got (start + 65536 - start) held c.read.new.buf (omega (arith, c.start.auto.held, c.requires, c.start.invariant.0)) c.in-Ok.ensures.bound.0 in
    (omega (arith, c.in-Ok.ensures.bound.0, c.start-test.true), subst (Consumes _ _) (sym both) (Consumes-trans _ _ _ (take start held) (take got c.read.new.buf) c.start.invariant.1 c.in-Ok.ensures.bytes.0))
