use Rattle.std.proofs.Common.{◌∙◌, subst, sym}
use Rattle.rtps_capture.specs.declared.read_fault.ReadFault.{ReadFault}
use Rattle.rtps_tool.specs.CaptureBlocks as blocks
use Rattle.rtps_tool.proofs.BlocksLemmas.{stops_told}
use Rattle.rtps_tool.proofs.form.capture_blocks.fault_told.Goals as goal

pub returns : goal.returns
returns g c = λ captures before told.
    let now = g.R.Read.remaining c.args.input.now in
    let reader = c.args.reader.now in
    c.fault_behind.ensures captures before
    (stops_told c.args.limits captures before now reader c.in-Capture.fault c.octets_read.result c.has_ended.result (sym c.is_memory.ensures ∙ c.if-is_memory.false) c.octets_read.ensures c.has_ended.ensures
    (subst (λ (fault : ReadFault). blocks.FailsTaking c.args.limits captures before now reader fault) c.in-Capture.is told))
