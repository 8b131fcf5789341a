use Rattle.std.proofs.Common.{◌≡◌, All, map, take}
use Rattle.rtps_audit.specs.Report as report
use Rattle.rtps_evidence.specs.ReaderNotes as reader_notes
use Rattle.rtps_evidence.specs.Together as together
use Rattle.rtps_evidence.specs.declared.docket.Docket.{Docket}
use Rattle.rtps_evidence.proofs.explanation.dockets_of.Given as goal

-- they are the dockets of the pairs so far
abbrev pub invariant-loop-pair : goal.invariant-loop-pair
invariant-loop-pair l = record {
  pairs : map (λ (docket : Docket). docket.judgement.pair) l.dockets.items ≡ take l.pair-index l.pairs;
  dockets : (setting : together.Setting) → together.AreSidesIn setting l.sides → setting.spans ≡ l.basis.extent.in_spans → setting.from ≡ l.basis.extent.from
      → reader_notes.AreNotes setting.intake l.basis.readers.now.notes → All (report.IsJudgedFrom setting.from setting.intake.acts) l.basis.known.now → All (together.IsDocket setting) l.dockets.items;
}
