use Rattle.std.proofs.Common.{◌≡◌, All, take}
use Rattle.rtps_evidence.specs.Together as together
use Rattle.rtps_evidence.specs.declared.docket.Docket.{Docket}
use Rattle.rtps_evidence.proofs.together.are_plain.Given as goal

-- those so far are of the writer, and their readers send no fragments
abbrev pub invariant-loop-docket : goal.invariant-loop-docket
invariant-loop-docket l = record {
  writer : All (λ (docket : Docket). docket.judgement.pair.writer ≡ l.writer) (take l.docket-index l.dockets);
  plain : (setting : together.Setting) → All (together.IsDocket setting) l.dockets → All (λ (docket : Docket). together.is_plain setting docket.judgement.pair.reader) (take l.docket-index l.dockets);
}
