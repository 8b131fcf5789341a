use Rattle.std.proofs.Common.{◌≡◌, All, map, take}
use Rattle.rtps_ids.specs.declared.identity.Guid.{Guid}
use Rattle.rtps_evidence.specs.Together as together
use Rattle.rtps_evidence.specs.declared.docket.Docket.{Docket}
use Rattle.rtps_evidence.proofs.together.readers_of.Given as goal

-- the readers of the dockets so far are ready
abbrev pub invariant-loop-docket : goal.invariant-loop-docket
invariant-loop-docket l = record {
  pairs : map together.reader_pair l.readers.items ≡ map (λ (docket : Docket). docket.judgement.pair) (take l.docket-index l.dockets);
  ready : (setting : together.Setting) (writer : Guid) → together.AreSidesIn setting l.sides → All (together.IsDocket setting) l.dockets
      → All (λ (docket : Docket). docket.judgement.pair.writer ≡ writer) l.dockets → together.is_plain setting writer
      → All (λ (docket : Docket). together.is_plain setting docket.judgement.pair.reader) l.dockets → All (together.IsReady setting writer) l.readers.items;
}
