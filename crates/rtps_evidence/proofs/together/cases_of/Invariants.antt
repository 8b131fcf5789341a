use Rattle.std.proofs.Common.{◌≡◌, All, map}
use Rattle.rtps_ids.specs.declared.identity.Guid.{Guid}
use Rattle.rtps_evidence.specs.Together as together
use Rattle.rtps_evidence.proofs.together.cases_of.Given as goal

-- the cases of the readers so far are opened
abbrev pub invariant-loop-reader : goal.invariant-loop-reader
invariant-loop-reader l = record {
  pairs : map together.case_pair l.cases.items ≡ map together.reader_pair l.yielded;
  opened : (setting : together.Setting) (writer : Guid) → All (together.IsTold setting writer) l.fn.readers.items → All (together.IsOpened setting writer) l.cases.items;
}
