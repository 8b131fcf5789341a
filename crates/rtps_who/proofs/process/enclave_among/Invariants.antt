use Rattle.std.proofs.Common.{length}
use Rattle.rtps_who.specs.Processes as processes
use Rattle.rtps_who.specs.Texts as texts
use Rattle.rtps_who.specs.declared.layout.mark.TheConstants as mark
use Rattle.rtps_who.proofs.ItemLemmas.{FoundIs}
use Rattle.rtps_who.proofs.process.enclave_among.Given as goal

-- the parts that are passed name no enclave
abbrev pub invariant-loop : goal.invariant-loop
invariant-loop l = FoundIs processes.is_enclave (texts.front_piece mark.SEMICOLON) (length l.octets) l.counter l.octets l.rest
