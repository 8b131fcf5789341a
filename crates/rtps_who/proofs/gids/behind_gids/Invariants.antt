use Rattle.rtps_who.specs.Samples as samples
use Rattle.rtps_who.proofs.ItemLemmas.{RestIs}
use Rattle.rtps_who.proofs.gids.behind_gids.Given as goal

-- so many gids are passed
abbrev pub invariant-loop : goal.invariant-loop
invariant-loop l = RestIs (samples.front_gid l.width) l.count l.counter l.octets l.rest
