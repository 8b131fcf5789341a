use Rattle.std.proofs.Common.{◌≡◌, ◌++◌}
use Rattle.rtps_known.proofs.lacking.listed.Given as goal

-- those listed, and then those that are left
abbrev pub invariant-loop-endpoint : goal.invariant-loop-endpoint
invariant-loop-endpoint l = l.listed.items ++ l.endpoint-iterator ≡ l.endpoints.keys
