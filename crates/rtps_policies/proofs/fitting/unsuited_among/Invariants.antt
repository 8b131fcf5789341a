use Rattle.std.proofs.Common.{◌≡◌, filter, not, take}
use Rattle.rtps_policies.specs.Fitting as fitting
use Rattle.rtps_policies.proofs.fitting.unsuited_among.Given as goal

-- the policies so far that do not suit
abbrev pub invariant-loop-policy : goal.invariant-loop-policy
invariant-loop-policy l = l.found.items ≡ filter (λ policy. not (fitting.suits policy (fitting.profile_value l.writer) (fitting.profile_value l.reader))) (take l.policy-index l.policies)
