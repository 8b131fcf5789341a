use Rattle.std.proofs.Common.{◌≡◌, ◌+◌, ◌-◌, get_or}
use Rattle.rtps_discovery.specs.declared.endpoint.Endpoint.{Endpoint}
use Rattle.rtps_report.proofs.OneSideLemmas.{front_at}
use Rattle.rtps_report.proofs.one_side.front_len.Given as goal

abbrev pub invariant-loop-place : goal.invariant-loop-place
invariant-loop-place l =
    (one : Endpoint) → front_at l.endpoints 1 (get_or l.endpoints 0 one) + 1 ≡ l.place + front_at l.endpoints l.place (get_or l.endpoints (l.place - 1) one)
