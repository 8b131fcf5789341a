use Rattle.std.proofs.Common.{◌≡◌, ◌<◌, ◌≤◌, ◌+◌, ℕ, Option, Result, Ok, Err, length, min, ap, ◌∙◌, sym, arith}
use Rattle.std.specs.Prelude.{MatchOption}
use Rattle.std.specs.Result.{OkIff, result_ok}
use Rattle.rtps_wire.specs.Data as data_spec
use Rattle.rtps_wire.specs.Values as values
use Rattle.rtps_write.proofs.WrittenData.{data_long}
use Rattle.rtps_write.specs.WrittenBodies as written_bodies
use Rattle.rtps_write.specs.Held as held
use Rattle.rtps_write.proofs.data.size.Goals as goal
use Rattle.rtps_write.proofs.data.size.Goals.{After-ok, in-None, in-Some}

-- a size that stopped at the greatest number does not fit either
fits : {E : Type 0} (size held : ℕ) (tried : Result ℕ E) (result : Option ℕ) → OkIff tried (held < 65536) held → result ≡ result_ok tried
    → (held < 65536 → held ≡ size) → (size < 65536 → held ≡ size) → MatchOption result (65536 ≤ size) (λ n. size ≡ n)
fits size held (Ok n) result (small, same) is down up = rw is (sym (same ∙ down small))
fits size held (Err e) result large is down up = rw is (not_small size held large up)
  where
    not_small : (size held : ℕ) → (held < 65536 → ⊥) → (size < 65536 → held ≡ size) → 65536 ≤ size
    not_small size held large up = grind arith

-- what the sums hold
sums : (fields qos payload first held : ℕ) → fields ≡ 20 → first ≡ min (fields + qos) 18446744073709551615 → held ≡ min (first + payload) 18446744073709551615
    → (held < 65536 → held ≡ 20 + (qos + payload)) × (20 + (qos + payload) < 65536 → held ≡ 20 + (qos + payload))
sums fields qos payload first held f p q = (λ small. omega arith, λ small. omega arith)

what_it_holds : (c : After-ok) → held.IsHeldData (values.data_value c.args.body.now)
what_it_holds c =
    let qos : held.IsHeldQos (values.data_value c.args.body.now).qos = elim c.match-body.branch [
      | in-Some w ↦ rw w.in-Some.is w.octets.ensures.list
      | in-None w ↦ rw w.in-None.is tt
    ] in
    record { reader = c.entity_size.ensures.held; writer = c.entity_size-2.ensures.held; number = c.number_size.ensures.held; qos = qos }

pub returns-clause-held : goal.returns-clause-held
returns-clause-held c = what_it_holds c

pub returns-clause-size : goal.returns-clause-size
returns-clause-size c order =
    let body = values.data_value c.args.body.now in
    let qos : c.match-body.qos ≡ length (data_spec.qos_octets body.qos) = elim c.match-body.branch [
      | in-Some w ↦ rw w.in-Some.is (w.qos-is ∙ ap length w.octets.ensures.octets)
      | in-None w ↦ rw w.in-None.is w.qos-is
    ] in
    let payload : length c.payload_octets-payload.result.now ≡ length (written_bodies.payload_octets body.payload) = ap length c.payload_octets-payload.ensures in
    let held = sums _ _ _ _ _ (omega (arith, c.entity_size.ensures.size, c.entity_size-2.ensures.size, c.number_size.ensures.size)) c.saturating_add.ensures c.saturating_add-size.ensures in
    let size : length (written_bodies.data_octets order body) ≡ 20 + (c.match-body.qos + length c.payload_octets-payload.result.now) =
    rw (qos, payload) (data_long order body (what_it_holds c)) in
    let all = fits _ _ c.try_from.result c.ok.result c.try_from.ensures c.ok.ensures.value held.0 held.1 in
    rw size all
