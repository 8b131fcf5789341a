use Rattle.std.proofs.Common.{◌≡◌, ◌+◌, ℕ, List, refl, inl, inr, Some, pos, true, false, drop, ap, ◌∙◌, arith, rules, ◌<ℤ◌}
use Rattle.rtps_ids.specs.Octets as octets
use Rattle.rtps_wire.specs.Data as data_spec
use Rattle.rtps_wire.specs.DataFrag as data_frag
use Rattle.rtps_wire.proofs.FragmentFields.{bad_fragments, bad_offset, bad_list, good_body, has_fragments, is_numbered, lacks_list, read_there, same_value}
use Rattle.std.proofs.lemmas.Bool.Decides.{nat_tests}
use Rattle.std.specs.Int.RustNames.{unsigned_abs}
use Rattle.rtps_ids.specs.declared.identity.EntityId.{EntityId}
use Rattle.rtps_wire.proofs.read.data_frag.data_frag.Goals as goal
use Rattle.rtps_wire.proofs.read.data_frag.data_frag.Goals.{then-start-lt-SIZE-via-then-start-lt-SIZE, then-start-lt-SIZE-via-else-start-lt-SIZE+then-start-body}

pub returns-then-start-lt-SIZE : goal.returns-then-start-lt-SIZE
returns-then-start-lt-SIZE c =
    let order = c.args.order in
    let body = c.args.body.now in
    let offset = read_there (octets.number_of order 2) 2 2 body _ c.in_ok-start.ensures in
    elim c.then-start-lt-SIZE.branch [
      | then-start-lt-SIZE-via-then-start-lt-SIZE w ↦ bad_offset order c.args.flags body (inl (omega (arith, offset.0, w.if-start-lt-SIZE.true)))
      | then-start-lt-SIZE-via-else-start-lt-SIZE+then-start-body w ↦ bad_offset order c.args.flags body (inr (omega (arith, offset.0, w.if-start-body.true)))
    ]

pub returns-in_default : goal.returns-in_default
returns-in_default c =
    let order = c.args.order in
    let body = c.args.body.now in
    let offset = read_there (octets.number_of order 2) 2 2 body _ c.in_ok-start.ensures in
    let behind : c.rest_at.result.now ≡ data_spec.behind_fields order body = c.rest_at.ensures ∙ ap (λ n. drop (4 + n) body) offset.0 in
    let flags : c.from_bits_retain-flags.result.0 ≡ c.args.flags = c.from_bits_retain-flags.ensures tt in
    let lacks : lacks_list order c.args.flags body ≡ true = rw (← flags, ← behind) c.in_default.ensures.bad in
    bad_list order c.args.flags body lacks

pub returns-in_default-fragments : goal.returns-in_default-fragments
returns-in_default-fragments c =
    let order = c.args.order in
    let body = c.args.body.now in
    let first = read_there (octets.number_of order 4) 4 20 body _ c.in_ok-first.ensures in
    let count = read_there (octets.number_of order 2) 2 24 body _ c.in_ok-count.ensures in
    let fragment = read_there (octets.number_of order 2) 2 26 body _ c.in_ok-u16_at.ensures in
    let sample = read_there (octets.number_of order 4) 4 28 body _ c.in_ok-u32_at.ensures in
    let offset = read_there (octets.number_of order 2) 2 2 body _ c.in_ok-start.ensures in
    let list : c.rest_at.result.now ≡ data_spec.behind_fields order body = c.rest_at.ensures ∙ ap (λ n. drop (4 + n) body) offset.0 in
    let flags : c.from_bits_retain-flags.result.0 ≡ c.args.flags = c.from_bits_retain-flags.ensures tt in
    let behind : c.in-Ok.behind.now ≡ data_frag.octets_behind order c.args.flags body = rw (← flags, ← list) c.in-Ok.ensures.behind in
    let none : has_fragments order c.args.flags body ≡ false = rw (← first.0, ← count.0, ← fragment.0, ← sample.0, ← behind) c.in_default-fragments.ensures in
    bad_fragments order c.args.flags body none

entity : {id : EntityId} {octets : List ℕ} → id.0 ≡ octets → ◌≡◌ {A = EntityId} id (record { 0 = octets })
entity is = let of : List ℕ → EntityId = λ octets. record { 0 = octets } in ap of is

pub returns : goal.returns
returns c =
    let order = c.args.order in
    let body = c.args.body.now in
    let first = read_there (octets.number_of order 4) 4 20 body _ c.in_ok-first.ensures in
    let count = read_there (octets.number_of order 2) 2 24 body _ c.in_ok-count.ensures in
    let fragment = read_there (octets.number_of order 2) 2 26 body _ c.in_ok-u16_at.ensures in
    let sample = read_there (octets.number_of order 4) 4 28 body _ c.in_ok-u32_at.ensures in
    let offset = read_there (octets.number_of order 2) 2 2 body _ c.in_ok-start.ensures in
    let number = read_there (octets.sequence_number_of order) 8 12 body _ c.in_ok-number_at.ensures in
    let read : pos c.in_ok-number.number ≡ c.in_ok-number_at.field-0 = search rules in
    let value : pos c.in_ok-number.number ≡ data_frag.sample_number order body = read ∙ number.0 in
    let list : c.rest_at.result.now ≡ data_spec.behind_fields order body = c.rest_at.ensures ∙ ap (λ n. drop (4 + n) body) offset.0 in
    let flags : c.from_bits_retain-flags.result.0 ≡ c.args.flags = c.from_bits_retain-flags.ensures tt in
    let behind : c.in-Ok.behind.now ≡ data_frag.octets_behind order c.args.flags body = rw (← flags, ← list) c.in-Ok.ensures.behind in
    let good : lacks_list order c.args.flags body ≡ false = rw (← flags, ← list) c.in-Ok.ensures.good in
    let some : has_fragments order c.args.flags body ≡ true = rw (← first.0, ← count.0, ← fragment.0, ← sample.0, ← behind) c.in-Some.ensures.0 in
    let numbered : is_numbered order body ≡ true = let positive : pos 0 <ℤ pos c.in_ok-number.number = search rules in rw (← value) (grind (arith, nat_tests)) in
    let is = good_body order c.args.flags body sample.1 (omega (arith, offset.0, c.if-start-lt-SIZE.false)) (omega (arith, offset.0, c.if-start-body.false)) numbered good some in
    ap Some (same_value order _ _ _ _ _ _ _ _ _ _ _ _ _ _ _ _ (entity c.entity_at.ensures) (entity c.entity_at-2.ensures) (ap unsigned_abs value) (rw (← flags, ← list) c.in-Ok.ensures.list)
    first.0 count.0 (rw (← sample.0, ← fragment.0) refl) (rw (← first.0, ← count.0, ← fragment.0, ← sample.0, ← behind) c.in-Some.ensures.1)) ∙ is
