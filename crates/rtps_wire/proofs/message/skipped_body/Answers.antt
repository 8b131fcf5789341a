use Rattle.std.proofs.Common.{◌≡◌, ap, length, rules, sym, ◌∙◌}
use Rattle.rtps_wire.specs.Message as message
use Rattle.rtps_wire.proofs.Submessages.{other_id, taken_apart, whole_not_cut, whole_not_overrun, whole_parts}
use Rattle.rtps_wire.proofs.message.skipped_body.Goals as goal
use Rattle.rtps_wire.proofs.message.skipped_body.Goals.{then-rest-lt-SIZE-via-then-rest-lt-SIZE, then-rest-lt-SIZE-via-else-rest-lt-SIZE+then-rest-id}

pub returns-then-rest-lt-SIZE : goal.returns-then-rest-lt-SIZE
returns-then-rest-lt-SIZE c =
    let rest = c.args.rest.now in
    elim c.then-rest-lt-SIZE.branch [
      | then-rest-lt-SIZE-via-then-rest-lt-SIZE w ↦ whole_not_cut c.args.id rest w.if-rest-lt-SIZE.true
      | then-rest-lt-SIZE-via-else-rest-lt-SIZE+then-rest-id w ↦ other_id c.args.id rest w.if-rest-id.true
    ]

pub returns-then-declared-behind : goal.returns-then-declared-behind
returns-then-declared-behind c =
    whole_not_overrun c.args.id c.args.rest.now c.if-rest-lt-SIZE.false (rw (← c.rest_at-behind.ensures, ← c.declared_by-declared.ensures) c.if-declared-behind.true)

pub returns : goal.returns
returns c =
    let rest = c.args.rest.now in
    let id : message.id_of rest ≡ c.args.id = c.if-rest-id.false in
    let size = c.extent-size.ensures ∙ ap (λ id. message.extent_of id c.declared_by-declared.result (length c.rest_at-behind.result.now)) (sym id) in
    let parts =
    taken_apart rest _ _ _ _ c.if-rest-lt-SIZE.false c.rest_at-behind.ensures c.declared_by-declared.ensures c.if-declared-behind.false size c.split_at.ensures.front in
    (whole_parts c.args.id rest _ _ c.requires id parts, search rules, parts.octets)
