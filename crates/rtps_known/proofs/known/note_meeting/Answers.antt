use Rattle.std.proofs.Common.{◌≡◌, arith, true}
use Rattle.std.specs.BTreeSet.{contains}
use Rattle.rtps_policies.specs.Namings as namings
use Rattle.rtps_policies.specs.declared.naming.Naming.{Naming}
use Rattle.rtps_receiver.specs.Values as values
use Rattle.rtps_known.proofs.KnownLemmas.{joins_more, joins_none, met_before}
use Rattle.rtps_known.proofs.known.note_meeting.Goals as goal

pub returns-in_default : goal.returns-in_default
returns-in_default c = λ acts were. joins_none acts (record { act = values.spoken_value c.args.act.now; time = c.args.time }) c.args.met.now c.in_default.is were

pub returns-in_ok-insert : goal.returns-in_ok-insert
returns-in_ok-insert c = λ acts were.
    joins_more acts (record { act = values.spoken_value c.args.act.now; time = c.args.time }) c.args.met.now c.insert.new.self c.insert-then-is_new.new.self c.in-Some.dest c.in-Some.is
    (λ naming. c.in_ok-is_new.ensures.updates.0 naming) (λ naming. c.in_ok-insert.ensures.updates.0 naming) were

pub returns-else-is_new : goal.returns-else-is_new
returns-else-is_new c = λ acts were.
    let first : Naming = record { source = c.args.act.now.source; dest = c.in-Some.dest } in
    let there : contains namings.naming_cmp c.args.met.now first ≡ true = grind (arith, c.in_ok-is_new.ensures.added, c.if-is_new.false) in
    joins_more acts (record { act = values.spoken_value c.args.act.now; time = c.args.time }) c.args.met.now c.insert.new.self c.insert.new.self c.in-Some.dest c.in-Some.is
    (λ naming. c.in_ok-is_new.ensures.updates.0 naming) (met_before acts c.args.met.now c.insert.new.self first there (λ naming. c.in_ok-is_new.ensures.updates.0 naming) were) were
