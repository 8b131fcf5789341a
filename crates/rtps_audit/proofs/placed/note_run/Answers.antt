use Rattle.std.proofs.Common.{◌++◌, ap, map, sym, ◌∙◌}
use Rattle.std.specs.Option.{option_copied_mut}
use Rattle.rtps_receiver.specs.Values as values
use Rattle.rtps_audit.specs.Placed as placed
use Rattle.rtps_audit.proofs.GroupLemmas.{list_begun, list_written}
use Rattle.rtps_audit.proofs.PlacedLemmas.{guids_total}
use Rattle.rtps_audit.proofs.placed.note_run.Goals as goal

pub returns-in-Some : goal.returns-in-Some
returns-in-Some c = λ other.
    let added = placed.placed_at c.args.datagram (map values.spoken_value c.args.run.now) in
    let there = sym c.get_mut.ensures.value ∙ ap option_copied_mut c.in-Some.is in
    list_written guids_total (map placed.placed_value) c.args.origins.now.map (c.get_mut.follows.lender c.append_placed.new.placed) c.args.origin other c.in-Some.placed.now c.append_placed.new.placed added (c.get_mut.follows.holds c.append_placed.new.placed).3 there c.in_ok-append_placed.ensures

pub returns : goal.returns
returns c = λ other.
    let added = placed.placed_at c.args.datagram (map values.spoken_value c.args.run.now) in
    let none = sym c.get_mut.ensures.value ∙ ap option_copied_mut c.in_default.is in
    list_begun guids_total (map placed.placed_value) c.args.origins.now.map c.get_mut.follows.lender-at-none c.insert.new.self c.args.origin other c.append_placed-2.new.placed added c.get_mut.follows.holds-at-none c.in_ok-insert.ensures.updates none
    (c.in_ok-append_placed-2.ensures ∙ ap (λ l. map placed.placed_value l ++ added) c.new-placed.ensures.items)
