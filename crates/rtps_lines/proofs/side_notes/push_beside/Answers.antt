use Rattle.std.proofs.Common.{◌++◌, ◌∙◌, ap, map, sym}
use Rattle.std.proofs.lemmas.Result.{on_ok_weaker}
use Rattle.std.specs.List.{flat_map}
use Rattle.std.specs.String.{string_bytes}
use Rattle.rtps_evidence.specs.Explanation as explanation
use Rattle.rtps_report.specs.BestEfforts as best_efforts
use Rattle.rtps_lines.specs.Notes as notes
use Rattle.rtps_lines.specs.WayNotes as way_notes
use Rattle.rtps_lines.proofs.NoteLemmas.{behind}
use Rattle.rtps_lines.proofs.side_notes.push_beside.Goals as goal

pub returns : goal.returns
returns c =
    let told = c.args.told in
    let arrow = c.args.arrow.now in
    let side = c.in-Some.side in
    let rows = map explanation.explanation_value told.rows.now in
    let total = best_efforts.best_effort_value told.talk.now.held_total in
    let first = map string_bytes c.args.notes.now.items in
    let second = map string_bytes c.push_held.new.notes.items in
    let third = map string_bytes c.push_alone.new.notes.items in
    let fourth = map string_bytes c.push_absent.new.notes.items in
    let fifth = map string_bytes c.push_all_unread.new.notes.items in
    let last = map string_bytes c.push_ways.new.notes.items in
    let of_held = notes.held_note total (notes.shares_if told.named (map best_efforts.best_effort_value told.talk.now.held_sums.items)) in
    let of_alone = notes.alone_note arrow side.alone (notes.names_if told.named (notes.alone_in rows)) in
    let of_absent = notes.absent_note arrow side (notes.names_if told.named (notes.absent_rows rows)) in
    let unread = flat_map (notes.unread_note arrow) (notes.unread_there side) in
    let ways = way_notes.way_notes arrow side.order in
    let shares = c.deref-2.ensures ∙ c.in_ok-shares.ensures ∙ ap (λ sums. notes.shares_if told.named (map best_efforts.best_effort_value sums)) c.deref.ensures.value in
    let held = c.in_ok-push_held.ensures ∙ ap (λ text. first ++ notes.held_note total text) shares in
    let alone = c.in_ok-push_alone.ensures ∙ ap (λ text. second ++ notes.alone_note arrow side.alone text) (c.deref-3.ensures ∙ c.in_ok-alone.ensures) in
    let absent = c.in_ok-push_absent.ensures ∙ ap (λ text. third ++ notes.absent_note arrow side text) (c.deref-4.ensures ∙ c.in_ok-absent.ensures) in
    on_ok_weaker c.push_ways.result
    (λ ended. behind first second last of_held (of_alone ++ (of_absent ++ (unread ++ ways))) held
    (behind second third last of_alone (of_absent ++ (unread ++ ways)) alone
    (behind third fourth last of_absent (unread ++ ways) absent (behind fourth fifth last unread ways c.in_ok-push_all_unread.ensures ended)))
    ∙ sym (ap (λ beside. first ++ notes.side_notes arrow (notes.noted_value told) beside) c.in-Some.is))
    c.push_ways.ensures
