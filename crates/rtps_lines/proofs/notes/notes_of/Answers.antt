use Rattle.std.proofs.Common.{◌++◌, ◌∙◌, ℕ, List, ap, length, map}
use Rattle.std.specs.List.{flat_map}
use Rattle.std.specs.String.{string_bytes}
use Rattle.rtps_report.specs.BestEfforts as best_efforts
use Rattle.rtps_lines.specs.LateNotes as late_notes
use Rattle.rtps_lines.specs.Notes as notes
use Rattle.rtps_lines.proofs.NoteLemmas.{behind}
use Rattle.rtps_lines.proofs.notes.notes_of.Goals as goal

pub returns : goal.returns
returns c =
    let rows = c.args.rows in
    let noted = notes.noted_value rows in
    let arrow = c.args.arrow.now in
    let facts = c.args.facts.now in
    let total = best_efforts.best_effort_value rows.talk.now.best_effort_total in
    let new = map string_bytes c.new-notes.result.items in
    let first = map string_bytes c.push_order.new.notes.items in
    let second = map string_bytes c.push_hosts.new.notes.items in
    let of_talk = map string_bytes c.push_talking.new.notes.items in
    let third = map string_bytes c.push_left_out.new.notes.items in
    let fourth = map string_bytes c.push_best_effort.new.notes.items in
    let fifth = map string_bytes c.push_beside.new.notes.items in
    let sixth = map string_bytes c.push_late.new.notes.items in
    let of_matched = map string_bytes c.push_matched.new.notes.items in
    let seventh = map string_bytes c.push_tails.new.notes.items in
    let last = map string_bytes c.push_weaknesses.new.notes.items in
    let weak = flat_map (notes.note arrow) (notes.weaknesses facts) in
    let of_tails = notes.tail_note facts (notes.tail_names_if rows.named noted.tails) in
    let tails = of_tails ++ weak in
    let matched = late_notes.matched_note arrow (length noted.matched_late) facts.late_before noted.late_lines in
    let of_late = notes.late_note arrow facts.late (notes.names_if rows.named noted.late) in
    let of_side = notes.side_notes arrow noted rows.side in
    let of_best = notes.best_effort_note arrow total (notes.shares_if rows.named (map best_efforts.best_effort_value rows.talk.now.best_effort.items)) in
    let of_left = notes.left_out_notes rows.named noted.talk.silence noted.left_out in
    let of_talking = notes.talking_note (length noted.talk.talking) noted.talking in
    let of_hosts = notes.host_note arrow noted.talk.participants in
    let of_order = notes.order_note arrow facts.back in
    let shares = c.deref-2.ensures ∙ c.in_ok-shares.ensures ∙ ap (λ sums. notes.shares_if rows.named (map best_efforts.best_effort_value sums)) c.deref.ensures.value in
    let best = c.in_ok-push_best_effort.ensures ∙ ap (λ text. third ++ notes.best_effort_note arrow total text) shares in
    let late = c.in_ok-push_late.ensures ∙ ap (λ text. fifth ++ notes.late_note arrow facts.late text) (c.deref-3.ensures ∙ c.in_ok-late.ensures) in
    let told = c.matched_in.result in
    let late_pairs = c.in_ok-push_matched.ensures ∙ ap (λ (pairs : ℕ). sixth ++ late_notes.matched_note arrow pairs told.before told.lines.now) c.matched_in.ensures.pairs
    ∙ ap (λ (before : ℕ). sixth ++ late_notes.matched_note arrow (length noted.matched_late) before told.lines.now) c.matched_in.ensures.before
    ∙ ap (λ (lines : List ℕ). sixth ++ late_notes.matched_note arrow (length noted.matched_late) facts.late_before lines) c.matched_in.ensures.lines in
    let tail = c.in_ok-push_tails.ensures ∙ ap (λ text. of_matched ++ notes.tail_note facts text) (c.deref-4.ensures ∙ c.in_ok-tails.ensures) in
    let from_tails = behind of_matched seventh last of_tails weak tail c.in_ok-push_weaknesses.ensures in
    let from_matched = behind sixth of_matched last matched tails late_pairs from_tails in
    let from_late = behind fifth sixth last of_late (matched ++ tails) late from_matched in
    let from_side = behind fourth fifth last of_side (of_late ++ (matched ++ tails)) c.in_ok-push_beside.ensures from_late in
    let from_best = behind third fourth last of_best (of_side ++ (of_late ++ (matched ++ tails))) best from_side in
    let from_left = behind of_talk third last of_left (of_best ++ (of_side ++ (of_late ++ (matched ++ tails)))) c.in_ok-push_left_out.ensures from_best in
    let from_talking = behind second of_talk last of_talking (of_left ++ (of_best ++ (of_side ++ (of_late ++ (matched ++ tails))))) c.in_ok-push_talking.ensures from_left in
    let from_hosts = behind first second last of_hosts (of_talking ++ (of_left ++ (of_best ++ (of_side ++ (of_late ++ (matched ++ tails)))))) c.in_ok-push_hosts.ensures from_talking in
    behind new first last of_order (of_hosts ++ (of_talking ++ (of_left ++ (of_best ++ (of_side ++ (of_late ++ (matched ++ tails))))))) c.in_ok-push_order.ensures from_hosts
    ∙ ap (λ items. map string_bytes items ++ notes.notes arrow facts noted) c.new-notes.ensures.items
