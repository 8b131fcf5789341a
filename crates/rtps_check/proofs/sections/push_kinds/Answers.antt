use Rattle.std.proofs.Common.{◌≡◌, ◌++◌, OnOk, codes, decimal, rules, string_bytes}
use Rattle.std.proofs.lemmas.Result.{on_ok_weaker}
use Rattle.rtps_lines.proofs.Offered.{eight_parts}
use Rattle.rtps_check.specs.CheckText as check_text
use Rattle.rtps_check.proofs.sections.push_kinds.Goals as goal

pub returns : goal.returns
returns c =
    let outcomes = c.args.outcomes in
    let last : OnOk c.push_str.result (string_bytes c.push_str.new.self ≡ string_bytes c.push_kind-6.new.text ++ codes "\n") = search rules in
    on_ok_weaker c.push_str.result
    (eight_parts (string_bytes c.args.text.now) (codes ", received " ++ decimal outcomes.received) (check_text.kind_text (codes ", arrived ") outcomes.arrived)
    (check_text.kind_text (codes ", likely ") outcomes.likely) (check_text.kind_text (codes ", missed ") outcomes.missed) (check_text.kind_text (codes ", unsent ") outcomes.unsent) (check_text.kind_text (codes ", unanswered ") outcomes.unanswered)
    (check_text.kind_text (codes ", unconfirmed ") outcomes.unconfirmed) (codes "\n")
    c.in_ok-push_field.ensures c.in_ok-push_kind.ensures c.in_ok-push_kind-2.ensures c.in_ok-push_kind-3.ensures c.in_ok-push_kind-4.ensures c.in_ok-push_kind-5.ensures c.in_ok-push_kind-6.ensures)
    last
