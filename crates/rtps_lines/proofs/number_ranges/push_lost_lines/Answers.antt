use Rattle.std.proofs.Common.{◌++◌, ◌∙◌, ap, append-nil, string_bytes, sym}
use Rattle.std.proofs.lemmas.Result.{on_ok_weaker}
use Rattle.rtps_evidence.specs.Kinds as kinds
use Rattle.rtps_lines.specs.NumberRanges as number_ranges
use Rattle.rtps_lines.proofs.LostLemmas.{found, not_found}
use Rattle.rtps_lines.proofs.number_ranges.push_lost_lines.Goals as goal

pub returns-in-Some : goal.returns-in-Some
returns-in-Some c =
    let start = string_bytes c.args.text.now in
    let times = c.args.lost.times.now in
    on_ok_weaker c.push_lost.result
    (λ last. last ∙ ap (λ (lost : kinds.LostValue). start ++ number_ranges.lost_lines times lost) (sym (found c.args.lost.rows.now c.args.place c.in-Some.numbers.now c.in-Some.ensures.lookup.0 c.in-Some.ensures.lookup.1)))
    c.push_lost.ensures

pub returns-in-None : goal.returns-in-None
returns-in-None c =
    let start = string_bytes c.args.text.now in
    sym (append-nil start)
    ∙ ap (λ (lost : kinds.LostValue). start ++ number_ranges.lost_lines c.args.lost.times.now lost) (sym (not_found c.args.lost.rows.now c.args.place c.in-None.ensures.lookup.0))
