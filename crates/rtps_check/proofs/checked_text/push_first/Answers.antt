use Rattle.std.proofs.Common.{◌++◌, ◌∙◌, ◌==◌, ℕ, ap, if◌then◌else◌, string_bytes, sym}
use Rattle.std.proofs.lemmas.Result.{on_ok_weaker}
use Rattle.rtps_check.specs.CheckText as check_text
use Rattle.rtps_check.proofs.checked_text.push_first.Goals as goal

pub returns-then-totals-eq0 : goal.returns-then-totals-eq0
returns-then-totals-eq0 c =
    let old = string_bytes c.args.text.now in
    let totals = c.args.totals.now in
    let beside = check_text.beside_value c.args.told.now in
    on_ok_weaker c.render.result
    (λ told. told ∙ ap (λ (pairs : ℕ). old ++ (if pairs == 0 then check_text.no_pair_lines beside.remedy else check_text.clean_lines beside.side totals)) (sym c.if-totals-eq0.true))
    c.render.ensures
