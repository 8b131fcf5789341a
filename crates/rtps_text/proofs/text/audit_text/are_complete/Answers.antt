use Rattle.std.proofs.Common.{rules}
use Rattle.std.proofs.lemmas.Iterator.Search.{all_from_yields_List}
use Rattle.std.proofs.lemmas.Iterator.{YieldsList-from_slice}
use Rattle.rtps_audit.specs.declared.report.Row.{Row}
use Rattle.rtps_report.specs.Reported as reported
use Rattle.rtps_text.proofs.text.audit_text.are_complete.Goals as goal

pub returns : goal.returns
returns c =
    let test = λ (row : Row). reported.is_complete row.verdict in
    all_from_yields_List test _ _ _ c.all.ensures.ran (YieldsList-from_slice c.args.rows.now c.iter.ensures.rest) (λ x b q k. search (rules))
