use Rattle.rtps_audit.proofs.report.audit_watched.Goals as goal

pub returns : goal.returns
returns g c = c.in_ok-report.ensures _ c.in_ok-index.ensures
