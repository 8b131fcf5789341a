use Rattle.rtps_report.proofs.audited.audit_asked.Goals as goal

pub returns : goal.returns
returns g c = c.report_asked.ensures c.args.recording.now.datagrams c.in_ok-index.ensures
