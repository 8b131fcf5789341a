use Rattle.rtps_tool.proofs.passes.passes_text.Goals as goal

pub returns-in-Audit-clause-known : goal.returns-in-Audit-clause-known
returns-in-Audit-clause-known g c = rw c.in-Audit.is c.audit_by_passes.ensures.known

pub returns-in-List-clause-known : goal.returns-in-List-clause-known
returns-in-List-clause-known g c = rw c.in-List.is c.list_by_passes.ensures.known
