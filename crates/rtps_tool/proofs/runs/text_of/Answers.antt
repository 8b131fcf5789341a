use Rattle.rtps_tool.proofs.runs.text_of.Goals as goal

pub returns-in-Report : goal.returns-in-Report
returns-in-Report g c = rw c.in-Report.is c.told.ensures

pub returns-in-Show : goal.returns-in-Show
returns-in-Show g c = rw c.in-Show.is c.show_text.ensures

pub returns-in-List : goal.returns-in-List
returns-in-List g c = rw c.in-List.is c.list_text.ensures

pub returns-in-Audit : goal.returns-in-Audit
returns-in-Audit g c = rw c.in-Audit.is c.audit_text.ensures

pub returns-in-Json : goal.returns-in-Json
returns-in-Json g c = rw c.in-Json.is c.json_text.ensures
