use Rattle.rtps_tool.specs.Commands as commands
use Rattle.rtps_tool.proofs.OneText.{OneTextEach, one_text_of}
use Rattle.rtps_tool.proofs.RunsLemmas as runs
use Rattle.rtps_tool.proofs.laws.runs_agree.Goals as goal

pub returns : goal.returns
returns c = λ command other.
    let each : OneTextEach = record {
      shown = c.one_text.ensures.shown_with;
      listed = c.one_text.ensures.listed;
      audited = c.one_text.ensures.audited;
      json = c.one_text.ensures.json;
      why = c.one_text.ensures.why;
      check = c.one_text-2.ensures;
      check_json = c.one_json.ensures;
      page = c.one_page.ensures;
    } in
    runs.runs_agree (commands.IsTextOf command other) (one_text_of each command other)
