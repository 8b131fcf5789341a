use Rattle.rtps_tool.specs.Commands as commands
use Rattle.rtps_tool.proofs.LimitsLemmas.{stays_within}
use Rattle.rtps_tool.proofs.OneText.{OneTextEach, one_text_of}
use Rattle.rtps_tool.proofs.RunsLemmas.{runs_agree_within}
use Rattle.rtps_tool.proofs.laws.limits_change_nothing.Goals as goal

pub returns-clause-stays : goal.returns-clause-stays
returns-clause-stays c = stays_within

pub returns-clause-agree : goal.returns-clause-agree
returns-clause-agree c = λ command other.
    let each : OneTextEach = record {
      shown = c.one_text.ensures.shown_with;
      listed = c.one_text.ensures.listed;
      audited = c.one_text.ensures.audited;
      json = c.one_text.ensures.json;
      why = c.one_text.ensures.why;
      check = c.one_text-2.ensures;
      check_json = c.one_json.ensures;
      page = c.one_page.ensures;
    } in
    runs_agree_within (commands.IsTextOf command other) (one_text_of each command other)
