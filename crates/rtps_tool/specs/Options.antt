-- What a run prints, and of what. own: what is asked of a report is said in words, which the options borrow.
use Rattle.std.specs.Prelude.{map}
use Rattle.std.specs.String.{string_bytes}
use Rattle.rtps_report.specs.Asked as asked
use Rattle.rtps_tool.specs.Commands as commands
use Rattle.rtps_capture.specs.declared.captures.Captures.{Captures}
use Rattle.rtps_tool.specs.declared.demands.Demands.{Demands}
use Rattle.rtps_tool.specs.declared.runs.Limits.{Limits}
use Rattle.rtps_tool.specs.declared.runs.Options.{Options}

-- the options, with what is asked as a value
pub record OptionsValue : Type 0 where
  pub command : commands.CommandValue
  pub limits : Limits
  pub captures : Captures

-- the options of the code, as a value
abbrev pub options_value : Options → OptionsValue
options_value options = record { command = commands.command_value options.command; limits = options.limits; captures = options.captures }

-- what is asked of a report
abbrev pub asked_by : Demands → asked.AskedValue
asked_by demands =
    record {
      from = demands.from;
      topics = map string_bytes demands.topics.items;
      nodes = map string_bytes demands.nodes.items;
      expect = demands.expect;
      tail = demands.tail;
      certain = demands.certain;
    }
