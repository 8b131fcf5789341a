use Rattle.rtps_tool.proofs.OpeningLemmas.{capture_is_no_text}
use Rattle.rtps_tool.proofs.laws.no_text_begins_as_a_capture.Goals as goal

pub returns : goal.returns
returns c = capture_is_no_text
