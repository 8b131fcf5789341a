use Rattle.std.proofs.Common.{◌≡◌, ◌++◌, ◌∷◌, [], ◌∙◌, List, ap, sym}
use Rattle.json.specs.Token.{Token, begin_object, end_object}
use Rattle.json.specs.Tree.{json_tokens}
use Rattle.rtps_report.specs.Asked as asked
use Rattle.rtps_report.specs.FullReport as full_report
use Rattle.rtps_json.specs.CheckMembers as check_members
use Rattle.rtps_json.specs.JsonText as json_text
use Rattle.rtps_lines.proofs.Offered.{three_parts}
use Rattle.rtps_json.proofs.Offered.{check_within, object_tokens}
use Rattle.rtps_check.proofs.checked_text.check_json.Goals as goal

pub json_line-requires : goal.json_line-requires
json_line-requires c = c.in_ok-end_object.ensures.room.0 ∙ c.in_ok-push_check_members.ensures.before ∙ c.in_ok-begin_object.ensures.room.0 ∙ c.new-writer.ensures.before ∙ c.new.ensures.items

pub returns : goal.returns
returns c =
    let report = c.args.report.now in
    let asked = asked.asked_value report.asked.now in
    let members = check_members.check_members asked report.recording.now (full_report.report_value report) in
    let written : c.end_object.new.self.tokens ≡ json_tokens (json_text.object_of members) =
    three_parts [] (begin_object ∷ []) (json_text.tokens_of members) (end_object ∷ []) (c.in_ok-begin_object.ensures.ok ∙ ap (λ (all : List Token). all ++ begin_object ∷ []) c.new-writer.ensures.tokens)
    c.in_ok-push_check_members.ensures.tokens c.in_ok-end_object.ensures.ok
    ∙ sym (object_tokens members) in
    c.json_line.ensures (json_text.object_of members) written (check_within asked report.recording.now (full_report.report_value report))
