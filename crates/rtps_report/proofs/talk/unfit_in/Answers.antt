use Rattle.std.proofs.Common.{◌≡◌, filter, rules}
use Rattle.std.proofs.lemmas.Fn.{filter_same}
use Rattle.rtps_policies.specs.Unmatched as unmatched
use Rattle.rtps_policies.specs.declared.unmatched.Unmatched.{Unmatched}
use Rattle.rtps_report.specs.Asked as asked
use Rattle.rtps_who.specs.Recorded as recorded
use Rattle.rtps_report.specs.Rows as rows
use Rattle.rtps_report.specs.Talk as talk
use Rattle.rtps_report.proofs.TalkLemmas.{kept_unmatched}
use Rattle.rtps_report.proofs.talk.unfit_in.Goals as goal

pub returns : goal.returns
returns c = λ traffic announced.
    let chosen = rows.chosen_by (asked.asked_value c.args.read.now.asked.now) (recorded.node_in c.args.who.now) in
    let found = c.in_ok-unfit.unfit.items in
    let kept : c.retain.new.self.items ≡ filter (λ (one : Unmatched). talk.is_asked chosen (unmatched.unmatched_value one)) found =
    filter_same _ (λ (one : Unmatched). talk.is_asked chosen (unmatched.unmatched_value one)) _
    (λ one b f k. let told : b ≡ talk.is_asked chosen (unmatched.unmatched_value one) = search rules in (told, search rules)) _ _ c.retain.ensures.filtered in
    kept_unmatched chosen found c.retain.new.self.items _ kept (c.in_ok-unfit.ensures traffic.announcing announced)
