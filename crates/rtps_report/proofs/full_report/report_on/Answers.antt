use Rattle.std.proofs.Common.{◌≡◌, ◌∙◌, List, ap, map, refl}
use Rattle.rtps_evidence.specs.Explanation as explanation
use Rattle.rtps_evidence.specs.Times as times
use Rattle.rtps_report.specs.Asked as asked_spec
use Rattle.rtps_report.specs.Findings as findings
use Rattle.rtps_report.specs.FullReport as full_report
use Rattle.rtps_report.specs.Order as order
use Rattle.rtps_report.specs.ReaderSide as reader_side
use Rattle.rtps_report.specs.Talk as talk
use Rattle.rtps_evidence.specs.declared.explanation.Explanation.{Explanation}
use Rattle.rtps_report.specs.declared.findings.TalkFacts.{TalkFacts}
use Rattle.rtps_report.proofs.full_report.report_on.Goals as goal

pub returns : goal.returns
returns g c =
    let asked = c.args.inquiry.asked.now in
    let recording = c.args.inquiry.recording.now in
    let other = reader_side.other_by (reader_side.arrived_value c.args.inquiry.arrived) in
    let held = c.beside-other.ensures other c.in_ok-side.ensures in
    let beside = reader_side.beside_of (reader_side.arrived_value c.args.inquiry.arrived) recording in
    let noted = c.in_ok-index.ensures other held in
    let explained = c.in_ok-explained.explained in
    let facts : TalkFacts → _ = λ told. full_report.facts_with told c.in_ok-order.order (asked_spec.asked_value asked) (map explanation.explanation_value explained.rows.items) explained.counts recording in
    record {
      asks = refl;
      records = refl;
      indexes = noted.0;
      is_report = record {
        beside = refl;
        talks = noted.1;
        rows = c.in_ok-explained.ensures _ beside (talk.traffic_of recording.datagrams) (record { index = noted.0; other = held; times = ap (λ (times : times.TimesValue). times.of_datagrams) c.times.ensures }) noted.2;
        order = c.in_ok-order.ensures
            ∙ ap (λ (rows : List Explanation). order.order_by (reader_side.arrived_value c.args.inquiry.arrived) recording (map explanation.explanation_value rows) c.in_ok-index.field-0.talk.ways) c.deref.ensures.value;
        ends = c.ending_of-ending.ensures ∙ ap (findings.ending_as (asked_spec.asked_value asked)) (c.facts_of-facts.ensures ∙ ap facts c.in_ok-told.ensures);
      };
    }
