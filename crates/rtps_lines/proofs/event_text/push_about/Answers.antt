use Rattle.std.proofs.Common.{◌++◌, ◌∙◌, List, ℕ, Option, ap, ap₂, sym}
use Rattle.std.proofs.lemmas.Result.{on_ok_weaker}
use Rattle.std.specs.String.{string_bytes}
use Rattle.rtps_ids.specs.declared.identity.GuidPrefix.{GuidPrefix}
use Rattle.rtps_report.specs.Events as events
use Rattle.rtps_report.specs.Talk as talk
use Rattle.rtps_lines.specs.EventText as event_text
use Rattle.rtps_lines.proofs.event_text.push_about.Goals as goal

pub returns-in-None : goal.returns-in-None
returns-in-None c =
    let before = string_bytes c.args.text.now in
    let times = c.args.times.now in
    let event = events.event_value c.args.event.now in
    on_ok_weaker c.push_silent.result
    (λ text.
    text ∙ ap (λ (who : List ℕ). before ++ event_text.silent_by times who event) c.called-first.ensures
    ∙ ap (λ (second : Option GuidPrefix). before ++ event_text.about_text times (talk.talk_value c.args.talk.now) event second) (sym c.in-None.is))
    c.push_silent.ensures

pub returns-in-Some : goal.returns-in-Some
returns-in-Some c =
    let before = string_bytes c.args.text.now in
    let times = c.args.times.now in
    let event = events.event_value c.args.event.now in
    on_ok_weaker c.push_between.result
    (λ text.
    text ∙ ap₂ (λ (who whom : List ℕ). before ++ event_text.between_by times who whom event) c.called-first.ensures c.called.ensures
    ∙ ap (λ (second : Option GuidPrefix). before ++ event_text.about_text times (talk.talk_value c.args.talk.now) event second) (sym c.in-Some.is))
    c.push_between.ensures
