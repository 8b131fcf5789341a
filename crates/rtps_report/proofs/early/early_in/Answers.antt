use Rattle.std.proofs.Common.{◌∙◌, ◌+◌, List, ap, filter, fold, map}
use Rattle.rtps_ids.specs.declared.identity.GuidPrefix.{GuidPrefix}
use Rattle.rtps_receiver.specs.Values as values
use Rattle.rtps_report.specs.Early as early
use Rattle.rtps_report.proofs.EarlyLemmas.{datagram_more}
use Rattle.rtps_report.proofs.early.early_in.Goals as goal

pub loop-place-preserved : goal.loop-place-preserved
loop-place-preserved c = λ announcing joined.
    let recording = c.args.recording.now in
    let place = c.loop-place.place in
    let acts = map values.spoken_value c.acts.result.now in
    c.in_ok-note_early.ensures announcing joined
    ∙ ap (λ (prefixes : List GuidPrefix). fold early.with_source prefixes (filter (early.is_early announcing (place + 1)) acts)) (c.loop-place.invariant announcing joined)
    ∙ datagram_more announcing recording place _ acts c.loop-place-test.true (ap (map values.spoken_value) c.acts.ensures ∙ c.in_ok-read.ensures.acts.acts)
