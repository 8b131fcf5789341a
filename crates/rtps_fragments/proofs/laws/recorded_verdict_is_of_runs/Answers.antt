use Rattle.std.proofs.Common.{List, sym, subst}
use Rattle.rtps_receiver.specs.Values as values
use Rattle.rtps_audit.specs.RunVerdict as run_verdict
use Rattle.rtps_audit.specs.Speech as speech
use Rattle.rtps_fragments.specs.FragmentVerdict as fragment_verdict
use Rattle.rtps_fragments.specs.SampleActs as sample_acts
use Rattle.rtps_fragments.specs.FragmentWalk as fragment_walk
use Rattle.rtps_fragments.proofs.IndexSteps.{pieces_of_recording}
use Rattle.rtps_fragments.proofs.laws.recorded_verdict_is_of_runs.Goals as goal

pub returns : goal.returns
returns c from writer reader recording verdict =
    let runs = fragment_verdict.IsFragmentVerdictFrom from (sample_acts.fragment_speech_of writer reader (fragment_walk.sending_of recording)) verdict in
    subst (λ (acts : List (List values.ActValue)). (runs → run_verdict.IsVerdictFrom from (speech.speech_by writer reader acts) verdict) × (run_verdict.IsVerdictFrom from (speech.speech_by writer reader acts) verdict → runs))
    (sym (c.sent_acts_are_heard.ensures reader recording)) (c.fragment_verdict_of_acts.ensures from writer reader (fragment_walk.sending_of recording) verdict (pieces_of_recording recording))
