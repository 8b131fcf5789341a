use Rattle.std.proofs.Common.{List, sym, subst}
use Rattle.rtps_receiver.specs.Values as values
use Rattle.rtps_audit.specs.RunVerdict as run_verdict
use Rattle.rtps_audit.specs.Said as said
use Rattle.rtps_audit.specs.Speech as speech
use Rattle.rtps_fragments.specs.FragmentVerdict as fragment_verdict
use Rattle.rtps_fragments.specs.SampleActs as sample_acts
use Rattle.rtps_fragments.specs.FragmentWalk as fragment_walk
use Rattle.rtps_fragments.proofs.HearingLemmas.{first_datagrams_tell_the_same}
use Rattle.rtps_fragments.proofs.IndexSteps.{pieces_of_recording}
use Rattle.rtps_fragments.proofs.laws.first_datagrams_decide.Goals as goal

pub returns : goal.returns
returns c from writer reader until recording verdict =
    let first = said.datagrams_until until recording in
    let runs = fragment_verdict.IsFragmentVerdictFrom from (sample_acts.fragment_speech_of writer reader (fragment_walk.sending_of first)) verdict in
    let alike = c.fragments_tell_alike.ensures from (sample_acts.fragment_speech_of writer reader (fragment_walk.sending_of first)) (speech.speech_by writer reader (sample_acts.told_to reader (fragment_walk.sending_of first))) verdict (c.acts_tell_alike.ensures from writer reader (fragment_walk.sending_of first) (pieces_of_recording first)) in
    subst (λ (acts : List (List values.ActValue)). (runs → run_verdict.IsVerdictFrom from (speech.speech_by writer reader acts) verdict) × (run_verdict.IsVerdictFrom from (speech.speech_by writer reader acts) verdict → runs))
    (sym (first_datagrams_tell_the_same reader until recording)) alike
