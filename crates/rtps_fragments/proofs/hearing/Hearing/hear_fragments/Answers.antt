use Rattle.std.proofs.Common.{◌≡◌, ◌++◌, ◌∷◌, [], ◌∙◌, List, Bool, true, false, ap, arith, map, subst, sym}
use Rattle.rtps_receiver.specs.Values as values
use Rattle.rtps_audit.specs.Placed as placed_spec
use Rattle.rtps_fragments.specs.Hearing as hearing_spec
use Rattle.rtps_fragments.specs.SampleActs as sample_acts
use Rattle.rtps_fragments.specs.ToldSamples as told_samples
use Rattle.rtps_fragments.specs.declared.told_sample.ToldSample.{ToldSample}
use Rattle.rtps_fragments.proofs.MakingLemmas.{makings_more, same_came}
use Rattle.rtps_fragments.proofs.MergingLemmas.{map_map}
use Rattle.rtps_fragments.proofs.OkLemmas.{on_ok}
use Rattle.rtps_fragments.proofs.ViewLemmas.{hears_more}
use Rattle.rtps_fragments.proofs.hearing.Hearing.hear_fragments.Goals as goal

pub returns-clause-heard : goal.returns-clause-heard
returns-clause-heard c = on_ok c.push_told.result _ _ c.push_told.ensures.acts (λ pushed before come.
    let reader = c.args.self.now.reader in
    let act = values.spoken_value c.args.placed.now.act in
    let sent = told_samples.sent_value c.in-Some.sent in
    let came = hearing_spec.came_to reader before in
    let told = c.in_ok-tell.ensures in
    let more = hears_more reader before act 0 sent (sym c.heard_by.ensures.test ∙ c.if-not-heard_by.false) c.in-Some.ensures.1 in
    let kept = makings_more came sent c.args.self.now.makings c.tell.new.self come (told.here (came sent.key) (come sent.key)) told.others in
    let made = λ (one : told_samples.ToldValue). sample_acts.sample_act reader act sent.key.number one.payload in
    let items : map told_samples.told_value c.deref.result.now ≡ told_samples.told_by_sent sent (came sent.key) =
    ap (map told_samples.told_value) c.deref.ensures.value ∙ told.told (came sent.key) (come sent.key) ∙ ap (λ (ts : List ToldSample). map told_samples.told_value ts ++ told_samples.told_by_sent sent (came sent.key)) c.new-told.ensures.items in (
      subst (hearing_spec.HaveCome reader (before ++ hearing_spec.with_piece act ∷ [])) (sym c.push_told.ensures.makings) (same_came _ _ c.tell.new.self more.came kept),
      pushed
          ∙ ap (λ acts. map placed_spec.placed_value c.args.self.now.acts.items ++ placed_spec.placed_at c.args.placed.now.datagram acts) (sym (map_map made told_samples.told_value c.deref.result.now) ∙ ap (map made) items ∙ more.told),
    ))
