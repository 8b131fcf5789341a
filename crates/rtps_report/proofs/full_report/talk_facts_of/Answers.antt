use Rattle.std.proofs.Common.{◌≡◌, ◌∙◌, ℕ, length, map, sym}
use Rattle.std.proofs.lemmas.List.{length-map}
use Rattle.rtps_policies.specs.Unmatched as unmatched
use Rattle.rtps_report.specs.NotTold as not_told
use Rattle.rtps_report.specs.declared.best_effort.BestEffortNumbers.{BestEffortNumbers}
use Rattle.rtps_report.specs.declared.findings.TalkFacts.{TalkFacts}
use Rattle.rtps_report.specs.declared.not_told.NotToldCounts.{NotToldCounts}
use Rattle.rtps_report.proofs.full_report.talk_facts_of.Goals as goal

pub returns : goal.returns
returns c =
    let talk = c.args.talk.now in
    let made : ℕ → NotToldCounts → ℕ → BestEffortNumbers → TalkFacts =
    λ unmatched not_told lives best_effort. record { unmatched = unmatched; not_told = not_told; lives = lives; best_effort = best_effort } in
    let unmatched : c.len.result ≡ length (map unmatched.unmatched_value talk.unmatched.items) = c.len.ensures ∙ talk.unmatched.ok.0 ∙ sym (length-map talk.unmatched.items unmatched.unmatched_value) in
    let lives : c.len-2.result ≡ length talk.lives.items = c.len-2.ensures ∙ talk.lives.ok.0 in
    let counts = c.in_ok-not_told_counts.ensures ∙ (λ i. not_told.not_told_counts (c.deref.ensures.value i) (map not_told.not_told_value (c.deref-2.ensures.value i))) in
    λ i. made (unmatched i) (counts i) (lives i) (c.told.ensures i)
