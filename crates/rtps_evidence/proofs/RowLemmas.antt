-- The rows that are explained, one more at a time, and evidence that is kept.
use Rattle.std.proofs.lemmas.Grind.{common_steps}
use Rattle.std.proofs.lemmas.Bool.Decides.{nat_tests}
use Rattle.std.proofs.Common.{◌≡◌, ◌∙◌, ℕ, ◌+◌, ◌<◌, Bool, List, [], ◌∷◌, ◌++◌, length, map, take, get_or, Option, ap, subst, sym, arith}
use Rattle.rtps_discovery.specs.declared.matching.Pair.{Pair}
use Rattle.rtps_receiver.specs.Values as values
use Rattle.rtps_audit.specs.Placed as placed
use Rattle.rtps_audit.specs.RunVerdict as run_verdict
use Rattle.rtps_audit.specs.Speech as speech
use Rattle.rtps_evidence.specs.Evidence as evidence_spec
use Rattle.rtps_evidence.specs.Explanation as explanation
use Rattle.rtps_audit.specs.declared.verdict.Verdict.{Verdict}
use Rattle.rtps_evidence.specs.Grounds as grounds_spec
use Rattle.rtps_evidence.specs.declared.evidence.Evidence.{Evidence}
use Rattle.rtps_evidence.specs.declared.explanation.Explanation.{Explanation}
use Rattle.rtps_evidence.specs.declared.location.Location.{Location}

pub pairs_more : (old new : List Explanation) (x : Explanation) (pairs : List Pair) (i : ℕ) (d : Pair) → i < length pairs → new ≡ old ++ x ∷ [] → x.pair ≡ get_or pairs i d
    → map (λ (row : Explanation). row.pair) old ≡ take i pairs → map (λ (row : Explanation). row.pair) new ≡ take (i + 1) pairs
pairs_more old new x pairs i d lt is pair so_far = grind (arith, nat_tests, common_steps)

-- evidence of the same value shows the same
pub shown_kept : (there : ℕ → Bool) (from : ℕ) (since : Option Location) (pair : Pair) (recording : List (List values.ActValue)) (one other : Evidence) → explanation.evidence_value other ≡ explanation.evidence_value one
    → evidence_spec.IsShown there from since pair recording one → evidence_spec.IsShown there from since pair recording other
shown_kept there from since pair recording one other same is = record {
  verdict = subst (run_verdict.IsVerdictFrom from (speech.speech_by pair.writer pair.reader recording)) (sym (ap (λ (e : explanation.EvidenceValue). e.verdict) same)) is.verdict;
  announcement = ap (λ (e : explanation.EvidenceValue). e.announcement) same ∙ is.announcement;
  acknowledgement = ap (λ (e : explanation.EvidenceValue). e.acknowledgement) same ∙ is.acknowledgement;
  amounts = record {
    payloads = ap (λ (e : explanation.EvidenceValue). e.payloads) same ∙ is.amounts.payloads;
    gone = ap (λ (e : explanation.EvidenceValue). e.gone) same ∙ is.amounts.gone;
    untold = ap (λ (e : explanation.EvidenceValue). e.untold) same ∙ is.amounts.untold;
  };
  received = record {
    count = ap (λ (e : explanation.EvidenceValue). e.received) same ∙ is.received.count;
    not_received = ap (λ (e : explanation.EvidenceValue). e.not_received) same ∙ is.received.not_received;
  };
  missed = record {
    count = ap (λ (e : explanation.EvidenceValue). e.missed) same ∙ is.missed.count;
    first = ap (λ (e : explanation.EvidenceValue). e.first_missed) same ∙ is.missed.first;
  };
  grounds = ap (λ (e : explanation.EvidenceValue). e.grounds) same ∙ is.grounds ∙ ap (λ (v : Verdict). grounds_spec.grounds_by v pair (placed.placed_in recording)) (sym (ap (λ (e : explanation.EvidenceValue). e.verdict) same));
}
