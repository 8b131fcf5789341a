-- Two recordings that say the same have the same verdicts.
use Rattle.std.proofs.Common.{ℕ, ◌≤◌, sym, ◌∙◌, ap, subst, pos}
use Rattle.rtps_audit.specs.Delivery as delivery
use Rattle.rtps_audit.specs.RunVerdict as run_verdict
use Rattle.rtps_audit.specs.PlainVerdict as plain_verdict
use Rattle.rtps_audit.specs.Laws as laws
use Rattle.rtps_audit.specs.declared.verdict.Verdict.{Verdict}
use Rattle.rtps_audit.proofs.Verdicts.{to_plain, from_plain, least_same, on_natural}

-- and the other way round
pub turned : {from : ℕ} (one other : delivery.Speech) → laws.SaysTheSame from one other → laws.SaysTheSame from other one
turned one other same = record {
  counted = sym same.counted;
  words = λ i n word. ((same.words i n word).1, (same.words i n word).0);
  claims = λ j n. ((same.claims j n).1, (same.claims j n).0);
  announced = sym same.announced;
}

pub told : {from : ℕ} (one other : delivery.Speech) → laws.SaysTheSame from one other → (j n : ℕ) → run_verdict.IsTold from one j n → run_verdict.IsTold from other j n
told one other same j n is =
    let gives = (same.words is.place n is.word).0 (is.act, is.gives) in
    record { place = is.place; act = gives.0; word = is.word; earlier = is.earlier; gives = gives.1 }

pub spoken : {from : ℕ} (one other : delivery.Speech) → laws.SaysTheSame from one other → (n : ℕ) (word : delivery.Word) → plain_verdict.IsSpoken from one n word → plain_verdict.IsSpoken from other n word
spoken one other same n word is =
    let gives = (same.words is.place n word).0 (is.act, is.gives) in
    record { place = is.place; act = gives.0; gives = gives.1 }

untold : {from : ℕ} (one other : delivery.Speech) → laws.SaysTheSame from one other → (j n : ℕ) → run_verdict.ClaimsUntold from one j n → run_verdict.ClaimsUntold from other j n
untold one other same j n (claims, none) = ((same.claims j n).0 claims, λ is. none (told other one (turned one other same) j n is))

pub founded : {from : ℕ} (one other : delivery.Speech) → laws.SaysTheSame from one other → plain_verdict.IsFounded from one → plain_verdict.IsFounded from other
founded one other same is j n claims = told one other same j n (is j n ((same.claims j n).1 claims))

two : {from : ℕ} (one other : delivery.Speech) → laws.SaysTheSame from one other → (n : ℕ) → plain_verdict.SpeaksTwo from one n → plain_verdict.SpeaksTwo from other n
two one other same n (x, y, first, second, differ) = (x, y, spoken one other same n (delivery.Word.Told x) first, spoken one other same n (delivery.Word.Told y) second, differ)

claimed : {from : ℕ} (one other : delivery.Speech) → laws.SaysTheSame from one other → (n : ℕ) → plain_verdict.IsClaimed from one n → plain_verdict.IsClaimed from other n
claimed one other same n (j, claims) = (j, (same.claims j n).0 claims)

unclaimed : {from : ℕ} (one other : delivery.Speech) → laws.SaysTheSame from one other → (n : ℕ) → plain_verdict.IsUnclaimed from one n → plain_verdict.IsUnclaimed from other n
unclaimed one other same n (asked, announced, none) =
    (asked, subst (λ last. n ≤ last) same.announced announced, λ is. none (claimed other one (turned one other same) n is))

pub plain : {from : ℕ} (one other : delivery.Speech) (verdict : Verdict) → laws.SaysTheSame from one other → plain_verdict.IsPlainVerdictFrom from one verdict → plain_verdict.IsPlainVerdictFrom from other verdict
plain one other (Verdict.Unfounded datagram number) same (j, place, first, least) =
    let back = turned one other same in (
      j,
      place,
      least_same _ _ (λ i (n, claims). (n, untold one other same i n claims)) (λ i (n, claims). (n, untold other one back i n claims)) j first,
      on_natural number _ _ (least_same _ _ (untold one other same j) (untold other one back j)) least,
    )
plain one other (Verdict.Conflict number) same (is, least) =
    (founded one other same is, on_natural number _ _ (least_same _ _ (two one other same) (two other one (turned one other same))) least)
plain one other (Verdict.Open number) same (is, none, least) = (
  founded one other same is,
  λ n differ. none n (two other one (turned one other same) n differ),
  on_natural number _ _ (least_same _ _ (unclaimed one other same) (unclaimed other one (turned one other same))) least,
)
plain one other (Verdict.Complete last) same (at, is, none, all) = (
  at ∙ ap pos same.announced,
  founded one other same is,
  λ n differ. none n (two other one (turned one other same) n differ),
  λ n asked announced. claimed one other same n (all n asked (subst (λ k. n ≤ k) (sym same.announced) announced)),
)

pub verdicts_follow_what_is_said : laws.VerdictsFollowWhatIsSaid
verdicts_follow_what_is_said from one other verdict same is = from_plain from other verdict (plain one other verdict same (to_plain from one verdict is))
