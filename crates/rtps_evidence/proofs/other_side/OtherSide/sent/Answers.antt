use Rattle.std.proofs.lemmas.Result.{IfOk-weaker}
use Rattle.std.proofs.Common.{◌≡◌, ◌∙◌, ℕ, List, ap, map}
use Rattle.rtps_audit.specs.Placed as placed
use Rattle.rtps_coverage.specs.Stretches as stretches
use Rattle.rtps_evidence.specs.Amount as amount
use Rattle.rtps_fragments.specs.Hearing as hearing
use Rattle.rtps_evidence.proofs.OriginLemmas.{sent_same}
use Rattle.rtps_evidence.proofs.other_side.OtherSide.sent.Goals as goal

pub returns : goal.returns
returns c = λ other is.
    let pair = c.args.pair in
    let own = map placed.placed_value c.in_ok-said.said.acts.now in
    let heard = placed.placed_in (hearing.heard_by pair.reader other.intake.acts) in
    let said = c.in_ok-said.ensures other.intake.acts (c.until.ensures other.intake is.index) in
    IfOk-weaker c.sent_among.result (λ sent. (n : ℕ) → stretches.stretches_have sent.items n ≡ amount.is_sent pair.writer pair.reader own n) (λ sent. (n : ℕ) → stretches.stretches_have sent.items n ≡ amount.is_sent pair.writer pair.reader heard n)
    (λ sent among n. among n ∙ ap (λ l. amount.is_sent pair.writer pair.reader l n) said.acts ∙ sent_same pair.writer pair.reader n heard) c.sent_among.ensures
