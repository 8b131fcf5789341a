use Rattle.std.proofs.Common.{◌∙◌, ◌-◌, ap, filter, max, refl}
use Rattle.rtps_audit.specs.Answered as answered
use Rattle.rtps_audit.specs.Placed as placed_spec
use Rattle.rtps_audit.proofs.IndexSpeech.{verdict_given}
use Rattle.rtps_audit.proofs.AccountsLemmas.{all_passed}
use Rattle.rtps_audit.proofs.verdict.Claims.verdict_on.Goals as goal

pub returns : goal.returns
returns c = λ from recording positive is.
    let pair = c.args.pair in
    let claims = c.args.self.now in
    let conflict = c.least_for.result in
    let placed = filter (placed_spec.is_from pair.writer) (placed_spec.placed_in recording) in
    let last = max (claims.from - 1) c.args.last in
    verdict_given from pair recording (placed_spec.answers_among pair (placed_spec.placed_in recording)) c.verdict.result positive
    (record {
      untold = claims.untold;
      conflict = conflict;
      last = last;
      first = is.claims.untold;
      least = c.least_for.ensures.conflict from is.wanted pair.writer placed is.payloads (all_passed (placed_spec.is_from pair.writer) (placed_spec.placed_in recording)) is.asked is.two;
      announced = ap (λ f. max (f - 1) c.args.last) is.claims.asking ∙ ap (max (from - 1)) is.announced;
      value = c.verdict.ensures ∙ ap (λ b. answered.verdict_by claims.untold conflict b last) is.claims.base;
    })
    refl
