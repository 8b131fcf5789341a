use Rattle.std.proofs.Common.{◌∙◌, refl, sym, inl, inr, not}
use Rattle.std.specs.Str.{bytes_eq}
use Rattle.rtps_fragments.specs.declared.heard.Heard.{Heard}
use Rattle.rtps_fragments.proofs.KeptLemmas.{kept_again, kept_new, other_set, other_stays_kept}
use Rattle.rtps_fragments.proofs.OkLemmas.{both_ok, on_ok}
use Rattle.rtps_fragments.proofs.heard.Heard.take.Goals as goal
use Rattle.rtps_fragments.proofs.heard.Heard.take.Goals.{else-self-eq0-via-then-self-eq0+else-ne, else-self-eq0-via-else-self-eq0}

pub returns-then-ne : goal.returns-then-ne
returns-then-ne c = λ came is.
    let kept = c.args.self.now in
    let first = c.in-Some.first.now in
    let new : Heard = record { front = kept.front; ahead = kept.ahead; other = c.args.index; octets = c.args.octets; alloc = kept.alloc } in
    kept_again c.args.last came kept new c.args.index c.args.octets.now is first (sym c.in-Some.ensures) (λ i. refl) refl
    (other_set kept.other c.args.index kept.octets.now c.args.octets.now (not (bytes_eq first c.args.octets.now)) c.requires c.if-self-eq0.true (sym c.ne.ensures ∙ c.if-ne.true))

pub returns-else-self-eq0 : goal.returns-else-self-eq0
returns-else-self-eq0 c = λ came is.
    let kept = c.args.self.now in
    let first = c.in-Some.first.now in
    elim c.else-self-eq0.branch [
      | else-self-eq0-via-then-self-eq0+else-ne w ↦
          kept_again c.args.last came kept kept c.args.index c.args.octets.now is first (sym c.in-Some.ensures) (λ i. refl) refl
          (other_stays_kept kept.other c.args.index kept.octets.now c.args.octets.now (not (bytes_eq first c.args.octets.now)) (inl (w.if-self-eq0.true, sym w.ne.ensures ∙ w.if-ne.false)))
      | else-self-eq0-via-else-self-eq0 w ↦
          kept_again c.args.last came kept kept c.args.index c.args.octets.now is first (sym c.in-Some.ensures) (λ i. refl) refl
          (other_stays_kept kept.other c.args.index kept.octets.now c.args.octets.now (not (bytes_eq first c.args.octets.now)) (inr w.if-self-eq0.false))
    ]

pub returns : goal.returns
returns c =
    let ends = c.advance.ensures in
    let put = c.in_ok-put.ensures in
    let result = c.advance.result in
    on_ok result _ _ (both_ok result _ _ ends.firsts (both_ok result _ _ ends.within (both_ok result _ _ ends.next ends.other))) (λ (firsts, (within, (next, other))) came is.
    kept_new c.args.last came c.args.self.now c.advance.new.self c.args.index c.args.octets.now is (sym c.in_default.ensures) (λ i. firsts i ∙ put.firsts i) (within (put.within is.within)) next (other ∙ put.other))
