use Rattle.std.proofs.Common.{ℕ, ◌≡◌, ◌∙◌, ◌++◌, ◌∷◌, [], All, List, ap, arith, get_or, map, subst, sym, take}
use Rattle.std.specs.Prelude.{IfSome}
use Rattle.std.proofs.lemmas.List.{map-append, take_all, take_more}
use Rattle.std.proofs.lemmas.List.Elements.{All-push}
use Rattle.rtps_audit.specs.Report as report
use Rattle.rtps_discovery.specs.declared.matching.Pair.{Pair}
use Rattle.rtps_evidence.specs.Spans as spans
use Rattle.rtps_evidence.specs.Together as together
use Rattle.rtps_evidence.specs.declared.docket.Docket.{Docket}
use Rattle.rtps_evidence.specs.declared.judgement.Judgement.{Judgement}
use Rattle.rtps_evidence.proofs.TogetherLemmas.{docket_is}
use Rattle.rtps_evidence.proofs.explanation.dockets_of.Goals as goal

pub loop-pair-preserved : goal.loop-pair-preserved
loop-pair-preserved c =
    let all = c.args.pairs.now in
    let i = c.loop-pair.pair-index in
    let lt = c.loop-pair-test.true in
    let basis = c.args.basis.now in
    let judgement = c.of-judgement.result in
    let docket = c.in_ok-docket.docket in
    let old = c.loop-pair.dockets.items in
    let items = c.in_ok-push.ensures.items in
    let pair_of = λ (docket : Docket). docket.judgement.pair in
    let same = c.in_ok-docket.ensures.judgement in
    let of_pair = c.of-judgement.ensures.pair in
    record {
      pairs =
          ap (map pair_of) items ∙ map-append pair_of old (docket ∷ []) ∙ ap (λ l. l ++ docket.judgement.pair ∷ []) c.loop-pair.invariant.pairs
          ∙ ap (λ p. take i all ++ p ∷ []) (ap (λ (j : Judgement). j.pair) same ∙ of_pair) ∙ sym (take_more all i _ lt);
      dockets = λ setting sides same_spans same_from notes known.
          let intake = setting.intake in
          let judged = subst (λ (from : ℕ). All (report.IsJudgedFrom from intake.acts) basis.known.now) same_from known in
          let extent = λ (pair : Pair) (is : spans.IsExtent basis.extent.in_spans basis.extent.from pair intake judgement.span).
          subst (λ b. spans.IsExtent b setting.from pair intake judgement.span) (sym same_spans) (subst (λ (from : ℕ). spans.IsExtent basis.extent.in_spans from pair intake judgement.span) (sym same_from) is) in
          subst (All (together.IsDocket setting)) (sym items)
          (All-push (together.IsDocket setting) old docket (c.loop-pair.invariant.dockets setting sides same_spans same_from notes known)
          (docket_is setting docket judgement _ same of_pair (c.of-judgement.ensures.in_spans ∙ sym same_spans) (extent _ (c.of-judgement.ensures.extent intake sides.index notes)) (λ yes. c.of-judgement.ensures.plain yes intake notes) (c.of-judgement.ensures.known intake.acts judged) (c.in_ok-docket.ensures.there intake setting.beside sides)));
    }

pub returns-clause-pairs : goal.returns-clause-pairs
returns-clause-pairs c = c.loop-pair.invariant.pairs ∙ take_all c.loop-pair.pair-index c.args.pairs.now (omega (arith, c.loop-pair-test.false))
