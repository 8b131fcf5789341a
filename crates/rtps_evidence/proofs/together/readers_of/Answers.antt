use Rattle.std.proofs.Common.{◌≡◌, ◌∙◌, ◌++◌, ◌∷◌, [], All, List, ap, arith, get_or, map, subst, sym, take}
use Rattle.std.proofs.lemmas.List.{map-append, take_all, take_more}
use Rattle.std.proofs.lemmas.List.Elements.{All-push}
use Rattle.rtps_ids.specs.declared.identity.Guid.{Guid}
use Rattle.rtps_evidence.specs.Together as together
use Rattle.rtps_evidence.specs.declared.docket.Docket.{Docket}
use Rattle.rtps_evidence.proofs.together.readers_of.Goals as goal

pub loop-docket-preserved : goal.loop-docket-preserved
loop-docket-preserved c =
    let all = c.args.dockets.now in
    let i = c.loop-docket.docket-index in
    let docket = c.docket-item.result in
    let at = c.docket-item.is in
    let lt = c.loop-docket-test.true in
    let old = c.loop-docket.readers.items in
    let reader = c.in_ok-reader.reader in
    let items = c.in_ok-push.ensures.items in
    let pair_of = λ (docket : Docket). docket.judgement.pair in
    record {
      pairs =
          ap (map together.reader_pair) items ∙ map-append together.reader_pair old (reader ∷ []) ∙ ap (λ l. l ++ together.reader_pair reader ∷ []) c.loop-docket.invariant.pairs
          ∙ ap (λ p. map pair_of (take i all) ++ p ∷ []) (c.in_ok-reader.ensures.pair ∙ ap pair_of at)
          ∙ sym (map-append pair_of (take i all) (get_or all i docket ∷ [])) ∙ ap (map pair_of) (sym (take_more all i docket lt));
      ready = λ setting writer sides dockets writers plain plains.
          let is = subst (together.IsDocket setting) (sym at) (dockets i docket lt) in
          let of = subst (λ (d : Docket). d.judgement.pair.writer ≡ writer) (sym at) (writers i docket lt) in
          let reader_plain = subst (λ (d : Docket). together.is_plain setting d.judgement.pair.reader) (sym at) (plains i docket lt) in
          let ready = c.in_ok-reader.ensures.ready setting sides is (subst (together.is_plain setting) (sym of) plain) reader_plain in
          subst (All (together.IsReady setting writer)) (sym items)
          (All-push (together.IsReady setting writer) old reader (c.loop-docket.invariant.ready setting writer sides dockets writers plain plains) (subst (λ (w : Guid). together.IsReady setting w reader) of ready));
    }

pub returns-clause-pairs : goal.returns-clause-pairs
returns-clause-pairs c =
    let all = take_all c.loop-docket.docket-index c.args.dockets.now (omega (arith, c.loop-docket-test.false)) in
    c.loop-docket.invariant.pairs ∙ ap (map (λ (docket : Docket). docket.judgement.pair)) all
