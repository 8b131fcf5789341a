use Rattle.std.proofs.Common.{◌≡◌, ◌∙◌, ◌++◌, ◌∷◌, [], All, List, ap, get_or, length, map, rules, subst, sym}
use Rattle.std.proofs.lemmas.List.{map-id, map_push}
use Rattle.std.proofs.lemmas.List.Elements.{All-push}
use Rattle.std.proofs.lemmas.Iterator.Adapters.{YieldsList-from_vec}
use Rattle.std.proofs.lemmas.Iterator.Consumers.{YieldsList-end, YieldsList-turn}
use Rattle.rtps_evidence.specs.Together as together
use Rattle.rtps_evidence.specs.declared.hearer.Hearer.{Hearer}
use Rattle.rtps_evidence.specs.declared.leaving_ear.LeavingEar.{LeavingEar}
use Rattle.rtps_evidence.proofs.together.cases_of.Goals as goal

pub loop-reader-preserved : goal.loop-reader-preserved
loop-reader-preserved c =
    let all = c.args.readers.items in
    let so_far = c.loop-reader.yielded in
    let reader = c.in-Some.reader in
    let case = c.in_ok-case.case in
    let old = c.loop-reader.cases.items in
    let items = c.in_ok-push.ensures.items in
    let turn = YieldsList-turn (YieldsList-from_vec {s = c.into_iter-reader-iterator.result} all (search rules) (search rules)) so_far c.loop-reader.reader-iterator c.loop-reader.yielded_by c.next.result c.next.new.self reader c.in-Some.is c.next.ensures.steps in
    record {
      pairs =
          ap (map together.case_pair) items ∙ map_push together.case_pair old case ∙ ap (λ l. l ++ together.case_pair case ∷ []) c.loop-reader.invariant.pairs
          ∙ ap (λ p. map together.reader_pair so_far ++ p ∷ []) c.in_ok-case.ensures.pair ∙ sym (map_push together.reader_pair so_far reader);
      opened = λ setting writer told.
          subst (All (together.IsOpened setting writer)) (sym items)
          (All-push (together.IsOpened setting writer) old case (c.loop-reader.invariant.opened setting writer told)
          (c.in_ok-case.ensures.opened setting writer (subst (together.IsTold setting writer) (sym turn.1) (told (length so_far) reader turn.0))));
    }

pub returns-clause-pairs : goal.returns-clause-pairs
returns-clause-pairs c =
    let all = c.args.readers.items in
    let so_far = c.loop-reader.yielded in
    let end = YieldsList-end (YieldsList-from_vec {s = c.into_iter-reader-iterator.result} all (search rules) (search rules)) so_far c.loop-reader.reader-iterator c.loop-reader.yielded_by c.next.result c.next.new.self c.in-None.is c.next.ensures.steps in
    c.loop-reader.invariant.pairs ∙ ap (map together.reader_pair) (sym (map-id so_far) ∙ end.0)
