use Rattle.std.proofs.Common.{ℕ, ◌≡◌, ◌∙◌, ◌<◌, ◌^◌, All, List, ap, arith, get_or, length, map, subst, sym}
use Rattle.std.proofs.lemmas.List.{length-map}
use Rattle.rtps_audit.specs.Placed as placed
use Rattle.rtps_evidence.specs.Together as together
use Rattle.rtps_evidence.specs.declared.brief.Brief.{Brief}
use Rattle.rtps_evidence.specs.declared.case.Case.{Case}
use Rattle.rtps_evidence.specs.declared.hearer.Hearer.{Hearer}
use Rattle.rtps_evidence.specs.declared.leaving_ear.LeavingEar.{LeavingEar}
use Rattle.rtps_evidence.proofs.TogetherLemmas.{alike, case_told, reader_told, whole_back}
use Rattle.rtps_evidence.proofs.together.heard_together.Goals as goal

pub returns-clause-pairs : goal.returns-clause-pairs
returns-clause-pairs c =
    let readers = c.in_ok-readers.readers in
    let cases = c.in_ok-cases.cases in
    let heard = c.in_ok-tell_all.ensures.heard in
    let again = c.in_ok-tell_all-2.ensures.heard in
    let all = c.deref_mut.ensures.value in
    let all_cases = c.deref_mut-2.ensures.value in
    let back = whole_back readers.len c.tell_all.new.ears readers.items (heard.0 ∙ ap length all) readers.ok.0 in
    let back_cases = whole_back cases.len c.tell_all-2.new.ears cases.items (again.0 ∙ ap length all_cases) cases.ok.0 in
    ap (map together.case_pair) back_cases
    ∙ alike together.case_pair c.deref_mut-2.result.now c.tell_all-2.new.ears again.0 (λ k d lt. ap (λ (b : Brief). b.exchange.pair) (again.1 k d lt).1.brief)
    ∙ ap (map together.case_pair) all_cases
    ∙ c.in_ok-cases.ensures.pairs
    ∙ ap (map together.reader_pair) back
    ∙ alike together.reader_pair c.deref_mut.result.now c.tell_all.new.ears heard.0 (λ k d lt. ap (λ (b : Brief). b.exchange.pair) (heard.1 k d lt).1.brief)
    ∙ ap (map together.reader_pair) all
    ∙ c.in_ok-readers.ensures.pairs

pub returns-clause-closed : goal.returns-clause-closed
returns-clause-closed c = λ setting writer sides dockets are writers plain plains.
    let readers = c.in_ok-readers.readers in
    let cases = c.in_ok-cases.cases in
    let heard = c.in_ok-tell_all.ensures.heard in
    let again = c.in_ok-tell_all-2.ensures.heard in
    let all = c.deref_mut.ensures.value in
    let all_cases = c.deref_mut-2.ensures.value in
    let acts = map placed.placed_value c.args.acts.now in
    let few : length acts < 2 ^ 64 = (let size = length-map c.args.acts.now placed.placed_value in let small = c.in_ok-tell_all.ensures.few in omega arith) in
    let back = whole_back readers.len c.tell_all.new.ears readers.items (heard.0 ∙ ap length all) readers.ok.0 in
    let back_cases = whole_back cases.len c.tell_all-2.new.ears cases.items (again.0 ∙ ap length all_cases) cases.ok.0 in
    let ready = subst (All (together.IsReady setting writer)) (sym all) (c.in_ok-readers.ensures.ready setting writer sides dockets writers plain plains) in
    let told : All (together.IsTold setting writer) c.tell_all.new.ears =
    λ k d lt.
    let within : k < length c.deref_mut.result.now = (let same = heard.0 in omega arith) in
    reader_told setting writer (get_or c.deref_mut.result.now k d) (get_or c.tell_all.new.ears k d) acts few are (ready k d within) (heard.1 k d within) in
    let opened = subst (All (together.IsOpened setting writer)) (sym all_cases) (c.in_ok-cases.ensures.opened setting writer (subst (All (together.IsTold setting writer)) (sym back) told)) in
    let closed : All (together.IsClosed setting) c.tell_all-2.new.ears =
    λ k d lt.
    let within : k < length c.deref_mut-2.result.now = (let same = again.0 in omega arith) in
    case_told setting writer (get_or c.deref_mut-2.result.now k d) (get_or c.tell_all-2.new.ears k d) acts are (opened k d within) (again.1 k d within) in
    subst (All (together.IsClosed setting)) (sym back_cases) closed
