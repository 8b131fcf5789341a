use Rattle.std.proofs.Common.{◌≡◌, ◌≤◌, ◌<◌, ◌∙◌, ◌++◌, ◌∷◌, [], ap, arith, length, map, refl, subst, sym}
use Rattle.std.specs.List.{All}
use Rattle.std.specs.List.Sorted.{IsNonDecreasingBy}
use Rattle.std.proofs.lemmas.Int.{ints}
use Rattle.std.proofs.lemmas.List.{length-map}
use Rattle.std.proofs.lemmas.List.Elements.{All-cons, All-nil}
use Rattle.rtps_discovery.specs.declared.matching.Pair.{Pair}
use Rattle.rtps_audit.specs.Placed as placed
use Rattle.rtps_audit.specs.declared.account.Account.{Account}
use Rattle.rtps_audit.specs.declared.answer.Answer.{Answer}
use Rattle.rtps_audit.specs.declared.ask.Ask.{Ask}
use Rattle.rtps_audit.proofs.AccountsLemmas.{acts_passed, since_first}
use Rattle.rtps_audit.proofs.AskLemmas.{ask_at, asks_at_first, asks_in_order, asks_of_one}
use Rattle.rtps_audit.proofs.ExactVerdicts.{exact_row}
use Rattle.rtps_audit.proofs.IndexSpeech.{answers_counted}
use Rattle.rtps_audit.proofs.PlacedActs.{answers_in_order, kept_in_order}
use Rattle.rtps_audit.proofs.judging.judge_said.Goals as goal

pub take_in-requires : goal.take_in-requires
take_in-requires g c =
    let items = c.in_ok-accounts.accounts.accounts.items in
    let long : length items ≡ 1 = sym (length-map items (λ (a : Account _). a.pair)) ∙ ap length c.in_ok-accounts.ensures.pairs_are in
    let are : c.deref.result.now ≡ map (ask_at 0) c.args.said.now.answers.now = c.deref.ensures.value ∙ c.in_ok-push.ensures ∙ ap (λ l. l ++ map (ask_at 0) c.args.said.now.answers.now) c.new-asks.ensures.items in
    subst (λ n. All (λ (ask : Ask). ask.place < n) c.deref.result.now) (sym long) (asks_at_first c.deref.result.now c.args.said.now.answers.now are)

pub returns : goal.returns
returns g c = λ recording is.
    let pair = c.args.pair in
    let writer = pair.writer in
    let acts = c.args.said.now.acts.now in
    let answers = c.args.said.now.answers.now in
    let asks = c.deref.result.now in
    let are : asks ≡ map (ask_at 0) answers = c.deref.ensures.value ∙ c.in_ok-push.ensures ∙ ap (λ l. l ++ map (ask_at 0) answers) c.new-asks.ensures.items in
    let sorted = asks_in_order asks answers are (subst (IsNonDecreasingBy (λ (a : Answer). a.datagram)) (sym is.answers) (answers_in_order pair recording)) in
    let asks_are = asks_of_one recording pair asks answers are is.answers (subst (All (λ (a : Answer). 1 ≤ a.datagram)) (sym is.answers) (answers_counted pair recording)) in
    let stand = c.in_ok-take_in.ensures.stand c.args.from writer (pair ∷ []) (since_first writer acts (acts_passed (placed.is_from writer) acts (placed.placed_in recording) is.acts)) (kept_in_order recording (placed.is_from writer) acts is.acts) asks_are.counted sorted c.in_ok-accounts.ensures in
    let rows = c.in_ok-rows.ensures.rows c.args.from writer (pair ∷ []) asks recording (omega (arith, ints)) (record { of_writer = All-cons (λ (p : Pair). p.writer ≡ writer) pair [] refl (All-nil _); acts_are = is.acts; asks_are = asks_are }) stand in
    exact_row c.args.from recording pair c.in_ok-rows.rows.items c.index.result.now c.index.ensures rows.pairs_are rows.judged
