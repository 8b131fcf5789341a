use Rattle.std.proofs.Common.{◌≡◌, ◌≤◌, ◌<◌, ◌∙◌, ap, arith, length, subst, sym}
use Rattle.std.specs.List.{All}
use Rattle.std.specs.List.Sorted.{IsNonDecreasingBy}
use Rattle.std.proofs.lemmas.Int.{ints}
use Rattle.std.proofs.lemmas.List.{length-map}
use Rattle.rtps_audit.specs.Account as account
use Rattle.rtps_audit.specs.Placed as placed
use Rattle.rtps_audit.specs.declared.account.Account.{Account}
use Rattle.rtps_audit.specs.declared.ask.Ask.{Ask}
use Rattle.rtps_audit.proofs.AccountsLemmas.{acts_passed, since_first}
use Rattle.rtps_audit.proofs.PlacedActs.{kept_in_order}
use Rattle.rtps_audit.proofs.judging.rows_of_writer.Goals as goal

pub take_in-requires : goal.take_in-requires
take_in-requires c =
    let items = c.in_ok-accounts.accounts.accounts.items in
    let long : length items ≡ length c.args.pairs.now = sym (length-map items (λ (a : Account _). a.pair)) ∙ ap length c.in_ok-accounts.ensures.pairs_are in
    subst (λ n. All (λ (ask : Ask). ask.place < n) c.deref.result.now) (sym long) (subst (All (λ (ask : Ask). ask.place < length c.args.pairs.now)) (sym c.deref.ensures.value) c.in_ok-asks.ensures.within)

pub returns : goal.returns
returns c = λ intake is.
    let writer = c.args.writer in
    let pairs = c.args.pairs.now in
    let acts = c.acts_of-acts.result.now in
    let asks = c.deref.result.now in
    let same = sym c.deref.ensures.value in
    let are = c.acts_of-acts.ensures intake is in
    let asks_are = subst (account.AreAsksOf intake.acts pairs) same (c.in_ok-asks.ensures.asks intake is) in
    let sorted = subst (IsNonDecreasingBy (λ (ask : Ask). ask.answer.datagram)) same c.in_ok-asks.ensures.sorted in
    let stand = c.in_ok-take_in.ensures.stand c.of.result writer pairs (since_first writer acts (acts_passed (placed.is_from writer) acts (placed.placed_in intake.acts) are)) (kept_in_order intake.acts (placed.is_from writer) acts are) asks_are.counted sorted c.in_ok-accounts.ensures in
    let positive : 1 ≤ c.of.result = let some = c.of.type_inv in omega (arith, ints) in
    let rows = c.in_ok-rows.ensures.rows c.of.result writer pairs asks intake.acts positive (record { of_writer = c.requires; acts_are = are; asks_are = asks_are }) stand in
    subst (λ from. account.AreRowsOf from intake.acts pairs c.in_ok-rows.rows.items) c.of.ensures rows
