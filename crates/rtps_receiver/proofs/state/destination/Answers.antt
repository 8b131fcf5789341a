use Rattle.std.proofs.Common.{◌≡◌, true, nat_eq, refl, rules, tests, sym, ◌∙◌}
use Rattle.std.proofs.lemmas.Iterator.{YieldsList-from_slice}
use Rattle.std.proofs.lemmas.Iterator.Search.{all_from_yields_List}
use Rattle.rtps_receiver.specs.Destination as destination
use Rattle.rtps_receiver.proofs.state.destination.Goals as goal

pub returns-then-all : goal.returns-then-all
returns-then-all c =
    let same : c.all.result ≡ destination.is_unknown c.args.prefix =
    all_from_yields_List (λ octet. nat_eq octet 0) _ _ _ c.all.ensures.ran (YieldsList-from_slice c.args.prefix.0 c.iter.ensures.rest) (λ x b q k. search (rules, tests)) in
    let yes : destination.is_unknown c.args.prefix ≡ true = sym same ∙ c.if-all.true in
    rw yes refl
