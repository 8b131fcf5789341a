use Rattle.std.proofs.Common.{◌≡◌, ◌+◌, ◌/◌, ◌++◌, ◌∷◌, ◌∙◌, true, sym, ap, take, drop, set, get_or}
use Rattle.std.specs.Prelude.{is_ok}
use Rattle.std.specs.Global.{Vec}
use Rattle.std.proofs.lemmas.List.{get_or_default}
use Rattle.rtps_coverage.specs.Leaves as leaves_spec
use Rattle.rtps_coverage.specs.declared.stretch.Stretch.{Stretch}
use Rattle.rtps_coverage.proofs.LeavesLemmas.{halved, inserted_leaf}
use Rattle.rtps_coverage.proofs.leaves.halve.Goals as goal

pub returns-then-is_ok-clause-same : goal.returns-then-is_ok-clause-same
returns-then-is_ok-clause-same c =
    let old = c.args.leaves.now.items in
    let place = c.args.place in
    let half = c.len-half.result / 2 in
    let upper = c.in-Ok.upper in
    let lt = c.requires.place in
    let leaf = c.index_mut.result.now in
    let was = c.index-2.result.now in
    let went : is_ok c.insert.result ≡ true = sym c.is_ok.ensures.value ∙ c.if-is_ok.true in
    let more : c.insert.new.self.items ≡ take (place + 1) old ++ upper ∷ drop (place + 1) old = rw went at c.insert.ensures.items in
    let here : leaf ≡ get_or old place leaf = c.index_mut.ensures.value ∙ ap (λ m. get_or m place leaf) more ∙ inserted_leaf old place upper leaf lt in
    let there : was ≡ get_or old place leaf = c.index-2.ensures ∙ get_or_default old place was leaf lt in
    let low = c.truncate.ensures.items ∙ ap (λ (l : Vec Stretch). take half l.items) here in
    let high = c.in-Ok.ensures ∙ ap (drop half) (c.deref.ensures.value ∙ ap (λ (l : Vec Stretch). l.items) there) in
    ap (λ m. leaves_spec.ranges_in (set m place c.truncate.new.self)) more ∙ halved old place half leaf upper c.truncate.new.self lt high low
