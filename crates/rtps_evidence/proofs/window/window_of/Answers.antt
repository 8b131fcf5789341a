use Rattle.std.proofs.Common.{◌≡◌, ◌∙◌, ◌+◌, ◌-◌, ap, arith, get_or, length, sym}
use Rattle.rtps_evidence.proofs.PlaceOrder.{no_window, order_tells, window_is}
use Rattle.rtps_evidence.proofs.window.window_of.Goals as goal

pub returns : goal.returns
returns c =
    let sorted = c.sort.new.self.items in
    let count : c.len-count.result ≡ length sorted = omega (arith, c.len-count.ensures) in
    window_is c.args.places.now.items sorted c.index.result.now c.index-2.result.now c.in_ok-sort.ensures.permutation
    (λ k d low high. sym (order_tells (get_or sorted (k + 1) d) (get_or sorted k d)) ∙ c.in_ok-sort.ensures.sorted k d low high) (let few = c.if-count-lt-MARGIN.false in omega (arith, few, c.len-count.ensures))
    c.index.ensures (c.index-2.ensures ∙ ap (λ n. get_or sorted (n - 5) c.index-2.result.now) count)

pub returns-then-count-lt-MARGIN : goal.returns-then-count-lt-MARGIN
returns-then-count-lt-MARGIN c = λ x. no_window c.args.places.now.items c.sort.new.self.items x c.in_ok-sort.ensures.permutation (let few = c.if-count-lt-MARGIN.true in omega (arith, few, c.len-count.ensures))
