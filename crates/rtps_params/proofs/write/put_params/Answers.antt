use Rattle.std.proofs.Common.{[], ◌≡◌, ◌≤◌, ℕ, List, map, take, length, ap, arith}
use Rattle.std.specs.Borrow.{Bor}
use Rattle.std.proofs.lemmas.List.{take_all}
use Rattle.std.proofs.lemmas.Result.{on_err_weaker}
use Rattle.rtps_params.proofs.Growth.{grown, lacks, on_err, stays}
use Rattle.rtps_ids.proofs.Offered.{length-octets_of}
use Rattle.rtps_ids.specs.declared.order.Order.{Order}
use Rattle.rtps_params.specs.Item as item
use Rattle.rtps_params.proofs.Written.{each_octets, length-written_list, octets_within, value_fits}
use Rattle.rtps_params.proofs.write.put_params.Goals as goal

pub put_param-requires : goal.put_param-requires
put_param-requires c = value_fits c.args.params.now c.loop-pid.pid-index _ c.loop-pid-test.true c.requires

pub returns-in_err-put_param-clause-front : goal.returns-in_err-put_param-clause-front
returns-in_err-put_param-clause-front c =
    stays c.args.out.now.items _ c.loop-pid.out.items _ c.args.out.now.len c.loop-pid.out.len c.args.out.now.ok.0 c.loop-pid.out.ok.0 c.loop-pid.invariant.items c.in_err-put_param.ensures.front

pub returns-in_err-put_param-clause-full : goal.returns-in_err-put_param-clause-full
returns-in_err-put_param-clause-full c =
    let params = c.args.params.now in
    let i = c.loop-pid.pid-index in
    let size = grown c.args.out.now.items _ c.loop-pid.out.items c.args.out.now.len c.loop-pid.out.len c.args.out.now.ok.0 c.loop-pid.out.ok.0 c.loop-pid.invariant.items in
    on_err c.from_residual.result
    (lacks _ _ c.args.out.now.len c.loop-pid.out.len _ _ c.loop-pid.invariant.room c.in_err-put_param.ensures.full
    (omega (arith, size, octets_within params i (0, record { ref_ptr = (0, 0); now = [] }) c.loop-pid-test.true c.args.order, length-written_list c.args.order (map item.pair_of params))))

-- behind all parameters
at_end : (order : Order) (params : List (ℕ × Bor (List ℕ))) (i : ℕ) → length params ≤ i → each_octets order (take i params) ≡ each_octets order params
at_end order params i past = ap (each_octets order) (take_all i params past)

pub returns-in_err-put_u16-clause-full : goal.returns-in_err-put_u16-clause-full
returns-in_err-put_u16-clause-full c =
    let params = c.args.params.now in
    let all = ap length (at_end c.args.order params c.loop-pid.pid-index c.loop-pid-test.false) in
    let size = grown c.args.out.now.items _ c.loop-pid.out.items c.args.out.now.len c.loop-pid.out.len c.args.out.now.ok.0 c.loop-pid.out.ok.0 c.loop-pid.invariant.items in
    on_err c.from_residual-in_err-put_u16.result
    (lacks _ _ c.args.out.now.len c.loop-pid.out.len _ _ c.loop-pid.invariant.room c.in_err-put_u16.ensures.full
    (omega (arith, size, all, length-written_list c.args.order (map item.pair_of params))))

pub returns-clause-full : goal.returns-clause-full
returns-clause-full c =
    let params = c.args.params.now in
    let all = ap length (at_end c.args.order params c.loop-pid.pid-index c.loop-pid-test.false) in
    let size = grown c.args.out.now.items _ c.loop-pid.out.items c.args.out.now.len c.loop-pid.out.len c.args.out.now.ok.0 c.loop-pid.out.ok.0 c.loop-pid.invariant.items in
    let more = grown c.loop-pid.out.items _ c.put_u16.new.out.items c.loop-pid.out.len c.put_u16.new.out.len c.loop-pid.out.ok.0 c.put_u16.new.out.ok.0 c.in_ok-put_u16.ensures.ok in
    let two = length-octets_of c.args.order 2 1 in
    on_err_weaker c.put_u16-2.result
    (λ less. lacks _ _ c.args.out.now.len c.put_u16.new.out.len 2 _ (let a = c.loop-pid.invariant.room in let b = c.put_u16.ensures.room in omega arith) less
    (omega (arith, size, all, more, two, length-written_list c.args.order (map item.pair_of params)))) c.put_u16-2.ensures.full
