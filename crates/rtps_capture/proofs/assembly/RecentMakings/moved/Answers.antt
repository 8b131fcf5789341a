use Rattle.std.proofs.Common.{List, refl, subst, sym}
use Rattle.rtps_capture.specs.declared.assembly.KeyedMaking.{KeyedMaking}
use Rattle.rtps_capture.proofs.MovedLemmas.{KeysPutSo, no_key_put, one_key_put}
use Rattle.rtps_capture.proofs.assembly.RecentMakings.moved.Goals as goal

pub keys-init : goal.keys-init
keys-init c =
    let from = c.args.from.now in
    let to = c.args.to.now.items in
    let all = c.args.self.makings.items in
    subst (λ (put : List KeyedMaking). KeysPutSo from to to all put all) (sym c.new-moved.ensures) (no_key_put from to all)

pub keys-preserved : goal.keys-preserved
keys-preserved c =
    let from = c.args.from.now in
    let old = c.args.to.now.items in
    let to = c.keys.to.items in
    let new = c.moved.new.to.items in
    let all = c.args.self.makings.items in
    let put = c.keys.moved.makings.items in
    let left = c.pop_front.new.self.items in
    let other : KeyedMaking = record { identification = c.in-Some.one.identification; making = c.in_ok-making.making } in
    subst (λ (l : List KeyedMaking). KeysPutSo from old new all l left) (sym c.in_ok-push_back.ensures.items)
    (one_key_put from old to new all put c.in-Some.one other left (subst (λ (l : List KeyedMaking). KeysPutSo from old to all put l) c.in-Some.ensures.items c.keys.invariant)
    c.in_ok-making.ensures.behind refl c.in_ok-making.ensures.moved)
