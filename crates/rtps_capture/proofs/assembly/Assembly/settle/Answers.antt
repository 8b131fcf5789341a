use Rattle.std.proofs.Common.{◌≡◌, ◌<◌, false, true, List, [], ◌∷◌, length, ap, refl, subst, sym, ◌∙◌, arith}
use Rattle.std.specs.BTreeMap.{BTreeMap}
use Rattle.rtps_capture.specs.declared.assembly.RecentMakings.{RecentMakings}
use Rattle.rtps_capture.specs.declared.fragment.FragmentHosts.{FragmentHosts}
use Rattle.rtps_capture.proofs.MovedLemmas.{AllPutSo, all_hosts_put, hosts_put, no_hosts_put}
use Rattle.rtps_capture.proofs.assembly.Assembly.settle.Goals as goal

pub hosts-init : goal.hosts-init
hosts-init c =
    let from = c.args.from.now in
    let to = c.args.to.now.items in
    let all = c.args.self.now.recents in
    let put = c.replace-left.new.dest in
    let none = ap (λ (m : BTreeMap FragmentHosts RecentMakings). m.entries) c.replace-left.ensures.after ∙ c.new.ensures.empty in
    subst (λ (left : BTreeMap FragmentHosts RecentMakings). AllPutSo from to all left put) (sym c.replace-left.ensures.value) (no_hosts_put from to all put (λ hosts. rw none refl))

pub hosts-preserved : goal.hosts-preserved
hosts-preserved c =
    let hosts = c.in-Some.hosts in
    let recent = c.in-Some.recent in
    let moved = c.in_ok-moved.moved in
    hosts_put c.args.from.now c.hosts.to.items c.moved.new.to.items c.args.self.now.recents c.hosts.left c.pop_first.new.self c.hosts.self.recents c.insert.new.self hosts recent moved
    c.hosts.invariant c.in_ok-moved.ensures.behind c.in-Some.ensures.value c.in-Some.ensures.updates c.in_ok-insert.ensures.updates c.in_ok-moved.ensures.moved

pub hosts-preserved-in_ok-insert : goal.hosts-preserved-in_ok-insert
hosts-preserved-in_ok-insert c =
    let hosts = c.in-Some.hosts in
    let recent = c.in-Some.recent in
    let moved = c.in_ok-moved.moved in
    hosts_put c.args.from.now c.hosts.to.items c.moved.new.to.items c.args.self.now.recents c.hosts.left c.pop_first.new.self c.hosts.self.recents c.insert.new.self hosts recent moved
    c.hosts.invariant c.in_ok-moved.ensures.behind c.in-Some.ensures.value c.in-Some.ensures.updates c.in_ok-insert.ensures.updates c.in_ok-moved.ensures.moved

-- a list of no element
empty : {X : Type 0} (items : List X) → (0 < length items → false ≡ true) → items ≡ []
empty [] none = refl
empty (one ∷ others) none = let some : 0 < length (one ∷ others) = omega arith in let not = none some in absurd cc

pub returns : goal.returns
returns c = record {
  moved =
      all_hosts_put c.args.from.now c.hosts.to.items c.args.self.now.recents c.hosts.left c.hosts.self.recents c.hosts.invariant (empty c.hosts.left.entries c.in_default.ensures.variant.1);
}
