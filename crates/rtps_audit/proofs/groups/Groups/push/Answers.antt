use Rattle.std.proofs.Common.{◌∷◌, [], ◌++◌, ap, ◌∙◌, sym}
use Rattle.std.specs.Option.{option_copied_mut}
use Rattle.rtps_audit.proofs.GroupLemmas.{list_begun, list_written}
use Rattle.rtps_audit.proofs.groups.Groups.push.Goals as goal

pub returns-in-Some : goal.returns-in-Some
returns-in-Some g c = λ other.
    let there = sym c.get_mut.ensures.value ∙ ap option_copied_mut c.in-Some.is in
    list_written g.met.K.Ord.total (λ l. l) c.args.self.now.map (c.get_mut.follows.lender c.append.new.list) c.args.key other c.in-Some.found.now c.append.new.list (c.args.value ∷ []) (c.get_mut.follows.holds c.append.new.list).3 there c.in_ok-append.ensures

pub returns : goal.returns
returns g c = λ other.
    let none = sym c.get_mut.ensures.value ∙ ap option_copied_mut c.in_default.is in
    list_begun g.met.K.Ord.total (λ l. l) c.args.self.now.map c.get_mut.follows.lender-at-none c.insert.new.self c.args.key other c.append-2.new.list (c.args.value ∷ []) c.get_mut.follows.holds-at-none c.in_ok-insert.ensures.updates none (c.in_ok-append-2.ensures ∙ ap (λ l. l ++ c.args.value ∷ []) c.new-list.ensures.items)
