use Rattle.std.proofs.Common.{◌++◌, [], List, append-nil, refl, subst, sym}
use Rattle.std.proofs.lemmas.Map.Iter.{rest_all, rest_more}
use Rattle.rtps_policies.specs.declared.naming.Naming.{Naming}
use Rattle.rtps_known.specs.Untold as untold
use Rattle.rtps_known.specs.declared.untold.Untold.{Untold}
use Rattle.rtps_known.proofs.UntoldLemmas.{said_more}
use Rattle.rtps_known.proofs.known.Known.untold.Goals as goal

pub loop-naming-preserved : goal.loop-naming-preserved
loop-naming-preserved c = λ acts announcing known announced behind rest.
    let attendance : untold.Attendance = record { announcing = announcing; visits = c.args.visits.now } in
    let step = rest_more _ c.loop-naming.naming-iterator c.next.new.self c.next.result _ c.in-Some.is c.next.ensures.steps in
    let P : List Untold → Type 0 = λ found. untold.AreSaidOf acts attendance c.args.self.now.met.keys (found ++ behind) in
    subst P (sym c.in_ok-push_said.ensures)
    (said_more acts attendance c.in-Some.naming.now c.next.new.self c.args.self.now.met.keys c.loop-naming.found.items c.in_ok-said.said
    (c.in_ok-said.ensures acts announcing known announced (c.in_ok-twice.ensures acts known))
    (λ others said. let Q : List Naming → Type 0 = λ left. untold.AreSaidOf acts attendance left others in c.loop-naming.invariant acts announcing known announced others (subst Q (sym step) said))
    behind rest)

pub returns : goal.returns
returns c = λ acts announcing known announced.
    let attendance : untold.Attendance = record { announcing = announcing; visits = c.args.visits.now } in
    let ended = rest_all _ c.loop-naming.naming-iterator c.next.new.self c.next.result c.in-None.is c.next.ensures.steps in
    let P : List Untold → Type 0 = λ found. untold.AreSaidOf acts attendance c.args.self.now.met.keys found in
    let Q : List Naming → Type 0 = λ left. untold.AreSaidOf acts attendance left [] in
    record {
      namings = c.args.self.now.met.keys;
      ordered = c.iter-naming-items.ensures.ordered;
      all = λ naming. known.met naming;
      said = subst P (append-nil c.loop-naming.found.items) (c.loop-naming.invariant acts announcing known announced [] (subst Q (sym ended) refl));
    }
