use Rattle.std.proofs.Common.{◌≡◌, ◌∙◌, ◌++◌, List, ap, append-nil, subst, sym}
use Rattle.std.specs.Map.Iter.{deref_pair}
use Rattle.std.proofs.lemmas.Map.Iter.{rest_all}
use Rattle.rtps_known.specs.Lives as lives_spec
use Rattle.rtps_known.specs.declared.life.Life.{Life}
use Rattle.rtps_known.proofs.BirthLemmas.{lives_are}
use Rattle.rtps_known.proofs.life.lives_among.Goals as goal

pub returns : goal.returns
returns c = λ acts were.
    let ended = rest_all deref_pair c.loop-birth.birth-iterator c.next.new.self c.next.result c.in-None.is c.next.ensures.steps in
    let all : lives_spec.lives_in c.args.births.now.entries ≡ c.loop-birth.lives.items =
    sym (sym (append-nil c.loop-birth.lives.items) ∙ ap (λ l. c.loop-birth.lives.items ++ lives_spec.lives_in l) (sym ended) ∙ c.loop-birth.invariant) in
    let P : List Life → Type 0 = λ lives. lives_spec.AreLivesOf acts lives in
    subst P all (lives_are acts c.args.births.now.entries c.iter-birth-items.ensures.ordered were)
