use Rattle.std.proofs.Common.{◌++◌, ◌∷◌, [], Bool, Ok, inl, inr, subst, arith}
use Rattle.std.proofs.lemmas.Result.{err_from_is_err_and}
use Rattle.rtps_capture.specs.Advancing as advancing
use Rattle.rtps_capture.specs.Course as course
use Rattle.rtps_tool.proofs.BlocksLemmas.{came_fault, came_on, came_whole, none_told}
use Rattle.rtps_tool.proofs.form.capture_blocks.take_all.Goals as goal

pub returns-in_err-found : goal.returns-in_err-found
returns-in_err-found g c = λ captures before datagrams so.
    let p = err_from_is_err_and c.from_residual.result c.from_residual.ensures.1 in
    let so_far = c.datagrams.invariant captures before datagrams so in
    rw (p.1, p.2) (
    came_fault c.args.limits captures before (g.R.Read.remaining c.datagrams.input) (g.R.Read.remaining c.advance.new.input) c.datagrams.reader c.advance.new.self so_far.0
    c.in_err-found.field-0.0 so_far.2 c.in_err-found.ensures.goes)

pub returns-then-not-found : goal.returns-then-not-found
returns-then-not-found g c = λ captures before datagrams so.
    let so_far = c.datagrams.invariant captures before datagrams so in
    let between = g.R.Read.remaining c.datagrams.input in
    let now = g.R.Read.remaining c.advance.new.input in
    let on = subst (λ (found : Bool). advancing.Advances between now c.datagrams.reader c.advance.new.self (Ok found)) c.if-not-found.true c.in_ok-found.ensures.goes in
    (so_far.0, so_far.1, inr (came_whole c.args.limits captures before between now c.datagrams.reader c.advance.new.self so_far.0 so_far.2 on))

pub datagrams-preserved-in-Continue-branch-2 : goal.datagrams-preserved-in-Continue-branch-2
datagrams-preserved-in-Continue-branch-2 g c = λ captures before datagrams so.
    let so_far = c.datagrams.invariant captures before datagrams so in
    let between = g.R.Read.remaining c.datagrams.input in
    let now = g.R.Read.remaining c.advance.new.input in
    let on = subst (λ (found : Bool). advancing.Advances between now c.datagrams.reader c.advance.new.self (Ok found)) c.if-not-found.false c.in_ok-found.ensures.goes in
    let one : course.DatagramValue = record { octets = c.in-Some.datagram.octets.now; time = c.in-Some.datagram.time; frame = c.in-Some.datagram.frame } in (
      so_far.0 ++ one ∷ [],
      λ start was. c.in_ok-take.ensures start so_far.0 (so_far.1 start was),
      came_on c.args.limits captures before between now c.datagrams.reader c.advance.new.self so_far.0 one so_far.2 on c.in-Some.ensures,
    )

pub datagrams-preserved : goal.datagrams-preserved
datagrams-preserved g c = λ captures before datagrams so.
    let between = g.R.Read.remaining c.datagrams.input in
    let now = g.R.Read.remaining c.advance.new.input in
    let on = subst (λ (found : Bool). advancing.Advances between now c.datagrams.reader c.advance.new.self (Ok found)) c.if-not-found.false c.in_ok-found.ensures.goes in
    absurd (none_told between now c.datagrams.reader c.advance.new.self on c.in_default.ensures)

pub returns : goal.returns
returns g c = λ captures before datagrams so.
    let so_far = c.datagrams.invariant captures before datagrams so in (so_far.0, so_far.1, inl (omega (arith, c.octets_read.ensures, c.datagrams-test.false), so_far.2))
