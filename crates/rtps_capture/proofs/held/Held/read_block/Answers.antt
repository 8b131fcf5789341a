use Rattle.std.proofs.Common.{◌≡◌, ◌∙◌, ap, arith, refl, sym, length}
use Rattle.std.proofs.lemmas.Bool.Decides.{nat_tests}
use Rattle.std.proofs.lemmas.List.{length-drop}
use Rattle.rtps_capture.specs.Held as held_spec
use Rattle.rtps_capture.proofs.HeldLemmas.{filled}
use Rattle.rtps_capture.proofs.held.Held.read_block.Goals as goal

pub returns-clause-fills : goal.returns-clause-fills
returns-clause-fills g c =
    let inside = c.self-2.inside in
    let whole = c.read_behind.new.octets.items in
    let front = inside.octets.items in
    let read = c.in_ok-got.ensures in
    let same = c.self-2.view_is ∙ c.settle.ensures.same in
    let going : c.args.self.now.ended ≡ c.self.inside.ended = ap (λ (h : held_spec.HeldValue). h.ended) (sym c.self.view_is) in
    let count : inside.read ≡ c.args.self.now.read = ap (λ (h : held_spec.HeldValue). h.read) same in
    let came = length-drop (length front) whole in
    filled (g.R.Read.remaining c.args.input.now) (g.R.Read.remaining c.read_behind.new.input) c.args.self.now _ inside.passed c.in_ok-got.got front whole
    (ap (λ (h : held_spec.HeldValue). h.octets) same) c.self-2.invariant.0 (λ is. let not = c.if-self.false in cc) (λ is. grind (arith, nat_tests)) refl
    (omega (arith, count, came, read.size)) read.front read.read read.end
