use Rattle.std.proofs.Common.{◌≡◌, ◌∙◌, ◌<◌, ◌&&◌, ℕ, arith, nat_lt}
use Rattle.std.proofs.lemmas.Bool.Decides.{nat_tests}
use Rattle.rtps_evidence.proofs.SpanLemmas.{said_same}
use Rattle.rtps_evidence.proofs.in_span.wrote_before.Goals as goal

wrote_some : (announced all got from : ℕ) → announced ≡ all → got ≡ from → 0 < announced → nat_lt announced got ≡ (nat_lt 0 all && nat_lt all from)
wrote_some announced all got from is first some = grind (arith, nat_tests)

wrote_none : (announced all from : ℕ) → announced ≡ all → announced ≡ 0 → nat_lt 0 announced ≡ (nat_lt 0 all && nat_lt all from)
wrote_none announced all from is none = grind (arith, nat_tests)

pub returns-then-announced-gt0 : goal.returns-then-announced-gt0
returns-then-announced-gt0 c = λ writer acts is.
    wrote_some c.args.announced.now.last _ c.get.result c.args.from (is.last ∙ said_same writer acts) c.get.ensures.value c.if-announced-gt0.true

pub returns-else-announced-gt0 : goal.returns-else-announced-gt0
returns-else-announced-gt0 c = λ writer acts is.
    wrote_none c.args.announced.now.last _ c.args.from (is.last ∙ said_same writer acts) (let no = c.if-announced-gt0.false in omega arith)
