use Rattle.std.proofs.Common.{◌≡◌, ◌∙◌, ◌<◌, ◌^◌, ap, arith, max, of_z, subst, to_z, w64}
use Rattle.std.proofs.lemmas.Int.{ints}
use Rattle.rtps_audit.proofs.AnswerLemmas.{base_on, untold_on}
use Rattle.rtps_audit.proofs.verdict.Claims.note_answer.Goals as goal

pub returns : goal.returns
returns c = λ from writer reader placed answers front known.
    let old = c.args.self.now in
    let base = c.natural_base.ensures.value in
    let same : to_z w64 (of_z w64 c.args.front) ≡ c.args.front = omega (arith, ints) in
    record {
      asking = c.note_base.ensures.from ∙ known.asking;
      untold = untold_on writer reader placed answers c.args.answer _ _ _ (subst (λ b. b < 2 ^ 63) base c.natural_base.ensures.in_range) front (rw same at (rw base at c.note_base.ensures.untold)) known.untold;
      base = c.note_base.ensures.base ∙ ap (max old.base) base ∙ omega (arith, known.base, base_on answers c.args.answer);
    }
