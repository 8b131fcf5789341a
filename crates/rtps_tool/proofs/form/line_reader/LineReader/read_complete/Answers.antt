use Rattle.std.proofs.Common.{◌≡◌, ◌+◌, ◌-◌, ◌++◌, ◌∙◌, ℕ, List, Some, Result, drop, take, refl, sym, ap, subst, arith}
use Rattle.std.specs.List.{position}
use Rattle.std.specs.Str.Lines.{strip_carriage_return}
use Rattle.std.proofs.lemmas.List.{take_rest, length-drop}
use Rattle.std.proofs.lemmas.List.Quantifiers.{position-Some}
use Rattle.std.proofs.lemmas.Result.{err_from_is_err_and}
use Rattle.rtps_tool.specs.Outcomes as outcomes
use Rattle.rtps_tool.specs.Lines as lines
use Rattle.rtps_tool.specs.declared.faults.RecFault.{RecFault}
use Rattle.rtps_tool.proofs.UnfinishedLemmas.{line_within, recording_behind-line, recording_behind-fault}
use Rattle.rtps_tool.proofs.form.line_reader.LineReader.read_complete.Goals as goal

pub lines-init : goal.lines-init
lines-init g c = (omega arith, omega arith, omega arith, c.requires.goes_on, λ done start told. record { all = done; has_told = told; stands = λ later. refl })

pub lines-preserved : goal.lines-preserved
lines-preserved g c =
    let text = c.args.text.now in
    let from = c.lines.from in
    let end = c.in-Some.end in
    let found : position lines.is_line_feed (drop from text) ≡ Some end = ap (position lines.is_line_feed) (sym (take_rest text from)) ∙ (sym c.line_end_behind.ensures ∙ c.in-Some.is) in
    let size : from + end - from ≡ end = omega arith in
    let is = c.without_return-line.ensures ∙ ap (λ (n : ℕ). strip_carriage_return (take n (drop from text))) size in
    let at = position-Some lines.is_line_feed (drop from text) end 0 found in (
      omega (arith, at.0, length-drop from text, c.lines.invariant.0),
      omega (arith, c.lines.invariant.1, c.in_ok-read_line.ensures.counted),
      omega (arith, at.0, length-drop from text, c.lines.invariant.0),
      refl,
      λ done start told.
          let so_far = c.lines.invariant.4 done start told in
          let line = c.in_ok-read_line.ensures.told so_far.all start so_far.has_told in
          record {
            all = so_far.all ++ line.0;
            has_told = line.2;
            stands = λ later.
                let cut = line_within text later c.without_return-line.result.now from end found is in
                recording_behind-line _ so_far.all line.0 _ _ _ _ _ cut line.1 c.in_ok-read_line.ensures.counted ∙ so_far.stands later;
          },
    )

pub returns-in_err-read_line-clause-told : goal.returns-in_err-read_line-clause-told
returns-in_err-read_line-clause-told g c = λ done start told.
    let p = err_from_is_err_and c.from_residual.result c.from_residual.ensures.1 in
    let fault = c.in_err-read_line.field-0.0 in
    let text = c.args.text.now in
    let from = c.lines.from in
    let end = c.in-Some.end in
    let found : position lines.is_line_feed (drop from text) ≡ Some end = ap (position lines.is_line_feed) (sym (take_rest text from)) ∙ (sym c.line_end_behind.ensures ∙ c.in-Some.is) in
    let size : from + end - from ≡ end = omega arith in
    let is = c.without_return-line.ensures ∙ ap (λ (n : ℕ). strip_carriage_return (take n (drop from text))) size in
    let so_far = c.lines.invariant.4 done start told in
    rw (p.1, p.2) (λ later.
    let cut = line_within text later c.without_return-line.result.now from end found is in
    let faulty = recording_behind-fault _ so_far.all _ _ _ (drop (from + (end + 1)) text ++ later) fault cut (c.in_err-read_line.ensures.told so_far.all start so_far.has_told) in
    subst (λ (whole : Result (List (List ℕ)) RecFault). outcomes.IsFaultOf whole fault) (so_far.stands later) faulty)

pub line_end_behind-requires-clause-within : goal.line_end_behind-requires-clause-within
line_end_behind-requires-clause-within g c = rw (take_rest c.args.text.now c.lines.from) (omega (arith, length-drop c.lines.from c.args.text.now, c.lines.invariant.2))

pub line_end_behind-requires-clause-none : goal.line_end_behind-requires-clause-none
line_end_behind-requires-clause-none g c = rw (take_rest c.args.text.now c.lines.from) c.lines.invariant.3
