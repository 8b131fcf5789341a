use Rattle.std.proofs.Common.{◌∙◌, [], drop, sym, ap, subst, List, ℕ, Result}
use Rattle.std.proofs.lemmas.List.{append-nil, take_rest}
use Rattle.std.proofs.lemmas.Result.{err_from_is_err_and}
use Rattle.rtps_tool.specs.Outcomes as outcomes
use Rattle.rtps_tool.specs.Unfinished as unfinished
use Rattle.rtps_tool.specs.declared.faults.RecFault.{RecFault}
use Rattle.rtps_tool.proofs.UnfinishedLemmas.{all_lines, recording_behind-whole}
use Rattle.rtps_tool.proofs.form.hex_lines.take_lines.Goals as goal

pub returns-in_err-from : goal.returns-in_err-from
returns-in_err-from g c = λ first told.
    let p = err_from_is_err_and c.from_residual.result c.from_residual.ensures.1 in
    let fault = c.in_err-from.field-0.0 in
    let whole = recording_behind-whole _ _ c.args.text.now c.new-reader.ensures.1 in
    let faulty = c.in_err-from.ensures.told [] first record { told = told; count = c.new-reader.ensures.0 } in
    rw (p.1, p.2) (subst (λ (all : Result (List (List ℕ)) RecFault). outcomes.IsFaultOf all fault) whole (faulty []))

pub returns : goal.returns
returns g c = λ first told.
    let text = c.args.text.now in
    let read = c.in_ok-from.ensures.told [] first record { told = told; count = c.new-reader.ensures.0 } in
    let left = ap (unfinished.recording_behind c.args.most read.all c.read_complete.new.self.lines) (take_rest text c.in_ok-from.from ∙ sym (append-nil (drop c.in_ok-from.from text))) in
    let whole = recording_behind-whole _ _ text c.new-reader.ensures.1 in
    all_lines _ _ _ _ text _ _ (left ∙ read.stands [] ∙ whole) (c.finish.ensures read.all first read.has_told)
