use Rattle.std.proofs.Common.{◌++◌, ◌∙◌, ℕ, List, Result, ap, subst}
use Rattle.std.proofs.lemmas.List.{take_rest}
use Rattle.std.proofs.lemmas.Result.{err_from_is_err_and}
use Rattle.rtps_tool.specs.Outcomes as outcomes
use Rattle.rtps_tool.specs.Unfinished as unfinished
use Rattle.rtps_tool.specs.declared.faults.RecFault.{RecFault}
use Rattle.rtps_tool.proofs.form.line_reader.LineReader.feed.Goals as goal

pub returns-in_err-kept-clause-told : goal.returns-in_err-kept-clause-told
returns-in_err-kept-clause-told g c = λ done start told.
    let p = err_from_is_err_and c.from_residual-in_err-kept.result c.from_residual-in_err-kept.ensures.1 in
    let fault = c.in_err-kept.field-0.0 in
    let lines = c.read_complete.new.self.lines in
    let rest = take_rest c.args.text.now c.in_ok-from.from in
    let so_far = c.in_ok-from.ensures.told done start told in
    rw (p.1, p.2) (λ later.
    let joined = ap (λ (line : List ℕ). unfinished.recording_behind c.args.most so_far.all lines (line ++ later)) rest ∙ so_far.stands later in
    subst (λ (whole : Result (List (List ℕ)) RecFault). outcomes.IsFaultOf whole fault) joined (c.in_err-kept.ensures.told so_far.all so_far.has_told.count later))
