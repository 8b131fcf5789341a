use Rattle.std.proofs.Common.{sym, ◌∙◌, ap}
use Rattle.std.specs.List.{position}
use Rattle.std.proofs.lemmas.List.{take_rest}
use Rattle.rtps_tool.specs.Lines as lines
use Rattle.rtps_tool.proofs.LinesLemmas.{position-behind, position-behind-none}
use Rattle.rtps_tool.proofs.form.hex_lines.line_end_behind.Goals as goal

pub returns-in_err-line_end : goal.returns-in_err-line_end
returns-in_err-line_end c =
    let text = c.args.text.now in
    let rest = ap (position lines.is_line_feed) (sym (take_rest text c.args.known)) in
    c.from_residual.ensures ∙ sym (position-behind-none text c.args.known c.requires.within c.requires.none (rest ∙ sym c.line_end.ensures ∙ c.in_err-line_end.was))

pub returns : goal.returns
returns c =
    let text = c.args.text.now in
    let rest = ap (position lines.is_line_feed) (sym (take_rest text c.args.known)) in
    sym (position-behind text c.args.known c.in_ok-line_end.field-0 c.requires.within c.requires.none (rest ∙ sym c.line_end.ensures ∙ c.in_ok-line_end.was))
