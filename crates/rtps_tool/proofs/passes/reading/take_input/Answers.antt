use Rattle.std.proofs.Common.{◌≡◌, ◌∙◌, None, false, sym, take}
use Rattle.std.proofs.lemmas.Result.{err_from_is_err_and}
use Rattle.rtps_tool.specs.Forms as forms
use Rattle.rtps_tool.proofs.PassesLemmas.{nothing_written, text_of, whole_of}
use Rattle.rtps_tool.proofs.passes.reading.take_input.Goals as goal

pub returns-then-start-lt-FORM-clause-known : goal.returns-then-start-lt-FORM-clause-known
returns-then-start-lt-FORM-clause-known g c = λ all start known was.
    let before = g.R.Read.remaining c.args.input.now in
    let now = g.R.Read.remaining c.read_start.new.input in
    let told = c.in_ok-octets.ensures.told before now start c.in_ok-start.ensures.1 (c.in_ok-start.ensures.2 c.if-start-lt-FORM.true) was in
    text_of c.args.terms.limits c.args.terms.captures all before now _ c.in_ok-octets.octets known told

pub returns-in_err-octets-clause-known : goal.returns-in_err-octets-clause-known
returns-in_err-octets-clause-known g c = λ all start known was.
    let p = err_from_is_err_and c.from_residual-in_err-octets.result c.from_residual-in_err-octets.ensures.1 in
    let before = g.R.Read.remaining c.args.input.now in
    let now = g.R.Read.remaining c.read_start.new.input in
    rw (p.1, p.2, ← known) (now, c.in_err-octets.ensures.told before now start c.in_ok-start.ensures.1 (c.in_ok-start.ensures.2 c.if-start-lt-FORM.true) was)

pub returns-then-not-begins_capture-clause-known : goal.returns-then-not-begins_capture-clause-known
returns-then-not-begins_capture-clause-known g c = λ all start known was.
    let before = g.R.Read.remaining c.args.input.now in
    let plain : forms.begins_capture c.args.terms.captures (take c.in_ok-start.start c.read_start.new.held) ≡ false = sym c.begins_capture.ensures ∙ c.if-not-begins_capture.true in
    text_of c.args.terms.limits c.args.terms.captures all before (g.R.Read.remaining c.take_text.new.input) _ c.in_ok-octets-2.octets known
    (c.in_ok-octets-2.ensures.told before start plain c.in_ok-start.ensures.1 was)

pub returns-in_err-octets-2-clause-known : goal.returns-in_err-octets-2-clause-known
returns-in_err-octets-2-clause-known g c = λ all start known was.
    let p = err_from_is_err_and c.from_residual-in_err-octets-2.result c.from_residual-in_err-octets-2.ensures.1 in
    let before = g.R.Read.remaining c.args.input.now in
    let plain : forms.begins_capture c.args.terms.captures (take c.in_ok-start.start c.read_start.new.held) ≡ false = sym c.begins_capture.ensures ∙ c.if-not-begins_capture.true in
    rw (p.1, p.2, ← known) (g.R.Read.remaining c.take_text.new.input, c.in_err-octets-2.ensures.told before start plain c.in_ok-start.ensures.1 was)

pub returns-clause-known : goal.returns-clause-known
returns-clause-known g c = λ all start known was.
    let before = g.R.Read.remaining c.args.input.now in
    let all_of = whole_of c.args.terms.limits c.args.terms.captures all before (g.R.Read.remaining c.take_capture.new.input) _ c.in_ok-whole.whole known (c.in_ok-whole.ensures before c.in_ok-start.ensures.1) in
    (all_of.0, all_of.1 start was)

pub returns-in_err-whole-clause-known : goal.returns-in_err-whole-clause-known
returns-in_err-whole-clause-known g c = λ all start known was.
    let p = err_from_is_err_and c.from_residual-in_err-whole.result c.from_residual-in_err-whole.ensures.1 in
    let before = g.R.Read.remaining c.args.input.now in
    rw (p.1, p.2, ← known) (g.R.Read.remaining c.take_capture.new.input, c.in_err-whole.ensures before c.in_ok-start.ensures.1)

pub returns-in_err-whole-clause-fault : goal.returns-in_err-whole-clause-fault
returns-in_err-whole-clause-fault g c =
    let p = err_from_is_err_and c.from_residual-in_err-whole.result c.from_residual-in_err-whole.ensures.1 in
    rw (p.1, p.2) (nothing_written c.args.terms.limits c.args.terms.captures None (g.R.Read.remaining c.take_capture.new.input) c.in_err-whole.field-0.0 (c.in_err-whole.ensures None tt))
