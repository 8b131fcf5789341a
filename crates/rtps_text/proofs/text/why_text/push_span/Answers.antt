use Rattle.std.proofs.Common.{◌≡◌, ◌++◌, ◌∙◌, OnOk, Option, ap, append_assoc, codes, decimal, rules, string_bytes, sym}
use Rattle.std.proofs.lemmas.Result.{on_ok_weaker}
use Rattle.rtps_evidence.specs.declared.in_span.InSpan.{InSpan}
use Rattle.rtps_lines.proofs.Offered.{three_parts}
use Rattle.rtps_text.specs.WhyText as why_text
use Rattle.rtps_text.proofs.text.why_text.push_span.Goals as goal

pub returns : goal.returns
returns c =
    let span = c.in-Some.in_span in
    let old = string_bytes c.args.text.now in
    let times = c.args.times.now in
    let last : OnOk c.push_str.result (string_bytes c.push_str.new.self ≡ string_bytes c.push_until.new.text ++ codes "\n") = search rules in
    on_ok_weaker c.push_str.result
    (λ end. three_parts old (codes "  from " ++ decimal span.from) (why_text.until_text times span.until) (codes "\n") c.in_ok-push_field.ensures c.in_ok-push_until.ensures end
    ∙ ap (λ line. old ++ line) (append_assoc (codes "  from ") (decimal span.from) (why_text.until_text times span.until ++ codes "\n"))
    ∙ ap (λ (in_span : Option InSpan). old ++ why_text.span_line times in_span) (sym c.in-Some.is))
    last
