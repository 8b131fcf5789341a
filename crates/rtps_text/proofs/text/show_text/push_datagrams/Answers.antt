use Rattle.std.proofs.Common.{◌++◌, ◌+◌, ◌∙◌, ap, sym, arith, length, append_assoc, append-nil, string_bytes}
use Rattle.rtps_text.specs.ShowText as show_text
use Rattle.rtps_text.proofs.ShowLemmas.{text_from-cons, text_from-nil}
use Rattle.rtps_text.proofs.text.show_text.push_datagrams.Goals as goal

pub loop-octets-preserved : goal.loop-octets-preserved
loop-octets-preserved c =
    let number = c.loop-octets.number + 1 in
    let later = c.next.new.self in
    let old = string_bytes c.loop-octets.text in
    let step = c.in-Some.ensures.steps in (
      tt,
      tt,
      omega (arith, ap length step, c.loop-octets.invariant.2),
      ap (λ bytes. bytes ++ show_text.text_from c.args.fragments (number + 1) later) c.in_ok-push_datagram.ensures ∙ append_assoc old _ _
          ∙ ap (λ bytes. old ++ bytes) (sym (text_from-cons c.args.fragments number c.in-Some.octets.now later) ∙ ap (show_text.text_from c.args.fragments number) (sym step)) ∙ c.loop-octets.invariant.3,
    )

pub returns : goal.returns
returns c =
    let number = c.loop-octets.number + 1 in
    let end = c.in-None.ensures.steps.0 in
    sym (append-nil _) ∙ ap (λ bytes. string_bytes c.loop-octets.text ++ bytes) (sym (text_from-nil c.args.fragments number) ∙ ap (show_text.text_from c.args.fragments number) (sym end)) ∙ c.loop-octets.invariant.3
