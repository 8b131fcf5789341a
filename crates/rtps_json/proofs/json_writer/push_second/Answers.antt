use Rattle.std.proofs.Common.{◌∙◌, ◌++◌, ◌<◌, ◌^◌, ap, rules, subst, sym}
use Rattle.json.specs.Print.{IsNumber}
use Rattle.rtps_lines.specs.Lines.{seconds_text}
use Rattle.rtps_json.proofs.SecondLemmas.{seconds_are_number}
use Rattle.rtps_json.proofs.json_writer.push_second.Goals as goal

pub number-requires : goal.number-requires
number-requires c =
    let written = c.deref.ensures ∙ c.in_ok-write.ensures.bytes ∙ ap (λ octets. octets ++ seconds_text c.args.second) c.clear.ensures.bytes in
    let fits : c.args.second.milliseconds < 2 ^ 64 = search rules in
    subst IsNumber (sym written) (seconds_are_number c.args.second fits)
