use Rattle.std.proofs.Common.{◌∙◌, Some, ap, codes, sym, List, ℕ, Bor}
use Rattle.std.specs.Option.{option_map}
use Rattle.clap.specs.Words.{found_of}
use Rattle.clap.proofs.WalkLemmas.{first_value-rows}
use Rattle.rtps_tool.proofs.command.options.arrived_of.Goals as goal

pub returns-in_ok-owned-in-Some : goal.returns-in_ok-owned-in-Some
returns-in_ok-owned-in-Some c =
    let view = λ (s : Bor (List ℕ)). s.now in
    ap Some c.in_ok-owned-in-Some.ensures.ok ∙ sym (ap (option_map view) c.in-Some.is) ∙ c.get_str.ensures ∙ first_value-rows (found_of c.args.found.now) (codes "OTHER")

pub returns-in-None : goal.returns-in-None
returns-in-None c =
    let view = λ (s : Bor (List ℕ)). s.now in
    sym (ap (option_map view) c.in-None.is) ∙ c.get_str.ensures ∙ first_value-rows (found_of c.args.found.now) (codes "OTHER")
