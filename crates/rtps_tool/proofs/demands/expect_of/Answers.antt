use Rattle.std.proofs.Common.{◌∙◌, ap, codes, None, refl, subst, sym, List, ℕ, Bor}
use Rattle.std.specs.Option.{option_map}
use Rattle.clap.specs.Words.{found_of}
use Rattle.clap.proofs.WalkLemmas.{first_value-rows}
use Rattle.rtps_tool.specs.Words as words
use Rattle.rtps_tool.proofs.demands.expect_of.Goals as goal

pub returns-in-Some : goal.returns-in-Some
returns-in-Some c =
    let view = λ (s : Bor (List ℕ)). s.now in
    subst (λ given. words.IsExpectGiven given c.expected_in.result) (sym (ap (option_map view) c.in-Some.is) ∙ c.get_str.ensures ∙ first_value-rows (found_of c.args.found.now) (codes "PAIRS")) c.expected_in.ensures

pub returns-in-None : goal.returns-in-None
returns-in-None c =
    let view = λ (s : Bor (List ℕ)). s.now in
    subst (λ given. words.IsExpectGiven given None) (sym (ap (option_map view) c.in-None.is) ∙ c.get_str.ensures ∙ first_value-rows (found_of c.args.found.now) (codes "PAIRS")) refl
