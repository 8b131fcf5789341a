use Rattle.std.proofs.Common.{◌≡◌, ◌∙◌, codes, true, false, ap, Bool, Option, Some, None, refl}
use Rattle.clap.specs.Words.{Text, found_of}
use Rattle.clap.proofs.WalkLemmas.{one_text-rows}
use Rattle.rtps_tool.specs.Words as words
use Rattle.rtps_tool.proofs.command.options.is_given.Goals as goal

-- a flag that is what each text of it says
given_by : (given : Option Text) (flag : Bool) → (given ≡ None → flag ≡ false) → (given ≡ Some (codes "true") → flag ≡ true)
    → (given ≡ Some (codes "false") → flag ≡ false) → words.IsFlagGiven given flag
given_by None flag none on off = none refl
given_by (Some text) flag none on off = (λ e. on (ap Some e), λ e. off (ap Some e))

pub returns : goal.returns
returns c =
    let read = one_text-rows (found_of c.args.found.now) c.args.name.now in
    given_by _ c.get_flag.result (λ e. c.get_flag.ensures.none (read ∙ e)) (λ e. c.get_flag.ensures.value (read ∙ e)) (λ e. c.get_flag.ensures.other (read ∙ e))
