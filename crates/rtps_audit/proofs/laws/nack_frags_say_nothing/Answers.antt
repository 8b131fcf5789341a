use Rattle.std.proofs.Common.{◌≡◌, Bool, true, false, ap, refl}
use Rattle.std.specs.Prelude.{Option, None, if◌then◌else◌}
use Rattle.rtps_audit.specs.Speech as speech
use Rattle.rtps_audit.proofs.laws.nack_frags_say_nothing.Goals as goal

none_either : {X : Type 0} (b : Bool) (o : Option X) → o ≡ None → (if b then o else None) ≡ None
none_either true o is = is
none_either false o is = refl

pub returns : goal.returns
returns c = λ writer reader act asks is.
    (λ n. none_either _ _ (ap (λ body. speech.word_of body n) is), none_either _ _ (ap speech.base_of_body is), none_either _ _ (ap speech.announced_of_body is))
