use Rattle.std.proofs.Common.{◌≡◌}
use Rattle.std.specs.List.{AllWithin}
use Rattle.rtps_receiver.specs.Speech as speech
use Rattle.rtps_receiver.specs.Values as values
use Rattle.rtps_receiver.specs.declared.spoken.Spoken.{Spoken}
use Rattle.rtps_audit.proofs.placed.run_end.Given as goal

-- the acts so far are from it
abbrev pub invariant-loop-place : goal.invariant-loop-place
invariant-loop-place l = AllWithin (λ (act : Spoken). speech.origin_of (values.spoken_value act) ≡ l.origin) l.acts l.start l.place
