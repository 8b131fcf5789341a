-- What discovery has told, act by act.
use Rattle.std.proofs.Common.{◌≡◌, ◌∙◌, ℕ, ◌+◌, ◌<◌, List, [], ◌∷◌, ◌++◌, Option, append_assoc, ap, get_or, length, map, sym, take}
use Rattle.std.proofs.lemmas.List.{map_more, map_push}
use Rattle.rtps_receiver.specs.Values as values
use Rattle.rtps_known.specs.Tellings as tellings
use Rattle.rtps_report.specs.ActsRead as acts_read

-- an act with a time
abbrev pub timed : Option ℕ → values.ActValue → tellings.TimedAct
timed time act = record { act = act; time = time }

-- one act more
pub act_more : {X : Type 0} (value : X → values.ActValue) (before : List tellings.TimedAct) (time : Option ℕ) (acts : List X) (i : ℕ) (act : X) → i < length acts → act ≡ get_or acts i act
    → (before ++ acts_read.acts_at time (map value (take i acts))) ++ timed time (value act) ∷ [] ≡ before ++ acts_read.acts_at time (map value (take (i + 1) acts))
act_more {X} value before time acts i act within is =
    append_assoc before (acts_read.acts_at time (map value (take i acts))) (timed time (value act) ∷ [])
    ∙ ap (λ (those : List tellings.TimedAct). before ++ those)
    (ap (λ (one : X). acts_read.acts_at time (map value (take i acts)) ++ timed time (value one) ∷ []) is
    ∙ sym (ap (map (timed time)) (map_more value acts i act within) ∙ map_push (timed time) (map value (take i acts)) (value (get_or acts i act))))
