-- The participants whose domain is known, with one more.
use Rattle.std.proofs.Common.{◌≡◌, ◌∙◌, ℕ, ◌+◌, ◌<◌, List, [], ◌∷◌, ◌++◌, ap, get_or, length, sym, take}
use Rattle.std.proofs.lemmas.List.{take_more}
use Rattle.std.proofs.lemmas.List.Elements.{filter_map-append}
use Rattle.rtps_report.specs.NoPair as no_pair
use Rattle.rtps_report.specs.declared.no_pair.InDomain.{InDomain}
use Rattle.rtps_report.specs.declared.participant.Participant.{Participant}

pub domains_more : (participants : List Participant) (place : ℕ) (default : Participant) (known more : List InDomain) → place < length participants
    → more ≡ known ++ no_pair.in_domains (get_or participants place default ∷ []) → known ≡ no_pair.in_domains (take place participants) → more ≡ no_pair.in_domains (take (place + 1) participants)
domains_more participants place default known more within added is =
    added ∙ ap (λ (those : List InDomain). those ++ no_pair.in_domains (get_or participants place default ∷ [])) is
    ∙ sym (ap no_pair.in_domains (take_more participants place default within) ∙ filter_map-append no_pair.in_domain (take place participants) (get_or participants place default ∷ []))
