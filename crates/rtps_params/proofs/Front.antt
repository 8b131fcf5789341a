-- The pairs of octets by the parameter that was read from their front.
use Rattle.std.proofs.Common.{◌≡◌, ◌≢◌, ℕ, List, [], ◌∷◌, MatchOption, MatchResult, None, Option, Some, Result, Ok, Err, sym, ap, ◌∙◌}
use Rattle.std.specs.Result.{result_unwrap_or}
use Rattle.rtps_ids.specs.declared.order.Order.{Order}
use Rattle.rtps_params.specs.Grammar as grammar
use Rattle.rtps_params.specs.Parameter as parameter_spec
use Rattle.rtps_params.specs.Reading as reading
use Rattle.rtps_params.specs.declared.fault.ParamFault.{ParamFault}
use Rattle.rtps_params.specs.declared.parameter.Parameter.{Parameter}
use Rattle.rtps_params.proofs.Agreement.{pairs_of-pad, pairs_of-parameter, parameters_of-cut, parameters_of-sentinel}

pub pairs_of-behind_pad : (order : Order) (octets : List ℕ) (parameter : Parameter) → parameter_spec.BeginsWith order octets parameter → parameter.pid ≡ 0 → reading.pairs_of order octets ≡ reading.pairs_of order parameter.rest.now
pairs_of-behind_pad order octets parameter begins pad =
    pairs_of-pad order octets (sym begins.pid_is ∙ pad) begins.room ∙ ap (reading.pairs_of order) (sym begins.rest_is)

pub pairs_of-in_front : (order : Order) (octets : List ℕ) (parameter : Parameter) → parameter_spec.BeginsWith order octets parameter → parameter.pid ≢ 0 → reading.pairs_of order octets ≡ (parameter.pid, parameter.value.now) ∷ reading.pairs_of order parameter.rest.now
pairs_of-in_front order octets parameter begins no_pad =
    let no_pad_here : grammar.pid_of order octets ≢ 0 = λ e. no_pad (begins.pid_is ∙ e) in
    rw (begins.pid_is, begins.value_is, begins.rest_is) (pairs_of-parameter order octets no_pad_here begins.no_sentinel begins.room)

pairs_of-cut : (order : Order) (octets : List ℕ) (fault : ParamFault) → grammar.IsCut order fault octets → reading.pairs_of order octets ≡ []
pairs_of-cut order octets fault cut = ap grammar.without_pads (parameters_of-cut order fault octets cut)

pairs_of-sentinel : (order : Order) (octets : List ℕ) → parameter_spec.BeginsWithSentinel order octets → reading.pairs_of order octets ≡ []
pairs_of-sentinel order octets begins = ap grammar.without_pads (parameters_of-sentinel order octets begins.pid_is)

-- ---- the parameter in front, where one is whole

abbrev Found : Type 0
Found = Result (Option Parameter) ParamFault

-- what the reader of the front promises
abbrev IsFrontOf : Order → List ℕ → Found → Type 0
IsFrontOf order octets found =
    MatchResult found (λ front. MatchOption front (parameter_spec.BeginsWithSentinel order octets) (λ parameter. parameter_spec.BeginsWith order octets parameter)) (λ fault. grammar.IsCut order fault octets)

pub BeginsWith-found : (order : Order) (octets : List ℕ) (found : Found) (parameter : Parameter) → IsFrontOf order octets found → result_unwrap_or found None ≡ Some parameter → parameter_spec.BeginsWith order octets parameter
BeginsWith-found order octets (Ok None) parameter is_front e = absurd cc
BeginsWith-found order octets (Ok (Some p)) parameter is_front e = let same : p ≡ parameter = cc in rw same at is_front
BeginsWith-found order octets (Err fault) parameter is_front e = absurd cc

pub pairs_of-none_found : (order : Order) (octets : List ℕ) (found : Found) → IsFrontOf order octets found → result_unwrap_or found None ≡ None → reading.pairs_of order octets ≡ []
pairs_of-none_found order octets (Ok None) is_front e = pairs_of-sentinel order octets is_front
pairs_of-none_found order octets (Ok (Some p)) is_front e = absurd cc
pairs_of-none_found order octets (Err fault) is_front e = pairs_of-cut order octets fault is_front
