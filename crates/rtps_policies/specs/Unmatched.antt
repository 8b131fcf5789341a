-- Which writers and readers of one topic do not match, and for which policies. DDS 1.4, 2.2.3 "Supported QoS": endpoints of one
-- topic match where what is offered suits what is requested; those of two domains never meet (DDSI-RTPS 2.5, 8.5.3.2).
use Rattle.std.specs.Prelude.{◌≡◌, ◌≢◌, ◌&&◌, Bool, false, if◌then◌else◌, List, [], ◌∷◌, Option, Some, None, flat_map, map, nat_eq, not}
use Rattle.std.specs.Cmp.Lexicographic.{pointwise}
use Rattle.std.specs.List.{filter_map}
use Rattle.rtps_receiver.specs.Values as values
use Rattle.rtps_discovery.specs.Directory as directory
use Rattle.rtps_discovery.specs.Endpoint as endpoint
use Rattle.rtps_discovery.specs.Matching as matching
use Rattle.rtps_discovery.specs.Notice as notice
use Rattle.rtps_discovery.specs.declared.endpoint.Side.{Side}
use Rattle.rtps_discovery.specs.declared.matching.Pair.{Pair}
use Rattle.rtps_policies.specs.Announcing as announcing
use Rattle.rtps_policies.specs.Fitting as fitting
use Rattle.rtps_policies.specs.Silence as silence
use Rattle.rtps_policies.specs.declared.fitting.Policy.{Policy}
use Rattle.rtps_policies.specs.declared.unmatched.Unmatched.{Unmatched}

-- a writer and a reader that do not match, and the policies that do not suit
pub record UnmatchedValue : Type 0 where
  pub writer : fitting.ProfileValue
  pub reader : fitting.ProfileValue
  pub reasons : List Policy

-- what one of the code stands for
abbrev pub unmatched_value : Unmatched → UnmatchedValue
unmatched_value one = record { writer = fitting.profile_value one.writer; reader = fitting.profile_value one.reader; reasons = one.reasons.items }

-- a writer and a reader of one topic that are not in two domains
abbrev pub may_match : fitting.ProfileValue → fitting.ProfileValue → Bool
may_match writer reader =
    matching.is_writer writer.endpoint.side && (matching.is_reader reader.endpoint.side
    && (pointwise nat_eq writer.endpoint.topic reader.endpoint.topic && not (silence.two_domains writer.host reader.host)))

-- two profiles, if there are reasons
abbrev pub with_reasons : fitting.ProfileValue → fitting.ProfileValue → List Policy → Option UnmatchedValue
with_reasons writer reader [] = None
with_reasons writer reader (policy ∷ policies) = Some (record { writer = writer; reader = reader; reasons = policy ∷ policies })

-- two that may match, but do not
abbrev pub unmatched_of : fitting.ProfileValue → fitting.ProfileValue → Option UnmatchedValue
unmatched_of writer reader = if may_match writer reader then with_reasons writer reader (fitting.reasons writer reader) else None

-- those of a writer, in the order of the readers
abbrev pub unmatched_with : fitting.ProfileValue → List fitting.ProfileValue → List UnmatchedValue
unmatched_with writer profiles = filter_map (unmatched_of writer) profiles

-- all among profiles, writer by writer
abbrev pub unmatched_in : List fitting.ProfileValue → List UnmatchedValue
unmatched_in profiles = flat_map (λ writer. unmatched_with writer profiles) profiles

-- all among endpoints of which acts announce the rest
abbrev pub unmatched_among : List values.ActValue → List endpoint.EndpointValue → List UnmatchedValue
unmatched_among acts endpoints = unmatched_in (map (announcing.profile_among acts) endpoints)

-- the writer and the reader
abbrev pub pair_of : UnmatchedValue → Pair
pair_of one = record { writer = one.writer.endpoint.guid; reader = one.reader.endpoint.guid }

-- a settled writer and a settled reader of one topic that are not in two domains and do not match, with all reasons
pub record IsUnmatched (acts : List values.ActValue) (one : UnmatchedValue) : Type 0 where
  pub writer : endpoint.EndpointValue
  pub reader : endpoint.EndpointValue
  pub writer_settled : directory.IsSettled (notice.endpoints_among acts) writer
  pub reader_settled : directory.IsSettled (notice.endpoints_among acts) reader
  pub is_writer : writer.side ≡ Side.Writer
  pub is_reader : reader.side ≡ Side.Reader
  pub one_topic : writer.topic ≡ reader.topic
  pub may_meet : silence.two_domains (announcing.host_of acts writer.guid.prefix) (announcing.host_of acts reader.guid.prefix) ≡ false
  pub writer_is : one.writer ≡ announcing.profile_among acts writer
  pub reader_is : one.reader ≡ announcing.profile_among acts reader
  pub reasons_are : one.reasons ≡ fitting.reasons one.writer one.reader
  pub some : one.reasons ≢ []
