-- What fragments tell, one act after another. DDSI-RTPS 2.5, 8.3.8.3 "DataFrag". own: it is worked out of what is known of the fragments
-- alone: their sample, and their octets.
use Rattle.std.specs.Prelude.{ℕ, Bool, ◌<◌, ◌^◌, if◌then◌else◌, List, [], ◌∷◌, ◌++◌, drop, filter, length, map}
use Rattle.std.specs.List.{flat_map}
use Rattle.std.specs.Ordering.{bool_cmp, is_eq, nat_cmp, ordering_then}
use Rattle.std.specs.declared.cmp.Ordering.{Ordering}
use Rattle.rtps_discovery.specs.GuidOrder as guid_order
use Rattle.rtps_wire.specs.DataFrag as data_frag
use Rattle.rtps_wire.specs.Values as values
use Rattle.rtps_fragments.specs.Announcing as announcing
use Rattle.rtps_fragments.specs.Heard as heard
use Rattle.rtps_wire.specs.declared.data_frag.Shape.{Shape}
use Rattle.rtps_fragments.specs.FragmentDelivery as fragment_delivery
use Rattle.rtps_fragments.specs.Samples as samples
use Rattle.rtps_fragments.specs.declared.piece.SampleKey.{SampleKey}
use Rattle.rtps_fragments.specs.declared.piece.SentFragments.{SentFragments}
use Rattle.rtps_fragments.specs.declared.told_sample.ToldSample.{ToldSample}

-- ---- samples

-- the order of two samples: by number, writer and shape
abbrev pub sample_cmp : SampleKey → SampleKey → Ordering
sample_cmp a b =
    ordering_then (nat_cmp a.number b.number)
    (ordering_then (guid_order.guid_cmp a.writer b.writer) (ordering_then (nat_cmp a.sample b.sample) (ordering_then (nat_cmp a.fragment b.fragment) (bool_cmp a.is_key b.is_key))))

-- two samples are the same
abbrev pub is_sample : SampleKey → SampleKey → Bool
is_sample a b = is_eq (sample_cmp a b)

-- its shape
abbrev pub shape_of : SampleKey → Shape
shape_of key = record { sample = key.sample; fragment = key.fragment; is_key = key.is_key }

-- ---- fragments that are sent

-- fragments that an act has, which is at this place among those of its datagram: of which sample, and each with its number
pub record SentValue : Type 0 where
  pub act : ℕ
  pub key : SampleKey
  pub came : List (ℕ × List ℕ)

-- what is sent, as a value
abbrev pub sent_value : SentFragments → SentValue
sent_value sent =
    record {
      act = sent.act;
      key = sent.key;
      came = heard.came_from sent.fragments.first (data_frag.parts_in sent.key.fragment sent.fragments.count sent.fragments.octets.now);
    }

-- The sample has a fragment, fragments have octets, and fragments count from 1. There are fewer than 2^63.
pub record IsSent (sent : SentFragments) : Type 0 where
  pub some : 0 < data_frag.last_fragment (shape_of sent.key)
  pub size : 0 < sent.key.fragment
  pub first : 0 < sent.fragments.first
  pub few : sent.fragments.count < 2 ^ 63

-- those of one sample
abbrev pub sent_of : SampleKey → List SentValue → List SentValue
sent_of key all = filter (λ sent. is_sample key sent.key) all

-- the fragments of a sample, whoever hears them
abbrev pub overheard : SampleKey → List SentValue → List (ℕ × List ℕ)
overheard key sents = flat_map (λ sent. sent.came) (sent_of key sents)

-- ---- what is told

-- a sample that the act at this place tells
pub record ToldValue : Type 0 where
  pub act : ℕ
  pub payload : values.PayloadValue

-- a sample that is told, as a value
abbrev pub told_value : ToldSample → ToldValue
told_value told = record { act = told.act; payload = if told.is_key then values.PayloadValue.Key told.octets.now else values.PayloadValue.Whole told.octets.now }

-- samples of this shape with these octets that the act at this place tells
abbrev pub told_as : ℕ → Shape → List (List ℕ) → List ToldValue
told_as act shape samples = map (λ octets. record { act = act; payload = fragment_delivery.payload_by shape octets }) samples

-- the samples of so many fragments that more of them tell: those that could not be put together before
abbrev pub samples_more : ℕ → List (ℕ × List ℕ) → List (ℕ × List ℕ) → List (List ℕ)
samples_more last before more = drop (length (samples.samples_of last before)) (samples.samples_of last (before ++ more))

-- by these fragments, behind what came of the sample before
abbrev pub told_by_sent : SentValue → List (ℕ × List ℕ) → List ToldValue
told_by_sent sent before = told_as sent.act (shape_of sent.key) (samples_more (data_frag.last_fragment (shape_of sent.key)) before sent.came)

-- to a listener that hears everything, of a built-in writer, behind what came of the sample before
abbrev pub noted_by_sent : SentValue → List (ℕ × List ℕ) → List ToldValue
noted_by_sent sent before = if announcing.is_built_in sent.key.writer.entity then told_by_sent sent before else []

-- the same, behind all that was sent before
abbrev pub overheard_behind : List SentValue → SentValue → List ToldValue
overheard_behind before sent = noted_by_sent sent (overheard sent.key before)

-- what these tell it, one after another, each behind those before it
abbrev pub overheard_in_turn : List SentValue → List SentValue → List ToldValue
overheard_in_turn before [] = []
overheard_in_turn before (sent ∷ sents) = overheard_behind before sent ++ overheard_in_turn (before ++ sent ∷ []) sents
