-- The numbers of which a sample is ever whole. DDSI-RTPS 2.5, 8.3.8.3 "DataFrag". own: fragments of other numbers are counted, since what
-- they would tell is not known; whoever hears which of them, and of whatever shape the sample is.
use Rattle.std.specs.Prelude.{ℕ, Bool, ◌≡◌, ◌+◌, ◌&&◌, List, count_by, not}
use Rattle.std.specs.BTreeSet.{contains}
use Rattle.std.specs.List.{list_any}
use Rattle.std.specs.Ordering.{is_eq, nat_cmp, ordering_then}
use Rattle.std.specs.declared.cmp.Ordering.{Ordering}
use Rattle.rtps_wire.specs.Reading as reading
use Rattle.rtps_wire.specs.Tally as tally
use Rattle.rtps_wire.specs.declared.counts.Tally.{Tally}
use Rattle.rtps_discovery.specs.GuidOrder as guid_order
use Rattle.rtps_wire.specs.DataFrag as data_frag
use Rattle.rtps_fragments.specs.Merging as merging
use Rattle.rtps_fragments.specs.Samples as samples
use Rattle.rtps_fragments.specs.FragmentWalk as fragment_walk
use Rattle.rtps_fragments.specs.ToldSamples as told_samples
use Rattle.rtps_fragments.specs.declared.piece.SampleKey.{SampleKey}
use Rattle.rtps_fragments.specs.declared.whole.SampleNumber.{SampleNumber}
use Rattle.rtps_fragments.specs.declared.whole.WholeNumbers.{WholeNumbers}

-- the order of two numbers: by number, and then by writer
abbrev pub number_cmp : SampleNumber → SampleNumber → Ordering
number_cmp a b = ordering_then (nat_cmp a.number b.number) (guid_order.guid_cmp a.writer b.writer)

-- two numbers are the same
abbrev pub is_number : SampleNumber → SampleNumber → Bool
is_number a b = is_eq (number_cmp a b)

-- the number that a sample has
abbrev pub key_number : SampleKey → SampleNumber
key_number key = record { writer = key.writer; number = key.number }

-- of all fragments of it that are sent, a sample can be put together
abbrev pub is_put : List told_samples.SentValue → SampleKey → Bool
is_put sents key = samples.has_sample (data_frag.last_fragment (told_samples.shape_of key)) (told_samples.overheard key sents)

-- some sample of the number can
abbrev pub has_whole : List told_samples.SentValue → SampleNumber → Bool
has_whole sents number = list_any (λ sent. is_number number (key_number sent.key) && is_put sents sent.key) sents

-- how many of these are of a number of which no sample can, of all that is sent
abbrev pub left_among : List told_samples.SentValue → List told_samples.SentValue → ℕ
left_among all sents = count_by (λ sent. not (has_whole all (key_number sent.key))) sents

-- the tally of a datagram, with so many fragments
abbrev pub tally_with_fragments : Tally → ℕ → Tally
tally_with_fragments plain count = record { refused = plain.refused; skipped = plain.skipped; fragments = count }

-- the tally of a datagram of these octets, of which those DATA_FRAG are counted as fragments that are of no sample, of all that is sent
abbrev pub tally_left : List told_samples.SentValue → List ℕ → Tally
tally_left all octets = tally_with_fragments (tally.tally_of (reading.reading_of octets)) (fragment_walk.unusable_in octets + left_among all (merging.sents_from 0 (fragment_walk.piece_acts_of octets)))

-- these are the numbers of which some sample can be put together of all that is sent
abbrev pub AreWholeIn : List told_samples.SentValue → WholeNumbers → Type 0
AreWholeIn all whole = (number : SampleNumber) → contains number_cmp whole.numbers number ≡ has_whole all number

-- the same of a recording, which is the octets of its datagrams in the order of sending
abbrev pub AreWholeOf : List (List ℕ) → WholeNumbers → Type 0
AreWholeOf recording whole = AreWholeIn (merging.sents_in (fragment_walk.sending_of recording)) whole
