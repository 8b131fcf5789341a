-- What is kept of samples in the making. DDSI-RTPS 2.5, 8.3.8.3 "DataFrag". own: of each sample the fragments that came to one listener: to a
-- reader, or to one that hears everything, by which a sample is ever whole, and a built-in writer announces.
use Rattle.std.specs.Prelude.{ℕ, ◌≡◌, if◌then◌else◌, ◌++◌, List, [], Option, Some, None}
use Rattle.std.specs.BTreeMap.{get}
use Rattle.std.specs.BTreeSet.{contains}
use Rattle.rtps_wire.specs.DataFrag as data_frag
use Rattle.rtps_fragments.specs.Heard as heard_spec
use Rattle.rtps_fragments.specs.ToldSamples as told_samples
use Rattle.rtps_fragments.specs.Whole as whole
use Rattle.rtps_fragments.specs.declared.heard.Heard.{Heard}
use Rattle.rtps_fragments.specs.declared.making.Makings.{Makings}
use Rattle.rtps_fragments.specs.declared.overhearing.Overhearing.{Overhearing}
use Rattle.rtps_fragments.specs.declared.piece.SampleKey.{SampleKey}
use Rattle.rtps_fragments.specs.declared.whole.SampleNumber.{SampleNumber}

-- what came of a sample is kept, if something came
abbrev pub HasCame : SampleKey → List (ℕ × List ℕ) → Option Heard → Type 0
HasCame key came (Some heard) = heard_spec.IsHeard (data_frag.last_fragment (told_samples.shape_of key)) came heard
HasCame key came None = came ≡ []

-- what is kept is what came of each sample
abbrev pub AreMakings : (SampleKey → List (ℕ × List ℕ)) → Makings → Type 0
AreMakings came makings = (key : SampleKey) → HasCame key (came key) (get told_samples.sample_cmp makings.kept key)

-- what came of each sample, and then these fragments
abbrev pub came_more : (SampleKey → List (ℕ × List ℕ)) → told_samples.SentValue → SampleKey → List (ℕ × List ℕ)
came_more came sent key = if told_samples.is_sample key sent.key then came key ++ sent.came else came key

-- What is kept is what was sent, whoever hears it: of each sample, and the numbers of which some sample is whole.
pub record IsOverhearing (before : List told_samples.SentValue) (overhearing : Overhearing) : Type 0 where
  pub each : AreMakings (λ key. told_samples.overheard key before) overhearing.makings
  pub whole : (number : SampleNumber) → contains whole.number_cmp overhearing.whole number ≡ whole.has_whole before number
