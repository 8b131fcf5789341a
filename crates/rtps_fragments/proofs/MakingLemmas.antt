-- What is kept of samples in the making, with fragments more.
use Rattle.std.proofs.lemmas.Grind.{common_steps}
use Rattle.std.proofs.lemmas.Bool.Decides.{nat_tests}
use Rattle.std.proofs.Common.{◌≡◌, ℕ, Bool, true, false, cond, List, [], ◌∷◌, ◌++◌, Option, Some, None, refl, sym, ◌∙◌, ap, subst, inl, inr, append-nil, arith}
use Rattle.std.specs.BTreeMap.{BTreeMap, get}
use Rattle.std.specs.BTreeSet.{contains}
use Rattle.std.specs.Ordering.{is_eq}
use Rattle.std.proofs.lemmas.Bool.{cases_Bool}
use Rattle.rtps_wire.specs.DataFrag as data_frag
use Rattle.rtps_fragments.specs.Heard as heard_spec
use Rattle.rtps_fragments.specs.Making as making_spec
use Rattle.rtps_fragments.specs.Samples as samples
use Rattle.rtps_fragments.specs.ToldSamples as told_samples
use Rattle.rtps_fragments.specs.Whole as whole_spec
use Rattle.rtps_fragments.specs.declared.heard.Heard.{Heard}
use Rattle.rtps_fragments.specs.declared.making.Makings.{Makings}
use Rattle.rtps_fragments.specs.declared.overhearing.Overhearing.{Overhearing}
use Rattle.rtps_fragments.specs.declared.piece.SampleKey.{SampleKey}
use Rattle.rtps_fragments.specs.declared.whole.SampleNumber.{SampleNumber}
use Rattle.rtps_fragments.proofs.NumberLemmas.{whole_here, whole_not_here}
use Rattle.rtps_fragments.proofs.OverheardLemmas.{overheard-more}
use Rattle.rtps_fragments.proofs.ToldSampleLemmas.{own_sample, sample_is}

-- ---- samples in the making

-- where the same came of each sample
pub same_came : (one other : SampleKey → List (ℕ × List ℕ)) (makings : Makings) → ((key : SampleKey) → one key ≡ other key) → making_spec.AreMakings one makings → making_spec.AreMakings other makings
same_came one other makings same are key = subst (λ cs. making_spec.HasCame key cs (get told_samples.sample_cmp makings.kept key)) (same key) (are key)

-- what came of the sample of these fragments
pub came_here : (came : SampleKey → List (ℕ × List ℕ)) (sent : told_samples.SentValue) → making_spec.came_more came sent sent.key ≡ came sent.key ++ sent.came
came_here came sent = ap (λ b. cond b (came sent.key ++ sent.came) (came sent.key)) (own_sample sent.key)

-- where nothing is kept of a sample, nothing came
pub nothing_came : (key : SampleKey) (kept : Option Heard) (came : List (ℕ × List ℕ)) → kept ≡ None → making_spec.HasCame key came kept → came ≡ []
nothing_came key kept came none was = subst (making_spec.HasCame key came) none was

-- fragments of a sample of which nothing came
pub begun : (key : SampleKey) (old new : BTreeMap SampleKey Heard) (fresh heard : Heard) (came more : List (ℕ × List ℕ)) → get told_samples.sample_cmp old key ≡ None → get told_samples.sample_cmp new key ≡ Some heard
    → ((before : List (ℕ × List ℕ)) → heard_spec.IsHeard (data_frag.last_fragment (told_samples.shape_of key)) before fresh → heard_spec.IsHeard (data_frag.last_fragment (told_samples.shape_of key)) (before ++ more) heard)
    → heard_spec.IsHeard (data_frag.last_fragment (told_samples.shape_of key)) [] fresh → making_spec.HasCame key came (get told_samples.sample_cmp old key) → making_spec.HasCame key (came ++ more) (get told_samples.sample_cmp new key)
begun key old new fresh heard came more none put takes starts was =
    subst (making_spec.HasCame key (came ++ more)) (sym put) (subst (λ cs. heard_spec.IsHeard (data_frag.last_fragment (told_samples.shape_of key)) (cs ++ more) heard) (sym (nothing_came key (get told_samples.sample_cmp old key) came none was)) (takes [] starts))

-- one sample more
pub makings_more : (came : SampleKey → List (ℕ × List ℕ)) (sent : told_samples.SentValue) (old new : Makings) → making_spec.AreMakings came old
    → making_spec.HasCame sent.key (came sent.key ++ sent.came) (get told_samples.sample_cmp new.kept sent.key)
    → ((other : SampleKey) → is_eq (told_samples.sample_cmp sent.key other) ≡ false → get told_samples.sample_cmp new.kept other ≡ get told_samples.sample_cmp old.kept other) → making_spec.AreMakings (making_spec.came_more came sent) new
makings_more came sent old new are here others key = elim (cases_Bool (is_eq (told_samples.sample_cmp sent.key key))) [
  | inl same ↦
      subst (λ k. making_spec.HasCame k (making_spec.came_more came sent k) (get told_samples.sample_cmp new.kept k)) (sample_is sent.key key same)
      (subst (λ cs. making_spec.HasCame sent.key cs (get told_samples.sample_cmp new.kept sent.key)) (sym (came_here came sent)) here)
  | inr apart ↦
      subst (λ b. making_spec.HasCame key (cond b (came key ++ sent.came) (came key)) (get told_samples.sample_cmp new.kept key)) (sym (apart_too apart))
      (subst (making_spec.HasCame key (came key)) (sym (others key apart)) (are key))
]
  where
    apart_too : told_samples.is_sample sent.key key ≡ false → told_samples.is_sample key sent.key ≡ false
    apart_too apart = by (told_samples.is_sample key sent.key) refl
      where
        by : (b : Bool) → told_samples.is_sample key sent.key ≡ b → told_samples.is_sample key sent.key ≡ false
        by false e = e
        by true e = let clash : true ≡ false = sym (own_sample sent.key) ∙ ap (told_samples.is_sample sent.key) (sym (sample_is key sent.key e)) ∙ apart in cc

-- ---- what everybody hears

module _ (before : List told_samples.SentValue) (sent : told_samples.SentValue) where
  overheard_key : (key : SampleKey) → making_spec.came_more (λ k. told_samples.overheard k before) sent key ≡ told_samples.overheard key (before ++ sent ∷ [])
  overheard_key key = by (told_samples.is_sample key sent.key) ∙ sym (overheard-more key before sent)
    where
      by : (b : Bool) → cond b (told_samples.overheard key before ++ sent.came) (told_samples.overheard key before) ≡ told_samples.overheard key before ++ cond b sent.came []
      by true = refl
      by false = sym (append-nil (told_samples.overheard key before))

  put_is : (whole : Bool) → whole ≡ samples.has_sample (data_frag.last_fragment (told_samples.shape_of sent.key)) (told_samples.overheard sent.key before ++ sent.came) → whole_spec.is_put (before ++ sent ∷ []) sent.key ≡ whole
  put_is whole is = ap (samples.has_sample (data_frag.last_fragment (told_samples.shape_of sent.key))) (sym (overheard_key sent.key) ∙ came_here (λ k. told_samples.overheard k before) sent) ∙ sym is

  -- some sample of the number is whole now
  pub overhearing_whole : (old new : Overhearing) → making_spec.IsOverhearing before old → making_spec.AreMakings (making_spec.came_more (λ k. told_samples.overheard k before) sent) new.makings
      → true ≡ samples.has_sample (data_frag.last_fragment (told_samples.shape_of sent.key)) (told_samples.overheard sent.key before ++ sent.came)
      → ((number : SampleNumber) → contains whole_spec.number_cmp new.whole number ≡ cond (whole_spec.is_number (whole_spec.key_number sent.key) number) true (contains whole_spec.number_cmp old.whole number)) → making_spec.IsOverhearing (before ++ sent ∷ []) new
  overhearing_whole old new was kept is added = record {
    each = same_came _ _ new.makings overheard_key kept;
    whole = λ number. added number ∙ ap (cond (whole_spec.is_number (whole_spec.key_number sent.key) number) true) (was.whole number) ∙ sym (whole_here before sent number (put_is true is));
  }

  -- this one is not
  pub overhearing_not : (old new : Overhearing) → making_spec.IsOverhearing before old → making_spec.AreMakings (making_spec.came_more (λ k. told_samples.overheard k before) sent) new.makings
      → false ≡ samples.has_sample (data_frag.last_fragment (told_samples.shape_of sent.key)) (told_samples.overheard sent.key before ++ sent.came) → new.whole ≡ old.whole → making_spec.IsOverhearing (before ++ sent ∷ []) new
  overhearing_not old new was kept is same = record {
    each = same_came _ _ new.makings overheard_key kept;
    whole = λ number. ap (λ w. contains whole_spec.number_cmp w number) same ∙ was.whole number ∙ sym (whole_not_here before sent number (put_is false is));
  }
