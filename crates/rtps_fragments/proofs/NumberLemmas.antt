-- The numbers of which some sample can be put together, with fragments more.
use Rattle.std.proofs.lemmas.Grind.{common_steps}
use Rattle.std.proofs.Common.{◌≡◌, ℕ, ◌+◌, ◌≤◌, Bool, true, false, cond, ◌&&◌, nat_lt, List, [], ◌∷◌, ◌++◌, length, refl, sym, ◌∙◌, ap, subst, arith, inl, inr, ◌⊎◌}
use Rattle.std.specs.Cmp.{IsTotalOrder, both_ways}
use Rattle.std.proofs.lemmas.Bool.{cases_Bool, and_from, and_parts}
use Rattle.std.proofs.lemmas.Bool.Decides.{nat_tests}
use Rattle.std.proofs.lemmas.Cmp.{nat_cmp_total, on_total, then_total}
use Rattle.std.proofs.lemmas.List.{length-append}
use Rattle.std.proofs.lemmas.List.Elements.{Contains-append_cases, Contains-append_left, Contains-append_right}
use Rattle.rtps_ids.specs.declared.identity.Guid.{Guid}
use Rattle.rtps_audit.proofs.Offered.{contains_cases, contains_head, contains_none}
use Rattle.rtps_wire.specs.DataFrag as data_frag
use Rattle.rtps_fragments.specs.Samples as samples
use Rattle.rtps_fragments.specs.ToldSamples as told_samples
use Rattle.rtps_fragments.specs.Whole as whole
use Rattle.rtps_fragments.specs.declared.piece.SampleKey.{SampleKey}
use Rattle.rtps_fragments.specs.declared.whole.SampleNumber.{SampleNumber}
use Rattle.rtps_fragments.proofs.Lists.{any_from, any_of}
use Rattle.rtps_fragments.proofs.OverheardLemmas.{other_sample, overheard-more}
use Rattle.rtps_fragments.proofs.SampleLemmas.{samples_grow}
use Rattle.rtps_fragments.proofs.ToldSampleLemmas.{eq_then, guid_is, guids_total, number_is, own_eq, own_sample, sample_is}

-- ---- numbers

pub same_number : (a b : SampleNumber) → whole.is_number a b ≡ true → a ≡ b
same_number a b e =
    let (number, writer) = eq_then _ _ e in
    let one : Guid → SampleNumber = λ w. record { writer = w; number = a.number } in
    let two : ℕ → SampleNumber = λ n. record { writer = b.writer; number = n } in
    ap one (guid_is a.writer b.writer writer) ∙ ap two (number_is a.number b.number number)

numbers_total : IsTotalOrder whole.number_cmp
numbers_total = then_total (on_total (λ (n : SampleNumber). n.number) nat_cmp_total) (on_total (λ (n : SampleNumber). n.writer) guids_total)

pub own_number : (a : SampleNumber) → whole.is_number a a ≡ true
own_number a = own_eq (whole.number_cmp a a) (numbers_total.antisymm a a)

-- ---- fragments more

more_samples : (last : ℕ) (came more : List (ℕ × List ℕ)) → samples.has_sample last came ≡ true → samples.has_sample last (came ++ more) ≡ true
more_samples last came more e =
    let (rest, is) = samples_grow last came more in
    let count : length (samples.samples_of last (came ++ more)) ≡ length (samples.samples_of last came) + length rest = ap length is ∙ length-append (samples.samples_of last came) rest in
    grows (length (samples.samples_of last came)) (length (samples.samples_of last (came ++ more))) e (omega (arith, count))
  where
    grows : (a b : ℕ) → nat_lt 0 a ≡ true → a ≤ b → nat_lt 0 b ≡ true
    grows a b e le = grind (arith, nat_tests)

put_stays : (before : List told_samples.SentValue) (sent : told_samples.SentValue) (key : SampleKey) → whole.is_put before key ≡ true → whole.is_put (before ++ sent ∷ []) key ≡ true
put_stays before sent key e = grind (arith, nat_tests, common_steps, overheard-more, more_samples)

module _ (before : List told_samples.SentValue) (sent : told_samples.SentValue) (number : SampleNumber) where
  -- the test by all fragments
  abbrev passes : told_samples.SentValue → Bool
  passes one = whole.is_number number (whole.key_number one.key) && whole.is_put (before ++ sent ∷ []) one.key

  whole_stays : whole.has_whole before number ≡ true → whole.has_whole (before ++ sent ∷ []) number ≡ true
  whole_stays e = grind (arith, nat_tests, common_steps, any_of, and_parts, any_from, Contains-append_left, and_from, put_stays)

  -- a sample that can be put together now is the one of these fragments, or could be before
  whole_from : whole.has_whole (before ++ sent ∷ []) number ≡ true → ((whole.is_number number (whole.key_number sent.key) ≡ true) × (whole.is_put (before ++ sent ∷ []) sent.key ≡ true)) ⊎ (whole.has_whole before number ≡ true)
  whole_from e =
      let (one, among, has) = any_of passes (before ++ sent ∷ []) e in
      let (same, put) = and_parts (whole.is_number number (whole.key_number one.key)) (whole.is_put (before ++ sent ∷ []) one.key) has in
      elim (cases_Bool (told_samples.is_sample one.key sent.key)) [
        | inl is ↦
            let key = sample_is one.key sent.key is in
            inl (subst (λ k. whole.is_number number (whole.key_number k) ≡ true) key same, subst (λ k. whole.is_put (before ++ sent ∷ []) k ≡ true) key put)
        | inr apart ↦ elim (Contains-append_cases before (sent ∷ []) one among) [
          | inl there ↦ inr (any_from (λ (s : told_samples.SentValue). whole.is_number number (whole.key_number s.key) && whole.is_put before s.key) before one there (and_from _ _ same (sym (ap (samples.has_sample (data_frag.last_fragment (told_samples.shape_of one.key))) (other_sample one.key before sent apart)) ∙ put)))
          | inr here ↦ elim (contains_cases sent [] one here) [
            | inl is ↦ absurd (let clash : true ≡ false = sym (own_sample sent.key) ∙ ap (λ (s : told_samples.SentValue). told_samples.is_sample s.key sent.key) is ∙ apart in cc)
            | inr none ↦ absurd (contains_none one none)
          ]
        ]
      ]

  -- with fragments by which a sample can be put together
  pub whole_here : whole.is_put (before ++ sent ∷ []) sent.key ≡ true → whole.has_whole (before ++ sent ∷ []) number ≡ cond (whole.is_number (whole.key_number sent.key) number) true (whole.has_whole before number)
  whole_here put = both_ways _ _ to (from (whole.is_number (whole.key_number sent.key) number) refl)
    where
      to : whole.has_whole (before ++ sent ∷ []) number ≡ true → cond (whole.is_number (whole.key_number sent.key) number) true (whole.has_whole before number) ≡ true
      to e = elim (whole_from e) [
        | inl (same, put) ↦ ap (λ n. cond (whole.is_number (whole.key_number sent.key) n) true (whole.has_whole before number)) (same_number number (whole.key_number sent.key) same) ∙ ap (λ b. cond b true (whole.has_whole before number)) (own_number (whole.key_number sent.key))
        | inr old ↦ ap (cond (whole.is_number (whole.key_number sent.key) number) true) old ∙ either (whole.is_number (whole.key_number sent.key) number)
      ]
        where
          either : (b : Bool) → cond b true true ≡ true
          either true = refl
          either false = refl

      from : (b : Bool) → whole.is_number (whole.key_number sent.key) number ≡ b → cond b true (whole.has_whole before number) ≡ true → whole.has_whole (before ++ sent ∷ []) number ≡ true
      from true is e =
          let same : whole.is_number number (whole.key_number sent.key) ≡ true = ap (λ n. whole.is_number n (whole.key_number sent.key)) (sym (same_number (whole.key_number sent.key) number is)) ∙ own_number (whole.key_number sent.key) in
          any_from passes (before ++ sent ∷ []) sent (Contains-append_right before (sent ∷ []) sent (contains_head sent [])) (and_from _ _ same put)
      from false is e = whole_stays e

  -- with others
  pub whole_not_here : whole.is_put (before ++ sent ∷ []) sent.key ≡ false → whole.has_whole (before ++ sent ∷ []) number ≡ whole.has_whole before number
  whole_not_here none = grind (arith, nat_tests, common_steps, whole_stays, whole_from)
