-- The order of samples.
use Rattle.std.proofs.Common.{◌≡◌, ℕ, Bool, true, sym, ◌∙◌, ap, arith, rules}
use Rattle.std.specs.Cmp.{IsTotalOrder, bool_cmp_total}
use Rattle.std.specs.Ordering.{bool_cmp, is_eq, nat_cmp, ordering_reverse, ordering_then}
use Rattle.std.specs.declared.cmp.Ordering.{Ordering}
use Rattle.std.proofs.lemmas.Bool.Decides.{Decides-eqb, nat_tests}
use Rattle.std.proofs.lemmas.Cmp.{nat_cmp_total, nat_list_cmp_total, on_total, then_total}
use Rattle.std.proofs.lemmas.Map.Text.{is_eq-slice_cmp}
use Rattle.rtps_ids.specs.declared.identity.Guid.{Guid}
use Rattle.rtps_discovery.specs.GuidOrder as guid_order
use Rattle.rtps_audit.specs.Placed as placed
use Rattle.rtps_audit.proofs.Offered.{is_eq-guid_cmp}
use Rattle.rtps_fragments.specs.ToldSamples as told_samples
use Rattle.rtps_fragments.specs.declared.piece.SampleKey.{SampleKey}
use Rattle.rtps_fragments.proofs.Lists.{entity_is, prefix_is}
use Rattle.rtps_fragments.proofs.KeptLemmas.{at_number}

-- ---- orders

pub eq_then : (a b : Ordering) → is_eq (ordering_then a b) ≡ true → (is_eq a ≡ true) × (is_eq b ≡ true)
eq_then a b h = grind (arith, nat_tests)

pub number_is : (a b : ℕ) → is_eq (nat_cmp a b) ≡ true → a ≡ b
number_is a b e = sym ((Decides-eqb b a).0 (sym (at_number a b) ∙ e))

flag_is : (a b : Bool) → is_eq (bool_cmp a b) ≡ true → a ≡ b
flag_is a b h = grind (arith, nat_tests)

pub guid_is : (a b : Guid) → is_eq (guid_order.guid_cmp a b) ≡ true → a ≡ b
guid_is a b e = search (rules, eq_then, prefix_is, is_eq-slice_cmp, entity_is)

pub guid_same : (a b : Guid) → placed.is_guid a b ≡ true → a ≡ b
guid_same a b e = guid_is a b (is_eq-guid_cmp a b ∙ e)

pub sample_is : (a b : SampleKey) → told_samples.is_sample a b ≡ true → a ≡ b
sample_is a b e =
    let (number, rest) = eq_then _ _ e in
    let (writer, rest) = eq_then _ _ rest in
    let (sample, rest) = eq_then _ _ rest in
    let (fragment, key) = eq_then _ _ rest in
    let one : Guid → SampleKey = λ w. record { writer = w; number = a.number; sample = a.sample; fragment = a.fragment; is_key = a.is_key } in
    let two : ℕ → SampleKey = λ n. record { writer = b.writer; number = n; sample = a.sample; fragment = a.fragment; is_key = a.is_key } in
    let three : ℕ → SampleKey = λ n. record { writer = b.writer; number = b.number; sample = n; fragment = a.fragment; is_key = a.is_key } in
    let four : ℕ → SampleKey = λ n. record { writer = b.writer; number = b.number; sample = b.sample; fragment = n; is_key = a.is_key } in
    let five : Bool → SampleKey = λ k. record { writer = b.writer; number = b.number; sample = b.sample; fragment = b.fragment; is_key = k } in
    ap one (guid_is a.writer b.writer writer) ∙ ap two (number_is a.number b.number number) ∙ ap three (number_is a.sample b.sample sample) ∙ ap four (number_is a.fragment b.fragment fragment)
    ∙ ap five (flag_is a.is_key b.is_key key)

pub guids_total : IsTotalOrder guid_order.guid_cmp
guids_total = then_total (on_total (λ (guid : Guid). guid.prefix.0) nat_list_cmp_total) (on_total (λ (guid : Guid). guid.entity.0) nat_list_cmp_total)

pub samples_total : IsTotalOrder told_samples.sample_cmp
samples_total =
    then_total (on_total (λ (key : SampleKey). key.number) nat_cmp_total)
    (then_total (on_total (λ (key : SampleKey). key.writer) guids_total)
    (then_total (on_total (λ (key : SampleKey). key.sample) nat_cmp_total)
    (then_total (on_total (λ (key : SampleKey). key.fragment) nat_cmp_total) (on_total (λ (key : SampleKey). key.is_key) bool_cmp_total))))

pub own_eq : (order : Ordering) → order ≡ ordering_reverse order → is_eq order ≡ true
own_eq order h = grind (arith, nat_tests)

pub own_sample : (key : SampleKey) → told_samples.is_sample key key ≡ true
own_sample key = own_eq (told_samples.sample_cmp key key) (samples_total.antisymm key key)
