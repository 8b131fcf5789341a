-- What is counted of the samples that acts tell gives their entries.
use Rattle.std.proofs.Common.{◌≡◌, ◌<◌, ◌+◌, ◌||◌, ◌&&◌, ◌==◌, ◌∙◌, ℕ, zero, suc, Bool, true, false, not, List, [], ◌∷◌, ◌++◌, ap, ap₂, append-nil, append_assoc, arith, cond, flat_map, get_or, length, map, refl, sym, take}
use Rattle.std.proofs.Math.ListN.{get_or-map}
use Rattle.std.proofs.lemmas.List.{length-map, take-map}
use Rattle.std.proofs.lemmas.List.Concat.{flat_map-append}
use Rattle.std.specs.Prelude.{replicate}
use Rattle.json.specs.Json.{Json}
use Rattle.rtps_ids.specs.declared.identity.Guid.{Guid}
use Rattle.rtps_receiver.specs.Audience as audience
use Rattle.rtps_receiver.specs.Speech as speech
use Rattle.rtps_receiver.specs.Values as values
use Rattle.rtps_audit.specs.Placed as placed_spec
use Rattle.rtps_audit.specs.declared.placed.Placed.{Placed}
use Rattle.rtps_evidence.specs.Locations as locations
use Rattle.rtps_fragments.specs.Hearing as hearing
use Rattle.rtps_fragments.specs.SampleCounts as sample_counts
use Rattle.rtps_fragments.specs.declared.sample_counts.SampleCount.{SampleCount}
use Rattle.rtps_page.proofs.CountLemmas.{counts_at, no_samples, none_overheard}
use Rattle.rtps_fragments.proofs.Offered.{values_more}
use Rattle.rtps_page.specs.ChartEntries as chart_entries
use Rattle.rtps_page.specs.declared.tellings.Telling.{Telling}
use Rattle.rtps_page.specs.declared.tellings.Tellings.{Tellings}
use Rattle.rtps_page.proofs.ChartLemmas.{mapped_twice}

-- ---- lists of lists

pub each_tokens : {A B C D : Type 0} (f : B → List C) (g : C → List D) (h : A → B) (xs : List A) → flat_map (λ x. flat_map g (f (h x))) xs ≡ flat_map g (flat_map f (map h xs))
each_tokens f g h [] = refl
each_tokens f g h (x ∷ xs) = ap (λ l. flat_map g (f (h x)) ++ l) (each_tokens f g h xs) ∙ sym (flat_map-append g (f (h x)) (flat_map f (map h xs)))

-- ---- what is counted

abbrev told_from : ℕ → chart_entries.Counted → chart_entries.Told
told_from at counted = record { reader = counted.reader; samples = get_or counted.counts at 0 }

counted_alike : (readers : List Guid) (acts : List placed_spec.PlacedValue) (at : ℕ) (placed : placed_spec.PlacedValue) → at < length acts → placed ≡ get_or acts at placed
    → map (told_from at) (map (chart_entries.counts_for acts) readers) ≡ chart_entries.told_to readers (take at acts) placed
counted_alike [] acts at placed lt is = refl
counted_alike (reader ∷ readers) acts at placed lt is =
    ap₂ ◌∷◌ (ap (λ n. (let told : chart_entries.Told = record { reader = reader; samples = n } in told)) (counts_at (sample_counts.samples_at reader) acts at placed lt is)) (counted_alike readers acts at placed lt is)

pub tellings_are : (readers : List Guid) (acts : List placed_spec.PlacedValue) (tellings : Tellings) → map sample_counts.number_of tellings.all.items ≡ sample_counts.counts_behind sample_counts.overheard_at [] acts
    → map chart_entries.counted_of tellings.each.items ≡ map (chart_entries.counts_for acts) readers → chart_entries.AreTellings readers acts tellings
tellings_are readers acts tellings all each at placed lt is =
    ap₂ (λ n told. chart_entries.samples_in placed n told placed.act.body) (ap (λ l. get_or l at 0) all ∙ counts_at sample_counts.overheard_at acts at placed lt is)
    (mapped_twice chart_entries.counted_of (told_from at) tellings.each.items ∙ ap (map (told_from at)) each ∙ counted_alike readers acts at placed lt is)

-- ---- the entries of an act's samples

pub if_alike : (placed : placed_spec.PlacedValue) (all : ℕ) (each : List chart_entries.Told) (number : ℕ) → chart_entries.are_told_alike placed.act all each ≡ true
    → chart_entries.samples_json placed all each number ≡ replicate all (chart_entries.sample_json (locations.location_of placed) (chart_entries.audience_text (audience.audience_of placed.act)) number)
if_alike placed all each number are =
    ap (λ b. cond b (replicate all (chart_entries.sample_json (locations.location_of placed) (chart_entries.audience_text (audience.audience_of placed.act)) number)) (flat_map (chart_entries.samples_to (locations.location_of placed) number) each)) are

pub if_not_alike : (placed : placed_spec.PlacedValue) (all : ℕ) (each : List chart_entries.Told) (number : ℕ) → chart_entries.are_told_alike placed.act all each ≡ false
    → chart_entries.samples_json placed all each number ≡ flat_map (chart_entries.samples_to (locations.location_of placed) number) each
if_not_alike placed all each number are =
    ap (λ b. cond b (replicate all (chart_entries.sample_json (locations.location_of placed) (chart_entries.audience_text (audience.audience_of placed.act)) number)) (flat_map (chart_entries.samples_to (locations.location_of placed) number) each)) are

-- ---- no fragments

none_sends : (acts : List placed_spec.PlacedValue) (at : ℕ) (placed : placed_spec.PlacedValue) → hearing.have_fragments acts ≡ false → at < length acts → placed ≡ get_or acts at placed → hearing.sends_fragments placed.act.body ≡ false
none_sends [] at placed none lt is = absurd (omega (arith, lt))
none_sends (one ∷ acts) zero placed none lt is = ap (λ (p : placed_spec.PlacedValue). hearing.sends_fragments p.act.body) is ∙ by (hearing.sends_fragments one.act.body) none
  where
    by : (b : Bool) → (b || hearing.have_fragments acts) ≡ false → b ≡ false
    by true e = e
    by false e = refl
none_sends (one ∷ acts) (suc at) placed none lt is = none_sends acts at placed (by (hearing.sends_fragments one.act.body) none) (omega (arith, lt)) is
  where
    by : (b : Bool) → (b || hearing.have_fragments acts) ≡ false → hearing.have_fragments acts ≡ false
    by true e = absurd (let clash : true ≡ false = e in cc)
    by false e = e

nothing_to : (readers : List Guid) (before : List placed_spec.PlacedValue) (placed : placed_spec.PlacedValue) → hearing.sends_fragments placed.act.body ≡ false
    → chart_entries.are_told_alike placed.act 0 (chart_entries.told_to readers before placed) ≡ true
nothing_to [] before placed none = refl
nothing_to (reader ∷ readers) before placed none =
    ap₂ (λ (n : ℕ) (b : Bool). (not (speech.is_heard_by placed.act reader) || (n == 0)) && b) (no_samples reader before placed none) (nothing_to readers before placed none) ∙ by (speech.is_heard_by placed.act reader)
  where
    by : (b : Bool) → ((not b || true) && true) ≡ true
    by true = refl
    by false = refl

nothing_told : (readers : List Guid) (before : List placed_spec.PlacedValue) (placed : placed_spec.PlacedValue) → hearing.sends_fragments placed.act.body ≡ false → chart_entries.samples_behind readers before placed ≡ []
nothing_told readers before placed none = by placed.act.body
  where
    each : List chart_entries.Told
    each = chart_entries.told_to readers before placed

    by : (body : values.ActBodyValue) → chart_entries.samples_in placed (sample_counts.overheard_at before placed) each body ≡ []
    by (values.ActBodyValue.Data value) = refl
    by (values.ActBodyValue.Heartbeat value) = refl
    by (values.ActBodyValue.Gap value) = refl
    by (values.ActBodyValue.AckNack value) = refl
    by (values.ActBodyValue.NackFrag value) = refl
    by (values.ActBodyValue.DataFrag value) =
        let one = chart_entries.sample_json (locations.location_of placed) (chart_entries.audience_text (audience.audience_of placed.act)) value.number in
        let others = flat_map (chart_entries.samples_to (locations.location_of placed) value.number) each in
        ap (λ n. cond (chart_entries.are_told_alike placed.act n each) (replicate n one) others) (none_overheard before placed none) ∙ ap (λ b. cond b [] others) (nothing_to readers before placed none)

nothing_counted : (placed : placed_spec.PlacedValue) (body : values.ActBodyValue) → chart_entries.samples_in placed 0 [] body ≡ []
nothing_counted placed (values.ActBodyValue.Data value) = refl
nothing_counted placed (values.ActBodyValue.Heartbeat value) = refl
nothing_counted placed (values.ActBodyValue.Gap value) = refl
nothing_counted placed (values.ActBodyValue.AckNack value) = refl
nothing_counted placed (values.ActBodyValue.NackFrag value) = refl
nothing_counted placed (values.ActBodyValue.DataFrag value) = refl

pub without_fragments : (readers : List Guid) (acts : List placed_spec.PlacedValue) (tellings : Tellings) → hearing.have_fragments acts ≡ false → tellings.all.items ≡ [] → tellings.each.items ≡ []
    → chart_entries.AreTellings readers acts tellings
without_fragments readers acts tellings none all each at placed lt is =
    ap₂ (λ (counts : List SampleCount) (told : List Telling). chart_entries.samples_in placed (get_or (map sample_counts.number_of counts) at 0) (map (chart_entries.told_of at) told) placed.act.body) all each
    ∙ nothing_counted placed placed.act.body
    ∙ sym (nothing_told readers (take at acts) placed (none_sends acts at placed none lt is))

-- ---- one act more

pub entries_more : (readers : List Guid) (before acts : List placed_spec.PlacedValue) (one : placed_spec.PlacedValue)
    → chart_entries.entries_behind readers before (acts ++ one ∷ []) ≡ chart_entries.entries_behind readers before acts ++ (chart_entries.entries_of one ++ chart_entries.samples_behind readers (before ++ acts) one)
entries_more readers before [] one =
    append-nil (chart_entries.entries_of one ++ chart_entries.samples_behind readers before one) ∙ ap (λ b. chart_entries.entries_of one ++ chart_entries.samples_behind readers b one) (sym (append-nil before))
entries_more readers before (act ∷ acts) one =
    let here = chart_entries.entries_of act ++ chart_entries.samples_behind readers before act in
    let last : List placed_spec.PlacedValue → List Json = λ b. chart_entries.entries_of one ++ chart_entries.samples_behind readers b one in
    ap (λ l. here ++ l) (entries_more readers (before ++ act ∷ []) acts one ∙ ap (λ b. chart_entries.entries_behind readers (before ++ act ∷ []) acts ++ last b) (append_assoc before (act ∷ []) acts))
    ∙ sym (append_assoc here (chart_entries.entries_behind readers (before ++ act ∷ []) acts) (last (before ++ act ∷ acts)))

-- of acts in their places, by what is counted
pub acts_more : (readers : List Guid) (acts : List Placed) (tellings : Tellings) (i : ℕ) (x : Placed) → chart_entries.AreTellings readers (map placed_spec.placed_value acts) tellings → i < length acts → x ≡ get_or acts i x
    → chart_entries.entries_behind readers [] (map placed_spec.placed_value (take (i + 1) acts))
    ≡ chart_entries.entries_behind readers [] (map placed_spec.placed_value (take i acts)) ++ (chart_entries.entries_of (placed_spec.placed_value x) ++ chart_entries.samples_counted tellings i (placed_spec.placed_value x))
acts_more readers acts tellings i x are lt is =
    let value = placed_spec.placed_value x in
    let all = map placed_spec.placed_value acts in
    let front = map placed_spec.placed_value (take i acts) in
    let there : value ≡ get_or all i value = ap placed_spec.placed_value is ∙ sym (get_or-map placed_spec.placed_value acts i x) in
    let told = are i value (omega (arith, lt, length-map acts placed_spec.placed_value)) there ∙ ap (λ b. chart_entries.samples_behind readers b value) (take-map placed_spec.placed_value i acts) in
    ap (chart_entries.entries_behind readers []) (values_more acts i x lt is) ∙ entries_more readers [] front value ∙ ap (λ l. chart_entries.entries_behind readers [] front ++ (chart_entries.entries_of value ++ l)) (sym told)
