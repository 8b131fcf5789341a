-- What does not match with a writer is among the readers of its topic.
use Rattle.std.proofs.Common.{◌≡◌, ◌≢◌, ◌∙◌, ℕ, ◌==◌, ◌+◌, ◌<◌, Bool, true, false, ◌&&◌, cond, if◌then◌else◌, List, [], ◌∷◌, ◌++◌, Option, Some, None, ap, ap₂, append-nil, append_assoc, filter, flat_map, get_or, length, map, nat_eq, not, refl, sym, take}
use Rattle.std.specs.Cmp.Lexicographic.{pointwise, slice_cmp, texts_ties}
use Rattle.std.specs.List.{cons_option, filter_map}
use Rattle.std.specs.List.Sorted.{IsStableByKey, ties}
use Rattle.std.specs.Ordering.{is_eq, is_lt, nat_cmp, ordering_reverse}
use Rattle.std.specs.declared.cmp.Ordering.{Ordering}
use Rattle.std.specs.declared.cmp.Ordering.TheVariants.{Less, Equal, Greater}
use Rattle.std.proofs.lemmas.Cmp.{nat_list_cmp_total}
use Rattle.std.proofs.lemmas.Grind.{flat_map-append}
use Rattle.std.proofs.lemmas.Bool.{true≢false}
use Rattle.std.proofs.lemmas.List.{map-append, map_more, take_more}
use Rattle.std.proofs.lemmas.List.Elements.{filter_agree, filter_map-append}
use Rattle.rtps_receiver.specs.Values as values
use Rattle.rtps_discovery.specs.Endpoint as endpoint
use Rattle.rtps_discovery.specs.Matching as matching
use Rattle.rtps_discovery.specs.declared.endpoint.Endpoint.{Endpoint}
use Rattle.rtps_discovery.specs.declared.endpoint.Side.{Side}
use Rattle.rtps_policies.specs.Announcing as announcing
use Rattle.rtps_policies.specs.Fitting as fitting
use Rattle.rtps_policies.specs.Silence as silence
use Rattle.rtps_policies.specs.TopicReaders as topic_readers
use Rattle.rtps_policies.specs.Unmatched as unmatched
use Rattle.rtps_policies.specs.declared.fitting.Policy.{Policy}
use Rattle.rtps_policies.specs.declared.fitting.Profile.{Profile}

-- what a filter drops makes nothing
made_within : {X Y Z : Type 0} (f : Y → Option Z) (g : X → Y) (p : X → Bool) → ((x : X) → p x ≡ false → f (g x) ≡ None) → (xs : List X) → filter_map f (map g (filter p xs)) ≡ filter_map f (map g xs)
made_within f g p none [] = refl
made_within f g p none (x ∷ xs) = by (p x) refl (made_within f g p none xs)
  where
    by : (b : Bool) → p x ≡ b → filter_map f (map g (filter p xs)) ≡ filter_map f (map g xs)
        → filter_map f (map g (cond b (x ∷ filter p xs) (filter p xs))) ≡ cons_option (f (g x)) (filter_map f (map g xs))
    by true e onward = ap (cons_option (f (g x))) onward
    by false e onward = onward ∙ ap (λ o. cons_option o (filter_map f (map g xs))) (sym (none x e))

nothing_made : {X Y : Type 0} (f : X → Option Y) → ((x : X) → f x ≡ None) → (xs : List X) → filter_map f xs ≡ []
nothing_made f none [] = refl
nothing_made f none (x ∷ xs) = ap (λ o. cons_option o (filter_map f xs)) (none x) ∙ nothing_made f none xs

-- a sort by topic keeps the readers of one topic in their order
ties_by : (o p : Ordering) → o ≡ ordering_reverse p → (not (is_lt o) && not (is_lt p)) ≡ is_eq p
ties_by o Less e = rw e refl
ties_by o Equal e = rw e refl
ties_by o Greater e = rw e refl

topic_ties : (writer reader : Profile)
    → ties (λ (x y : Profile). is_lt (slice_cmp nat_cmp x.endpoint.topic.now y.endpoint.topic.now)) writer reader ≡ topic_readers.has_topic writer.endpoint.topic.now reader
topic_ties writer reader = ties_by _ _ (nat_list_cmp_total.antisymm writer.endpoint.topic.now reader.endpoint.topic.now)

pub topics_kept : (before after : List Profile) → IsStableByKey (λ reader. reader.endpoint.topic.now) (slice_cmp nat_cmp) before after → topic_readers.KeepsTopics before after
topics_kept before after kept writer =
    filter_agree _ _ (λ reader. sym (topic_ties writer reader)) after ∙ kept writer ∙ filter_agree _ _ (topic_ties writer) before

-- the test of one topic
turned : (o p : Ordering) → o ≡ ordering_reverse p → is_eq o ≡ is_eq p
turned o Less e = ap is_eq e
turned o Equal e = ap is_eq e
turned o Greater e = ap is_eq e

topic_test : (writer reader : Profile) → pointwise nat_eq writer.endpoint.topic.now reader.endpoint.topic.now ≡ topic_readers.has_topic writer.endpoint.topic.now reader
topic_test writer reader =
    texts_ties writer.endpoint.topic.now reader.endpoint.topic.now
    ∙ turned _ _ (nat_list_cmp_total.antisymm writer.endpoint.topic.now reader.endpoint.topic.now)

-- who may not match
second_false : (a b c : Bool) → b ≡ false → (a && (b && c)) ≡ false
second_false true b c e = ap (λ (x : Bool). x && c) e
second_false false b c e = refl

third_false : (a b c d : Bool) → c ≡ false → (a && (b && (c && d))) ≡ false
third_false true b c d e = second_false b c d e
third_false false b c d e = refl

cannot : (writer reader : fitting.ProfileValue) → unmatched.may_match writer reader ≡ false → unmatched.unmatched_of writer reader ≡ None
cannot writer reader e = ap (λ (b : Bool). if b then unmatched.with_reasons writer reader (fitting.reasons writer reader) else None) e

not_writer : (writer reader : fitting.ProfileValue) → matching.is_writer writer.endpoint.side ≡ false → unmatched.unmatched_of writer reader ≡ None
not_writer writer reader e =
    cannot writer reader (ap (λ (b : Bool). b && (matching.is_reader reader.endpoint.side && (pointwise nat_eq writer.endpoint.topic reader.endpoint.topic && not (silence.two_domains writer.host reader.host)))) e)

not_reader : (writer : fitting.ProfileValue) (reader : Profile) → matching.is_reader reader.endpoint.side ≡ false → unmatched.unmatched_of writer (fitting.profile_value reader) ≡ None
not_reader writer reader e = cannot writer (fitting.profile_value reader) (second_false (matching.is_writer writer.endpoint.side) _ _ e)

other_topic : (writer reader : Profile) → topic_readers.has_topic writer.endpoint.topic.now reader ≡ false → unmatched.unmatched_of (fitting.profile_value writer) (fitting.profile_value reader) ≡ None
other_topic writer reader e =
    cannot (fitting.profile_value writer) (fitting.profile_value reader) (third_false (matching.is_writer writer.endpoint.side) (matching.is_reader reader.endpoint.side) _ _ (topic_test writer reader ∙ e))

-- those of a writer are those among the readers of its topic
of_topic : (profiles readers : List Profile) (writer : Profile) → topic_readers.KeepsTopics (topic_readers.readers_among profiles) readers
    → unmatched.unmatched_with (fitting.profile_value writer) (map fitting.profile_value (filter (topic_readers.has_topic writer.endpoint.topic.now) readers)) ≡ unmatched.unmatched_with (fitting.profile_value writer) (map fitting.profile_value profiles)
of_topic profiles readers writer kept =
    ap (λ l. unmatched.unmatched_with (fitting.profile_value writer) (map fitting.profile_value l)) (kept writer)
    ∙ made_within (unmatched.unmatched_of (fitting.profile_value writer)) fitting.profile_value (topic_readers.has_topic writer.endpoint.topic.now) (other_topic writer) (topic_readers.readers_among profiles)
    ∙ made_within (unmatched.unmatched_of (fitting.profile_value writer)) fitting.profile_value (λ profile. matching.is_reader profile.endpoint.side) (not_reader (fitting.profile_value writer)) profiles

-- ---- writer by writer

-- those of some profiles in turn, each among all
abbrev pub listed : List Profile → List Profile → List unmatched.UnmatchedValue
listed all profiles = flat_map (λ writer. unmatched.unmatched_with (fitting.profile_value writer) (map fitting.profile_value all)) profiles

pub listed_all : (all profiles : List Profile) → listed all profiles ≡ flat_map (λ writer. unmatched.unmatched_with writer (map fitting.profile_value all)) (map fitting.profile_value profiles)
listed_all all [] = refl
listed_all all (profile ∷ profiles) = ap (λ found. unmatched.unmatched_with (fitting.profile_value profile) (map fitting.profile_value all) ++ found) (listed_all all profiles)

listed_more : (profiles : List Profile) (i : ℕ) (d : Profile) → i < length profiles
    → listed profiles (take (i + 1) profiles) ≡ listed profiles (take i profiles) ++ unmatched.unmatched_with (fitting.profile_value (get_or profiles i d)) (map fitting.profile_value profiles)
listed_more profiles i d lt =
    ap (listed profiles) (take_more profiles i d lt)
    ∙ flat_map-append (λ writer. unmatched.unmatched_with (fitting.profile_value writer) (map fitting.profile_value profiles)) (take i profiles) (get_or profiles i d ∷ [])
    ∙ ap (λ found. listed profiles (take i profiles) ++ found) (append-nil _)

pub listed_other : (profiles : List Profile) (i : ℕ) (d : Profile) (found : List unmatched.UnmatchedValue) → i < length profiles → matching.is_writer (get_or profiles i d).endpoint.side ≡ false
    → found ≡ listed profiles (take i profiles) → found ≡ listed profiles (take (i + 1) profiles)
listed_other profiles i d found lt other was =
    was
    ∙ sym (listed_more profiles i d lt
    ∙ ap (λ l. listed profiles (take i profiles) ++ l) (nothing_made (unmatched.unmatched_of (fitting.profile_value (get_or profiles i d))) (λ reader. not_writer (fitting.profile_value (get_or profiles i d)) reader other) (map fitting.profile_value profiles))
    ∙ append-nil _)

pub listed_writer : (profiles readers : List Profile) (i : ℕ) (d : Profile) (old new : List unmatched.UnmatchedValue) (near : List Profile) → i < length profiles → topic_readers.KeepsTopics (topic_readers.readers_among profiles) readers
    → near ≡ filter (topic_readers.has_topic (get_or profiles i d).endpoint.topic.now) readers → old ≡ listed profiles (take i profiles)
    → new ≡ old ++ unmatched.unmatched_with (fitting.profile_value (get_or profiles i d)) (map fitting.profile_value near) → new ≡ listed profiles (take (i + 1) profiles)
listed_writer profiles readers i d old new near lt kept found was more =
    more ∙ ap (λ l. l ++ unmatched.unmatched_with (fitting.profile_value (get_or profiles i d)) (map fitting.profile_value near)) was
    ∙ ap (λ l. listed profiles (take i profiles) ++ l) (ap (λ l. unmatched.unmatched_with (fitting.profile_value (get_or profiles i d)) (map fitting.profile_value l)) found ∙ of_topic profiles readers (get_or profiles i d) kept)
    ∙ sym (listed_more profiles i d lt)

pub no_writer : (side : Side) → side ≢ Side.Writer → matching.is_writer side ≡ false
no_writer Side.Writer other = absurd (other refl)
no_writer Side.Reader other = refl

-- ---- reader by reader

-- one reader more of a writer
pub reader_more : (writer : fitting.ProfileValue) (readers : List Profile) (i : ℕ) (d : Profile) (before old new : List unmatched.UnmatchedValue) (one : Option unmatched.UnmatchedValue) → i < length readers
    → old ≡ before ++ unmatched.unmatched_with writer (map fitting.profile_value (take i readers)) → one ≡ unmatched.unmatched_of writer (fitting.profile_value (get_or readers i d)) → new ≡ old ++ cons_option one []
    → new ≡ before ++ unmatched.unmatched_with writer (map fitting.profile_value (take (i + 1) readers))
reader_more writer readers i d before old new one lt was is more =
    more ∙ ap (λ l. l ++ cons_option one []) was ∙ append_assoc before (unmatched.unmatched_with writer (map fitting.profile_value (take i readers))) (cons_option one [])
    ∙ ap (λ l. before ++ l) (ap (λ o. unmatched.unmatched_with writer (map fitting.profile_value (take i readers)) ++ cons_option o []) is
    ∙ sym (filter_map-append (unmatched.unmatched_of writer) (map fitting.profile_value (take i readers)) (fitting.profile_value (get_or readers i d) ∷ []))
    ∙ ap (unmatched.unmatched_with writer) (sym (map_more fitting.profile_value readers i d lt)))

-- a writer and a reader for which there are reasons
with_some : (writer reader : fitting.ProfileValue) (found : List Policy) → (length found == 0) ≡ false → unmatched.with_reasons writer reader found ≡ Some (record { writer = writer; reader = reader; reasons = found })
with_some writer reader [] some = absurd (true≢false some)
with_some writer reader (policy ∷ policies) some = refl

pub some_reasons : (writer reader : fitting.ProfileValue) (found : List Policy) → unmatched.may_match writer reader ≡ true → found ≡ fitting.reasons writer reader → (length found == 0) ≡ false
    → Some (record { writer = writer; reader = reader; reasons = found }) ≡ unmatched.unmatched_of writer reader
some_reasons writer reader found may is some =
    sym (ap (λ (b : Bool). if b then unmatched.with_reasons writer reader (fitting.reasons writer reader) else None) may ∙ ap (unmatched.with_reasons writer reader) (sym is) ∙ with_some writer reader found some)

-- ---- profiles

pub profile_more : (acts : List values.ActValue) (endpoints : List Endpoint) (i : ℕ) (d : Endpoint) (old new : List Profile) (profile : Profile) → i < length endpoints
    → map fitting.profile_value old ≡ map (announcing.profile_among acts) (map endpoint.endpoint_value (take i endpoints)) → new ≡ old ++ profile ∷ []
    → fitting.profile_value profile ≡ announcing.profile_among acts (endpoint.endpoint_value (get_or endpoints i d)) → map fitting.profile_value new ≡ map (announcing.profile_among acts) (map endpoint.endpoint_value (take (i + 1) endpoints))
profile_more acts endpoints i d old new profile lt was more is =
    ap (map fitting.profile_value) more ∙ map-append fitting.profile_value old (profile ∷ []) ∙ ap₂ (λ l p. l ++ p ∷ []) was is
    ∙ sym (map-append (announcing.profile_among acts) (map endpoint.endpoint_value (take i endpoints)) (endpoint.endpoint_value (get_or endpoints i d) ∷ []))
    ∙ ap (map (announcing.profile_among acts)) (sym (map_more endpoint.endpoint_value endpoints i d lt))
