-- Of a recording it is told in one way who was never told of whose endpoints, and who has two lives.
use Rattle.std.proofs.Common.{◌≡◌, ◌∙◌, ℕ, ◌+◌, ◌≤◌, ◌==◌, ◌&&◌, ◌||◌, ◌⊎◌, Bool, true, false, List, [], ◌∷◌, ◌++◌, Option, Some, None, ap, ap₂, arith, inl, inr, length, map, refl, subst, sym}
use Rattle.std.specs.BTreeMap.{BTreeMap, get}
use Rattle.std.specs.BTreeSet.{BTreeSet}
use Rattle.std.specs.Cmp.{IsTotalOrder}
use Rattle.std.specs.Cmp.Lexicographic.{slice_cmp}
use Rattle.std.specs.List.{list_any}
use Rattle.std.specs.List.Sorted.{IsStrictlySortedBy}
use Rattle.std.specs.Ordering.{eq_by_cmp, nat_cmp}
use Rattle.std.specs.Prelude.{is_some}
use Rattle.std.specs.declared.cmp.Ordering.{Ordering}
use Rattle.std.proofs.lemmas.Bool.{false≢true}
use Rattle.std.proofs.lemmas.Cmp.{nat_list_cmp_total, on_total, then_total}
use Rattle.std.proofs.lemmas.List.{map-append}
use Rattle.std.proofs.lemmas.Map.Lookups.{CmpEqualImpliesEq, btree_set_from_contains, exact_bytes, exact_pairs}
use Rattle.rtps_ids.specs.declared.identity.Guid.{Guid}
use Rattle.rtps_ids.specs.declared.identity.GuidPrefix.{GuidPrefix}
use Rattle.rtps_receiver.specs.Values as values
use Rattle.rtps_discovery.specs.Directory as directory
use Rattle.rtps_discovery.specs.GuidOrder as guid_order
use Rattle.rtps_discovery.proofs.Offered.{guids_total}
use Rattle.rtps_audit.specs.Intake as intake_spec
use Rattle.rtps_audit.specs.Placed as placed
use Rattle.rtps_audit.proofs.Offered.{is_eq-guid_cmp}
use Rattle.rtps_known.specs.Bulletins as bulletins
use Rattle.rtps_known.specs.Tellings as tellings
use Rattle.rtps_known.specs.Untold as untold_spec
use Rattle.rtps_known.specs.Visits as visits
use Rattle.rtps_known.specs.declared.untold.Untold.{Untold}
use Rattle.rtps_known.specs.declared.visit.Visit.{Visit}
use Rattle.rtps_policies.specs.Namings as namings
use Rattle.rtps_policies.specs.declared.naming.Naming.{Naming}
use Rattle.rtps_report.specs.ActsRead as acts_read
use Rattle.rtps_report.specs.NotTold as not_told

-- ---- lists in order that have the same members

set_once : {K : Type 0} (c : K → K → Ordering) → IsTotalOrder c → CmpEqualImpliesEq c → (xs ys : List K) → IsStrictlySortedBy c xs → IsStrictlySortedBy c ys
    → ((k : K) → list_any (eq_by_cmp c k) xs ≡ list_any (eq_by_cmp c k) ys) → xs ≡ ys
set_once {K} c total exact xs ys one other same =
    let some : BTreeSet K = record { keys = xs } in let others : BTreeSet K = record { keys = ys } in btree_set_from_contains total some others one other same exact

guid_of_parts : List ℕ × List ℕ → Guid
guid_of_parts parts = record { prefix = record { 0 = parts.0 }; entity = record { 0 = parts.1 } }

exact_guids : CmpEqualImpliesEq guid_order.guid_cmp
unfolding guid_of_parts
exact_guids a b h =
    ap guid_of_parts (exact_pairs (slice_cmp nat_cmp) (slice_cmp nat_cmp) exact_bytes exact_bytes (a.prefix.0, a.entity.0) (b.prefix.0, b.entity.0) h)

by_guid : (guid : Guid) (those : List Guid) → list_any (eq_by_cmp guid_order.guid_cmp guid) those ≡ list_any (placed.is_guid guid) those
by_guid guid [] = refl
by_guid guid (one ∷ those) = ap₂ (λ (a b : Bool). a || b) (is_eq-guid_cmp guid one) (by_guid guid those)

guids_once : (xs ys : List Guid) → IsStrictlySortedBy guid_order.guid_cmp xs → IsStrictlySortedBy guid_order.guid_cmp ys → ((guid : Guid) → list_any (placed.is_guid guid) xs ≡ list_any (placed.is_guid guid) ys) → xs ≡ ys
guids_once xs ys one other same = set_once guid_order.guid_cmp guids_total exact_guids xs ys one other (λ guid. by_guid guid xs ∙ same guid ∙ sym (by_guid guid ys))

namings_total : IsTotalOrder namings.naming_cmp
namings_total = then_total (on_total (λ naming. naming.source.0) nat_list_cmp_total) (on_total (λ naming. naming.dest.0) nat_list_cmp_total)

naming_of_parts : List ℕ × List ℕ → Naming
naming_of_parts parts = record { source = record { 0 = parts.0 }; dest = record { 0 = parts.1 } }

exact_namings : CmpEqualImpliesEq namings.naming_cmp
unfolding naming_of_parts
exact_namings a b h =
    ap naming_of_parts (exact_pairs (slice_cmp nat_cmp) (slice_cmp nat_cmp) exact_bytes exact_bytes (a.source.0, a.dest.0) (b.source.0, b.dest.0) h)

-- ---- two that are there together

unsome : {X : Type 0} → X → Option X → X
unsome d None = d
unsome d (Some x) = x

some_once : {X : Type 0} (x y : X) → Some x ≡ Some y → x ≡ y
unfolding unsome
some_once x y e = ap (unsome x) e

-- two maps have the same visits
abbrev Alike : BTreeMap GuidPrefix Visit → BTreeMap GuidPrefix Visit → Type 0
Alike visits others = (prefix : GuidPrefix) → get bulletins.prefix_cmp visits prefix ≡ get bulletins.prefix_cmp others prefix

visit_once : (visits others : BTreeMap GuidPrefix Visit) (prefix : GuidPrefix) (one other : Visit) → Alike visits others → get bulletins.prefix_cmp visits prefix ≡ Some one
    → get bulletins.prefix_cmp others prefix ≡ Some other → one ≡ other
visit_once visits others prefix one other same is also = some_once one other (sym is ∙ same prefix ∙ also)

end_moved : (one also_one other also_other : Visit) (end : ℕ) → one ≡ also_one → other ≡ also_other → visits.IsEndBetween one other end → visits.IsEndBetween also_one also_other end
end_moved one also_one other also_other end e f is = subst (λ (v : Visit). visits.IsEndBetween also_one v end) f (subst (λ (v : Visit). visits.IsEndBetween v other end) e is)

ends_once : (visits others : BTreeMap GuidPrefix Visit) (naming : Naming) (end last : ℕ) → Alike visits others → untold_spec.AreTogether visits naming end → untold_spec.AreTogether others naming last → end ≡ last
ends_once visits others naming end last same is also =
    let mine =
    end_moved is.one also.one is.other also.other end (visit_once visits others naming.source is.one also.one same is.is_one also.is_one)
    (visit_once visits others naming.dest is.other also.other same is.is_other also.is_other) is.is_end in
    let within : end ≤ end = omega arith in
    let last_within : last ≤ last = omega arith in
    let forth : end ≤ last = (also.is_end.times end).1 ((mine.times end).0 within) in
    let back : last ≤ end = (mine.times last).1 ((also.is_end.times last).0 last_within) in
    omega (arith, forth, back)

none_some : {X : Type 0} (x : X) → None ≡ Some x → ⊥
none_some x e = false≢true (ap is_some e)

never_once : (visits others : BTreeMap GuidPrefix Visit) (naming : Naming) (end : ℕ) → Alike visits others → untold_spec.AreTogether visits naming end → untold_spec.AreNeverTogether others naming → ⊥
never_once visits others naming end same is (inl (inl none)) = none_some is.one (sym none ∙ sym (same naming.source) ∙ is.is_one)
never_once visits others naming end same is (inl (inr none)) = none_some is.other (sym none ∙ sym (same naming.dest) ∙ is.is_other)
never_once visits others naming end same is (inr (one, other, is_one, is_other, never)) =
    let mine =
    end_moved is.one one is.other other end (visit_once visits others naming.source is.one one same is.is_one is_one)
    (visit_once visits others naming.dest is.other other same is.is_other is_other) is.is_end in
    let within : end ≤ end = omega arith in
    never end mine.one_is_there mine.other_is_there ((mine.times end).0 within)

-- ---- what is said of two

-- the same is told of two
record Same (one other : Untold) : Type 0 where
  from : one.from ≡ other.from
  to : one.to ≡ other.to
  writers : one.writers.items ≡ other.writers.items
  readers : one.readers.items ≡ other.readers.items
  unnamed : one.unnamed ≡ other.unnamed

untold_once : (acts : List tellings.TimedAct) (naming : Naming) (end : ℕ) (one other : Untold) → untold_spec.IsUntoldUntil acts naming end one → untold_spec.IsUntoldUntil acts naming end other → Same one other
untold_once acts naming end one other is also =
    let writers = guids_once is.of_writers.endpoints.items also.of_writers.endpoints.items is.are_writers.ordered also.are_writers.ordered (λ guid. is.are_writers.endpoints guid ∙ sym (also.are_writers.endpoints guid)) in
    let readers = guids_once is.of_readers.endpoints.items also.of_readers.endpoints.items is.are_readers.ordered also.are_readers.ordered (λ guid. is.are_readers.endpoints guid ∙ sym (also.are_readers.endpoints guid)) in
    let unnamed : is.of_writers.unnamed + is.of_readers.unnamed ≡ also.of_writers.unnamed + also.of_readers.unnamed =
    ap₂ (λ (a b : ℕ). a + b) (is.are_writers.unnamed ∙ sym also.are_writers.unnamed) (is.are_readers.unnamed ∙ sym also.are_readers.unnamed) in
    record {
      from = is.from ∙ sym also.from;
      to = is.to ∙ sym also.to;
      writers = is.writers ∙ writers ∙ sym also.writers;
      readers = is.readers ∙ readers ∙ sym also.readers;
      unnamed = is.unnamed ∙ unnamed ∙ sym also.unnamed;
    }

value_once : (entries : directory.Entries) (one other : Untold) → Same one other → not_told.not_told_by entries one ≡ not_told.not_told_by entries other
value_once entries one other same =
    let made : Guid → Guid → List not_told.TopicEndValue → List not_told.TopicEndValue → ℕ → not_told.NotToldValue =
    λ from to writers readers unnamed. record { from = from; to = to; writers = writers; readers = readers; unnamed = unnamed } in
    λ i. made (same.from i) (same.to i) (map (not_told.with_topic entries) (same.writers i)) (map (not_told.with_topic entries) (same.readers i)) (same.unnamed i)

nothing_once : (one other : Untold) → Same one other → untold_spec.is_nothing one ≡ untold_spec.is_nothing other
nothing_once one other same = λ i. (length (same.writers i) == 0) && ((length (same.readers i) == 0) && (same.unnamed i == 0))

until_moved : (acts : List tellings.TimedAct) (naming : Naming) (end last : ℕ) (untold : Untold) → end ≡ last → untold_spec.IsUntoldUntil acts naming end untold → untold_spec.IsUntoldUntil acts naming last untold
until_moved acts naming end last untold e is = subst (λ (n : ℕ). untold_spec.IsUntoldUntil acts naming n untold) e is

both_untold : (acts : List tellings.TimedAct) (visits others : BTreeMap GuidPrefix Visit) (naming : Naming) (one other : Untold) → Alike visits others → untold_spec.IsUntold acts visits naming one
    → untold_spec.IsUntold acts others naming other → Same one other
both_untold acts visits others naming one other same is also =
    untold_once acts naming also.end one other (until_moved acts naming is.end also.end one (ends_once visits others naming is.end also.end same is.together also.together) is.is) also.is

all_or_untold : (acts : List tellings.TimedAct) (visits others : BTreeMap GuidPrefix Visit) (naming : Naming) (one : Untold) → Alike visits others → untold_spec.IsUntold acts visits naming one
    → untold_spec.IsAllTold acts others naming → ⊥
all_or_untold acts visits others naming one same is (inl never) = never_once visits others naming is.end same is.together never
all_or_untold acts visits others naming one same is (inr (last, other, together, until, nothing)) =
    let alike =
    untold_once acts naming last one other (until_moved acts naming is.end last one (ends_once visits others naming is.end last same is.together together) is.is) until in
    false≢true (sym is.something ∙ nothing_once one other alike ∙ nothing)

said_once : (acts : List tellings.TimedAct) (announcing : List values.ActValue) (visits others : BTreeMap GuidPrefix Visit) (entries : directory.Entries) (naming : Naming) (one other : Option Untold)
    → Alike visits others → Alike others visits → untold_spec.IsSaidOf acts (record { announcing = announcing; visits = visits }) naming one
    → untold_spec.IsSaidOf acts (record { announcing = announcing; visits = others }) naming other
    → map (not_told.not_told_by entries) (untold_spec.listed one) ≡ map (not_told.not_told_by entries) (untold_spec.listed other)
said_once acts announcing visits others entries naming None None same back is also = refl
said_once acts announcing visits others entries naming None (Some other) same back (inl barred) also = absurd (barred also.0)
said_once acts announcing visits others entries naming None (Some other) same back (inr all) also = absurd (all_or_untold acts others visits naming other back also.1 all)
said_once acts announcing visits others entries naming (Some one) None same back is (inl barred) = absurd (barred is.0)
said_once acts announcing visits others entries naming (Some one) None same back is (inr all) = absurd (all_or_untold acts visits others naming one same is.1 all)
said_once acts announcing visits others entries naming (Some one) (Some other) same back is also =
    ap (λ (value : not_told.NotToldValue). let those : List not_told.NotToldValue = value ∷ [] in those) (value_once entries one other (both_untold acts visits others naming one other same is.1 also.1))

-- ---- what is said of all

found_once : (acts : List tellings.TimedAct) (announcing : List values.ActValue) (visits others : BTreeMap GuidPrefix Visit) (entries : directory.Entries) (namings : List Naming) (one other : List Untold)
    → Alike visits others → Alike others visits → untold_spec.AreSaidOf acts (record { announcing = announcing; visits = visits }) namings one
    → untold_spec.AreSaidOf acts (record { announcing = announcing; visits = others }) namings other → map (not_told.not_told_by entries) one ≡ map (not_told.not_told_by entries) other
found_once acts announcing visits others entries [] one other same back is also = ap (map (not_told.not_told_by entries)) (is ∙ sym also)
found_once acts announcing visits others entries (naming ∷ namings) one other same back (said, behind, e, of, rest) (told, after, f, on, more) =
    ap (map (not_told.not_told_by entries)) e ∙ map-append (not_told.not_told_by entries) (untold_spec.listed said) behind
    ∙ ap₂ (λ (first then : List not_told.NotToldValue). first ++ then) (said_once acts announcing visits others entries naming said told same back of on)
    (found_once acts announcing visits others entries namings behind after same back rest more) ∙ sym (map-append (not_told.not_told_by entries) (untold_spec.listed told) after)
    ∙ sym (ap (map (not_told.not_told_by entries)) f)

pub not_told_once : (intake : intake_spec.Intake) (recording : List (List ℕ)) (times : List (Option ℕ)) (directory : directory.DirectoryValue) (one other : List not_told.NotToldValue)
    → not_told.AreNotToldIn intake recording times directory one → not_told.AreNotToldIn intake recording times directory other → one ≡ other
not_told_once intake recording times directory one other is also =
    let acts = acts_read.timed_acts recording times in
    let announcing = intake_spec.acts_together intake.announcing in
    let same : Alike is.visits also.visits = λ prefix. is.are_visits prefix ∙ sym (also.are_visits prefix) in
    let back : Alike also.visits is.visits = λ prefix. sym (same prefix) in
    let namings : is.are_untold.namings ≡ also.are_untold.namings =
    set_once namings.naming_cmp namings_total exact_namings is.are_untold.namings also.are_untold.namings is.are_untold.ordered also.are_untold.ordered
    (λ naming. is.are_untold.all naming ∙ sym (also.are_untold.all naming)) in
    let mine = subst (λ (those : List Naming). untold_spec.AreSaidOf acts (record { announcing = announcing; visits = is.visits }) those is.untold) namings is.are_untold.said in
    is.is_found
    ∙ found_once acts announcing is.visits also.visits directory.endpoints also.are_untold.namings is.untold also.untold same back mine also.are_untold.said ∙ sym also.is_found
