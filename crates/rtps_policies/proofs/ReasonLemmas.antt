-- The reasons of a writer and a reader are what does not suit.
use Rattle.std.proofs.Common.{◌≡◌, Bool, true, false, List, [], ◌∷◌, Contains, ap, lit<, not, refl, subst}
use Rattle.std.specs.List.{filter}
use Rattle.std.proofs.lemmas.Bool.Decides.{Decides-not}
use Rattle.rtps_policies.specs.Fitting as fitting
use Rattle.rtps_policies.specs.Laws as laws
use Rattle.rtps_policies.specs.declared.fitting.Policy.{Policy}
use Rattle.rtps_policies.proofs.Members.{from_filter, into_filter, nothing_in_nil}
use Rattle.rtps_policies.proofs.SuitLemmas.{suits_decides}

-- each policy is in the table
in_table : (policy : Policy) → Contains fitting.table policy
in_table Policy.Reliability = (0, lit< tt, refl)
in_table Policy.Durability = (1, lit< tt, refl)
in_table Policy.Deadline = (2, lit< tt, refl)
in_table Policy.LatencyBudget = (3, lit< tt, refl)
in_table Policy.Liveliness = (4, lit< tt, refl)
in_table Policy.Ownership = (5, lit< tt, refl)
in_table Policy.DestinationOrder = (6, lit< tt, refl)
in_table Policy.Presentation = (7, lit< tt, refl)
in_table Policy.Partition = (8, lit< tt, refl)
in_table Policy.DataRepresentation = (9, lit< tt, refl)
in_table Policy.Type = (10, lit< tt, refl)

pub reasons_do_not_suit : laws.ReasonsDoNotSuit
reasons_do_not_suit one writer reader =
    let test : Policy → Bool = λ other. not (fitting.suits other writer reader) in
    let decides = Decides-not (fitting.suits one writer reader) (suits_decides one writer reader) in
    (λ among. decides.0 (from_filter test fitting.table one among).1, λ bad. into_filter test fitting.table one (in_table one) (decides.1 bad))

-- a filter keeps nothing of which nothing passes
none_kept : {X : Type 0} (test : X → Bool) (xs : List X) → ((x : X) → test x ≡ false) → filter test xs ≡ []
none_kept test [] none = refl
none_kept test (x ∷ xs) none = rw (none x) (none_kept test xs none)

pub fits_where_no_reason : laws.FitsWhereNoReason
fits_where_no_reason writer reader =
    (λ none one. suited one none (fitting.suits one writer reader) refl, λ all. none_kept (λ one. not (fitting.suits one writer reader)) fitting.table (λ one. ap not ((suits_decides one writer reader).1 (all one))))
  where
    suited : (one : Policy) → fitting.reasons writer reader ≡ [] → (test : Bool) → fitting.suits one writer reader ≡ test → fitting.Suits one writer reader
    suited one none true so = (suits_decides one writer reader).0 so
    suited one none false bad = absurd (nothing_in_nil one (subst (λ l. Contains l one) none (into_filter (λ other. not (fitting.suits other writer reader)) fitting.table one (in_table one) (ap not bad))))
