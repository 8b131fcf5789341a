-- A pair has one span, and its row one evidence.
use Rattle.std.proofs.lemmas.Grind.{common_steps}
use Rattle.std.proofs.lemmas.Bool.Decides.{nat_tests}
use Rattle.std.proofs.Common.{◌≡◌, ◌∙◌, ℕ, Bool, true, false, List, Option, Some, None, refl, sym, ap, subst, arith}
use Rattle.std.specs.Prelude.{unwrap_or}
use Rattle.rtps_receiver.specs.Values as values
use Rattle.rtps_discovery.specs.Directory as directory
use Rattle.rtps_discovery.specs.declared.matching.Pair.{Pair}
use Rattle.rtps_audit.specs.Intake as intake_spec
use Rattle.rtps_audit.specs.Placed as placed
use Rattle.rtps_evidence.specs.Spans as spans_spec
use Rattle.rtps_evidence.specs.declared.location.Location.{Location}
use Rattle.rtps_evidence.specs.declared.span.Span.{Span}
use Rattle.rtps_evidence.proofs.SpanLemmas.{one_end}

-- what is announced tells one directory
abbrev pub HasOneMap : Type 0
HasOneMap = (acts : List values.ActValue) (map other : directory.DirectoryValue) → directory.IsMapOf acts map → directory.IsMapOf acts other → map ≡ other

one_least : (has : ℕ → Bool) (lo : ℕ) (one other : Option ℕ) → spans_spec.IsLeastFrom has lo one → spans_spec.IsLeastFrom has lo other → one ≡ other
one_least has lo one other h h2 = grind (arith, nat_tests)

one_volatile : HasOneMap → (intake : intake_spec.Intake) (reader : _) (one other : Bool) → spans_spec.IsVolatileIn intake reader one → spans_spec.IsVolatileIn intake reader other → one ≡ other
one_volatile unique intake reader one other is also =
    let same = unique (intake_spec.acts_together intake.announcing) is.directory also.directory is.is_map also.is_map in
    is.is ∙ ap (λ (d : directory.DirectoryValue). spans_spec.is_volatile (directory.settled_at d.endpoints reader)) same ∙ sym also.is

one_owed : HasOneMap → (from : ℕ) (place : Location) (pair : Pair) (intake : intake_spec.Intake) (one other : ℕ) → spans_spec.IsOwedFrom from place pair intake one → spans_spec.IsOwedFrom from place pair intake other → one ≡ other
one_owed unique from place pair intake one other is also =
    let same = one_volatile unique intake pair.reader is.volatile also.volatile is.is_volatile also.is_volatile in
    let gone = one_end (spans_spec.is_gone_first place pair (placed.placed_in intake.acts)) is.gone_end also.gone_end is.is_gone_end also.is_gone_end in
    let announced = spans_spec.announced_before place pair.writer (placed.placed_in intake.acts) in
    is.is ∙ ap (λ v. spans_spec.least_owed from v announced is.gone_end) same ∙ ap (spans_spec.least_owed from also.volatile announced) gone ∙ sym also.is

one_first : HasOneMap → (from : ℕ) (place : Location) (pair : Pair) (intake : intake_spec.Intake) (one other : ℕ) → spans_spec.IsFirstIn from place pair intake one → spans_spec.IsFirstIn from place pair intake other → one ≡ other
one_first unique from place pair intake one other is also =
    let owed : is.owed ≡ also.owed = one_owed unique from place pair intake is.owed also.owed is.is_owed also.is_owed in
    let least = one_least (spans_spec.is_for_reader place pair (placed.placed_in intake.acts)) also.owed is.is_first.least also.is_first.least
    (subst (λ n. spans_spec.IsLeastFrom (spans_spec.is_for_reader place pair (placed.placed_in intake.acts)) n is.is_first.least) owed is.is_first.is_least) also.is_first.is_least in
    is.is_first.is ∙ ap (unwrap_or is.is_first.least) owed ∙ ap (λ o. unwrap_or o also.owed) least ∙ sym also.is_first.is

one_from : HasOneMap → (from : ℕ) (joined : Option Location) (pair : Pair) (intake : intake_spec.Intake) (one other : ℕ) → spans_spec.IsFrom from joined pair intake one → spans_spec.IsFrom from joined pair intake other → one ≡ other
one_from unique from None pair intake one other is also = is.elsewhere refl ∙ sym (also.elsewhere refl)
one_from unique from (Some place) pair intake one other is also = by (spans_spec.is_joined_here (Some place) pair (placed.placed_in intake.acts)) refl
  where
    by : (b : Bool) → spans_spec.is_joined_here (Some place) pair (placed.placed_in intake.acts) ≡ b → one ≡ other
    by true here = one_first unique from place pair intake one other (is.here place refl here) (also.here place refl here)
    by false elsewhere = is.elsewhere elsewhere ∙ sym (also.elsewhere elsewhere)

span_is : (one other : Span) → one.joined ≡ other.joined → one.is_joined_here ≡ other.is_joined_here → one.from ≡ other.from → one.until ≡ other.until → one ≡ other
span_is one other joined here from until = grind (arith, nat_tests)

one_span : HasOneMap → (from : ℕ) (pair : Pair) (intake : intake_spec.Intake) (one other : Span) → spans_spec.IsSpan from pair intake one → spans_spec.IsSpan from pair intake other → one ≡ other
one_span unique from pair intake one other is also = grind (arith, nat_tests, common_steps, span_is, one_from)

one_whole : (from : ℕ) (pair : Pair) (intake : intake_spec.Intake) (one other : Span) → spans_spec.IsWhole from pair intake one → spans_spec.IsWhole from pair intake other → one ≡ other
one_whole from pair intake one other is also = grind (arith, nat_tests)

pub one_extent : HasOneMap → (spans : Bool) (from : ℕ) (pair : Pair) (intake : intake_spec.Intake) (one other : Span) → spans_spec.IsExtent spans from pair intake one → spans_spec.IsExtent spans from pair intake other → one ≡ other
one_extent h spans from pair intake one other h2 h3 = grind (arith, nat_tests, common_steps, one_span, one_whole)
