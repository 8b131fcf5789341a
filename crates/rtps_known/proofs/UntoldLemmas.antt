-- Who has two lives, who may be looked at, and what is said of two more.
use Rattle.std.proofs.Common.{◌≡◌, ◌∙◌, ℕ, Bool, true, false, ◌||◌, IsSome, IsTrue, List, [], ◌∷◌, ◌++◌, ◌+◌, ◌<◌, MatchOption, Option, Some, None, ap, append_assoc, cond, get_or, if◌then◌else◌, inr, length, map, refl, subst, sym, take, unwrap_or}
use Rattle.std.specs.BTreeMap.{BTreeMap, get, is_at}
use Rattle.std.specs.BTreeSet.{BTreeSet, contains}
use Rattle.std.specs.Cmp.{both_tied, eq_by_cmp_equiv}
use Rattle.std.specs.Cmp.Lexicographic.{slice_cmp}
use Rattle.std.specs.List.{list_any}
use Rattle.std.specs.Map.{lookup}
use Rattle.std.specs.Ordering.{is_eq, nat_cmp}
use Rattle.std.proofs.lemmas.Bool.{false≢true}
use Rattle.std.proofs.lemmas.Cmp.{nat_cmp_total, nat_list_cmp_total}
use Rattle.std.proofs.lemmas.List.Folds.{list_any_more}
use Rattle.std.proofs.lemmas.Map.Views.{tells_apart}
use Rattle.rtps_ids.specs.declared.identity.GuidPrefix.{GuidPrefix}
use Rattle.rtps_ids.specs.declared.identity.Stamp.{Stamp}
use Rattle.rtps_receiver.specs.Speech as speech
use Rattle.rtps_receiver.specs.Values as values
use Rattle.rtps_policies.specs.Announcing as announcing_spec
use Rattle.rtps_policies.specs.Silence as silence
use Rattle.rtps_policies.specs.declared.announced.Announced.{Announced}
use Rattle.rtps_policies.specs.declared.naming.Naming.{Naming}
use Rattle.rtps_known.specs.Bulletins as bulletins
use Rattle.rtps_known.specs.Lives as lives_spec
use Rattle.rtps_known.specs.Recorded as recorded
use Rattle.rtps_known.specs.Tellings as tellings
use Rattle.rtps_known.specs.Untold as untold_spec
use Rattle.rtps_known.specs.Visits as visits_spec
use Rattle.rtps_known.specs.declared.life.Birth.{Birth}
use Rattle.rtps_known.specs.declared.life.Life.{Life}
use Rattle.rtps_known.specs.declared.untold.Untold.{Untold}
use Rattle.rtps_known.specs.declared.visit.Visit.{Visit}
use Rattle.rtps_known.proofs.OrderLemmas.{exact_births, exact_prefixes}

-- ---- two lives

octets_same : (xs : List ℕ) → is_eq (slice_cmp nat_cmp xs xs) ≡ true
octets_same xs = (eq_by_cmp_equiv nat_list_cmp_total).refl xs

number_same : (n : ℕ) → is_eq (nat_cmp n n) ≡ true
number_same n = (eq_by_cmp_equiv nat_cmp_total).refl n

birth_same : (birth : Birth) → lives_spec.is_birth birth birth ≡ true
birth_same birth =
    sym (both_tied true true (slice_cmp nat_cmp birth.participant.0 birth.participant.0) (nat_cmp birth.number birth.number) (sym (octets_same birth.participant.0)) (sym (number_same birth.number)))

pairs_of : List Life → List (Birth × (Stamp × Stamp))
pairs_of lives = map (λ life. (lives_spec.birth_of life, life.sent)) lives

is_some_or : {X : Type 0} (b : Bool) (x : X) (o : Option X) → IsSome o → IsSome (cond b (Some x) o)
is_some_or true x o some = refl
is_some_or false x o some = some

is_some_at : {X : Type 0} (b : Bool) (x : X) (o : Option X) → b ≡ true → IsSome (cond b (Some x) o)
is_some_at true x o here = refl
is_some_at false x o here = absurd (false≢true here)

-- a life of a participant shows a number of it
number_of : (lives : List Life) (prefix : GuidPrefix) → list_any (λ life. is_eq (bulletins.prefix_cmp life.participant prefix)) lives ≡ true
    → (number : ℕ) × IsSome (lookup (lives_spec.is_birth (record { participant = prefix; number = number })) (map (λ life. (lives_spec.birth_of life, life.sent)) lives))
number_of [] prefix any = absurd (false≢true any)
number_of (life ∷ lives) prefix any = by (is_eq (bulletins.prefix_cmp life.participant prefix)) refl any (number_of lives prefix)
  where
    by : (same : Bool) → is_eq (bulletins.prefix_cmp life.participant prefix) ≡ same → (same || list_any (λ life. is_eq (bulletins.prefix_cmp life.participant prefix)) lives) ≡ true
        → (list_any (λ life. is_eq (bulletins.prefix_cmp life.participant prefix)) lives ≡ true
        → (number : ℕ) × IsSome (lookup (lives_spec.is_birth (record { participant = prefix; number = number })) (map (λ life. (lives_spec.birth_of life, life.sent)) lives)))
        → (number : ℕ) × IsSome (lookup (lives_spec.is_birth (record { participant = prefix; number = number })) (map (λ life. (lives_spec.birth_of life, life.sent)) (life ∷ lives)))
    by true e any rest =
        let one : life.participant ≡ prefix = tells_apart exact_prefixes life.participant prefix e in
        let here : lives_spec.is_birth (record { participant = prefix; number = life.number }) (lives_spec.birth_of life) ≡ true =
        ap (λ p. lives_spec.is_birth (record { participant = p; number = life.number }) (lives_spec.birth_of life)) (sym one) ∙ birth_same (lives_spec.birth_of life) in (
          life.number,
          is_some_at (lives_spec.is_birth (record { participant = prefix; number = life.number }) (lives_spec.birth_of life)) life.sent
              (lookup (lives_spec.is_birth (record { participant = prefix; number = life.number })) (map (λ life. (lives_spec.birth_of life, life.sent)) lives)) here,
        )
    by false e any rest =
        let found = rest any in (
          found.0,
          is_some_or (lives_spec.is_birth (record { participant = prefix; number = found.0 }) (lives_spec.birth_of life)) life.sent
              (lookup (lives_spec.is_birth (record { participant = prefix; number = found.0 })) (map (λ life. (lives_spec.birth_of life, life.sent)) lives)) found.1,
        )

-- and a number that shows a life is of one
life_among : (lives : List Life) (birth : Birth) → IsSome (lookup (lives_spec.is_birth birth) (map (λ life. (lives_spec.birth_of life, life.sent)) lives))
    → list_any (λ life. is_eq (bulletins.prefix_cmp life.participant birth.participant)) lives ≡ true
life_among [] birth some = absurd (false≢true some)
life_among (life ∷ lives) birth some = by (lives_spec.is_birth birth (lives_spec.birth_of life)) refl some (life_among lives birth)
  where
    by : (same : Bool) → lives_spec.is_birth birth (lives_spec.birth_of life) ≡ same → IsSome (cond same (Some life.sent) (lookup (lives_spec.is_birth birth) (map (λ life. (lives_spec.birth_of life, life.sent)) lives)))
        → (IsSome (lookup (lives_spec.is_birth birth) (map (λ life. (lives_spec.birth_of life, life.sent)) lives)) → list_any (λ life. is_eq (bulletins.prefix_cmp life.participant birth.participant)) lives ≡ true)
        → (is_eq (bulletins.prefix_cmp life.participant birth.participant) || list_any (λ life. is_eq (bulletins.prefix_cmp life.participant birth.participant)) lives) ≡ true
    by true e some rest =
        let one : birth ≡ lives_spec.birth_of life = tells_apart exact_births birth (lives_spec.birth_of life) e in
        let here : is_eq (bulletins.prefix_cmp life.participant birth.participant) ≡ true = ap (λ b. is_eq (bulletins.prefix_cmp life.participant b.participant)) one ∙ octets_same life.participant.0 in
        ap (λ b. b || list_any (λ life. is_eq (bulletins.prefix_cmp life.participant birth.participant)) lives) here
    by false e some rest =
        ap (λ b. is_eq (bulletins.prefix_cmp life.participant birth.participant) || b) (rest some) ∙ or_true (is_eq (bulletins.prefix_cmp life.participant birth.participant))
      where
        or_true : (a : Bool) → (a || true) ≡ true
        or_true true = refl
        or_true false = refl

-- the participants of lives are those with two
pub twice_is : (acts : List values.ActValue) (lives : List Life) (prefix : GuidPrefix) (has : Bool) → has ≡ list_any (λ life. is_eq (bulletins.prefix_cmp life.participant prefix)) lives → lives_spec.AreLivesOf acts lives
    → (IsTrue has → lives_spec.HasTwoLives acts prefix) × (lives_spec.HasTwoLives acts prefix → IsTrue has)
twice_is acts lives prefix has is were = (
  (λ yes. let found = number_of lives prefix (sym is ∙ yes) in (found.0, subst IsSome (were.times (record { participant = prefix; number = found.0 })) found.1)),
  (λ two. is ∙ life_among lives (record { participant = prefix; number = two.0 }) (subst IsSome (sym (were.times (record { participant = prefix; number = two.0 }))) two.1)),
)

either : (same old : Bool) → cond same true old ≡ (old || same)
either true true = refl
either true false = refl
either false true = refl
either false false = refl

-- the participants of one life more
pub participants_more : (lives : List Life) (i : ℕ) (d : Life) (old new : BTreeSet GuidPrefix) (prefix : GuidPrefix) → i < length lives
    → contains bulletins.prefix_cmp new prefix ≡ cond (is_at (bulletins.prefix_cmp (get_or lives i d).participant) prefix) true (contains bulletins.prefix_cmp old prefix)
    → contains bulletins.prefix_cmp old prefix ≡ list_any (λ life. is_eq (bulletins.prefix_cmp life.participant prefix)) (take i lives)
    → contains bulletins.prefix_cmp new prefix ≡ list_any (λ life. is_eq (bulletins.prefix_cmp life.participant prefix)) (take (i + 1) lives)
participants_more lives i d old new prefix within added were =
    let test : Life → Bool = λ life. is_eq (bulletins.prefix_cmp life.participant prefix) in
    added ∙ either (test (get_or lives i d)) (contains bulletins.prefix_cmp old prefix) ∙ ap (λ b. b || test (get_or lives i d)) were ∙ sym (list_any_more test lives i d within)

-- ---- two that may be looked at

hosts_are : (announcing : List values.ActValue) (announced : Announced) (prefix : GuidPrefix) → announcing_spec.IsAnnouncedBy announcing announced → announcing_spec.hosts_in announced prefix ≡ announcing_spec.host_of announcing prefix
hosts_are announcing announced prefix were = ap (λ o. unwrap_or o announcing_spec.unknown_host) (were.hosts (announcing_spec.participant_of prefix))

pub may_tell_is : (acts : List tellings.TimedAct) (announcing : List values.ActValue) (announced : Announced) (naming : Naming) (source dest : Bool) → announcing_spec.IsAnnouncedBy announcing announced
    → (IsTrue source → lives_spec.HasTwoLives (recorded.acts_of acts) naming.source) → (IsTrue dest → lives_spec.HasTwoLives (recorded.acts_of acts) naming.dest)
    → (lives_spec.HasTwoLives (recorded.acts_of acts) naming.source → IsTrue source) → (lives_spec.HasTwoLives (recorded.acts_of acts) naming.dest → IsTrue dest)
    → untold_spec.may_tell (speech.is_prefix naming.source naming.dest) (silence.two_domains (announcing_spec.hosts_in announced naming.source) (announcing_spec.hosts_in announced naming.dest)) source dest ≡ true
    → untold_spec.MayTell acts announcing naming
may_tell_is acts announcing announced naming source dest were of_source of_dest to_source to_dest passes = by (speech.is_prefix naming.source naming.dest) (silence.two_domains (announcing_spec.hosts_in announced naming.source) (announcing_spec.hosts_in announced naming.dest)) source dest refl refl passes to_source to_dest
  where
    domains : silence.two_domains (announcing_spec.host_of announcing naming.source) (announcing_spec.host_of announcing naming.dest) ≡ silence.two_domains (announcing_spec.hosts_in announced naming.source) (announcing_spec.hosts_in announced naming.dest)
    domains = sym (ap (λ h. silence.two_domains h (announcing_spec.hosts_in announced naming.dest)) (hosts_are announcing announced naming.source were)
        ∙ ap (λ h. silence.two_domains (announcing_spec.host_of announcing naming.source) h) (hosts_are announcing announced naming.dest were))

    by : (same apart one other : Bool) → speech.is_prefix naming.source naming.dest ≡ same → silence.two_domains (announcing_spec.hosts_in announced naming.source) (announcing_spec.hosts_in announced naming.dest) ≡ apart
        → untold_spec.may_tell same apart one other ≡ true → (lives_spec.HasTwoLives (recorded.acts_of acts) naming.source → IsTrue one) → (lives_spec.HasTwoLives (recorded.acts_of acts) naming.dest → IsTrue other) → untold_spec.MayTell acts announcing naming
    by false false false false two one_domain passes to_source to_dest =
        record { two = two; one_domain = domains ∙ one_domain; source_once = λ has. false≢true (to_source has); dest_once = λ has. false≢true (to_dest has) }
    by true apart one other two one_domain passes to_source to_dest = absurd (false≢true passes)
    by false true one other two one_domain passes to_source to_dest = absurd (false≢true passes)
    by false false true other two one_domain passes to_source to_dest = absurd (false≢true passes)
    by false false false true two one_domain passes to_source to_dest = absurd (false≢true passes)

pub may_not_tell : (acts : List tellings.TimedAct) (announcing : List values.ActValue) (announced : Announced) (naming : Naming) (source dest : Bool) → announcing_spec.IsAnnouncedBy announcing announced
    → (IsTrue source → lives_spec.HasTwoLives (recorded.acts_of acts) naming.source) → (IsTrue dest → lives_spec.HasTwoLives (recorded.acts_of acts) naming.dest)
    → untold_spec.may_tell (speech.is_prefix naming.source naming.dest) (silence.two_domains (announcing_spec.hosts_in announced naming.source) (announcing_spec.hosts_in announced naming.dest)) source dest ≡ false
    → ¬ untold_spec.MayTell acts announcing naming
may_not_tell acts announcing announced naming source dest were of_source of_dest fails may = by source dest refl refl
  where
    domains : silence.two_domains (announcing_spec.hosts_in announced naming.source) (announcing_spec.hosts_in announced naming.dest) ≡ false
    domains =
        ap (λ h. silence.two_domains h (announcing_spec.hosts_in announced naming.dest)) (hosts_are announcing announced naming.source were)
        ∙ ap (λ h. silence.two_domains (announcing_spec.host_of announcing naming.source) h) (hosts_are announcing announced naming.dest were) ∙ may.one_domain

    by : (one other : Bool) → source ≡ one → dest ≡ other → ⊥
    by true other e f = may.source_once (of_source e)
    by false true e f = may.dest_once (of_dest f)
    by false false e f =
        false≢true (sym fails
        ∙ ap (λ b. untold_spec.may_tell b (silence.two_domains (announcing_spec.hosts_in announced naming.source) (announcing_spec.hosts_in announced naming.dest)) source dest) may.two
        ∙ ap (λ b. untold_spec.may_tell false b source dest) domains ∙ ap (λ b. untold_spec.may_tell false false b dest) e ∙ ap (λ b. untold_spec.may_tell false false false b) f)

-- ---- what is said

-- what is said of two, and then of the others
pub said_more : (acts : List tellings.TimedAct) (attendance : untold_spec.Attendance) (naming : Naming) (rest all : List Naming) (found : List Untold) (said : Option Untold) → untold_spec.IsSaidOf acts attendance naming said
    → ((behind : List Untold) → untold_spec.AreSaidOf acts attendance (naming ∷ rest) behind → untold_spec.AreSaidOf acts attendance all (found ++ behind))
    → (behind : List Untold) → untold_spec.AreSaidOf acts attendance rest behind → untold_spec.AreSaidOf acts attendance all (found ++ untold_spec.listed said ++ behind)
said_more acts attendance naming rest all found said is so_far behind rest_said =
    let P : List Untold → Type 0 = λ l. untold_spec.AreSaidOf acts attendance all l in
    subst P (sym (append_assoc found (untold_spec.listed said) behind)) (so_far (untold_spec.listed said ++ behind) (said, behind, refl, is, rest_said))

-- up to when two are there together, where it is known of both when they are there
pub end_is : (visits : BTreeMap GuidPrefix Visit) (naming : Naming) (one other : Visit) (end : Option ℕ) → get bulletins.prefix_cmp visits naming.source ≡ Some one
    → get bulletins.prefix_cmp visits naming.dest ≡ Some other → MatchOption end (visits_spec.IsNeverInTime one other) (visits_spec.IsEndBetween one other)
    → MatchOption end (untold_spec.AreNeverTogether visits naming) (untold_spec.AreTogether visits naming)
end_is visits naming one other None is_one is_other never = inr (one, other, is_one, is_other, never)
end_is visits naming one other (Some end) is_one is_other is = record { one = one; other = other; is_one = is_one; is_other = is_other; is_end = is }

-- what is told up to that, if it is something
pub told_is : (acts : List tellings.TimedAct) (visits : BTreeMap GuidPrefix Visit) (naming : Naming) (end : ℕ) (untold : Untold) (said : Option Untold)
    → said ≡ (if untold_spec.is_nothing untold then None else Some untold) → untold_spec.AreTogether visits naming end → untold_spec.IsUntoldUntil acts naming end untold
    → MatchOption said (untold_spec.IsAllTold acts visits naming) (untold_spec.IsUntold acts visits naming)
told_is acts visits naming end untold said is together until = subst P (sym is) (by (untold_spec.is_nothing untold) refl)
  where
    P : Option Untold → Type 0
    P o = MatchOption o (untold_spec.IsAllTold acts visits naming) (untold_spec.IsUntold acts visits naming)

    by : (nothing : Bool) → untold_spec.is_nothing untold ≡ nothing → MatchOption (if nothing then None else Some untold) (untold_spec.IsAllTold acts visits naming) (untold_spec.IsUntold acts visits naming)
    by true e = inr (end, untold, together, until, e)
    by false e = record { end = end; together = together; is = until; something = e }

-- what is said of two that may be looked at
pub said_is : (acts : List tellings.TimedAct) (attendance : untold_spec.Attendance) (naming : Naming) (said : Option Untold) → untold_spec.MayTell acts attendance.announcing naming
    → MatchOption said (untold_spec.IsAllTold acts attendance.visits naming) (untold_spec.IsUntold acts attendance.visits naming) → untold_spec.IsSaidOf acts attendance naming said
said_is acts attendance naming None may told = inr told
said_is acts attendance naming (Some untold) may told = (may, told)
