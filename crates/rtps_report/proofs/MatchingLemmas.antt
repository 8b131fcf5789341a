-- Which announcements stand in which datagram, and the acts by which matches are told, act by act and datagram by datagram.
use Rattle.std.proofs.Common.{◌≡◌, ◌∙◌, ℕ, ◌+◌, ◌<◌, ◌≤◌, ◌==◌, ◌&&◌, Bool, true, false, List, [], ◌∷◌, ◌++◌, Option, append-nil, append_assoc, ap, ap₂, arith, cond, filter, get_or, length, map, refl, sym, take, nat_lt}
use Rattle.std.specs.List.{enumerate_from, flat_map}
use Rattle.std.proofs.lemmas.Bool.{eqb-true}
use Rattle.std.proofs.lemmas.Bool.Decides.{nat_tests}
use Rattle.std.proofs.lemmas.Grind.{flat_map-append}
use Rattle.std.proofs.lemmas.List.{map-append, map_more, map_push}
use Rattle.std.proofs.lemmas.List.Concat.{flat_map-cons}
use Rattle.std.proofs.lemmas.List.Elements.{filter-append}
use Rattle.rtps_receiver.specs.Values as values
use Rattle.rtps_audit.specs.Placed as placed_spec
use Rattle.rtps_audit.specs.declared.placed.Placed.{Placed}
use Rattle.rtps_evidence.specs.UnansweredLaw as unanswered_law
use Rattle.rtps_fragments.specs.Announcements as announcements
use Rattle.rtps_fragments.specs.FragmentWalk as fragment_walk
use Rattle.rtps_fragments.specs.ReadDatagrams as read_datagrams
use Rattle.rtps_known.specs.Places as places
use Rattle.rtps_known.specs.Tellings as tellings
use Rattle.rtps_known.specs.declared.place.Place.{Place}
use Rattle.rtps_report.specs.Acquaintance as acquaintance
use Rattle.rtps_report.specs.ActsRead as acts_read
use Rattle.rtps_report.specs.MatchingActs as matching_acts
use Rattle.rtps_report.specs.declared.acquaintance.Came.{Came}

-- one element more
pub flat_map_push : {X Y : Type 0} (f : X → List Y) (xs : List X) (x : X) → flat_map f (xs ++ x ∷ []) ≡ flat_map f xs ++ f x
flat_map_push f xs x = flat_map-append f xs (x ∷ []) ∙ ap (λ rest. flat_map f xs ++ rest) (flat_map-cons f x [] ∙ append-nil (f x))

-- ---- which announcements stand in which datagram

-- these stand in this datagram or behind it, in order
abbrev pub Rising : ℕ → List placed_spec.PlacedValue → Type 0
Rising n [] = Unit {0}
Rising n (one ∷ placed) = (n ≤ one.datagram) × Rising one.datagram placed

-- it stands in this datagram
abbrev of_datagram : ℕ → placed_spec.PlacedValue → Bool
of_datagram n placed = placed.datagram == n

-- it stands behind this datagram
abbrev pub is_past : ℕ → placed_spec.PlacedValue → Bool
is_past n placed = nat_lt n placed.datagram

lower : (n m : ℕ) (placed : List placed_spec.PlacedValue) → n ≤ m → Rising m placed → Rising n placed
lower n m [] le is = is
lower n m (one ∷ placed) le is = let first : m ≤ one.datagram = is.0 in (omega (arith, le, first), is.1)

rising_at : (n : ℕ) (acts : List values.ActValue) (placed : List placed_spec.PlacedValue) → Rising n placed → Rising n (placed_spec.placed_at n acts ++ placed)
rising_at n [] placed is = is
rising_at n (act ∷ acts) placed is = (omega arith, rising_at n acts placed is)

rising_behind : (before : ℕ) (datagrams : List (List values.ActValue)) → Rising (before + 1) (placed_spec.placed_behind before datagrams)
rising_behind before [] = tt
rising_behind before (acts ∷ datagrams) =
    rising_at (before + 1) acts (placed_spec.placed_behind (before + 1) datagrams)
    (lower (before + 1) (before + 1 + 1) (placed_spec.placed_behind (before + 1) datagrams) (omega arith) (rising_behind (before + 1) datagrams))

rising_kept : (test : placed_spec.PlacedValue → Bool) (n : ℕ) (placed : List placed_spec.PlacedValue) → Rising n placed → Rising n (filter test placed)
rising_kept test n [] is = is
rising_kept test n (one ∷ placed) is = by (rising_kept test one.datagram placed is.1) (test one)
  where
    by : Rising one.datagram (filter test placed) → (b : Bool) → Rising n (cond b (one ∷ filter test placed) (filter test placed))
    by rest true = (is.0, rest)
    by rest false = lower n one.datagram (filter test placed) is.0 rest

-- the announcements of a recording stand so
pub announced_rising : (announcing : List (List values.ActValue)) → Rising 1 (announcements.announcements_in announcing)
announced_rising announcing = rising_kept announcements.is_announcement 1 (placed_spec.placed_in announcing) (rising_behind 0 announcing)

-- of what stands behind a datagram all is behind those before it
pub all_past : (n m : ℕ) (placed : List placed_spec.PlacedValue) → n < m → Rising m placed → filter (is_past n) placed ≡ placed
all_past n m [] lt is = refl
all_past n m (one ∷ placed) lt is =
    let first : m ≤ one.datagram = is.0 in
    let past : is_past n one ≡ true = grind (arith, nat_tests) in
    ap (λ (b : Bool). cond b (one ∷ filter (is_past n) placed) (filter (is_past n) placed)) past
    ∙ ap (λ (rest : List placed_spec.PlacedValue). one ∷ rest) (all_past n one.datagram placed (omega (arith, lt, first)) is.1)

none_here : (n m : ℕ) (placed : List placed_spec.PlacedValue) → n < m → Rising m placed → filter (of_datagram n) placed ≡ []
none_here n m [] lt is = refl
none_here n m (one ∷ placed) lt is =
    let first : m ≤ one.datagram = is.0 in
    let not_here : of_datagram n one ≡ false = grind (arith, nat_tests) in
    ap (λ (b : Bool). cond b (one ∷ filter (of_datagram n) placed) (filter (of_datagram n) placed)) not_here
    ∙ none_here n one.datagram placed (omega (arith, lt, first)) is.1

-- what a test holds for stays among those for which a weaker one holds
implied : (test weaker : placed_spec.PlacedValue → Bool) → ((one : placed_spec.PlacedValue) → test one ≡ true → weaker one ≡ true) → (placed : List placed_spec.PlacedValue) → filter test (filter weaker placed) ≡ filter test placed
implied test weaker follows [] = refl
implied test weaker follows (one ∷ placed) = by (implied test weaker follows placed) (weaker one) (test one) refl refl
  where
    kept : List placed_spec.PlacedValue
    kept = filter weaker placed

    by : filter test kept ≡ filter test placed → (w t : Bool) → weaker one ≡ w → test one ≡ t
        → filter test (cond w (one ∷ kept) kept) ≡ cond t (one ∷ filter test placed) (filter test placed)
    by rest true t is holds = ap (λ (b : Bool). cond b (one ∷ filter test kept) (filter test kept)) holds ∙ ap (λ (those : List placed_spec.PlacedValue). cond t (one ∷ those) those) rest
    by rest false true is holds = absurd (let clash : true ≡ false = sym (follows one holds) ∙ is in cc)
    by rest false false is holds = rest

-- what a datagram announces
abbrev announced_at : ℕ → List values.ActValue → List placed_spec.PlacedValue
announced_at n acts = filter announcements.is_announcement (placed_spec.placed_at n acts)

kept_here : (n : ℕ) (acts : List values.ActValue) → filter (of_datagram n) (announced_at n acts) ≡ announced_at n acts
kept_here n [] = refl
kept_here n (act ∷ acts) = by (kept_here n acts) (announcements.is_announcement one)
  where
    one : placed_spec.PlacedValue
    one = record { datagram = n; act = act }

    here : of_datagram n one ≡ true
    here = grind (arith, nat_tests)

    by : filter (of_datagram n) (announced_at n acts) ≡ announced_at n acts → (b : Bool)
        → filter (of_datagram n) (cond b (one ∷ announced_at n acts) (announced_at n acts)) ≡ cond b (one ∷ announced_at n acts) (announced_at n acts)
    by rest true =
        ap (λ (b : Bool). cond b (one ∷ filter (of_datagram n) (announced_at n acts)) (filter (of_datagram n) (announced_at n acts))) here ∙ ap (λ (those : List placed_spec.PlacedValue). one ∷ those) rest
    by rest false = rest

none_past : (n : ℕ) (acts : List values.ActValue) → filter (is_past n) (announced_at n acts) ≡ []
none_past n [] = refl
none_past n (act ∷ acts) = by (none_past n acts) (announcements.is_announcement one)
  where
    one : placed_spec.PlacedValue
    one = record { datagram = n; act = act }

    here : is_past n one ≡ false
    here = grind (arith, nat_tests)

    by : filter (is_past n) (announced_at n acts) ≡ [] → (b : Bool) → filter (is_past n) (cond b (one ∷ announced_at n acts) (announced_at n acts)) ≡ []
    by rest true = ap (λ (b : Bool). cond b (one ∷ filter (is_past n) (announced_at n acts)) (filter (is_past n) (announced_at n acts))) here ∙ rest
    by rest false = rest

-- what the datagrams behind so many announce
abbrev announced_behind : ℕ → List (List values.ActValue) → List placed_spec.PlacedValue
announced_behind before announcing = filter announcements.is_announcement (placed_spec.placed_behind before announcing)

-- Of all that a recording announces, this is what the datagrams behind n announce, of which the first one announces by these acts.
module _ (n : ℕ) (all : List placed_spec.PlacedValue) (acts : List values.ActValue) (others : List (List values.ActValue)) (left : filter (is_past n) all ≡ announced_behind n (acts ∷ others)) where
  parts : filter (is_past n) all ≡ announced_at (n + 1) acts ++ announced_behind (n + 1) others
  parts = left ∙ filter-append announcements.is_announcement (placed_spec.placed_at (n + 1) acts) (placed_spec.placed_behind (n + 1) others)

  rising : Rising (n + 1 + 1) (announced_behind (n + 1) others)
  rising = rising_kept announcements.is_announcement (n + 1 + 1) (placed_spec.placed_behind (n + 1) others) (rising_behind (n + 1) others)

  here_are : filter (of_datagram (n + 1)) all ≡ announced_at (n + 1) acts
  here_are =
      sym (implied (of_datagram (n + 1)) (is_past n) (λ one here. grind (arith, nat_tests)) all) ∙ ap (filter (of_datagram (n + 1))) parts
      ∙ filter-append (of_datagram (n + 1)) (announced_at (n + 1) acts) (announced_behind (n + 1) others)
      ∙ ap₂ ◌++◌ (kept_here (n + 1) acts) (none_here (n + 1) (n + 1 + 1) (announced_behind (n + 1) others) (omega arith) rising) ∙ append-nil (announced_at (n + 1) acts)

  past_are : filter (is_past (n + 1)) all ≡ announced_behind (n + 1) others
  past_are =
      sym (implied (is_past (n + 1)) (is_past n) (λ one past. grind (arith, nat_tests)) all) ∙ ap (filter (is_past (n + 1))) parts
      ∙ filter-append (is_past (n + 1)) (announced_at (n + 1) acts) (announced_behind (n + 1) others)
      ∙ ap₂ ◌++◌ (none_past (n + 1) acts) (all_past (n + 1) (n + 1 + 1) (announced_behind (n + 1) others) (omega arith) rising)

-- ---- one act more

-- of a datagram's announcements those that stand somewhere
stands_here : (datagram at : ℕ) (announcements : List placed_spec.PlacedValue)
    → filter (λ (placed : placed_spec.PlacedValue). placed.act.at == at) (filter (of_datagram datagram) announcements) ≡ filter (matching_acts.stands_at datagram at) announcements
stands_here datagram at [] = refl
stands_here datagram at (one ∷ announcements) = by (stands_here datagram at announcements) (of_datagram datagram one)
  where
    here : placed_spec.PlacedValue → Bool
    here placed = placed.act.at == at

    by : filter here (filter (of_datagram datagram) announcements) ≡ filter (matching_acts.stands_at datagram at) announcements → (b : Bool)
        → filter here (cond b (one ∷ filter (of_datagram datagram) announcements) (filter (of_datagram datagram) announcements))
        ≡ cond (b && here one) (one ∷ filter (matching_acts.stands_at datagram at) announcements) (filter (matching_acts.stands_at datagram at) announcements)
    by rest true = ap (λ (those : List placed_spec.PlacedValue). cond (here one) (one ∷ those) those) rest
    by rest false = rest

-- the samples that an act completes, of those of its datagram or of all
samples_are : (all : List placed_spec.PlacedValue) (datagram : ℕ) (act : values.ActValue) → acquaintance.with_samples_at (filter (of_datagram datagram) all) act ≡ matching_acts.with_samples all datagram act
samples_are all datagram act =
    ap (λ (those : List placed_spec.PlacedValue). act ∷ cond (unanswered_law.is_data_frag act.body) (map (λ (placed : placed_spec.PlacedValue). matching_acts.sent_as act placed.act) those) []) (stands_here datagram act.at all)

acts_are : (all : List placed_spec.PlacedValue) (came : Came) (acts : List values.ActValue) → acquaintance.acts_heard came (filter (of_datagram came.datagram) all) acts ≡ matching_acts.acts_placed all came acts
acts_are all came acts = λ i. map (matching_acts.act_placed came) (flat_map (λ act. samples_are all came.datagram act i) acts)

-- a DATA_FRAG, and behind it the samples that it completes
pub frag_more : (before : List places.PlacedAct) (came : Came) (act : values.ActValue) (samples : List placed_spec.PlacedValue) (place : Place) → place ≡ (matching_acts.act_placed came act).place → unanswered_law.is_data_frag act.body ≡ true
    → (before ++ (record { act = act; place = place }) ∷ []) ++ map (matching_acts.act_placed came) (acquaintance.samples_at act samples) ≡ before ++ map (matching_acts.act_placed came) (acquaintance.with_samples_at samples act)
frag_more before came act samples place stands frag =
    append_assoc before ((record { act = act; place = place }) ∷ []) (map (matching_acts.act_placed came) (acquaintance.samples_at act samples))
    ∙ ap (λ (there : Place). before ++ (record { act = act; place = there }) ∷ map (matching_acts.act_placed came) (acquaintance.samples_at act samples)) stands
    ∙ ap (λ (b : Bool). before ++ matching_acts.act_placed came act ∷ map (matching_acts.act_placed came) (cond b (acquaintance.samples_at act samples) [])) (sym frag)

-- another act
pub plain_more : (before : List places.PlacedAct) (came : Came) (act : values.ActValue) (samples : List placed_spec.PlacedValue) (place : Place) → place ≡ (matching_acts.act_placed came act).place
    → unanswered_law.is_data_frag act.body ≡ false → before ++ (record { act = act; place = place }) ∷ [] ≡ before ++ map (matching_acts.act_placed came) (acquaintance.with_samples_at samples act)
plain_more before came act samples place stands plain =
    ap (λ (there : Place). before ++ (record { act = act; place = there }) ∷ []) stands
    ∙ ap (λ (b : Bool). before ++ matching_acts.act_placed came act ∷ map (matching_acts.act_placed came) (cond b (acquaintance.samples_at act samples) [])) (sym plain)

-- acts of a datagram, with one more
pub acts_more : {X : Type 0} (value : X → values.ActValue) (before : List places.PlacedAct) (samples : List placed_spec.PlacedValue) (came : Came) (acts : List X) (i : ℕ) (act : X) → i < length acts → act ≡ get_or acts i act
    → (before ++ acquaintance.acts_heard came samples (map value (take i acts))) ++ map (matching_acts.act_placed came) (acquaintance.with_samples_at samples (value act)) ≡ before ++ acquaintance.acts_heard came samples (map value (take (i + 1) acts))
acts_more {X} value before samples came acts i act within is =
    let so_far = map value (take i acts) in
    let behind = acquaintance.with_samples_at samples in
    let more : map value (take (i + 1) acts) ≡ so_far ++ value act ∷ [] = map_more value acts i act within ∙ ap (λ (one : X). so_far ++ value one ∷ []) (sym is) in
    let step : acquaintance.acts_heard came samples (map value (take (i + 1) acts)) ≡ acquaintance.acts_heard came samples so_far ++ map (matching_acts.act_placed came) (behind (value act)) =
    ap (acquaintance.acts_heard came samples) more ∙ ap (map (matching_acts.act_placed came)) (flat_map_push behind so_far (value act)) ∙ map-append (matching_acts.act_placed came) (flat_map behind so_far) (behind (value act)) in
    append_assoc before (acquaintance.acts_heard came samples so_far) (map (matching_acts.act_placed came) (behind (value act))) ∙ ap (λ (rest : List places.PlacedAct). before ++ rest) (sym step)

-- ---- one sample more

-- it stands where the act does
abbrev stands_with : values.ActValue → placed_spec.PlacedValue → Bool
stands_with act placed = placed.act.at == act.at

sample_step : (act : values.ActValue) (samples : List Placed) (i : ℕ) (sample : Placed) (b : Bool) → i < length samples → sample ≡ get_or samples i sample → stands_with act (placed_spec.placed_value sample) ≡ b
    → filter (stands_with act) (map placed_spec.placed_value (take (i + 1) samples)) ≡ filter (stands_with act) (map placed_spec.placed_value (take i samples)) ++ cond b (placed_spec.placed_value sample ∷ []) []
sample_step act samples i sample b within is here =
    let so_far = map placed_spec.placed_value (take i samples) in
    ap (filter (stands_with act)) (map_more placed_spec.placed_value samples i sample within ∙ ap (λ (one : Placed). so_far ++ placed_spec.placed_value one ∷ []) (sym is))
    ∙ filter-append (stands_with act) so_far (placed_spec.placed_value sample ∷ [])
    ∙ ap (λ (there : Bool). filter (stands_with act) so_far ++ cond there (placed_spec.placed_value sample ∷ []) []) here

-- one that the act completes
pub sample_more : (came : Came) (act : values.ActValue) (samples : List Placed) (i : ℕ) (sample : Placed) (before : List places.PlacedAct) (one : values.ActValue) (place : Place)
    → i < length samples → sample ≡ get_or samples i sample → stands_with act (placed_spec.placed_value sample) ≡ true → one ≡ matching_acts.sent_as act (placed_spec.placed_value sample).act → place ≡ (matching_acts.act_placed came act).place
    → (before ++ map (matching_acts.act_placed came) (acquaintance.samples_at act (map placed_spec.placed_value (take i samples)))) ++ (record { act = one; place = place }) ∷ []
    ≡ before ++ map (matching_acts.act_placed came) (acquaintance.samples_at act (map placed_spec.placed_value (take (i + 1) samples)))
sample_more came act samples i sample before one place within is here same stands =
    let so_far = filter (stands_with act) (map placed_spec.placed_value (take i samples)) in
    let sent : placed_spec.PlacedValue → values.ActValue = λ placed. matching_acts.sent_as act placed.act in
    let at : (placed_spec.placed_value sample).act.at ≡ act.at = eqb-true (placed_spec.placed_value sample).act.at act.at here in
    let there : place ≡ (matching_acts.act_placed came (sent (placed_spec.placed_value sample))).place = stands ∙ ap (λ (n : ℕ). record { datagram = came.datagram; at = n; time = came.time }) (sym at) in
    let made : values.ActValue → Place → places.PlacedAct = λ act place. record { act = act; place = place } in
    let last : made one place ≡ matching_acts.act_placed came (sent (placed_spec.placed_value sample)) = ap₂ made same there in
    let step : map (matching_acts.act_placed came) (acquaintance.samples_at act (map placed_spec.placed_value (take (i + 1) samples))) ≡ map (matching_acts.act_placed came) (map sent so_far) ++ matching_acts.act_placed came (sent (placed_spec.placed_value sample)) ∷ [] =
    ap (λ (those : List placed_spec.PlacedValue). map (matching_acts.act_placed came) (map sent those)) (sample_step act samples i sample true within is here)
    ∙ ap (map (matching_acts.act_placed came)) (map_push sent so_far (placed_spec.placed_value sample)) ∙ map_push (matching_acts.act_placed came) (map sent so_far) (sent (placed_spec.placed_value sample)) in
    append_assoc before (map (matching_acts.act_placed came) (map sent so_far)) (made one place ∷ [])
    ∙ ap (λ (end : places.PlacedAct). before ++ (map (matching_acts.act_placed came) (map sent so_far) ++ end ∷ [])) last ∙ ap (λ (rest : List places.PlacedAct). before ++ rest) (sym step)

-- one that it does not
pub sample_skip : (came : Came) (act : values.ActValue) (samples : List Placed) (i : ℕ) (sample : Placed) (before : List places.PlacedAct) → i < length samples → sample ≡ get_or samples i sample
    → stands_with act (placed_spec.placed_value sample) ≡ false → before ++ map (matching_acts.act_placed came) (acquaintance.samples_at act (map placed_spec.placed_value (take i samples)))
    ≡ before ++ map (matching_acts.act_placed came) (acquaintance.samples_at act (map placed_spec.placed_value (take (i + 1) samples)))
sample_skip came act samples i sample before within is here =
    let so_far = filter (stands_with act) (map placed_spec.placed_value (take i samples)) in
    ap (λ (those : List placed_spec.PlacedValue). before ++ map (matching_acts.act_placed came) (map (λ (placed : placed_spec.PlacedValue). matching_acts.sent_as act placed.act) those))
    (sym (sample_step act samples i sample false within is here ∙ append-nil so_far))

-- ---- a recording

-- what is read of the datagrams of a recording behind so many, which announce by these
abbrev read_from : ℕ → List (List ℕ) → List (List values.ActValue) → List read_datagrams.ReadDatagramValue
read_from before recording announcing = read_datagrams.read_behind before (map (map (λ one. one.act)) (fragment_walk.sending_of recording)) announcing

pub acts_from : (n : ℕ) (recording : List (List ℕ)) (announcing : List (List values.ActValue)) → map (λ read. read.acts) (read_from n recording announcing) ≡ acts_read.datagrams_read recording
acts_from n [] announcing = refl
acts_from n (octets ∷ recording) [] = ap (λ (rest : List (List values.ActValue)). acts_read.acts_read_in octets ∷ rest) (acts_from (n + 1) recording [])
acts_from n (octets ∷ recording) (acts ∷ announcing) = ap (λ (rest : List (List values.ActValue)). acts_read.acts_read_in octets ∷ rest) (acts_from (n + 1) recording announcing)

-- the acts of the first of these and those of the others
first_timed : (times : List (Option ℕ)) (n : ℕ) (octets : List ℕ) (recording : List (List ℕ)) (announcing : List values.ActValue) (others : List read_datagrams.ReadDatagramValue)
    → flat_map (acquaintance.timed_heard times) others ≡ flat_map (acts_read.acts_timed times) (enumerate_from (n + 1) recording)
    → flat_map (acquaintance.timed_heard times) (read_datagrams.datagram_read n (acts_read.acts_read_in octets) announcing ∷ others) ≡ flat_map (acts_read.acts_timed times) (enumerate_from n (octets ∷ recording))
first_timed times n octets recording announcing others rest =
    flat_map-cons (acquaintance.timed_heard times) (read_datagrams.datagram_read n (acts_read.acts_read_in octets) announcing) others ∙ ap (λ (those : List tellings.TimedAct). acts_read.acts_timed times (n, octets) ++ those) rest
    ∙ sym (flat_map-cons (acts_read.acts_timed times) (n, octets) (enumerate_from (n + 1) recording))

pub timed_from : (times : List (Option ℕ)) (n : ℕ) (recording : List (List ℕ)) (announcing : List (List values.ActValue))
    → flat_map (acquaintance.timed_heard times) (read_from n recording announcing) ≡ flat_map (acts_read.acts_timed times) (enumerate_from (n + 1) recording)
timed_from times n [] announcing = refl
timed_from times n (octets ∷ recording) [] = first_timed times (n + 1) octets recording [] (read_from (n + 1) recording []) (timed_from times (n + 1) recording [])
timed_from times n (octets ∷ recording) (acts ∷ announcing) = first_timed times (n + 1) octets recording acts (read_from (n + 1) recording announcing) (timed_from times (n + 1) recording announcing)

first_placed : (all : List placed_spec.PlacedValue) (times : List (Option ℕ)) (n : ℕ) (octets : List ℕ) (recording : List (List ℕ)) (announcing : List values.ActValue) (others : List read_datagrams.ReadDatagramValue)
    → filter (of_datagram n) all ≡ announced_at n announcing → flat_map (acquaintance.placed_heard times) others ≡ flat_map (matching_acts.acts_placed_in all times) (enumerate_from (n + 1) recording)
    → flat_map (acquaintance.placed_heard times) (read_datagrams.datagram_read n (acts_read.acts_read_in octets) announcing ∷ others) ≡ flat_map (matching_acts.acts_placed_in all times) (enumerate_from n (octets ∷ recording))
first_placed all times n octets recording announcing others here rest =
    let first : acquaintance.placed_heard times (read_datagrams.datagram_read n (acts_read.acts_read_in octets) announcing) ≡ matching_acts.acts_placed_in all times (n, octets) =
    ap (λ (samples : List placed_spec.PlacedValue). acquaintance.acts_heard (matching_acts.came_as times n) samples (acts_read.acts_read_in octets)) (sym here) ∙ acts_are all (matching_acts.came_as times n) (acts_read.acts_read_in octets) in
    flat_map-cons (acquaintance.placed_heard times) (read_datagrams.datagram_read n (acts_read.acts_read_in octets) announcing) others ∙ ap₂ ◌++◌ first rest
    ∙ sym (flat_map-cons (matching_acts.acts_placed_in all times) (n, octets) (enumerate_from (n + 1) recording))

placed_from : (all : List placed_spec.PlacedValue) (times : List (Option ℕ)) (n : ℕ) (recording : List (List ℕ)) (announcing : List (List values.ActValue)) → filter (is_past n) all ≡ announced_behind n announcing
    → flat_map (acquaintance.placed_heard times) (read_from n recording announcing) ≡ flat_map (matching_acts.acts_placed_in all times) (enumerate_from (n + 1) recording)
placed_from all times n [] announcing left = refl
placed_from all times n (octets ∷ recording) [] left =
    first_placed all times (n + 1) octets recording [] (read_from (n + 1) recording []) (here_are n all [] [] left) (placed_from all times (n + 1) recording [] (past_are n all [] [] left))
placed_from all times n (octets ∷ recording) (acts ∷ announcing) left =
    first_placed all times (n + 1) octets recording acts (read_from (n + 1) recording announcing) (here_are n all acts announcing left) (placed_from all times (n + 1) recording announcing (past_are n all acts announcing left))

-- what is read of a recording tells its acts of matching
pub placed_all : (times : List (Option ℕ)) (recording : List (List ℕ)) (announcing : List (List values.ActValue))
    → flat_map (acquaintance.placed_heard times) (read_from 0 recording announcing) ≡ matching_acts.matching_acts (announcements.announcements_in announcing) recording times
placed_all times recording announcing =
    placed_from (announcements.announcements_in announcing) times 0 recording announcing (all_past 0 1 (announcements.announcements_in announcing) (omega arith) (announced_rising announcing))
