-- The keys that a reading remembers are those whose last pieces came last.
use Rattle.std.proofs.Common.{◌≡◌, ℕ, zero, suc, ◌≤◌, Bool, true, false, List, [], ◌∷◌, length, map, take, refl, sym, ap, ap₂, subst, ◌∙◌, arith}
use Rattle.std.specs.Prelude.{None, Option, Ok, Err, ◌==◌, ◌&&◌, ◌||◌, nat_eq, nat_lt, if◌then◌else◌}
use Rattle.std.specs.List.{list_any}
use Rattle.std.specs.Ordering.{is_eq}
use Rattle.std.proofs.lemmas.Bool.Decides.{nat_tests}
use Rattle.std.proofs.lemmas.List.{length-map, length-take, take-map}
use Rattle.rtps_capture.specs.Assembly as assembly
use Rattle.rtps_capture.specs.Capture as capture
use Rattle.rtps_capture.specs.Forgetting as forgetting
use Rattle.rtps_capture.specs.Pieces as pieces
use Rattle.rtps_capture.specs.Recent as recent_spec
use Rattle.rtps_capture.specs.Sent as sent
use Rattle.rtps_capture.specs.declared.assembly.KeyedMaking.{KeyedMaking}
use Rattle.rtps_capture.specs.declared.assembly.Making.{Making}
use Rattle.rtps_capture.specs.declared.capture.CaptureFault.{CaptureFault}
use Rattle.rtps_capture.specs.declared.captures.Captures.{Captures}
use Rattle.rtps_capture.specs.declared.frames.CapturedFrame.{CapturedFrame}
use Rattle.rtps_capture.specs.declared.frames.Frame.{Frame}
use Rattle.rtps_capture.specs.declared.fragment.FragmentHosts.{FragmentHosts}
use Rattle.rtps_capture.specs.declared.fragment.FragmentKey.{FragmentKey}
use Rattle.rtps_capture.specs.declared.layout.packet.TheConstants as packet
use Rattle.rtps_capture.specs.declared.packet.Contents.{Contents}
use Rattle.rtps_capture.proofs.Offered.{or_fault_ok}
use Rattle.rtps_capture.proofs.RecentLemmas.{hosts_same}

-- the test for one number
abbrev same_as : ℕ → ℕ → Bool
same_as number other = other == number

and_false : (b : Bool) → (b && false) ≡ false
and_false true = refl
and_false false = refl

unlike : (x k y : ℕ) → nat_eq x k ≡ false → nat_eq y x ≡ true → nat_eq y k ≡ false
unlike x k y other same = grind (arith, nat_tests)

-- the identifications of keys
abbrev ids : List KeyedMaking → List ℕ
ids recent = map (λ one. one.identification) recent

ids_without : (identification : ℕ) (recent : List KeyedMaking) → ids (recent_spec.without (recent_spec.is_of identification) recent) ≡ recent_spec.without (same_as identification) (ids recent)
ids_without identification [] = refl
ids_without identification (one ∷ recent) = by (recent_spec.is_of identification one) (ids_without identification recent)
  where
    by : (here : Bool) → ids (recent_spec.without (recent_spec.is_of identification) recent) ≡ recent_spec.without (same_as identification) (ids recent)
        → ids (if here then recent else one ∷ recent_spec.without (recent_spec.is_of identification) recent)
        ≡ (if here then ids recent else one.identification ∷ recent_spec.without (same_as identification) (ids recent))
    by true rest = refl
    by false rest = ap (λ l. one.identification ∷ l) rest

ids_any : (identification : ℕ) (recent : List KeyedMaking) → list_any (recent_spec.is_of identification) recent ≡ recent_spec.is_among identification (ids recent)
ids_any identification [] = refl
ids_any identification (one ∷ recent) = ap (λ (b : Bool). recent_spec.is_of identification one || b) (ids_any identification recent)

-- the first of them, without one of them
take_same : (n : ℕ) (xs : List ℕ) → take n (take n xs) ≡ take n xs
take_same zero xs = refl
take_same (suc n) [] = refl
take_same (suc n) (x ∷ xs) = ap (λ l. x ∷ l) (take_same n xs)

take_without : (n k : ℕ) (xs : List ℕ) → take n (recent_spec.without (same_as k) (take (suc n) xs)) ≡ take n (recent_spec.without (same_as k) xs)
take_without zero k xs = refl
take_without (suc n) k [] = refl
take_without (suc n) k (x ∷ xs) = by (same_as k x) (take_without n k xs)
  where
    by : (here : Bool) → take n (recent_spec.without (same_as k) (take (suc n) xs)) ≡ take n (recent_spec.without (same_as k) xs)
        → take (suc n) (if here then take (suc n) xs else x ∷ recent_spec.without (same_as k) (take (suc n) xs)) ≡ take (suc n) (if here then xs else x ∷ recent_spec.without (same_as k) xs)
    by true rest = take_same (suc n) xs
    by false rest = ap (λ (l : List ℕ). x ∷ l) rest

-- the identifications that are remembered of what came
abbrev latest : List ℕ → List ℕ
latest came = take packet.MOST_KEPT (recent_spec.each_once came)

latest_with : (identification : ℕ) (making : Making) (recent : List KeyedMaking) (came : List ℕ) → ids recent ≡ latest came
    → ids (recent_spec.recent_with identification making recent) ≡ latest (identification ∷ came)
latest_with identification making recent came is =
    let first : List KeyedMaking = record { identification = identification; making = making } ∷ recent_spec.without (recent_spec.is_of identification) recent in
    let front : ids (recent_spec.recent_with identification making recent) ≡ take packet.MOST_KEPT (ids first) = sym (take-map (λ (one : KeyedMaking). one.identification) packet.MOST_KEPT first) in
    let others : ids (recent_spec.without (recent_spec.is_of identification) recent) ≡ recent_spec.without (same_as identification) (latest came) =
    ids_without identification recent ∙ ap (recent_spec.without (same_as identification)) is in
    front ∙ ap (λ (l : List ℕ). identification ∷ take 63 l) others ∙ ap (λ (l : List ℕ). identification ∷ l) (take_without 63 identification (recent_spec.each_once came))

-- which are those that came last
among_take : (n k : ℕ) (xs : List ℕ) → recent_spec.is_among k (take n xs) ≡ (recent_spec.is_among k xs && nat_lt (length (recent_spec.behind_last k xs)) n)
among_take zero k xs = sym (ap (λ (b : Bool). recent_spec.is_among k xs && b) (let none : nat_lt (length (recent_spec.behind_last k xs)) 0 ≡ false = grind (arith, nat_tests) in none) ∙ and_false (recent_spec.is_among k xs))
among_take (suc n) k [] = refl
among_take (suc n) k (x ∷ xs) = by (same_as k x) (among_take n k xs)
  where
    shift : nat_lt (length (x ∷ recent_spec.behind_last k xs)) (suc n) ≡ nat_lt (length (recent_spec.behind_last k xs)) n
    shift = grind (arith, nat_tests)

    first : nat_lt 0 (suc n) ≡ true
    first = grind (arith, nat_tests)

    by : (here : Bool) → recent_spec.is_among k (take n xs) ≡ (recent_spec.is_among k xs && nat_lt (length (recent_spec.behind_last k xs)) n)
        → (here || recent_spec.is_among k (take n xs)) ≡ ((here || recent_spec.is_among k xs) && nat_lt (length (if here then [] else x ∷ recent_spec.behind_last k xs)) (suc n))
    by true rest = sym first
    by false rest = rest ∙ ap (λ (b : Bool). recent_spec.is_among k xs && b) (sym shift)

among_without : (x k : ℕ) → nat_eq x k ≡ false → (ys : List ℕ) → recent_spec.is_among k (recent_spec.without (same_as x) ys) ≡ recent_spec.is_among k ys
among_without x k other [] = refl
among_without x k other (y ∷ ys) = by (same_as x y) refl (among_without x k other ys)
  where
    by : (here : Bool) → same_as x y ≡ here → recent_spec.is_among k (recent_spec.without (same_as x) ys) ≡ recent_spec.is_among k ys
        → recent_spec.is_among k (if here then ys else y ∷ recent_spec.without (same_as x) ys) ≡ (same_as k y || recent_spec.is_among k ys)
    by true is rest = sym (ap (λ (b : Bool). b || recent_spec.is_among k ys) (unlike x k y other is))
    by false is rest = ap (λ (b : Bool). same_as k y || b) rest

among_once : (k : ℕ) (came : List ℕ) → recent_spec.is_among k (recent_spec.each_once came) ≡ recent_spec.is_among k came
among_once k [] = refl
among_once k (x ∷ came) = by (same_as k x) refl (among_once k came)
  where
    by : (here : Bool) → same_as k x ≡ here → recent_spec.is_among k (recent_spec.each_once came) ≡ recent_spec.is_among k came → (here || recent_spec.is_among k (recent_spec.without (same_as x) (recent_spec.each_once came))) ≡ (here || recent_spec.is_among k came)
    by true is rest = refl
    by false is rest = among_without x k is (recent_spec.each_once came) ∙ rest

behind_without : (x k : ℕ) → nat_eq x k ≡ false → (ys : List ℕ) → recent_spec.behind_last k (recent_spec.without (same_as x) ys) ≡ recent_spec.without (same_as x) (recent_spec.behind_last k ys)
behind_without x k other [] = refl
behind_without x k other (y ∷ ys) = by (same_as x y) refl (same_as k y) refl (behind_without x k other ys)
  where
    left : List ℕ
    left = recent_spec.without (same_as x) ys

    last : List ℕ
    last = recent_spec.behind_last k ys

    by : (here : Bool) → same_as x y ≡ here → (there : Bool) → same_as k y ≡ there → recent_spec.behind_last k left ≡ recent_spec.without (same_as x) last
        → recent_spec.behind_last k (if here then ys else y ∷ recent_spec.without (same_as x) ys) ≡ recent_spec.without (same_as x) (if there then [] else y ∷ recent_spec.behind_last k ys)
    by true is true at rest = let no = sym at ∙ unlike x k y other is in cc
    by true is false at rest = sym (ap (λ (b : Bool). if b then last else y ∷ recent_spec.without (same_as x) last) is)
    by false is true at rest = ap (λ (b : Bool). if b then [] else y ∷ recent_spec.behind_last k left) at
    by false is false at rest =
        ap (λ (b : Bool). if b then [] else y ∷ recent_spec.behind_last k left) at
        ∙ ap (λ (l : List ℕ). y ∷ l) rest
        ∙ sym (ap (λ (b : Bool). if b then last else y ∷ recent_spec.without (same_as x) last) is)

behind_once : (k : ℕ) (came : List ℕ) → recent_spec.behind_last k (recent_spec.each_once came) ≡ recent_spec.each_once (recent_spec.behind_last k came)
behind_once k [] = refl
behind_once k (x ∷ came) = by (same_as k x) refl (behind_once k came)
  where
    by : (here : Bool) → same_as k x ≡ here → recent_spec.behind_last k (recent_spec.each_once came) ≡ recent_spec.each_once (recent_spec.behind_last k came)
        → (if here then [] else x ∷ recent_spec.behind_last k (recent_spec.without (same_as x) (recent_spec.each_once came))) ≡ recent_spec.each_once (if here then [] else x ∷ recent_spec.behind_last k came)
    by true is rest = refl
    by false is rest = ap (λ (l : List ℕ). x ∷ l) (behind_without x k is (recent_spec.each_once came) ∙ ap (recent_spec.without (same_as x)) rest)

remembered_is : (k : ℕ) (came : List ℕ) → recent_spec.is_among k (latest came) ≡ recent_spec.is_remembered k came
remembered_is k came =
    among_take packet.MOST_KEPT k (recent_spec.each_once came)
    ∙ ap₂ (λ (b : Bool) (n : ℕ). b && nat_lt n packet.MOST_KEPT) (among_once k came) (ap (λ (l : List ℕ). length l) (behind_once k came))

-- what is remembered of hosts goes by what came of them
abbrev AreLatest : FragmentHosts → List ℕ → capture.Collected → Type 0
AreLatest hosts came so_far = ids (so_far.recent hosts) ≡ latest came

contents_latest : (file : List ℕ) (time : Option ℕ) (so_far : capture.Collected) (hosts : FragmentHosts) (came : List ℕ) (contents : Contents)
    → ((other : FragmentHosts) → is_eq (recent_spec.hosts_cmp other hosts) ≡ true → other ≡ hosts)
    → AreLatest hosts came so_far → AreLatest hosts (forgetting.came_with hosts came contents) (capture.with_contents file time so_far contents)
contents_latest file time so_far hosts came (Contents.Datagram range) same is = is
contents_latest file time so_far hosts came (Contents.Fragment fragment) same is = by (is_eq (recent_spec.hosts_cmp (recent_spec.hosts_of fragment.key) hosts)) refl
  where
    made : Making
    made = (assembly.taken_piece file fragment.key (capture.remembered so_far fragment.key) (pieces.piece_of fragment)).making

    by : (here : Bool) → is_eq (recent_spec.hosts_cmp (recent_spec.hosts_of fragment.key) hosts) ≡ here
        → ids (if here then recent_spec.recent_with fragment.key.identification made (so_far.recent (recent_spec.hosts_of fragment.key)) else so_far.recent hosts)
        ≡ latest (if here then fragment.key.identification ∷ came else came)
    by true equal =
        latest_with fragment.key.identification made (so_far.recent (recent_spec.hosts_of fragment.key)) came
        (ap (λ (h : FragmentHosts). ids (so_far.recent h)) (same (recent_spec.hosts_of fragment.key) equal) ∙ is)
    by false equal = is
contents_latest file time so_far hosts came Contents.Cut same is = is
contents_latest file time so_far hosts came Contents.Other same is = is

captured_latest : (captures : Captures) (file : List ℕ) (most : ℕ) (so_far next : capture.Collected) (frame : CapturedFrame) (hosts : FragmentHosts) (came : List ℕ)
    → AreLatest hosts came so_far → capture.noted captures file most so_far (Frame.Captured frame) ≡ Ok next → AreLatest hosts (forgetting.came_with hosts came (capture.contents_in captures file frame)) next
unfolding capture.noted capture.collected
captured_latest captures file most so_far next frame hosts came latest_are is = by (nat_lt most (length there.datagrams)) is
  where
    before : capture.Collected
    before = capture.timed so_far (Frame.Captured frame)

    there : capture.Collected
    there = capture.collected file frame.time before (capture.contents_in captures file frame)

    are : AreLatest hosts (forgetting.came_with hosts came (capture.contents_in captures file frame)) there
    are = contents_latest file frame.time (capture.with_frame before) hosts came (capture.contents_in captures file frame) (λ other. hosts_same other hosts) latest_are

    by : (over : Bool) → (if over then Err CaptureFault.TooMany else Ok there) ≡ Ok next → AreLatest hosts (forgetting.came_with hosts came (capture.contents_in captures file frame)) next
    by true same = let no = same in cc
    by false same = let found : there ≡ next = cc in subst (AreLatest hosts (forgetting.came_with hosts came (capture.contents_in captures file frame))) found are

rest_latest : (captures : Captures) (file : List ℕ) (so_far next : capture.Collected) (hosts : FragmentHosts) (came : List ℕ) → AreLatest hosts came so_far
    → capture.with_rest captures file so_far ≡ Ok next → AreLatest hosts came next
unfolding capture.collected
rest_latest Captures.Classic file so_far next hosts came latest_are is = let no = is in cc
rest_latest Captures.Any file so_far next hosts came latest_are is =
    let same : capture.collected file None so_far Contents.Cut ≡ next = cc in subst (AreLatest hosts came) same latest_are

all_latest : (captures : Captures) (file : List ℕ) (most : ℕ) (frames : List Frame) (so_far last : capture.Collected) (hosts : FragmentHosts) (came : List ℕ) → AreLatest hosts came so_far
    → capture.all_noted captures file most so_far frames ≡ Ok last → AreLatest hosts (forgetting.came_behind hosts came (sent.contents_among captures file frames)) last
unfolding capture.noted
all_latest captures file most [] so_far last hosts came are is = let same : so_far ≡ last = cc in subst (AreLatest hosts came) same are
all_latest captures file most (Frame.Captured frame ∷ rest) so_far last hosts came are is =
    let first = or_fault_ok (capture.noted captures file most so_far (Frame.Captured frame)) (λ one. capture.all_noted captures file most one rest) last is in
    all_latest captures file most rest first.0 last hosts (forgetting.came_with hosts came (capture.contents_in captures file frame))
    (captured_latest captures file most so_far first.0 frame hosts came are first.1) first.2
all_latest captures file most (Frame.Unread link time ∷ rest) so_far last hosts came are is =
    all_latest captures file most rest (capture.with_link (capture.with_frame (capture.timed so_far (Frame.Unread link time))) link) last hosts came are is
all_latest captures file most (Frame.NoFrame ∷ rest) so_far last hosts came are is = all_latest captures file most rest (capture.timed so_far Frame.NoFrame) last hosts came are is
all_latest captures file most (Frame.Rest ∷ rest) so_far last hosts came are is =
    let before = capture.timed so_far Frame.Rest in
    let first = or_fault_ok (capture.with_rest captures file before) (λ one. capture.all_noted captures file most one rest) last is in
    all_latest captures file most rest first.0 last hosts came (rest_latest captures file before first.0 hosts came are first.1) first.2
all_latest captures file most (fault ∷ rest) so_far last hosts came are is = let no = is in cc

pub keys_remembered : (captures : Captures) (most : ℕ) (file : List ℕ) (frames : List Frame) (so_far : capture.Collected) → capture.all_noted captures file most capture.nothing frames ≡ Ok so_far
    → (key : FragmentKey)
    → list_any (recent_spec.is_of key.identification) (so_far.recent (recent_spec.hosts_of key)) ≡ recent_spec.is_remembered key.identification (forgetting.came_behind (recent_spec.hosts_of key) [] (sent.contents_among captures file frames))
keys_remembered captures most file frames so_far is key =
    ids_any key.identification (so_far.recent (recent_spec.hosts_of key))
    ∙ ap (recent_spec.is_among key.identification) (all_latest captures file most frames capture.nothing so_far (recent_spec.hosts_of key) [] refl is)
    ∙ remembered_is key.identification (forgetting.came_behind (recent_spec.hosts_of key) [] (sent.contents_among captures file frames))

pub keys_few : (captures : Captures) (most : ℕ) (file : List ℕ) (frames : List Frame) (so_far : capture.Collected) → capture.all_noted captures file most capture.nothing frames ≡ Ok so_far
    → (hosts : FragmentHosts) → length (so_far.recent hosts) ≤ packet.MOST_KEPT
keys_few captures most file frames so_far is hosts =
    let came = forgetting.came_behind hosts [] (sent.contents_among captures file frames) in
    let size : length (so_far.recent hosts) ≡ length (latest came) =
    sym (length-map (so_far.recent hosts) (λ (one : KeyedMaking). one.identification)) ∙ ap (λ (l : List ℕ). length l) (all_latest captures file most frames capture.nothing so_far hosts [] refl is) in
    omega (arith, size, length-take packet.MOST_KEPT (recent_spec.each_once came))
