-- Runs of frames: one more, and the one that a datagram is in.
use Rattle.std.proofs.lemmas.Bool.Decides.{nat_tests}
use Rattle.std.proofs.Common.{◌≡◌, ◌∙◌, ℕ, zero, suc, ◌+◌, ◌-◌, ◌^◌, ◌<◌, ◌≤◌, true, false, nat_le, if◌then◌else◌, List, [], ◌∷◌, ◌++◌, get_or, length, slice_get, Some, None, refl, sym, ap, subst, arith, inl, inr}
use Rattle.std.specs.List.Sorted.{IsNonDecreasingBy}
use Rattle.std.proofs.lemmas.Bool.{cases_lt}
use Rattle.std.proofs.lemmas.List.{ext_get_or, get_or_push, length-append}
use Rattle.std.proofs.lemmas.Option.{slice_get-get_or, slice_get_past}
use Rattle.std.proofs.lemmas.List.FromFn.{get_or-map-range_with_len, length-map-range_with_len}
use Rattle.std.proofs.lemmas.List.Sorted.{IsNonDecreasingBy-push}
use Rattle.rtps_evidence.specs.FrameNumbers as frame_numbers
use Rattle.rtps_evidence.specs.declared.frame_numbers.FrameRun.{FrameRun}

-- ---- the run that a datagram is in

pub none_begins : (runs : List FrameRun) (run : FrameRun) (place : ℕ) → ((k : ℕ) (d : FrameRun) → k < length runs → nat_le (get_or runs k d).first place ≡ false) → frame_numbers.run_at run runs place ≡ run
none_begins [] run place none = refl
none_begins (one ∷ runs) run place none =
    let no : nat_le one.first place ≡ false = none 0 one (omega arith) in
    ap (λ b. frame_numbers.run_at (if b then one else run) runs place) no ∙ none_begins runs run place (λ k d lt. none (suc k) d (omega (arith, lt)))

pub last_begins : (runs : List FrameRun) (run : FrameRun) (place point : ℕ) (d : FrameRun) → point < length runs → ((k : ℕ) (e : FrameRun) → k < point + 1 → nat_le (get_or runs k e).first place ≡ true)
    → ((k : ℕ) (e : FrameRun) → point + 1 ≤ k → k < length runs → nat_le (get_or runs k e).first place ≡ false) → frame_numbers.run_at run runs place ≡ get_or runs point d
last_begins [] run place point d lt up behind = absurd (omega (arith, lt))
last_begins (one ∷ runs) run place zero d lt up behind =
    let yes : nat_le one.first place ≡ true = up 0 one (omega arith) in
    ap (λ b. frame_numbers.run_at (if b then one else run) runs place) yes ∙ none_begins runs one place (λ k e less. behind (suc k) e (omega arith) (omega (arith, less)))
last_begins (one ∷ runs) run place (suc point) d lt up behind =
    last_begins runs (if nat_le one.first place then one else run) place point d (omega (arith, lt)) (λ k e less. up (suc k) e (omega (arith, less)))
    (λ k e far less. behind (suc k) e (omega (arith, far)) (omega (arith, less)))

-- ---- one more

run_more : (runs : List FrameRun) (run next : FrameRun) (place : ℕ) → frame_numbers.run_at run (runs ++ next ∷ []) place ≡ (if nat_le next.first place then next else frame_numbers.run_at run runs place)
run_more [] run next place = refl
run_more (one ∷ runs) run next place = run_more runs (if nat_le one.first place then one else run) next place

-- the runs of the first `i` frames, of which this is the last one
pub record AreRuns (frames : List ℕ) (i : ℕ) (last : FrameRun) (runs : List FrameRun) : Type 0 where
  pub rising : IsNonDecreasingBy (λ (r : FrameRun). r.first) runs
  pub before : (d : FrameRun) → 0 < length runs → (get_or runs (length runs - 1) d).first ≤ i
  pub goes_on : (k : ℕ) → i ≤ k → frame_numbers.run_at frame_numbers.run_of_all runs k ≡ last
  pub kept : (k : ℕ) → k < i → frame_numbers.frame_at (frame_numbers.run_at frame_numbers.run_of_all runs k) k ≡ get_or frames k 0

pub no_runs : (frames : List ℕ) → AreRuns frames 0 frame_numbers.run_of_all []
no_runs frames = record {
  rising = λ i j d le lt. absurd (omega (arith, lt));
  before = λ d some. absurd (omega (arith, some));
  goes_on = λ k le. refl;
  kept = λ k lt. absurd (omega (arith, lt));
}

pub runs_same : (frames : List ℕ) (i : ℕ) (last : FrameRun) (runs : List FrameRun) → frame_numbers.frame_at last i ≡ get_or frames i 0 → AreRuns frames i last runs → AreRuns frames (i + 1) last runs
runs_same frames i last runs at so_far = record {
  rising = so_far.rising;
  before = λ d some. (let le = so_far.before d some in omega (arith, le));
  goes_on = λ k le. so_far.goes_on k (omega (arith, le));
  kept = λ k lt. elim (cases_lt k i) [
    | inl less ↦ so_far.kept k less
    | inr far ↦
        let same : k ≡ i = omega (arith, lt, far) in
        subst (λ n. frame_numbers.frame_at (frame_numbers.run_at frame_numbers.run_of_all runs n) n ≡ get_or frames n 0) (sym same) (ap (λ r. frame_numbers.frame_at r i) (so_far.goes_on i (omega arith)) ∙ at)
  ];
}

pub runs_more : (frames : List ℕ) (i frame : ℕ) (last : FrameRun) (runs new : List FrameRun) → frame ≡ get_or frames i 0 → frame < 2 ^ 64 → new ≡ runs ++ record { first = i; frame = frame } ∷ [] → AreRuns frames i last runs
    → AreRuns frames (i + 1) (record { first = i; frame = frame }) new
runs_more frames i frame last runs new at range is so_far =
    subst (AreRuns frames (i + 1) added) (sym is) (record {
      rising = IsNonDecreasingBy-push (λ (r : FrameRun). r.first) runs added so_far.rising (λ d some. so_far.before d some);
      before = λ d some.
          let size = length-append runs (added ∷ []) in
          let end : length (runs ++ added ∷ []) - 1 ≡ length runs = omega (arith, size) in
          let first = ap (λ (r : FrameRun). r.first) (ap (λ k. get_or (runs ++ added ∷ []) k d) end ∙ get_or_push runs added d (length runs) refl) in
          omega (arith, first);
      goes_on = λ k le. here k (omega (arith, le));
      kept = λ k lt. elim (cases_lt k i) [
        | inl less ↦
            let no : nat_le i k ≡ false = grind (arith, nat_tests, less) in
            ap (λ r. frame_numbers.frame_at r k) (run_more runs frame_numbers.run_of_all added k ∙ ap (λ b. if b then added else frame_numbers.run_at frame_numbers.run_of_all runs k) no)
            ∙ so_far.kept k less
        | inr far ↦
            let same : k ≡ i = omega (arith, lt, far) in
            let own : frame_numbers.frame_at added i ≡ frame = omega (arith, range) in
            subst (λ n. frame_numbers.frame_at (frame_numbers.run_at frame_numbers.run_of_all (runs ++ added ∷ []) n) n ≡ get_or frames n 0) (sym same) (ap (λ r. frame_numbers.frame_at r i) (here i (omega arith)) ∙ own ∙ at)
      ];
    })
  where
    added : FrameRun
    added = record { first = i; frame = frame }

    here : (k : ℕ) → i ≤ k → frame_numbers.run_at frame_numbers.run_of_all (runs ++ added ∷ []) k ≡ added
    here k le =
        let yes : nat_le i k ≡ true = grind (arith, nat_tests, le) in
        run_more runs frame_numbers.run_of_all added k ∙ ap (λ b. if b then added else frame_numbers.run_at frame_numbers.run_of_all runs k) yes

pub runs_end : (frames : List ℕ) (last : FrameRun) (runs : List FrameRun) → AreRuns frames (length frames) last runs → frame_numbers.frames_of (length frames) runs ≡ frames
runs_end frames last runs all =
    let size = length-map-range_with_len at 0 (length frames) in
    ext_get_or 0 (frame_numbers.frames_of (length frames) runs) frames size (λ k lt. let less : k < length frames = omega (arith, lt, size) in get_or-map-range_with_len at 0 (length frames) k k 0 less (omega arith) ∙ all.kept k less)
  where
    at : ℕ → ℕ
    at place = frame_numbers.frame_at (frame_numbers.run_at frame_numbers.run_of_all runs place) place

-- ---- a frame by its place

pub no_frame : (count : ℕ) (runs : List FrameRun) (place : ℕ) → count ≤ place → None ≡ slice_get (frame_numbers.frames_of count runs) place
no_frame count runs place past =
    let size = length-map-range_with_len (λ n. frame_numbers.frame_at (frame_numbers.run_at frame_numbers.run_of_all runs n) n) 0 count in
    sym (slice_get_past (frame_numbers.frames_of count runs) place (omega (arith, size, past)))

pub some_frame : (count : ℕ) (runs : List FrameRun) (place : ℕ) → place < count → Some (frame_numbers.frame_at (frame_numbers.run_at frame_numbers.run_of_all runs place) place) ≡ slice_get (frame_numbers.frames_of count runs) place
some_frame count runs place within =
    let size = length-map-range_with_len at 0 count in
    sym (slice_get-get_or (frame_numbers.frames_of count runs) place 0 (omega (arith, size, within)) ∙ ap Some (get_or-map-range_with_len at 0 count place place 0 within (omega arith)))
  where
    at : ℕ → ℕ
    at n = frame_numbers.frame_at (frame_numbers.run_at frame_numbers.run_of_all runs n) n
