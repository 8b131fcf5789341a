-- The frames of datagrams, as runs. own: in most captures nearly each frame gives a datagram, so that the number of the frame and that
-- of the datagram rise alike. A run is the place of its first datagram, counted from 0, and the number of its frame.
use Rattle.std.specs.Prelude.{ℕ, ◌+◌, ◌-◌, ◌^◌, nat_le, if◌then◌else◌, map, min, List, [], ◌∷◌}
use Rattle.std.specs.List.{range_with_len}
use Rattle.rtps_evidence.specs.declared.frame_numbers.FrameRun.{FrameRun}

-- the run of a capture in which each frame gives a datagram
abbrev pub run_of_all : FrameRun
run_of_all = record { first = 0; frame = 1 }

-- the frame of a datagram of a run: as far behind that of the first one as it is behind the first one. No number is past 64 bits
abbrev pub frame_at : FrameRun → ℕ → ℕ
frame_at run place = min (run.frame + (place - run.first)) (2 ^ 64 - 1)

-- the last of these runs that begins up to a datagram, behind a run that does
abbrev pub run_at : FrameRun → List FrameRun → ℕ → FrameRun
run_at run [] place = run
run_at run (next ∷ runs) place = run_at (if nat_le next.first place then next else run) runs place

-- the frames of so many datagrams
abbrev pub frames_of : ℕ → List FrameRun → List ℕ
frames_of count runs = map (λ place. frame_at (run_at run_of_all runs place) place) (range_with_len 0 count)
