-- The recording that a text stands for, or its first fault.
-- own: one datagram a line, in hexadecimal digits of either case, with comments.
use Rattle.std.specs.Prelude.{ℕ, ◌==◌, ◌&&◌, nat_le, nat_lt, not, Bool, if◌then◌else◌, List, [], ◌∷◌, length, slice_index, map, filter, Option, Some, None, Result, Ok, Err, is_err}
use Rattle.std.specs.List.{enumerate_from, filter_map}
use Rattle.hex.specs.Hex.{decode_of}
use Rattle.rtps_capture.specs.Course as course
use Rattle.rtps_digits.specs.Pairs as pairs
use Rattle.rtps_evidence.specs.Times as times
use Rattle.rtps_report.specs.Recording as recording
use Rattle.rtps_tool.specs.Lines as lines
use Rattle.rtps_tool.specs.declared.faults.RecFault.{RecFault}

-- an empty line stands for no datagram, nor does one that begins with # (35), whatever follows
abbrev pub is_datagram_line : List ℕ → Bool
is_datagram_line line = nat_lt 0 (length line) && not (slice_index line 0 == 35)

-- the lines that stand for datagrams, each with its number: the first of all lines has the number given
abbrev pub datagram_lines : ℕ → List (List ℕ) → List (ℕ × List ℕ)
datagram_lines number lines = filter (λ line. is_datagram_line line.1) (enumerate_from number lines)

-- what is wrong with a datagram line of this number that comes after so many others: a recording has at most as many
-- datagrams as it may, and a datagram at most 65,535 octets of two digits each
abbrev pub line_fault : (most before number : ℕ) → List ℕ → Option RecFault
line_fault most before number digits =
    if nat_le most before then Some RecFault.TooMany
    else if nat_lt 131070 (length digits) then Some (RecFault.TooLong number)
    else if is_err (decode_of digits) then Some (RecFault.BadHex number)
    else None

-- all that is wrong with datagram lines that come after so many others, in their order
abbrev pub line_faults : (most before : ℕ) → List (ℕ × List ℕ) → List RecFault
line_faults most before lines = filter_map (λ row. line_fault most row.0 row.1.0 row.1.1) (enumerate_from before lines)

-- the first of these faults, or the datagrams where there is none
abbrev pub unless_faulty : List RecFault → List (List ℕ) → Result (List (List ℕ)) RecFault
unless_faulty [] datagrams = Ok datagrams
unless_faulty (fault ∷ later) datagrams = Err fault

-- the datagrams of lines, of which the first has this number and so many datagrams come before; or their first fault,
-- where there may be so many datagrams in all
unfoldable pub recording_of_lines : (most number before : ℕ) → List (List ℕ) → Result (List (List ℕ)) RecFault
recording_of_lines most number before lines =
    unless_faulty (line_faults most before (datagram_lines number lines)) (map (λ line. pairs.octets_of line.1) (datagram_lines number lines))

-- these datagrams as a taker is told them: no frames carry them
abbrev pub untimed : List (List ℕ) → List course.DatagramValue
untimed datagrams = map (λ (octets : List ℕ). record { octets = octets; time = None; frame = 0 }) datagrams

-- the recording of which these are the datagrams, which no frames carry: it has no times
abbrev pub unframed : List (List ℕ) → recording.RecordingValue
unframed datagrams = record { datagrams = datagrams; times = times.no_times; ignored = None; reasons = None }

-- the same, if there is no fault
abbrev pub without_frames : Result (List (List ℕ)) RecFault → Result recording.RecordingValue RecFault
without_frames (Ok datagrams) = Ok (unframed datagrams)
without_frames (Err fault) = Err fault

-- the datagrams of a text in their order, so many at most, or its first fault
unfoldable pub recording_of_text : (most : ℕ) → List ℕ → Result recording.RecordingValue RecFault
recording_of_text most text = without_frames (recording_of_lines most 1 0 (lines.lines_of text))
