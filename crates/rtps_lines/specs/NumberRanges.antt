-- The numbers of a row that are lost, or look so, in lines. own: ten ranges of a kind are enough to look at; a range has the second and
-- the frame in which its first number was sent first, where these are known, so that it leads to the moment.
use Rattle.std.specs.Prelude.{ℕ, ◌+◌, ◌-◌, ◌++◌, ◌==◌, if◌then◌else◌, List, [], ◌∷◌, codes, decimal, flat_map, length, take, Option, None, Some}
use Rattle.std.specs.List.{concat}
use Rattle.rtps_evidence.specs.Kinds as kinds
use Rattle.rtps_evidence.specs.Times as times_spec
use Rattle.rtps_evidence.specs.declared.kinds.NumberRange.{NumberRange}
use Rattle.rtps_evidence.specs.declared.times.Seconds.{Seconds}
use Rattle.rtps_evidence.specs.declared.location.Location.{Location}
use Rattle.rtps_parts.specs.Parts as parts
use Rattle.rtps_lines.specs.Lines as lines

-- that there are so many more; nothing where there is none
abbrev pub more_text : ℕ → List ℕ
more_text more = if more == 0 then [] else concat (codes " and " ∷ parts.grouped more ∷ codes " more" ∷ [])

-- a second and a frame in brackets; nothing where there is none
unfoldable pub bracketed : Option Seconds → Option ℕ → List ℕ
bracketed None None = []
bracketed None (Some frame) = codes " (frame " ++ (decimal frame ++ codes ")")
bracketed (Some second) None = codes " (" ++ (lines.seconds_text second ++ codes " s)")
bracketed (Some second) (Some frame) = codes " (" ++ (lines.seconds_text second ++ (codes " s, frame " ++ (decimal frame ++ codes ")")))

-- the second of a place, if there is one
abbrev pub place_second : times_spec.TimesValue → Option Location → Option Seconds
place_second times None = None
place_second times (Some place) = lines.second_in times place.datagram

-- the frame of a place, if there is one
abbrev pub place_frame : times_spec.TimesValue → Option Location → Option ℕ
place_frame times None = None
place_frame times (Some place) = times_spec.frame_of times.frames place.datagram

-- the last number of a range; nothing where it is the first one
abbrev pub to_text : ℕ → ℕ → List ℕ
to_text first last = if first == last then [] else codes "-" ++ decimal last

-- a range, and when and in which frame its first number was sent first
abbrev pub range_text : times_spec.TimesValue → NumberRange → List ℕ
range_text times range = decimal range.first ++ (to_text range.first range.last ++ bracketed (place_second times range.sent) (place_frame times range.sent))

-- ranges, with a comma between each two
abbrev pub ranges_text : times_spec.TimesValue → List NumberRange → List ℕ
ranges_text times [] = []
ranges_text times (range ∷ ranges) = range_text times range ++ flat_map (λ other. codes ", " ++ range_text times other) ranges

-- how many ranges stand behind the first ten
abbrev pub more_ranges : kinds.KindValue → ℕ
more_ranges kind = length kind.ranges + kind.more - 10

-- the line of numbers of a kind behind its name; nothing where there is none
abbrev pub kind_line : List ℕ → times_spec.TimesValue → kinds.KindValue → List ℕ
kind_line name times kind =
    if length kind.ranges == 0 then []
    else name ++ (ranges_text times (take 10 kind.ranges) ++ (more_text (more_ranges kind) ++ codes "\n"))

-- those of a row
abbrev pub lost_lines : times_spec.TimesValue → kinds.LostValue → List ℕ
lost_lines times lost =
    kind_line (codes "    missed ") times lost.missed
    ++ (kind_line (codes "    unsent ") times lost.unsent
    ++ (kind_line (codes "    unanswered ") times lost.unanswered ++ kind_line (codes "    not arrived ") times lost.not_arrived))
