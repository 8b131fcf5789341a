-- The course of a capture is what is told of the whole file, frame by frame.
use Rattle.std.proofs.Common.{◌≡◌, ℕ, ◌+◌, ◌-◌, ◌≤◌, Bool, true, false, List, [], ◌∷◌, ◌++◌, length, drop, take, refl, sym, ap, ap₂, subst, ◌∙◌, append_assoc, append-nil, arith}
use Rattle.std.specs.Prelude.{None, Option, Some, Result, Ok, Err, ◌==◌, nat_lt, if◌then◌else◌, option_and_then, option_map, option_to_list, slice_range}
use Rattle.std.specs.List.{AllByRecursion}
use Rattle.std.specs.Option.{option_or}
use Rattle.std.specs.Ordering.{is_eq}
use Rattle.std.proofs.lemmas.Bool.Decides.{nat_tests}
use Rattle.std.proofs.lemmas.List.{drop-drop, drop-take, drop_at, length-append, length-drop, length-take, length-take-le, take-take}
use Rattle.rtps_capture.specs.Agreement as agreement
use Rattle.rtps_capture.specs.Alike as alike
use Rattle.rtps_capture.specs.Assembly as assembly
use Rattle.rtps_capture.specs.Capture as capture
use Rattle.rtps_capture.specs.Course as course_spec
use Rattle.rtps_capture.specs.Blocks as blocks
use Rattle.rtps_capture.specs.Frames as frames
use Rattle.rtps_capture.specs.LinkTypes as link_types
use Rattle.rtps_capture.specs.Opening as opening
use Rattle.rtps_capture.specs.Packets as packets
use Rattle.rtps_capture.specs.Pieces as pieces
use Rattle.rtps_capture.specs.Recent as recent
use Rattle.rtps_capture.specs.Times as times
use Rattle.rtps_ids.specs.declared.order.Order.{Order}
use Rattle.rtps_capture.specs.declared.assembly.Making.{Making}
use Rattle.rtps_capture.specs.declared.assembly.Taken.{Taken}
use Rattle.rtps_capture.specs.declared.blocks.Block.{Block}
use Rattle.rtps_capture.specs.declared.byte_range.ByteRange.{ByteRange}
use Rattle.rtps_capture.specs.declared.capture.CaptureFault.{CaptureFault}
use Rattle.rtps_capture.specs.declared.capture.Counts.{Counts}
use Rattle.rtps_capture.specs.declared.capture_reader.Summary.{Summary}
use Rattle.rtps_capture.specs.declared.captures.Captures.{Captures}
use Rattle.rtps_capture.specs.declared.fragment.Fragment.{Fragment}
use Rattle.rtps_capture.specs.declared.fragment.FragmentHosts.{FragmentHosts}
use Rattle.rtps_capture.specs.declared.fragment.FragmentKey.{FragmentKey}
use Rattle.rtps_capture.specs.declared.frames.CapturedFrame.{CapturedFrame}
use Rattle.rtps_capture.specs.declared.frames.Frame.{Frame}
use Rattle.rtps_capture.specs.declared.layout.block.TheConstants as block
use Rattle.rtps_capture.specs.declared.layout.udp.TheConstants as udp
use Rattle.rtps_capture.specs.declared.link_type.LinkType.{LinkType}
use Rattle.rtps_capture.specs.declared.packet.Contents.{Contents}
use Rattle.rtps_capture.specs.declared.pieces.Piece.{Piece}
use Rattle.rtps_capture.proofs.AlikeLemmas.{AreJoined, keyed_grown, making_alike, recent_alike, taken_alike}
use Rattle.rtps_capture.proofs.CarriedLemmas.{in_packet}
use Rattle.rtps_capture.proofs.ComingLemmas.{slice_range-append}
use Rattle.rtps_capture.proofs.PacketLemmas.{Ends, in_file, read_ends}

-- octets of octets
slice_within : (from to first last : ℕ) (file : List ℕ) → first ≤ last → last ≤ length (slice_range file from to)
    → slice_range (slice_range file from to) first last ≡ slice_range file (from + first) (from + last)
slice_within from to first last file ordered within =
    let width = to - from in
    let behind = drop from file in
    let fits : last ≤ width = omega (arith, length-take width behind, within) in
    let split : width ≡ first + (width - first) = omega (arith, ordered) in
    let same : (from + last) - (from + first) ≡ last - first = omega arith in
    ap (take (last - first)) (ap (λ (n : ℕ). drop first (take n behind)) split ∙ drop-take first (width - first) behind)
    ∙ take-take (last - first) (width - first) (drop first behind) (omega (arith, fits))
    ∙ ap₂ take (sym same) (drop-drop first from file)

pub slice_size : (from to : ℕ) (octets : List ℕ) → from ≤ to → to ≤ length octets → length (slice_range octets from to) ≡ to - from
slice_size from to octets ordered within = length-take-le (to - from) (drop from octets) (omega (arith, length-drop from octets))

-- the ranges are in so many octets
abbrev IsIn : ℕ → ByteRange → Type 0
IsIn size range = (range.from ≤ range.to) × (range.to ≤ size)

abbrev AreIn : ℕ → List ByteRange → Type 0
AreIn size ranges = AllByRecursion (IsIn size) ranges

-- what was read so far of the whole file, and what was told and noted
pub record Same (file : List ℕ) (told : List course_spec.DatagramValue) (so_far : capture.Collected) (notes : course_spec.Notes) : Type 0 where
  pub counts : so_far.counts ≡ notes.counts
  pub start : so_far.start ≡ notes.start
  pub end : so_far.end ≡ notes.end
  pub number : length so_far.datagrams ≡ notes.datagrams
  pub times : length so_far.times ≡ length so_far.datagrams
  pub frames : length so_far.frames ≡ length so_far.datagrams
  pub told_is : told ≡ agreement.datagrams_in (file ++ so_far.behind) so_far.datagrams so_far.times so_far.frames
  pub within : AreIn (length file + length so_far.behind) so_far.datagrams
  pub recent : (hosts : FragmentHosts) → alike.AreKeyed file notes.kept (so_far.recent hosts) (notes.recent hosts)

-- one datagram more
in_pushed : (octets : List ℕ) (ranges : List ByteRange) (times : List (Option ℕ)) (frames : List ℕ) (range : ByteRange) (time : Option ℕ) (frame : ℕ)
    → length times ≡ length ranges → length frames ≡ length ranges
    → agreement.datagrams_in octets (ranges ++ range ∷ []) (times ++ time ∷ []) (frames ++ frame ∷ [])
    ≡ agreement.datagrams_in octets ranges times frames ++ record { octets = slice_range octets range.from range.to; time = time; frame = frame } ∷ []
in_pushed octets [] [] [] range time frame one other = refl
in_pushed octets [] [] (f ∷ frames) range time frame one other = absurd (omega (arith, other))
in_pushed octets [] (t ∷ times) frames range time frame one other = absurd (omega (arith, one))
in_pushed octets (r ∷ ranges) [] frames range time frame one other = absurd (omega (arith, one))
in_pushed octets (r ∷ ranges) (t ∷ times) [] range time frame one other = absurd (omega (arith, other))
in_pushed octets (r ∷ ranges) (t ∷ times) (f ∷ frames) range time frame one other =
    ap (λ (l : List course_spec.DatagramValue). record { octets = slice_range octets r.from r.to; time = t; frame = f } ∷ l)
    (in_pushed octets ranges times frames range time frame (omega (arith, one)) (omega (arith, other)))

all_pushed : (size : ℕ) (ranges : List ByteRange) (range : ByteRange) → AreIn size ranges → IsIn size range → AreIn size (ranges ++ range ∷ [])
all_pushed size [] range all one = (one, tt)
all_pushed size (first ∷ ranges) range all one = (all.0, all_pushed size ranges range all.1 one)

all_more : (size more : ℕ) (ranges : List ByteRange) → size ≤ more → AreIn size ranges → AreIn more ranges
all_more size more [] fits all = tt
all_more size more (range ∷ ranges) fits all = ((all.0.0, omega (arith, fits, all.0.1)), all_more size more ranges fits all.1)

-- octets behind change nothing of the datagrams that stand in front
in_grown : (octets more : List ℕ) (ranges : List ByteRange) (times : List (Option ℕ)) (frames : List ℕ) → AreIn (length octets) ranges
    → agreement.datagrams_in (octets ++ more) ranges times frames ≡ agreement.datagrams_in octets ranges times frames
in_grown octets more [] times frames all = refl
in_grown octets more (range ∷ ranges) [] frames all = refl
in_grown octets more (range ∷ ranges) (time ∷ times) [] all = refl
in_grown octets more (range ∷ ranges) (time ∷ times) (frame ∷ frames) all =
    ap₂ (λ (o : List ℕ) (l : List course_spec.DatagramValue). record { octets = o; time = time; frame = frame } ∷ l)
    (slice_range-append range.from range.to octets more all.0.0 all.0.1) (in_grown octets more ranges times frames all.1)

-- with one datagram more, whose octets stand there
pushed : (file : List ℕ) (told : List course_spec.DatagramValue) (so_far : capture.Collected) (notes : course_spec.Notes) (range : ByteRange) (time : Option ℕ) (octets : List ℕ) → Same file told so_far notes
    → IsIn (length file + length so_far.behind) range → slice_range (file ++ so_far.behind) range.from range.to ≡ octets
    → Same file (told ++ record { octets = octets; time = time; frame = notes.counts.frames } ∷ [])
    (record so_far { datagrams = so_far.datagrams ++ range ∷ []; times = so_far.times ++ time ∷ []; frames = so_far.frames ++ so_far.counts.frames ∷ [] })
    (record notes { datagrams = notes.datagrams + 1 })
pushed file told so_far notes range time octets same within stands =
    let number = ap (λ (c : Counts). c.frames) same.counts in
    let one : course_spec.DatagramValue = record { octets = octets; time = time; frame = notes.counts.frames } in
    let is : record { octets = slice_range (file ++ so_far.behind) range.from range.to; time = time; frame = so_far.counts.frames } ≡ one =
    ap₂ (λ (o : List ℕ) (n : ℕ). let there : course_spec.DatagramValue = record { octets = o; time = time; frame = n } in there) stands number in
    record {
      counts = same.counts;
      start = same.start;
      end = same.end;
      number = length-append so_far.datagrams (range ∷ []) ∙ ap (λ (n : ℕ). n + 1) same.number;
      times = omega (arith, length-append so_far.times (time ∷ []), length-append so_far.datagrams (range ∷ []), same.times);
      frames = omega (arith, length-append so_far.frames (so_far.counts.frames ∷ []), length-append so_far.datagrams (range ∷ []), same.frames);
      told_is =
          ap₂ (λ (l : List course_spec.DatagramValue) (d : course_spec.DatagramValue). l ++ d ∷ []) same.told_is (sym is)
          ∙ sym (in_pushed (file ++ so_far.behind) so_far.datagrams so_far.times so_far.frames range time so_far.counts.frames same.times same.frames);
      within = all_pushed (length file + length so_far.behind) so_far.datagrams range same.within within;
      recent = same.recent;
    }

-- with other numbers of frames, and other times
recounted : (file : List ℕ) (told : List course_spec.DatagramValue) (so_far : capture.Collected) (notes : course_spec.Notes) (change : Counts → Counts) → Same file told so_far notes
    → Same file told (record so_far { counts = change so_far.counts }) (record notes { counts = change notes.counts })
recounted file told so_far notes change same = record {
  counts = ap change same.counts;
  start = same.start;
  end = same.end;
  number = same.number;
  times = same.times;
  frames = same.frames;
  told_is = same.told_is;
  within = same.within;
  recent = same.recent;
}

timed_same : (file : List ℕ) (told : List course_spec.DatagramValue) (so_far : capture.Collected) (notes : course_spec.Notes) (frame : Frame) → Same file told so_far notes
    → Same file told (capture.timed so_far frame) (course_spec.timed notes frame)
timed_same file told so_far notes frame same = record {
  counts = same.counts;
  start = ap (λ (t : Option ℕ). option_or t (frames.time_of frame)) same.start;
  end = ap (λ (t : Option ℕ). times.later_of t (frames.time_of frame)) same.end;
  number = same.number;
  times = same.times;
  frames = same.frames;
  told_is = same.told_is;
  within = same.within;
  recent = same.recent;
}

-- a datagram stands in its packet
whole_stands : (key : FragmentKey) (packet : List ℕ) (range : ByteRange) → assembly.datagram_of_whole key packet ≡ Some range → IsIn (length packet) range
unfolding assembly.has_right_datagram
whole_stands key packet range is = by (assembly.has_right_datagram key packet) refl is
  where
    by : (right : Bool) → assembly.has_right_datagram key packet ≡ right → (if right then Some (record { from = udp.SIZE; to = assembly.udp_length packet }) else None) ≡ Some range → IsIn (length packet) range
    by false wrong none = absurd cc
    by true right some =
        let is : record { from = udp.SIZE; to = assembly.udp_length packet } ≡ range = cc in
        subst (IsIn (length packet)) is (grind (arith, nat_tests), grind (arith, nat_tests))

taken_stands : (file : List ℕ) (key : FragmentKey) (making : Making) (piece : Piece) (range : ByteRange)
    → (assembly.taken_piece file key making piece).taken.datagram ≡ Some range → IsIn (length (assembly.taken_piece file key making piece).packet) range
unfolding assembly.taken_piece assembly.given
taken_stands file key making piece range = by (pieces.is_repeat file piece making.making)
  where
    more : Making
    more = record { making = pieces.pieces_with piece making.making; given = making.given }

    fresh : Bool
    fresh = assembly.is_new file making piece

    packet : List ℕ
    packet = assembly.packet_of file more.making

    gave : (datagram : Option ByteRange) → assembly.datagram_of_whole key packet ≡ datagram → (assembly.given_with file more fresh packet datagram).taken.datagram ≡ Some range
        → IsIn (length (assembly.given_with file more fresh packet datagram).packet) range
    gave None is none = absurd cc
    gave (Some found) is some = whole_stands key packet range (is ∙ some)

    filled : (whole : Bool) → (if whole then assembly.given file key more fresh else assembly.gives_none more fresh).taken.datagram ≡ Some range
        → IsIn (length (if whole then assembly.given file key more fresh else assembly.gives_none more fresh).packet) range
    filled true some = gave (assembly.datagram_of_whole key packet) refl some
    filled false none = absurd cc

    by : (seen : Bool) → (if seen then assembly.gives_none making false else assembly.joined_with file key more fresh).taken.datagram ≡ Some range
        → IsIn (length (if seen then assembly.gives_none making false else assembly.joined_with file key more fresh).packet) range
    by true none = absurd cc
    by false some = filled (pieces.fills 0 (pieces.in_order more.making)) some

-- the fragment that a frame contains, as it stands in the file and as it is kept
kept_alike : (file kept : List ℕ) (from to : ℕ) (fragment : Fragment) → let frame = slice_range file from to in
    fragment.range.from ≤ fragment.range.to → fragment.range.to ≤ length frame
    → alike.IsAlike file (kept ++ slice_range frame fragment.range.from fragment.range.to) (pieces.piece_of (record fragment { range = packets.moved_range from fragment.range }))
    (pieces.piece_of (course_spec.fragment_behind (length kept) fragment))
kept_alike file kept from to fragment ordered within =
    let first = fragment.range.from in
    let last = fragment.range.to in
    let frame = slice_range file from to in
    let octets = slice_range frame first last in
    let size = last - first in
    let one : (from + last) - (from + first) ≡ size = omega arith in
    let other : (length kept + size) - length kept ≡ size = omega arith in
    let width : (fragment.start + size) - fragment.start ≡ size = omega arith in
    let there : octets ≡ take size (drop (from + first) file) = slice_within from to first last file ordered within ∙ ap (λ (n : ℕ). take n (drop (from + first) file)) one in
    let fits = slice_size first last frame ordered within in
    let front : drop (length kept) (kept ++ octets) ≡ octets = drop_at kept octets (length kept) refl in
    record {
      start = refl;
      end = ap (λ (n : ℕ). fragment.start + n) (one ∙ sym other);
      more = refl;
      octets =
          ap (λ (n : ℕ). take (fragment.start + n - fragment.start) (drop (from + first) file)) one ∙ ap (λ (n : ℕ). take n (drop (from + first) file)) width
          ∙ sym (ap (λ (n : ℕ). take (fragment.start + n - fragment.start) (drop (length kept) (kept ++ octets))) other
          ∙ ap₂ take width front ∙ ap (take size) there ∙ take-take size size (drop (from + first) file) (omega arith));
      within = omega (arith, length-append kept octets, fits, other, width);
    }

-- with the datagram that a packet gives, if it gives one
abbrev collects : List ℕ → Option ℕ → capture.Collected → FragmentKey → assembly.Joined → Option ByteRange → capture.Collected
collects file time so_far key joined datagram = record {
  recent = λ hosts. if is_eq (recent.hosts_cmp (recent.hosts_of key) hosts) then recent.recent_with key.identification joined.making (so_far.recent (recent.hosts_of key)) else so_far.recent hosts;
  datagrams = so_far.datagrams ++ option_to_list (option_map (packets.moved_range (length file + length so_far.behind)) datagram);
  times = so_far.times ++ option_to_list (option_map (λ there. time) datagram);
  frames = so_far.frames ++ option_to_list (option_map (λ there. so_far.counts.frames) datagram);
  start = so_far.start;
  end = so_far.end;
  behind = so_far.behind ++ joined.packet;
  counts = record so_far.counts {
    fresh = so_far.counts.fresh + (if joined.taken.fresh then 1 else 0);
    settled = so_far.counts.settled + joined.taken.settled;
  };
}

-- a fragment was taken, and no datagram is told yet
joined_same : (file kept : List ℕ) (told : List course_spec.DatagramValue) (time : Option ℕ) (so_far : capture.Collected) (notes : course_spec.Notes) (key : FragmentKey) (one other : assembly.Joined) (more : List ℕ)
    → Same file told so_far notes → kept ≡ notes.kept ++ more → AreJoined file kept one other → Same file told (collects file time so_far key one None) (course_spec.notes_joined notes kept key other)
joined_same file kept told time so_far notes key one other more same grown joined = record {
  counts =
      ap₂ (λ (c : Counts) (t : Taken). record c { fresh = c.fresh + (if t.fresh then 1 else 0); settled = c.settled + t.settled }) same.counts joined.taken;
  start = same.start;
  end = same.end;
  number = ap (λ (l : List ByteRange). length l) (append-nil so_far.datagrams) ∙ same.number;
  times = ap (λ (l : List (Option ℕ)). length l) (append-nil so_far.times) ∙ same.times ∙ sym (ap (λ (l : List ByteRange). length l) (append-nil so_far.datagrams));
  frames = ap (λ (l : List ℕ). length l) (append-nil so_far.frames) ∙ same.frames ∙ sym (ap (λ (l : List ByteRange). length l) (append-nil so_far.datagrams));
  told_is =
      same.told_is
      ∙ sym (in_grown (file ++ so_far.behind) one.packet so_far.datagrams so_far.times so_far.frames (subst (λ (n : ℕ). AreIn n so_far.datagrams) (sym (length-append file so_far.behind)) same.within))
      ∙ ap (λ (l : List ℕ). agreement.datagrams_in l so_far.datagrams so_far.times so_far.frames) (append_assoc file so_far.behind one.packet)
      ∙ rw (append-nil so_far.datagrams, append-nil so_far.times, append-nil so_far.frames) refl;
  within =
      subst (AreIn (length file + length (so_far.behind ++ one.packet))) (sym (append-nil so_far.datagrams))
      (all_more (length file + length so_far.behind) (length file + length (so_far.behind ++ one.packet)) so_far.datagrams (omega (arith, length-append so_far.behind one.packet)) same.within);
  recent = λ hosts. by hosts (is_eq (recent.hosts_cmp (recent.hosts_of key) hosts));
}
  where
    those : (hosts : FragmentHosts) → alike.AreKeyed file kept (so_far.recent hosts) (notes.recent hosts)
    those hosts = subst (λ (l : List ℕ). alike.AreKeyed file l (so_far.recent hosts) (notes.recent hosts)) (sym grown) (keyed_grown file notes.kept more (so_far.recent hosts) (notes.recent hosts) (same.recent hosts))

    by : (hosts : FragmentHosts) (here : Bool)
        → alike.AreKeyed file kept (if here then recent.recent_with key.identification one.making (so_far.recent (recent.hosts_of key)) else so_far.recent hosts)
        (if here then recent.recent_with key.identification other.making (notes.recent (recent.hosts_of key)) else notes.recent hosts)
    by hosts true =
        recent_alike file kept key.identification one.making other.making (so_far.recent (recent.hosts_of key)) (notes.recent (recent.hosts_of key)) joined.making (those (recent.hosts_of key))
    by hosts false = those hosts

-- and the datagram that it gives
given_same : (file kept : List ℕ) (told : List course_spec.DatagramValue) (time : Option ℕ) (so_far : capture.Collected) (notes : course_spec.Notes) (key : FragmentKey) (one other : assembly.Joined) (more : List ℕ) (datagram : Option ByteRange)
    → Same file told so_far notes → kept ≡ notes.kept ++ more → AreJoined file kept one other → ((range : ByteRange) → datagram ≡ Some range → IsIn (length one.packet) range)
    → let gives = course_spec.gives_joined (course_spec.notes_joined notes kept key other) time other datagram in
    Same file (told ++ option_to_list gives.datagram) (collects file time so_far key one datagram) gives.notes
given_same file kept told time so_far notes key one other more None same grown joined stands =
    subst (λ (l : List course_spec.DatagramValue). Same file l (collects file time so_far key one None) (course_spec.notes_joined notes kept key other)) (sym (append-nil told))
    (joined_same file kept told time so_far notes key one other more same grown joined)
given_same file kept told time so_far notes key one other more (Some range) same grown joined stands =
    let size = length file + length so_far.behind in
    let all = joined_same file kept told time so_far notes key one other more same grown joined in
    let in_it = stands range refl in
    let longer = length-append so_far.behind one.packet in
    let octets : slice_range (file ++ (so_far.behind ++ one.packet)) (size + range.from) (size + range.to) ≡ slice_range other.packet range.from range.to =
    in_packet file so_far.behind one.packet range ∙ ap (λ (l : List ℕ). slice_range l range.from range.to) joined.packet in
    subst (λ (c : capture.Collected). Same file (told ++ record { octets = slice_range other.packet range.from range.to; time = time; frame = notes.counts.frames } ∷ []) c
    (record (course_spec.notes_joined notes kept key other) { datagrams = notes.datagrams + 1 }))
    (rw (append-nil so_far.datagrams, append-nil so_far.times, append-nil so_far.frames) refl)
    (pushed file told (collects file time so_far key one None) (course_spec.notes_joined notes kept key other) (packets.moved_range size range) time (slice_range other.packet range.from range.to) all
    (omega (arith, in_it.0), omega (arith, in_it.1, longer)) octets)

-- what a frame contains, which is counted
contents_same : (captures : Captures) (file : List ℕ) (told : List course_spec.DatagramValue) (so_far : capture.Collected) (notes : course_spec.Notes) (frame : CapturedFrame) (found : Contents)
    → Same file told so_far notes → Ends (length (course_spec.frame_octets file frame)) found → Ends (length file) (packets.moved_contents frame.range.from found)
    → let gives = course_spec.gives_contents notes frame.time (course_spec.frame_octets file frame) found in
    Same file (told ++ option_to_list gives.datagram) (capture.with_contents file frame.time so_far (packets.moved_contents frame.range.from found)) gives.notes
contents_same captures file told so_far notes frame (Contents.Datagram range) same ends stands =
    let moved = packets.moved_range frame.range.from range in
    pushed file told so_far notes moved frame.time (slice_range (course_spec.frame_octets file frame) range.from range.to) same (stands.0, omega (arith, stands.2))
    (slice_range-append moved.from moved.to file so_far.behind stands.0 stands.2 ∙ sym (slice_within frame.range.from frame.range.to range.from range.to file ends.0 ends.2))
contents_same captures file told so_far notes frame (Contents.Fragment fragment) same ends stands =
    subst (λ (datagram : Option ByteRange). let gives = course_spec.gives_joined (course_spec.notes_joined notes kept fragment.key other) frame.time other datagram in
    Same file (told ++ option_to_list gives.datagram) (collects file frame.time so_far fragment.key one one.taken.datagram) gives.notes) (ap (λ (t : Taken). t.datagram) joined.taken)
    (given_same file kept told frame.time so_far notes fragment.key one other octets one.taken.datagram same refl joined (λ range is. taken_stands file fragment.key making piece range is))
  where
    octets : List ℕ
    octets = slice_range (course_spec.frame_octets file frame) fragment.range.from fragment.range.to

    kept : List ℕ
    kept = notes.kept ++ octets

    making : Making
    making = capture.remembered so_far fragment.key

    piece : Piece
    piece = pieces.piece_of (record fragment { range = packets.moved_range frame.range.from fragment.range })

    one : assembly.Joined
    one = assembly.taken_piece file fragment.key making piece

    other : assembly.Joined
    other = course_spec.joined_in notes kept (course_spec.fragment_behind (length notes.kept) fragment)

    those : alike.AreKeyed file kept (so_far.recent (recent.hosts_of fragment.key)) (notes.recent (recent.hosts_of fragment.key))
    those = keyed_grown file notes.kept octets (so_far.recent (recent.hosts_of fragment.key)) (notes.recent (recent.hosts_of fragment.key)) (same.recent (recent.hosts_of fragment.key))

    joined : AreJoined file kept one other
    joined =
        taken_alike file kept fragment.key making (recent.making_in (notes.recent (recent.hosts_of fragment.key)) fragment.key.identification) piece (pieces.piece_of (course_spec.fragment_behind (length notes.kept) fragment))
        (making_alike file kept fragment.key.identification (so_far.recent (recent.hosts_of fragment.key)) (notes.recent (recent.hosts_of fragment.key)) those)
        (kept_alike file notes.kept frame.range.from frame.range.to fragment ends.0 ends.2)
contents_same captures file told so_far notes frame Contents.Cut same ends stands =
    subst (λ (l : List course_spec.DatagramValue). Same file l (record so_far { counts = record so_far.counts { cut = so_far.counts.cut + 1 } }) (record notes { counts = record notes.counts { cut = notes.counts.cut + 1 } })) (sym (append-nil told))
    (recounted file told so_far notes (λ counts. record counts { cut = counts.cut + 1 }) same)
contents_same captures file told so_far notes frame Contents.Other same ends stands =
    subst (λ (l : List course_spec.DatagramValue). Same file l (record so_far { counts = record so_far.counts { other = so_far.counts.other + 1 } }) (record notes { counts = record notes.counts { other = notes.counts.other + 1 } })) (sym (append-nil told))
    (recounted file told so_far notes (λ counts. record counts { other = counts.other + 1 }) same)

-- one record or block tells the same
abbrev StepSame : List ℕ → List course_spec.DatagramValue → Result capture.Collected CaptureFault → Result course_spec.Given CaptureFault → Type 0
StepSame file told (Ok so_far) (Ok given) = Same file (told ++ option_to_list given.datagram) so_far given.notes
StepSame file told (Ok so_far) (Err fault) = ⊥
StepSame file told (Err fault) (Ok given) = ⊥
StepSame file told (Err one) (Err other) = one ≡ other

limited_same : (file : List ℕ) (told : List course_spec.DatagramValue) (most : ℕ) (so_far : capture.Collected) (given : course_spec.Given) → Same file (told ++ option_to_list given.datagram) so_far given.notes
    → StepSame file told (capture.limited most so_far) (course_spec.limited most given)
limited_same file told most so_far given same =
    rw same.number (by (nat_lt most given.notes.datagrams))
  where
    by : (over : Bool) → StepSame file told (if over then Err CaptureFault.TooMany else Ok so_far) (if over then Err CaptureFault.TooMany else Ok given)
    by true = refl
    by false = same

unnoted : (file : List ℕ) (told : List course_spec.DatagramValue) (so_far : capture.Collected) (notes : course_spec.Notes) → Same file told so_far notes → Same file (told ++ []) so_far notes
unnoted file told so_far notes same = subst (λ (l : List course_spec.DatagramValue). Same file l so_far notes) (sym (append-nil told)) same

captured_same : (captures : Captures) (file : List ℕ) (told : List course_spec.DatagramValue) (so_far : capture.Collected) (notes : course_spec.Notes) (frame : CapturedFrame) → Same file told (capture.with_frame so_far) (course_spec.counted notes)
    → let gives = course_spec.gives_captured captures file notes frame in
    Same file (told ++ option_to_list gives.datagram) (capture.collected file frame.time so_far (capture.contents_in captures file frame)) gives.notes
unfolding capture.collected course_spec.gives_captured capture.contents_in
captured_same captures file told so_far notes frame same =
    contents_same captures file told (capture.with_frame so_far) (course_spec.counted notes) frame (packets.contents_read captures frame.link (course_spec.frame_octets file frame)) same
    (read_ends captures frame.link (course_spec.frame_octets file frame)) (in_file captures file frame)

frame_same : (captures : Captures) (file : List ℕ) (most : ℕ) (told : List course_spec.DatagramValue) (so_far : capture.Collected) (notes : course_spec.Notes) (frame : Frame) → Same file told so_far notes
    → StepSame file told (capture.noted captures file most so_far frame) (course_spec.frame_gives captures most file notes frame)
unfolding capture.noted capture.collected course_spec.frame_gives
frame_same captures file most told so_far notes (Frame.Captured frame) same =
    let now = capture.timed so_far (Frame.Captured frame) in
    let told_then = course_spec.timed notes (Frame.Captured frame) in
    limited_same file told most (capture.collected file frame.time now (capture.contents_in captures file frame)) (course_spec.gives_captured captures file told_then frame)
    (captured_same captures file told now told_then frame
    (recounted file told now told_then (λ counts. record counts { frames = counts.frames + 1 }) (timed_same file told so_far notes (Frame.Captured frame) same)))
frame_same captures file most told so_far notes (Frame.Unread link time) same =
    unnoted file told _ _ (recounted file told (capture.timed so_far (Frame.Unread link time)) (course_spec.timed notes (Frame.Unread link time))
    (λ counts. record counts { frames = counts.frames + 1; links = counts.links + 1; first_link = if counts.links == 0 then link else counts.first_link })
    (timed_same file told so_far notes (Frame.Unread link time) same))
frame_same captures file most told so_far notes Frame.NoFrame same = unnoted file told _ _ (timed_same file told so_far notes Frame.NoFrame same)
frame_same Captures.Classic file most told so_far notes Frame.Rest same = ap (λ (c : Counts). CaptureFault.CutCapture (c.frames + 1)) same.counts
frame_same Captures.Any file most told so_far notes Frame.Rest same =
    unnoted file told _ _ (recounted file told (capture.timed so_far Frame.Rest) (course_spec.timed notes Frame.Rest) (λ counts. record counts { frames = counts.frames + 1; cut = counts.cut + 1 })
    (timed_same file told so_far notes Frame.Rest same))
frame_same captures file most told so_far notes Frame.BadBlock same = refl
frame_same captures file most told so_far notes Frame.Damaged same = ap (λ (c : Counts). CaptureFault.Damaged (c.frames + 1)) same.counts
frame_same captures file most told so_far notes Frame.CutFrame same = ap (λ (c : Counts). CaptureFault.CutCapture (c.frames + 1)) same.counts

-- all of them tell the same
abbrev EndsSame : List ℕ → List course_spec.DatagramValue → Result capture.Collected CaptureFault → course_spec.Course → Type 0
EndsSame file told (Ok so_far) course = (notes : course_spec.Notes) × (course.end ≡ Ok (course_spec.summary_of notes)) × Same file (told ++ course.datagrams) so_far notes
EndsSame file told (Err fault) course = course.end ≡ Err fault

ends_with : (file : List ℕ) (told : List course_spec.DatagramValue) (given : course_spec.Given) (one : Result capture.Collected CaptureFault) (rest : course_spec.Course) → EndsSame file (told ++ option_to_list given.datagram) one rest
    → EndsSame file told one (record { datagrams = option_to_list given.datagram ++ rest.datagrams; end = rest.end })
ends_with file told given (Ok so_far) rest same =
    (same.0, same.1, subst (λ (l : List course_spec.DatagramValue). Same file l so_far same.0) (append_assoc told (option_to_list given.datagram) rest.datagrams) same.2)
ends_with file told given (Err fault) rest same = same

frames_same : (captures : Captures) (file : List ℕ) (most : ℕ) (told : List course_spec.DatagramValue) (so_far : capture.Collected) (notes : course_spec.Notes) (frames : List Frame) → Same file told so_far notes
    → EndsSame file told (capture.all_noted captures file most so_far frames) (course_spec.course_of_frames captures most file notes frames)
frames_same captures file most told so_far notes [] same = (notes, refl, unnoted file told so_far notes same)
frames_same captures file most told so_far notes (frame ∷ frames) same =
    by (capture.noted captures file most so_far frame) (course_spec.frame_gives captures most file notes frame) (frame_same captures file most told so_far notes frame same)
    (λ more given next. frames_same captures file most (told ++ option_to_list given.datagram) more given.notes frames next)
  where
    by : (one : Result capture.Collected CaptureFault) (other : Result course_spec.Given CaptureFault) → StepSame file told one other
        → ((more : capture.Collected) (given : course_spec.Given) → Same file (told ++ option_to_list given.datagram) more given.notes
        → EndsSame file (told ++ option_to_list given.datagram) (capture.all_noted captures file most more frames) (course_spec.course_of_frames captures most file given.notes frames))
        → EndsSame file told (capture.or_fault one (λ more. capture.all_noted captures file most more frames)) (course_spec.course_with other (λ next. course_spec.course_of_frames captures most file next frames))
    by (Ok more) (Ok given) step rest =
        ends_with file told given (capture.all_noted captures file most more frames) (course_spec.course_of_frames captures most file given.notes frames) (rest more given step)
    by (Ok more) (Err fault) step rest = absurd step
    by (Err fault) (Ok given) step rest = absurd step
    by (Err one) (Err other) step rest = ap Err (sym step)

nothing_same : (file : List ℕ) → Same file [] capture.nothing course_spec.no_notes
nothing_same file = record {
  counts = refl;
  start = refl;
  end = refl;
  number = refl;
  times = refl;
  frames = refl;
  told_is = refl;
  within = tt;
  recent = λ hosts. tt;
}

answer_same : (file : List ℕ) (one : Result capture.Collected CaptureFault) (course : course_spec.Course) → EndsSame file [] one course → agreement.AgreesWith file course (capture.answered one)
answer_same file (Err fault) course same = same
answer_same file (Ok so_far) course same = (same.1 ∙ ap Ok summaries, is.times, is.frames, is.told_is)
  where
    is : Same file course.datagrams so_far same.0
    is = same.2

    told : Option ℕ → Option ℕ → Counts → Summary
    told start end counts = record {
      start = start;
      end = end;
      pieces = counts.fresh - counts.settled;
      cut = counts.cut;
      other = counts.other;
      links = counts.links;
      first_link = counts.first_link;
    }

    summaries : course_spec.summary_of same.0 ≡ agreement.answer_summary (capture.answer_of so_far)
    summaries =
        ap (λ (t : Option ℕ). told t same.0.end same.0.counts) (sym is.start) ∙ ap (λ (t : Option ℕ). told so_far.start t same.0.counts) (sym is.end)
        ∙ ap (told so_far.start so_far.end) (sym is.counts)

-- what is unread is of the file
opened_octets : (captures : Captures) (file : List ℕ) (unread : frames.Unread) → frames.opened captures file ≡ Some unread → (unread.octets ≡ file) × (unread.captures ≡ captures)
unfolding frames.opened
opened_octets captures file unread is = by captures (opening.order_of file) is
  where
    taken : (one : frames.Unread) → Some one ≡ Some unread → one.octets ≡ file → (those : Captures) → one.captures ≡ those → (unread.octets ≡ file) × (unread.captures ≡ those)
    taken one some octets those captures =
        let same : one ≡ unread = cc in (ap (λ (u : frames.Unread). u.octets) (sym same) ∙ octets, ap (λ (u : frames.Unread). u.captures) (sym same) ∙ captures)

    sectioned : (found : Block) → frames.section_opened file found ≡ Some unread → (unread.octets ≡ file) × (unread.captures ≡ Captures.Any)
    sectioned Block.Unfinished none = absurd cc
    sectioned Block.Bad none = absurd cc
    sectioned (Block.Whole whole) some = chosen (whole.kind == block.SECTION) some
      where
        chosen : (section : Bool)
            → (if section then Some (record { captures = Captures.Any; octets = file; at = whole.to; order = whole.order; records = None; interfaces = [] }) else None) ≡ Some unread
            → (unread.octets ≡ file) × (unread.captures ≡ Captures.Any)
        chosen true there = taken (record { captures = Captures.Any; octets = file; at = whole.to; order = whole.order; records = None; interfaces = [] }) there refl Captures.Any refl
        chosen false none = absurd cc

    linked : (those : Captures) (order : Order) (link : Option LinkType) → option_map (frames.classic_with those file order) link ≡ Some unread → (unread.octets ≡ file) × (unread.captures ≡ those)
    linked those order None none = absurd cc
    linked those order (Some link) some = taken (frames.classic_with those file order link) some refl those refl

    by : (those : Captures) (order : Option Order) → frames.opened_by those file order ≡ Some unread → (unread.octets ≡ file) × (unread.captures ≡ those)
    by Captures.Classic None none = absurd cc
    by Captures.Any None some = sectioned (blocks.block_at Order.Big file 0) some
    by Captures.Classic (Some order) some = linked Captures.Classic order (option_and_then (link_types.link_read Captures.Classic) (opening.link_type_in order file)) some
    by Captures.Any (Some order) some = linked Captures.Any order (option_and_then (link_types.link_read Captures.Any) (opening.link_type_in order file)) some

pub course_agrees : (captures : Captures) (most : ℕ) (file : List ℕ) → agreement.AgreesWith file (course_spec.course_of captures most file) (capture.capture_read captures most file)
unfolding course_spec.course_of course_spec.course_left capture.capture_read
course_agrees captures most file = by (frames.opened captures file) refl
  where
    by : (found : Option frames.Unread) → frames.opened captures file ≡ found → agreement.AgreesWith file (course_spec.course_opened most found) (capture.opened_read captures most found)
    by None is = refl
    by (Some unread) is =
        let of = opened_octets captures file unread is in
        let frames = frames.frames_left unread in
        subst (λ (l : List ℕ). agreement.AgreesWith file (course_spec.course_of_frames unread.captures most l course_spec.no_notes frames) (capture.answered (capture.all_noted captures l most capture.nothing frames))) (sym of.0)
        (subst (λ (c : Captures). agreement.AgreesWith file (course_spec.course_of_frames c most file course_spec.no_notes frames) (capture.answered (capture.all_noted captures file most capture.nothing frames))) (sym of.1)
        (answer_same file (capture.all_noted captures file most capture.nothing frames) (course_spec.course_of_frames captures most file course_spec.no_notes frames)
        (frames_same captures file most [] capture.nothing course_spec.no_notes frames (nothing_same file))))
