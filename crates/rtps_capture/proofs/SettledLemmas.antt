-- The course of a capture does not depend on where the octets of fragments are kept.
use Rattle.std.proofs.Common.{◌≡◌, ℕ, ◌+◌, ◌-◌, ◌≤◌, Bool, true, false, List, [], ◌∷◌, ◌++◌, length, drop, take, refl, sym, ap, ap₂, subst, ◌∙◌, inl, inr, arith}
use Rattle.std.specs.Prelude.{None, Option, Some, Result, Ok, Err, ◌==◌, nat_lt, if◌then◌else◌, option_to_list, slice_range}
use Rattle.std.specs.Option.{option_or}
use Rattle.std.specs.Ordering.{is_eq}
use Rattle.std.proofs.lemmas.List.{drop-append-le, drop_at, length-append, length-drop, take-append-le}
use Rattle.rtps_capture.specs.Alike as alike
use Rattle.rtps_capture.specs.Assembly as assembly
use Rattle.rtps_capture.specs.Course as course_spec
use Rattle.rtps_capture.specs.Frames as frames
use Rattle.rtps_capture.specs.Packets as packets
use Rattle.rtps_capture.specs.Pieces as pieces
use Rattle.rtps_capture.specs.Recent as recent
use Rattle.rtps_capture.specs.Times as times
use Rattle.rtps_capture.specs.declared.assembly.KeyedMaking.{KeyedMaking}
use Rattle.rtps_capture.specs.declared.assembly.Making.{Making}
use Rattle.rtps_capture.specs.declared.assembly.Taken.{Taken}
use Rattle.rtps_capture.specs.declared.byte_range.ByteRange.{ByteRange}
use Rattle.rtps_capture.specs.declared.capture.CaptureFault.{CaptureFault}
use Rattle.rtps_capture.specs.declared.capture.Counts.{Counts}
use Rattle.rtps_capture.specs.declared.capture_reader.Summary.{Summary}
use Rattle.rtps_capture.specs.declared.captures.Captures.{Captures}
use Rattle.rtps_capture.specs.declared.fragment.Fragment.{Fragment}
use Rattle.rtps_capture.specs.declared.fragment.FragmentHosts.{FragmentHosts}
use Rattle.rtps_capture.specs.declared.fragment.FragmentKey.{FragmentKey}
use Rattle.rtps_capture.specs.declared.frames.CapturedFrame.{CapturedFrame}
use Rattle.rtps_capture.specs.declared.frames.Frame.{Frame}
use Rattle.rtps_capture.specs.declared.packet.Contents.{Contents}
use Rattle.rtps_capture.specs.declared.pieces.Piece.{Piece}
use Rattle.rtps_capture.proofs.AlikeLemmas.{AreJoined, keyed_grown, making_alike, recent_alike, taken_alike}
use Rattle.rtps_capture.proofs.AgreementLemmas.{slice_size}
use Rattle.rtps_capture.proofs.PacketLemmas.{Ends, read_ends}

-- with more octets behind those of the first place
one_left : (file kept more : List ℕ) (a b : Piece) → alike.IsAlike file kept a b → a.at + pieces.piece_size a ≤ length file → alike.IsAlike (file ++ more) kept a b
one_left file kept more a b alike within =
    let octets : pieces.piece_octets (file ++ more) a ≡ pieces.piece_octets file a =
    ap (take (pieces.piece_size a)) (drop-append-le a.at file more (omega (arith, within))) ∙ take-append-le (pieces.piece_size a) (drop a.at file) more (omega (arith, within, length-drop a.at file)) in
    record { start = alike.start; end = alike.end; more = alike.more; octets = octets ∙ alike.octets; within = alike.within }

pub left_grown : (file kept more : List ℕ) (ones others : List Piece) → alike.AreMoved file kept ones others → alike.AreAlike (file ++ more) kept ones others
left_grown file kept more [] [] all = tt
left_grown file kept more [] (d ∷ others) all = absurd all.0
left_grown file kept more (c ∷ ones) [] all = absurd all.0
left_grown file kept more (c ∷ ones) (d ∷ others) all =
    (one_left file kept more c d all.0.0 all.1.0.within, left_grown file kept more ones others (all.0.1, all.1.1))

making_left : (file kept more : List ℕ) (one other : Making) → alike.MakingIsMoved file kept one other → alike.AreMakings (file ++ more) kept one other
making_left file kept more one other all = record {
  making = left_grown file kept more one.making other.making (all.0.making, all.1.making);
  given = left_grown file kept more one.given other.given (all.0.given, all.1.given);
}

pub keyed_left : (file kept more : List ℕ) (ones others : List KeyedMaking) → alike.KeysAreMoved file kept ones others → alike.AreKeyed (file ++ more) kept ones others
keyed_left file kept more [] [] all = tt
keyed_left file kept more [] (d ∷ others) all = absurd all.0
keyed_left file kept more (c ∷ ones) [] all = absurd all.0
keyed_left file kept more (c ∷ ones) (d ∷ others) all =
    (all.0.0, making_left file kept more c.making d.making (all.0.1, all.1.1), keyed_left file kept more ones others (all.0.2, all.1.2))

-- with octets behind those of both places
both_grown : (file kept more others : List ℕ) (one other : List KeyedMaking) → alike.KeysAreMoved file kept one other → alike.KeysAreMoved (file ++ more) (kept ++ others) one other
both_grown file kept more others one other all = (
  keyed_left file (kept ++ others) more one other (keyed_grown file kept others one other all.0, keyed_left kept file others other one (all.1, all.0)),
  keyed_left kept (file ++ more) others other one (keyed_grown kept file more other one all.1, keyed_left file kept more one other all),
)

-- a fragment that comes stands behind what is kept, wherever that is
fragment_alike : (one other frame : List ℕ) (fragment : Fragment) → fragment.range.from ≤ fragment.range.to → fragment.range.to ≤ length frame
    → let octets = slice_range frame fragment.range.from fragment.range.to in
    alike.IsAlike (one ++ octets) (other ++ octets) (pieces.piece_of (course_spec.fragment_behind (length one) fragment)) (pieces.piece_of (course_spec.fragment_behind (length other) fragment))
fragment_alike one other frame fragment ordered fits =
    let octets = slice_range frame fragment.range.from fragment.range.to in
    let size = packets.fragment_size fragment in
    let there : (length one + size) - length one ≡ size = omega arith in
    let here : (length other + size) - length other ≡ size = omega arith in
    let width : (fragment.start + size) - fragment.start ≡ size = omega arith in
    let many = slice_size fragment.range.from fragment.range.to frame ordered fits in
    record {
      start = refl;
      end = ap (λ (n : ℕ). fragment.start + n) (there ∙ sym here);
      more = refl;
      octets =
          ap₂ (λ (n : ℕ) (l : List ℕ). take (fragment.start + n - fragment.start) l) there (drop_at one octets (length one) refl)
          ∙ sym (ap₂ (λ (n : ℕ) (l : List ℕ). take (fragment.start + n - fragment.start) l) here (drop_at other octets (length other) refl));
      within = omega (arith, length-append other octets, many, here, width);
    }

-- what frames give alike
abbrev GivesSame : Result course_spec.Given CaptureFault → Result course_spec.Given CaptureFault → Type 0
GivesSame (Ok one) (Ok other) = (one.datagram ≡ other.datagram) × alike.AreSettled one.notes other.notes
GivesSame (Ok one) (Err fault) = ⊥
GivesSame (Err fault) (Ok other) = ⊥
GivesSame (Err one) (Err other) = one ≡ other

-- with other numbers of frames
renumbered : (one other : course_spec.Notes) (change : Counts → Counts) → alike.AreSettled one other → alike.AreSettled (record one { counts = change one.counts }) (record other { counts = change other.counts })
renumbered one other change same = record { datagrams = same.datagrams; start = same.start; end = same.end; counts = ap change same.counts; recent = same.recent }

timed_same : (one other : course_spec.Notes) (frame : Frame) → alike.AreSettled one other → alike.AreSettled (course_spec.timed one frame) (course_spec.timed other frame)
timed_same one other frame same = record {
  datagrams = same.datagrams;
  start = ap (λ (t : Option ℕ). option_or t (frames.time_of frame)) same.start;
  end = ap (λ (t : Option ℕ). times.later_of t (frames.time_of frame)) same.end;
  counts = same.counts;
  recent = same.recent;
}

-- a datagram more
one_same : (one other : course_spec.Notes) (time : Option ℕ) (octets others : List ℕ) → alike.AreSettled one other → octets ≡ others
    → ((course_spec.gives_one one time octets).datagram ≡ (course_spec.gives_one other time others).datagram) × alike.AreSettled (course_spec.gives_one one time octets).notes (course_spec.gives_one other time others).notes
one_same one other time octets others same is = (
  ap₂ (λ (l : List ℕ) (n : ℕ). let there : course_spec.DatagramValue = record { octets = l; time = time; frame = n } in Some there) is (ap (λ (c : Counts). c.frames) same.counts),
  record { datagrams = ap (λ (n : ℕ). n + 1) same.datagrams; start = same.start; end = same.end; counts = same.counts; recent = same.recent },
)

-- a fragment was taken
joined_settled : (one other : course_spec.Notes) (key : FragmentKey) (first second : List ℕ) (a b : assembly.Joined) → alike.AreSettled one other
    → ((hosts : FragmentHosts) → alike.KeysAreMoved first second (one.recent hosts) (other.recent hosts)) → AreJoined first second a b → AreJoined second first b a
    → alike.AreSettled (course_spec.notes_joined one first key a) (course_spec.notes_joined other second key b)
joined_settled one other key first second a b same those joined back = record {
  datagrams = same.datagrams;
  start = same.start;
  end = same.end;
  counts = ap₂ (λ (c : Counts) (t : Taken). record c { fresh = c.fresh + (if t.fresh then 1 else 0); settled = c.settled + t.settled }) same.counts joined.taken;
  recent = λ hosts. by hosts (is_eq (recent.hosts_cmp (recent.hosts_of key) hosts));
}
  where
    by : (hosts : FragmentHosts) (here : Bool)
        → alike.KeysAreMoved first second (if here then recent.recent_with key.identification a.making (one.recent (recent.hosts_of key)) else one.recent hosts)
        (if here then recent.recent_with key.identification b.making (other.recent (recent.hosts_of key)) else other.recent hosts)
    by hosts true = (
      recent_alike first second key.identification a.making b.making (one.recent (recent.hosts_of key)) (other.recent (recent.hosts_of key)) joined.making (those (recent.hosts_of key)).0,
      recent_alike second first key.identification b.making a.making (other.recent (recent.hosts_of key)) (one.recent (recent.hosts_of key)) back.making (those (recent.hosts_of key)).1,
    )
    by hosts false = those hosts

given_settled : (one other : course_spec.Notes) (time : Option ℕ) (a b : assembly.Joined) (datagram : Option ByteRange) → alike.AreSettled one other → a.packet ≡ b.packet
    → ((course_spec.gives_joined one time a datagram).datagram ≡ (course_spec.gives_joined other time b datagram).datagram)
    × alike.AreSettled (course_spec.gives_joined one time a datagram).notes (course_spec.gives_joined other time b datagram).notes
given_settled one other time a b None same packet = (refl, same)
given_settled one other time a b (Some range) same packet =
    one_same one other time (slice_range a.packet range.from range.to) (slice_range b.packet range.from range.to) same (ap (λ (l : List ℕ). slice_range l range.from range.to) packet)

kept_settled : (one other : course_spec.Notes) (time : Option ℕ) (frame : List ℕ) (fragment : Fragment) → alike.AreSettled one other → fragment.range.from ≤ fragment.range.to → fragment.range.to ≤ length frame
    → let first = course_spec.gives_contents one time frame (Contents.Fragment fragment) in let second = course_spec.gives_contents other time frame (Contents.Fragment fragment) in
    (first.datagram ≡ second.datagram) × alike.AreSettled first.notes second.notes
kept_settled one other time frame fragment same ordered fits =
    subst (λ (datagram : Option ByteRange). let first_gives = course_spec.gives_joined (course_spec.notes_joined one first key a) time a a.taken.datagram in
    let second_gives = course_spec.gives_joined (course_spec.notes_joined other second key b) time b datagram in
    (first_gives.datagram ≡ second_gives.datagram) × alike.AreSettled first_gives.notes second_gives.notes) (ap (λ (t : Taken). t.datagram) joined.taken)
    (given_settled (course_spec.notes_joined one first key a) (course_spec.notes_joined other second key b) time a b a.taken.datagram (joined_settled one other key first second a b same those joined back) joined.packet)
  where
    key : FragmentKey
    key = fragment.key

    octets : List ℕ
    octets = slice_range frame fragment.range.from fragment.range.to

    first : List ℕ
    first = one.kept ++ octets

    second : List ℕ
    second = other.kept ++ octets

    those : (hosts : FragmentHosts) → alike.KeysAreMoved first second (one.recent hosts) (other.recent hosts)
    those hosts = both_grown one.kept other.kept octets octets (one.recent hosts) (other.recent hosts) (same.recent hosts)

    a : assembly.Joined
    a = course_spec.joined_in one first (course_spec.fragment_behind (length one.kept) fragment)

    b : assembly.Joined
    b = course_spec.joined_in other second (course_spec.fragment_behind (length other.kept) fragment)

    mine : Making
    mine = recent.making_in (one.recent (recent.hosts_of key)) key.identification

    theirs : Making
    theirs = recent.making_in (other.recent (recent.hosts_of key)) key.identification

    joined : AreJoined first second a b
    joined =
        taken_alike first second key mine theirs (pieces.piece_of (course_spec.fragment_behind (length one.kept) fragment)) (pieces.piece_of (course_spec.fragment_behind (length other.kept) fragment))
        (making_alike first second key.identification (one.recent (recent.hosts_of key)) (other.recent (recent.hosts_of key)) (those (recent.hosts_of key)).0) (fragment_alike one.kept other.kept frame fragment ordered fits)

    back : AreJoined second first b a
    back =
        taken_alike second first key theirs mine (pieces.piece_of (course_spec.fragment_behind (length other.kept) fragment)) (pieces.piece_of (course_spec.fragment_behind (length one.kept) fragment))
        (making_alike second first key.identification (other.recent (recent.hosts_of key)) (one.recent (recent.hosts_of key)) (those (recent.hosts_of key)).1) (fragment_alike other.kept one.kept frame fragment ordered fits)

contents_settled : (one other : course_spec.Notes) (time : Option ℕ) (frame : List ℕ) (found : Contents) → alike.AreSettled one other → Ends (length frame) found
    → ((course_spec.gives_contents one time frame found).datagram ≡ (course_spec.gives_contents other time frame found).datagram)
    × alike.AreSettled (course_spec.gives_contents one time frame found).notes (course_spec.gives_contents other time frame found).notes
contents_settled one other time frame (Contents.Datagram range) same ends =
    one_same one other time (slice_range frame range.from range.to) (slice_range frame range.from range.to) same refl
contents_settled one other time frame (Contents.Fragment fragment) same ends = kept_settled one other time frame fragment same ends.0 ends.2
contents_settled one other time frame Contents.Cut same ends = (refl, renumbered one other (λ counts. record counts { cut = counts.cut + 1 }) same)
contents_settled one other time frame Contents.Other same ends = (refl, renumbered one other (λ counts. record counts { other = counts.other + 1 }) same)

captured_settled : (captures : Captures) (octets : List ℕ) (one other : course_spec.Notes) (frame : CapturedFrame) → alike.AreSettled one other
    → ((course_spec.gives_captured captures octets one frame).datagram ≡ (course_spec.gives_captured captures octets other frame).datagram)
    × alike.AreSettled (course_spec.gives_captured captures octets one frame).notes (course_spec.gives_captured captures octets other frame).notes
unfolding course_spec.gives_captured
captured_settled captures octets one other frame same =
    let there = course_spec.frame_octets octets frame in
    contents_settled (course_spec.counted one) (course_spec.counted other) frame.time there (packets.contents_read captures frame.link there) (renumbered one other (λ counts. record counts { frames = counts.frames + 1 }) same)
    (read_ends captures frame.link there)

limited_settled : (most : ℕ) (one other : course_spec.Given) → one.datagram ≡ other.datagram → alike.AreSettled one.notes other.notes → GivesSame (course_spec.limited most one) (course_spec.limited most other)
limited_settled most one other datagram same =
    let test : nat_lt most one.notes.datagrams ≡ nat_lt most other.notes.datagrams = ap (nat_lt most) same.datagrams in rw test (by (nat_lt most other.notes.datagrams))
  where
    by : (over : Bool) → GivesSame (if over then Err CaptureFault.TooMany else Ok one) (if over then Err CaptureFault.TooMany else Ok other)
    by true = refl
    by false = (datagram, same)

frame_settled : (captures : Captures) (most : ℕ) (octets : List ℕ) (one other : course_spec.Notes) (frame : Frame) → alike.AreSettled one other
    → GivesSame (course_spec.frame_gives captures most octets one frame) (course_spec.frame_gives captures most octets other frame)
unfolding course_spec.frame_gives
frame_settled captures most octets one other (Frame.Captured frame) same =
    let mine = course_spec.timed one (Frame.Captured frame) in
    let theirs = course_spec.timed other (Frame.Captured frame) in
    let both = captured_settled captures octets mine theirs frame (timed_same one other (Frame.Captured frame) same) in
    limited_settled most (course_spec.gives_captured captures octets mine frame) (course_spec.gives_captured captures octets theirs frame) both.0 both.1
frame_settled captures most octets one other (Frame.Unread link time) same = (
  refl,
  renumbered (course_spec.timed one (Frame.Unread link time)) (course_spec.timed other (Frame.Unread link time))
      (λ counts. record counts { frames = counts.frames + 1; links = counts.links + 1; first_link = if counts.links == 0 then link else counts.first_link })
      (timed_same one other (Frame.Unread link time) same),
)
frame_settled captures most octets one other Frame.NoFrame same = (refl, timed_same one other Frame.NoFrame same)
frame_settled Captures.Classic most octets one other Frame.Rest same = ap (λ (c : Counts). CaptureFault.CutCapture (c.frames + 1)) same.counts
frame_settled Captures.Any most octets one other Frame.Rest same = (
  refl,
  renumbered (course_spec.timed one Frame.Rest) (course_spec.timed other Frame.Rest) (λ counts. record counts { frames = counts.frames + 1; cut = counts.cut + 1 }) (timed_same one other Frame.Rest same),
)
frame_settled captures most octets one other Frame.BadBlock same = refl
frame_settled captures most octets one other Frame.Damaged same = ap (λ (c : Counts). CaptureFault.Damaged (c.frames + 1)) same.counts
frame_settled captures most octets one other Frame.CutFrame same = ap (λ (c : Counts). CaptureFault.CutCapture (c.frames + 1)) same.counts

summary_settled : (one other : course_spec.Notes) → alike.AreSettled one other → course_spec.summary_of one ≡ course_spec.summary_of other
summary_settled one other same = ap₂ (λ (t : Option ℕ) (c : Counts). told t one.end c) same.start same.counts ∙ ap (λ (t : Option ℕ). told other.start t other.counts) same.end
  where
    told : Option ℕ → Option ℕ → Counts → Summary
    told start end counts = record {
      start = start;
      end = end;
      pieces = counts.fresh - counts.settled;
      cut = counts.cut;
      other = counts.other;
      links = counts.links;
      first_link = counts.first_link;
    }

frames_settled : (captures : Captures) (most : ℕ) (octets : List ℕ) (one other : course_spec.Notes) (frames : List Frame) → alike.AreSettled one other
    → course_spec.course_of_frames captures most octets one frames ≡ course_spec.course_of_frames captures most octets other frames
frames_settled captures most octets one other [] same =
    ap (λ (s : Summary). let course : course_spec.Course = record { datagrams = []; end = Ok s } in course) (summary_settled one other same)
frames_settled captures most octets one other (frame ∷ frames) same =
    by (course_spec.frame_gives captures most octets one frame) (course_spec.frame_gives captures most octets other frame) (frame_settled captures most octets one other frame same)
    (λ mine theirs settled. frames_settled captures most octets mine theirs frames settled)
  where
    rest : course_spec.Notes → course_spec.Course
    rest notes = course_spec.course_of_frames captures most octets notes frames

    by : (a b : Result course_spec.Given CaptureFault) → GivesSame a b → ((mine theirs : course_spec.Notes) → alike.AreSettled mine theirs → rest mine ≡ rest theirs) → course_spec.course_with a rest ≡ course_spec.course_with b rest
    by (Ok a) (Ok b) gives more =
        ap₂ (λ (datagram : Option course_spec.DatagramValue) (course : course_spec.Course). let whole : course_spec.Course = record { datagrams = option_to_list datagram ++ course.datagrams; end = course.end } in whole) gives.0
        (more a.notes b.notes gives.1)
    by (Ok a) (Err b) gives more = absurd gives
    by (Err a) (Ok b) gives more = absurd gives
    by (Err a) (Err b) gives more = ap (λ (f : CaptureFault). let whole : course_spec.Course = record { datagrams = []; end = Err f } in whole) gives

pub course_settled : (most : ℕ) (one other : course_spec.Notes) (unread : frames.Unread) → alike.Settles one other → course_spec.course_left most one unread ≡ course_spec.course_left most other unread
unfolding course_spec.course_left
course_settled most one other unread (inl same) = ap (λ (notes : course_spec.Notes). course_spec.course_of_frames unread.captures most unread.octets notes (frames.frames_left unread)) (sym same)
course_settled most one other unread (inr same) = frames_settled unread.captures most unread.octets one other (frames.frames_left unread) same
