-- What was read so far is sound, frame by frame: what is kept came in fragments, and what was given was carried.
use Rattle.std.proofs.Common.{◌≡◌, ℕ, ◌+◌, ◌-◌, ◌≤◌, Bool, true, false, List, [], ◌∷◌, ◌++◌, length, drop, take, refl, sym, ap, ap₂, subst, ◌∙◌, inl, append_assoc, append-nil, arith}
use Rattle.std.specs.Prelude.{IfSome, None, Option, Some, Ok, Err, Result, nat_eq, nat_lt, if◌then◌else◌, option_map, option_to_list, slice_range}
use Rattle.std.specs.List.{AllByRecursion}
use Rattle.std.specs.Ordering.{is_eq}
use Rattle.std.proofs.lemmas.Bool.Decides.{nat_tests}
use Rattle.std.proofs.Math.Seq.{drop-append-add}
use Rattle.std.proofs.lemmas.List.{length-append}
use Rattle.rtps_capture.specs.Capture as capture
use Rattle.rtps_capture.specs.Frames as frames_spec
use Rattle.rtps_capture.specs.Assembly as assembly
use Rattle.rtps_capture.specs.Packets as packets
use Rattle.rtps_capture.specs.Pieces as pieces
use Rattle.rtps_capture.specs.Recent as recent_spec
use Rattle.rtps_capture.specs.Sent as sent
use Rattle.rtps_capture.specs.declared.capture.CaptureFault.{CaptureFault}
use Rattle.rtps_capture.specs.declared.captures.Captures.{Captures}
use Rattle.rtps_capture.specs.declared.frames.CapturedFrame.{CapturedFrame}
use Rattle.rtps_capture.specs.declared.frames.Frame.{Frame}
use Rattle.rtps_capture.specs.declared.byte_range.ByteRange.{ByteRange}
use Rattle.rtps_capture.specs.declared.packet.Contents.{Contents}
use Rattle.rtps_capture.specs.declared.fragment.Fragment.{Fragment}
use Rattle.rtps_capture.specs.declared.assembly.KeyedMaking.{KeyedMaking}
use Rattle.rtps_capture.specs.declared.assembly.Making.{Making}
use Rattle.rtps_capture.specs.declared.fragment.FragmentHosts.{FragmentHosts}
use Rattle.rtps_capture.specs.declared.fragment.FragmentKey.{FragmentKey}
use Rattle.rtps_capture.specs.declared.layout.packet.TheConstants as packet_4
use Rattle.rtps_capture.proofs.ComingLemmas.{slice_range-append}
use Rattle.rtps_capture.proofs.Offered.{or_fault_ok}
use Rattle.rtps_capture.proofs.PacketLemmas.{Ends, in_file}
use Rattle.rtps_capture.proofs.RecentLemmas.{all_take, all_without, hosts_same}
use Rattle.rtps_capture.proofs.SentLemmas.{AreOf, IsOf, JoinedSound, taken_sound}

-- a datagram stands in the file and what is behind it, and was carried
abbrev pub IsSound : List ℕ → List Contents → List ℕ → ByteRange → Type 0
IsSound file frames behind range =
    (range.from ≤ range.to) × (range.to ≤ length file + length behind) × sent.WasCarried file frames (slice_range (file ++ behind) range.from range.to)

abbrev pub AreSound : List ℕ → List Contents → List ℕ → List ByteRange → Type 0
AreSound file frames behind [] = Unit {0}
AreSound file frames behind (range ∷ ranges) = IsSound file frames behind range × AreSound file frames behind ranges

-- the key of these hosts with this identification
abbrev pub key_of : FragmentHosts → ℕ → FragmentKey
key_of hosts identification = record { identification = identification; version = hosts.version; source = hosts.source; destination = hosts.destination }

-- what waits of a key of these hosts came in fragments of it
abbrev pub IsRecent : List ℕ → List Contents → FragmentHosts → KeyedMaking → Type 0
IsRecent file frames hosts one = AreOf file frames (key_of hosts one.identification) one.making.making

abbrev pub AreRecent : List ℕ → List Contents → FragmentHosts → List KeyedMaking → Type 0
AreRecent file frames hosts recent = AllByRecursion (IsRecent file frames hosts) recent

number_same : (a b : ℕ) → nat_eq a b ≡ true → a ≡ b
number_same a b is = grind (arith, nat_tests)

-- so did what waits of one of them, or nothing does
making_sound : (file : List ℕ) (frames : List Contents) (hosts : FragmentHosts) (identification : ℕ) (recent : List KeyedMaking) → AreRecent file frames hosts recent
    → AreOf file frames (key_of hosts identification) (recent_spec.making_in recent identification).making
making_sound file frames hosts identification [] all = tt
making_sound file frames hosts identification (one ∷ recent) all = by (recent_spec.is_of identification one) refl (making_sound file frames hosts identification recent all.1)
  where
    by : (here : Bool) → recent_spec.is_of identification one ≡ here → AreOf file frames (key_of hosts identification) (recent_spec.making_in recent identification).making
        → AreOf file frames (key_of hosts identification) (if here then one.making else recent_spec.making_in recent identification).making
    by true is rest = subst (λ (n : ℕ). AreOf file frames (key_of hosts n) one.making.making) (number_same one.identification identification is) all.0
    by false is rest = rest

with_sound : (file : List ℕ) (frames : List Contents) (hosts : FragmentHosts) (identification : ℕ) (making : Making) (recent : List KeyedMaking)
    → AreOf file frames (key_of hosts identification) making.making → AreRecent file frames hosts recent → AreRecent file frames hosts (recent_spec.recent_with identification making recent)
with_sound file frames hosts identification making recent one all =
    all_take (IsRecent file frames hosts) packet_4.MOST_KEPT (record { identification = identification; making = making } ∷ recent_spec.without (recent_spec.is_of identification) recent)
    (one, all_without (IsRecent file frames hosts) (recent_spec.is_of identification) recent all)

pub record Sound (file : List ℕ) (frames : List Contents) (so_far : capture.Collected) : Type 0 where
  pub keys : (hosts : FragmentHosts) → AreRecent file frames hosts (so_far.recent hosts)
  pub carried : AreSound file frames so_far.behind so_far.datagrams

-- what stands there stays, whatever comes behind it
one_grown : (file : List ℕ) (frames : List Contents) (behind more : List ℕ) (range : ByteRange) → IsSound file frames behind range → IsSound file frames (behind ++ more) range
one_grown file frames behind more range sound =
    let size = length-append behind more in
    let front = length-append file behind in
    let same : slice_range (file ++ (behind ++ more)) range.from range.to ≡ slice_range (file ++ behind) range.from range.to =
    ap (λ (l : List ℕ). slice_range l range.from range.to) (sym (append_assoc file behind more)) ∙ slice_range-append range.from range.to (file ++ behind) more sound.0 (omega (arith, sound.1, front)) in
    (sound.0, omega (arith, sound.1, size), subst (sent.WasCarried file frames) (sym same) sound.2)

grown : (file : List ℕ) (frames : List Contents) (behind more : List ℕ) (ranges : List ByteRange) → AreSound file frames behind ranges → AreSound file frames (behind ++ more) ranges
grown file frames behind more [] all = tt
grown file frames behind more (range ∷ ranges) all = (one_grown file frames behind more range all.0, grown file frames behind more ranges all.1)

pushed : (file : List ℕ) (frames : List Contents) (behind : List ℕ) (ranges : List ByteRange) (range : ByteRange) → AreSound file frames behind ranges → IsSound file frames behind range
    → AreSound file frames behind (ranges ++ range ∷ [])
pushed file frames behind [] range all one = (one, tt)
pushed file frames behind (first ∷ ranges) range all one = (all.0, pushed file frames behind ranges range all.1 one)

with_option : (file : List ℕ) (frames : List Contents) (behind : List ℕ) (ranges : List ByteRange) (datagram : Option ByteRange) → AreSound file frames behind ranges
    → IfSome datagram (IsSound file frames behind) → AreSound file frames behind (ranges ++ option_to_list datagram)
with_option file frames behind ranges None all one = subst (AreSound file frames behind) (sym (append-nil ranges)) all
with_option file frames behind ranges (Some range) all one = pushed file frames behind ranges range all one

-- what stands in a packet stands behind the file and the packets before it
pub in_packet : (file behind packet : List ℕ) (range : ByteRange)
    → slice_range (file ++ (behind ++ packet)) (length file + length behind + range.from) (length file + length behind + range.to) ≡ slice_range packet range.from range.to
in_packet file behind packet range =
    let at = length file + length behind in
    let all : file ++ (behind ++ packet) ≡ (file ++ behind) ++ packet = sym (append_assoc file behind packet) in
    let size : length (file ++ behind) ≡ at = length-append file behind in
    let front : drop (at + range.from) (file ++ (behind ++ packet)) ≡ drop range.from packet =
    ap₂ (λ (n : ℕ) (l : List ℕ). drop (n + range.from) l) (sym size) all ∙ drop-append-add (file ++ behind) packet range.from in
    let width : (at + range.to) - (at + range.from) ≡ range.to - range.from = omega arith in ap₂ (λ (k : ℕ) (l : List ℕ). take k l) width front

given_behind : (file : List ℕ) (frames : List Contents) (behind packet : List ℕ) (datagram : Option ByteRange)
    → IfSome datagram (λ range. (range.from ≤ range.to) × (range.to ≤ length packet) × sent.WasCarried file frames (slice_range packet range.from range.to))
    → IfSome (option_map (packets.moved_range (length file + length behind)) datagram) (IsSound file frames (behind ++ packet))
given_behind file frames behind packet None gives = tt
given_behind file frames behind packet (Some range) gives =
    let size = length-append behind packet in
    (omega (arith, gives.0), omega (arith, gives.1, size), subst (sent.WasCarried file frames) (sym (in_packet file behind packet range)) gives.2)

fragment_sound : (file : List ℕ) (frames : List Contents) (time : Option ℕ) (so_far : capture.Collected) (fragment : Fragment) → sent.StandsAmong frames (Contents.Fragment fragment)
    → Sound file frames so_far → Sound file frames (capture.with_contents file time so_far (Contents.Fragment fragment))
fragment_sound file frames time so_far fragment stands sound = record {
  keys = λ other. by other (is_eq (recent_spec.hosts_cmp (recent_spec.hosts_of fragment.key) other)) refl;
  carried = with_option file frames (so_far.behind ++ joined.packet) so_far.datagrams (option_map (packets.moved_range (length file + length so_far.behind)) joined.taken.datagram)
      (grown file frames so_far.behind joined.packet so_far.datagrams sound.carried)
      (given_behind file frames so_far.behind joined.packet joined.taken.datagram left.gives);
}
  where
    joined : assembly.Joined
    joined = assembly.taken_piece file fragment.key (capture.remembered so_far fragment.key) (pieces.piece_of fragment)

    one : IsOf file frames fragment.key (pieces.piece_of fragment)
    one = record {
      fragment = fragment;
      same_key = refl;
      stands = stands;
      is = refl;
    }

    left : JoinedSound file frames fragment.key joined
    left =
        taken_sound file frames fragment.key (capture.remembered so_far fragment.key) (pieces.piece_of fragment)
        (making_sound file frames (recent_spec.hosts_of fragment.key) fragment.key.identification (so_far.recent (recent_spec.hosts_of fragment.key)) (sound.keys (recent_spec.hosts_of fragment.key))) one

    new : List KeyedMaking
    new = recent_spec.recent_with fragment.key.identification joined.making (so_far.recent (recent_spec.hosts_of fragment.key))

    by : (other : FragmentHosts) (here : Bool) → is_eq (recent_spec.hosts_cmp (recent_spec.hosts_of fragment.key) other) ≡ here
        → AreRecent file frames other (if here then new else so_far.recent other)
    by other true is =
        subst (λ (hosts : FragmentHosts). AreRecent file frames hosts new) (hosts_same (recent_spec.hosts_of fragment.key) other is)
        (with_sound file frames (recent_spec.hosts_of fragment.key) fragment.key.identification joined.making (so_far.recent (recent_spec.hosts_of fragment.key)) left.are (sound.keys (recent_spec.hosts_of fragment.key)))
    by other false is = sound.keys other

contents_sound : (file : List ℕ) (frames : List Contents) (time : Option ℕ) (so_far : capture.Collected) (contents : Contents) → sent.StandsAmong frames contents → Ends (length file) contents
    → Sound file frames so_far → Sound file frames (capture.with_contents file time so_far contents)
contents_sound file frames time so_far (Contents.Datagram range) stands within sound =
    let same = slice_range-append range.from range.to file so_far.behind within.0 within.2 in
    record {
      keys = sound.keys;
      carried = pushed file frames so_far.behind so_far.datagrams range sound.carried (within.0, omega (arith, within.2), inl (range, stands, same));
    }
contents_sound file frames time so_far (Contents.Fragment fragment) stands within sound = fragment_sound file frames time so_far fragment stands sound
contents_sound file frames time so_far Contents.Cut stands within sound = record { keys = sound.keys; carried = sound.carried }
contents_sound file frames time so_far Contents.Other stands within sound = record { keys = sound.keys; carried = sound.carried }

-- all that these frames contain stands among so many
abbrev pub StandAmong : Captures → List ℕ → List Contents → List Frame → Type 0
StandAmong captures file all [] = Unit {0}
StandAmong captures file all (Frame.Captured frame ∷ frames) = sent.StandsAmong all (capture.contents_in captures file frame) × StandAmong captures file all frames
StandAmong captures file all (other ∷ frames) = StandAmong captures file all frames

-- a frame that contains what stands there
captured_sound : (captures : Captures) (file : List ℕ) (frames : List Contents) (most : ℕ) (so_far next : capture.Collected) (frame : CapturedFrame)
    → sent.StandsAmong frames (capture.contents_in captures file frame) → Sound file frames so_far
    → capture.noted captures file most so_far (Frame.Captured frame) ≡ Ok next → Sound file frames next
unfolding capture.noted capture.collected
captured_sound captures file frames most so_far next frame among sound is = by (nat_lt most (length there.datagrams)) is
  where
    before : capture.Collected
    before = capture.timed so_far (Frame.Captured frame)

    there : capture.Collected
    there = capture.collected file frame.time before (capture.contents_in captures file frame)

    one : Sound file frames (capture.with_frame before)
    one = record { keys = sound.keys; carried = sound.carried }

    sound_there : Sound file frames there
    sound_there = contents_sound file frames frame.time (capture.with_frame before) (capture.contents_in captures file frame) among (in_file captures file frame) one

    by : (over : Bool) → (if over then Err CaptureFault.TooMany else Ok there) ≡ Ok next → Sound file frames next
    by true same = let no = same in cc
    by false same = let found : there ≡ next = cc in subst (Sound file frames) found sound_there

rest_sound : (captures : Captures) (file : List ℕ) (frames : List Contents) (so_far next : capture.Collected) → Sound file frames so_far
    → capture.with_rest captures file so_far ≡ Ok next → Sound file frames next
unfolding capture.collected
rest_sound Captures.Classic file frames so_far next sound is = let no = is in cc
rest_sound Captures.Any file frames so_far next sound is =
    let same : capture.collected file None so_far Contents.Cut ≡ next = cc in subst (Sound file frames) same (record { keys = sound.keys; carried = sound.carried })

-- a time changes nothing of it
timed_sound : (file : List ℕ) (frames : List Contents) (so_far : capture.Collected) (frame : Frame) → Sound file frames so_far → Sound file frames (capture.timed so_far frame)
timed_sound file frames so_far frame sound = record { keys = sound.keys; carried = sound.carried }

-- all that are still to come keep it sound
sound_all : (captures : Captures) (file : List ℕ) (frames : List Contents) (most : ℕ) (rest : List Frame) (so_far last : capture.Collected)
    → StandAmong captures file frames rest → Sound file frames so_far → capture.all_noted captures file most so_far rest ≡ Ok last → Sound file frames last
unfolding capture.noted
sound_all captures file frames most [] so_far last among sound is = let same : so_far ≡ last = cc in subst (Sound file frames) same sound
sound_all captures file frames most (Frame.Captured frame ∷ rest) so_far last among sound is =
    let first = or_fault_ok (capture.noted captures file most so_far (Frame.Captured frame)) (λ one. capture.all_noted captures file most one rest) last is in
    sound_all captures file frames most rest first.0 last among.1 (captured_sound captures file frames most so_far first.0 frame among.0 sound first.1) first.2
sound_all captures file frames most (Frame.Unread link time ∷ rest) so_far last among sound is =
    let before = capture.timed so_far (Frame.Unread link time) in
    sound_all captures file frames most rest (capture.with_link (capture.with_frame before) link) last among (record { keys = sound.keys; carried = sound.carried }) is
sound_all captures file frames most (Frame.NoFrame ∷ rest) so_far last among sound is =
    sound_all captures file frames most rest (capture.timed so_far Frame.NoFrame) last among (timed_sound file frames so_far Frame.NoFrame sound) is
sound_all captures file frames most (Frame.Rest ∷ rest) so_far last among sound is =
    let before = capture.timed so_far Frame.Rest in
    let first = or_fault_ok (capture.with_rest captures file before) (λ one. capture.all_noted captures file most one rest) last is in
    sound_all captures file frames most rest first.0 last among (rest_sound captures file frames before first.0 (timed_sound file frames so_far Frame.Rest sound) first.1) first.2
sound_all captures file frames most (fault ∷ rest) so_far last among sound is = let no = is in cc

-- the contents of frames stand among the contents of all
all_among : (captures : Captures) (file : List ℕ) (seen : List Contents) (rest : List Frame) → StandAmong captures file (seen ++ sent.contents_among captures file rest) rest
all_among captures file seen [] = tt
all_among captures file seen (Frame.Captured frame ∷ rest) =
    let one = capture.contents_in captures file frame in
    let more = sent.contents_among captures file rest in (
      (seen, more, refl),
      subst (λ (all : List Contents). StandAmong captures file all rest) (append_assoc seen (one ∷ []) more) (all_among captures file (seen ++ one ∷ []) rest),
    )
all_among captures file seen (other ∷ rest) = all_among captures file seen rest

all_carried : (file : List ℕ) (frames : List Contents) (behind : List ℕ) (ranges : List ByteRange) → AreSound file frames behind ranges → sent.AllWereCarried file frames behind ranges
all_carried file frames behind [] sound = tt
all_carried file frames behind (range ∷ ranges) sound = (sound.0.2, all_carried file frames behind ranges sound.1)

pub each_carried : (captures : Captures) (most : ℕ) (file : List ℕ) (unread : frames_spec.Unread) (answer : capture.Answer) → frames_spec.opened captures file ≡ Some unread
    → capture.capture_read captures most file ≡ Ok answer
    → sent.AllWereCarried unread.octets (sent.contents_among captures unread.octets (frames_spec.frames_left unread)) answer.behind answer.datagrams
unfolding capture.capture_read
each_carried captures most file unread answer begins is = by (capture.all_noted captures unread.octets most capture.nothing left) refl (sym (ap (capture.opened_read captures most) begins) ∙ is)
  where
    left : List Frame
    left = frames_spec.frames_left unread

    frames : List Contents
    frames = sent.contents_among captures unread.octets left

    by : (result : Result capture.Collected CaptureFault) → capture.all_noted captures unread.octets most capture.nothing left ≡ result → capture.answered result ≡ Ok answer
        → sent.AllWereCarried unread.octets frames answer.behind answer.datagrams
    by (Err fault) was holds = let no = holds in cc
    by (Ok last) was holds =
        let same : capture.answer_of last ≡ answer = cc in
        let sound = sound_all captures unread.octets frames most left capture.nothing last (all_among captures unread.octets [] left) (record { keys = λ key. tt; carried = tt }) was in
        subst (λ (a : capture.Answer). sent.AllWereCarried unread.octets frames a.behind a.datagrams) same (all_carried unread.octets frames last.behind last.datagrams sound.carried)
