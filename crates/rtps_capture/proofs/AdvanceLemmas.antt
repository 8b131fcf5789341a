-- A reader of captures goes on by the course of what is left.
use Rattle.std.proofs.Common.{◌≡◌, ◌≤◌, ◌+◌, ◌⊎◌, ℕ, true, false, List, [], ◌++◌, length, refl, sym, subst, ap, ap₂, ◌∙◌, append_assoc}
use Rattle.std.specs.Prelude.{None, Option, Some, Result, Ok, Err, option_map}
use Rattle.std.specs.Option.{is_some}
use Rattle.rtps_capture.specs.Advancing as advancing
use Rattle.rtps_capture.specs.Alike as alike
use Rattle.rtps_capture.specs.Capture as capture
use Rattle.rtps_capture.specs.Course as course_spec
use Rattle.rtps_capture.specs.Frames as frames_spec
use Rattle.rtps_capture.specs.Held as held_spec
use Rattle.rtps_capture.specs.Left as left_spec
use Rattle.rtps_capture.specs.Noting as noting
use Rattle.rtps_capture.specs.Opening as opening
use Rattle.rtps_capture.specs.declared.capture.CaptureFault.{CaptureFault}
use Rattle.rtps_capture.specs.declared.captures.Captures.{Captures}
use Rattle.rtps_capture.specs.declared.frames.Frame.{Frame}
use Rattle.rtps_capture.specs.declared.frames.Frames.{Frames}
use Rattle.rtps_capture.specs.declared.notes.Found.{Found}
use Rattle.rtps_capture.specs.declared.notes.Notes.{Notes as NotesStruct}
use Rattle.rtps_capture.specs.declared.read_fault.ReadFault.{ReadFault}
use Rattle.rtps_capture.proofs.CourseLemmas.{course_ends, course_given}
use Rattle.rtps_capture.proofs.HeldLemmas.{may_come, reads_none, reads_on}
use Rattle.rtps_capture.proofs.LeftLemmas.{opened_so, unopened_so}
use Rattle.rtps_capture.proofs.SettledLemmas.{course_settled}

-- frames were read that gave no datagram: what is told behind them is what was told
pub record GoesOn (unread left : Option (List ℕ)) (one : NotesStruct) (old : held_spec.HeldValue) (before : Frames) (other : NotesStruct) (new : held_spec.HeldValue) (after : Frames) : Type 0 where
  pub more : List ℕ
  pub reads : held_spec.Reads unread left old new more
  pub same : (later : List ℕ) → held_spec.MayCome new later → advancing.course_at one old before (more ++ later) ≡ advancing.course_at other new after later

pub goes_nowhere : (unread : Option (List ℕ)) (notes : NotesStruct) (held : held_spec.HeldValue) (frames : Frames) → GoesOn unread unread notes held frames notes held frames
goes_nowhere unread notes held frames = record { more = []; reads = reads_none unread held; same = λ later may. refl }

-- a frame was given behind them, and what was noted was settled
pub record Gave (unread left : Option (List ℕ)) (one : NotesStruct) (old : held_spec.HeldValue) (before : Frames) (captures : Captures) (notes : NotesStruct) (frame : Frame) (new : held_spec.HeldValue) (after : Frames) : Type 0 where
  pub more : List ℕ
  pub reads : held_spec.Reads unread left old new more
  pub goes : (later : List ℕ) → held_spec.MayCome new later
      → advancing.course_at one old before (more ++ later)
      ≡ course_spec.course_with (course_spec.frame_gives captures notes.most new.octets (noting.notes_of notes) frame) (λ next. course_spec.course_left notes.most next (frames_spec.unread_of (new.octets ++ later) after))

pub frame_gave : (a b c : Option (List ℕ)) (one other settled : NotesStruct) (x y z : held_spec.HeldValue) (f g h : Frames) (frame : Frame) (captures : Captures) → GoesOn a b one x f other y g
    → left_spec.GivesNext b c y z g h (Some frame) → frames_spec.StandsInFile (length z.octets) frame → captures ≡ g.captures → alike.Settles (noting.notes_of other) (noting.notes_of settled)
    → settled.most ≡ other.most → Gave a c one x f captures settled frame z h
frame_gave a b c one other settled x y z f g h frame captures so next stands same settles most = record {
  more = so.more ++ next.more;
  reads = reads_on a b c x y z so.more next.more so.reads next.reads;
  goes = λ later may.
      let there = frames_spec.unread_of (y.octets ++ (next.more ++ later)) g in
      let gives = next.gives later may in
      ap (advancing.course_at one x f) (append_assoc so.more next.more later) ∙ so.same (next.more ++ later) (may_come b c y z next.more later next.reads may)
      ∙ course_settled other.most (noting.notes_of other) (noting.notes_of settled) there settles
      ∙ ap (λ (n : ℕ). course_spec.course_left n (noting.notes_of settled) there) (sym most)
      ∙ course_given settled.most (noting.notes_of settled) there (frames_spec.unread_of (z.octets ++ later) h) z.octets later frame gives.0 gives.1 refl stands
      ∙ ap (λ (those : Captures). course_spec.course_with (course_spec.frame_gives those settled.most z.octets (noting.notes_of settled) frame) (λ after. course_spec.course_left settled.most after (frames_spec.unread_of (z.octets ++ later) h))) (sym same);
}

-- what is told with what the frame gave
with_given : (a b : Option (List ℕ)) (one notes : NotesStruct) (x z : held_spec.HeldValue) (f h : Frames) (captures : Captures) (frame : Frame) (given : Result course_spec.Given CaptureFault) (gave : Gave a b one x f captures notes frame z h)
    → course_spec.frame_gives captures notes.most z.octets (noting.notes_of notes) frame ≡ given → (later : List ℕ) → held_spec.MayCome z later
    → advancing.course_at one x f (gave.more ++ later) ≡ course_spec.course_with given (λ next. course_spec.course_left notes.most next (frames_spec.unread_of (z.octets ++ later) h))
with_given a b one notes x z f h captures frame given gave is later may =
    gave.goes later may ∙ ap (λ (g : Result course_spec.Given CaptureFault). course_spec.course_with g (λ next. course_spec.course_left notes.most next (frames_spec.unread_of (z.octets ++ later) h))) is

pub none_found : (found : Option Found) → is_some found ≡ false → found ≡ None
none_found None is = refl
none_found (Some found) is = absurd cc

-- it gave no datagram
pub gave_none : (a b : Option (List ℕ)) (one notes new : NotesStruct) (x z : held_spec.HeldValue) (f h : Frames) (captures : Captures) (frame : Frame) (found : Option Found) → Gave a b one x f captures notes frame z h
    → new.most ≡ notes.most → course_spec.frame_gives captures notes.most z.octets (noting.notes_of notes) frame ≡ Ok (record { datagram = option_map (noting.datagram_at z.octets new.packet.items) found; notes = noting.notes_of new })
    → is_some found ≡ false → GoesOn a b one x f new z h
gave_none a b one notes new x z f h captures frame (Some found) gave most noted is = absurd cc
gave_none a b one notes new x z f h captures frame None gave most noted is = record {
  more = gave.more;
  reads = gave.reads;
  same = λ later may.
      with_given a b one notes x z f h captures frame (Ok (record { datagram = None; notes = noting.notes_of new })) gave noted later may
      ∙ ap (λ (n : ℕ). course_spec.course_left n (noting.notes_of new) (frames_spec.unread_of (z.octets ++ later) h)) (sym most);
}

-- it gave one
pub gave_one : (a b : Option (List ℕ)) (one notes new : NotesStruct) (x z : held_spec.HeldValue) (f h : Frames) (captures : Captures) (frame : Frame) (found : Option Found) (gave : Gave a b one x f captures notes frame z h)
    → new.most ≡ notes.most → course_spec.frame_gives captures notes.most z.octets (noting.notes_of notes) frame ≡ Ok (record { datagram = option_map (noting.datagram_at z.octets new.packet.items) found; notes = noting.notes_of new })
    → is_some found ≡ true → (later : List ℕ) → held_spec.MayCome z later
    → advancing.Tells (Ok true) (advancing.course_at one x f (gave.more ++ later)) (advancing.course_at new z h later) (course_spec.summary_of (noting.notes_of new)) (noting.found_datagram z.octets new found)
gave_one a b one notes new x z f h captures frame None gave most noted is later may = absurd cc
gave_one a b one notes new x z f h captures frame (Some found) gave most noted is later may =
    let datagram = noting.datagram_at z.octets new.packet.items found in
    with_given a b one notes x z f h captures frame (Ok (record { datagram = Some datagram; notes = noting.notes_of new })) gave noted later may
    ∙ ap (λ (n : ℕ). course_spec.course_with (Ok (record { datagram = Some datagram; notes = noting.notes_of new })) (λ next. course_spec.course_left n next (frames_spec.unread_of (z.octets ++ later) h))) (sym most)

-- it gave a fault
abbrev pub Faults : (unread left : Option (List ℕ)) → NotesStruct → held_spec.HeldValue → Frames → NotesStruct → held_spec.HeldValue → Frames → CaptureFault → Type 0
Faults unread left one old before other new after fault =
    (more : List ℕ) × held_spec.Reads unread left old new more
    × ((later : List ℕ) → held_spec.MayCome new later → advancing.course_at one old before (more ++ later) ≡ record { datagrams = []; end = Err fault })

pub gave_fault : (a b : Option (List ℕ)) (one notes new : NotesStruct) (x z : held_spec.HeldValue) (f h : Frames) (captures : Captures) (frame : Frame) (fault : CaptureFault) (Told : Type 0) → Gave a b one x f captures notes frame z h
    → capture.IsFault (course_spec.frame_gives captures notes.most z.octets (noting.notes_of notes) frame) fault → (Faults a b one x f new z h fault → Told)
    → advancing.IfTold (Err (ReadFault.Capture fault)) Told
gave_fault a b one notes new x z f h captures frame fault Told gave faulty told = by fault refl faulty
  where
    given : Result course_spec.Given CaptureFault
    given = course_spec.frame_gives captures notes.most z.octets (noting.notes_of notes) frame

    faults : (is : CaptureFault) → is ≡ fault → given ≡ Err is → Told
    faults is same ends =
        told (subst (λ (of : CaptureFault). Faults a b one x f new z h of) same (gave.more, gave.reads, λ later may. with_given a b one notes x z f h captures frame (Err is) gave ends later may))

    by : (is : CaptureFault) → is ≡ fault → capture.IsFault given is → advancing.IfTold (Err (ReadFault.Capture is)) Told
    by CaptureFault.BadCapture same ends = faults CaptureFault.BadCapture same ends
    by (CaptureFault.Damaged number) same ends = faults (CaptureFault.Damaged number) same ends
    by (CaptureFault.CutCapture number) same ends = faults (CaptureFault.CutCapture number) same ends
    by CaptureFault.TooMany same ends = faults CaptureFault.TooMany same ends
    by CaptureFault.Memory same ends = tt

-- a fault that says nothing of the capture
pub open_told : (fault : ReadFault) (Told : Type 0) → left_spec.IsOpenFault fault → advancing.IfTold (Err fault) Told
open_told ReadFault.Input Told is = tt
open_told (ReadFault.Capture fault) Told is = subst (λ (of : CaptureFault). advancing.IfTold (Err (ReadFault.Capture of)) Told) (sym is) tt

-- no frame is left behind them
pub none_left : (a b c : Option (List ℕ)) (one other : NotesStruct) (x y z : held_spec.HeldValue) (f g h : Frames) (so : GoesOn a b one x f other y g) (next : left_spec.GivesNext b c y z g h None)
    → (later : List ℕ) → held_spec.MayCome z later
    → advancing.course_at one x f ((so.more ++ next.more) ++ later) ≡ record { datagrams = []; end = Ok (course_spec.summary_of (noting.notes_of other)) }
none_left a b c one other x y z f g h so next later may =
    ap (advancing.course_at one x f) (append_assoc so.more next.more later) ∙ so.same (next.more ++ later) (may_come b c y z next.more later next.reads may)
    ∙ course_ends other.most (noting.notes_of other) (frames_spec.unread_of (y.octets ++ (next.more ++ later)) g) (next.gives later may).0

-- ---- an input is opened

-- what was read of it
pub begins : (unread left : Option (List ℕ)) (first held : held_spec.HeldValue) (begun : List ℕ) → first ≡ record { octets = begun; read = length begun; ended = false } → (fills : held_spec.Fills unread left first held)
    → advancing.Begins unread left begun fills.more held.read held.ended
begins unread left first held begun is fills =
    let ended : first.ended ≡ false = ap (λ (h : held_spec.HeldValue). h.ended) is in
    record {
      taken = fills.reads.taken;
      counted = fills.reads.counted ∙ ap (λ (h : held_spec.HeldValue). h.read + length fills.more) is;
      at_end = fills.reads.at_end (λ was. absurd cc);
    }

-- it is what is held, with what comes later
file_is : (unread left : Option (List ℕ)) (first held : held_spec.HeldValue) (begun later : List ℕ) → first ≡ record { octets = begun; read = length begun; ended = false } → (fills : held_spec.Fills unread left first held)
    → begun ++ (fills.more ++ later) ≡ held.octets ++ later
file_is unread left first held begun later is fills =
    sym (append_assoc begun fills.more later) ∙ ap (λ (l : List ℕ). l ++ later) (sym (fills.octets ∙ ap (λ (h : held_spec.HeldValue). h.octets ++ fills.more) is))

pub opens_so : (unread left : Option (List ℕ)) (first held : held_spec.HeldValue) (begun : List ℕ) (captures : Captures) (most : ℕ) (notes : NotesStruct) (frames : Frames)
    → first ≡ record { octets = begun; read = length begun; ended = false } → (fills : held_spec.Fills unread left first held)
    → (opening.opening_needed captures held.octets ≤ length held.octets) ⊎ (held.ended ≡ true) → frames_spec.opened captures held.octets ≡ Some (frames_spec.unread_of held.octets frames)
    → noting.notes_of notes ≡ course_spec.no_notes → notes.most ≡ most → (later : List ℕ) → held_spec.MayCome held later
    → course_spec.course_of captures most (begun ++ (fills.more ++ later)) ≡ advancing.course_at notes held frames later
unfolding course_spec.course_of
opens_so unread left first held begun captures most notes frames is fills enough opened none same later may =
    ap (λ (l : List ℕ). course_spec.course_opened most (frames_spec.opened captures l)) (file_is unread left first held begun later is fills)
    ∙ ap (course_spec.course_opened most) (opened_so captures held frames later enough may opened)
    ∙ ap₂ (λ (n : ℕ) (with_notes : course_spec.Notes). course_spec.course_left n with_notes (frames_spec.unread_of (held.octets ++ later) frames)) (sym same) (sym none)

pub opens_not : (unread left : Option (List ℕ)) (first held : held_spec.HeldValue) (begun : List ℕ) (captures : Captures) (most : ℕ)
    → first ≡ record { octets = begun; read = length begun; ended = false } → (fills : held_spec.Fills unread left first held)
    → (opening.opening_needed captures held.octets ≤ length held.octets) ⊎ (held.ended ≡ true) → frames_spec.opened captures held.octets ≡ None → (later : List ℕ) → held_spec.MayCome held later
    → course_spec.course_of captures most (begun ++ (fills.more ++ later)) ≡ record { datagrams = []; end = Err CaptureFault.BadCapture }
unfolding course_spec.course_of
opens_not unread left first held begun captures most is fills enough opened later may =
    ap (λ (l : List ℕ). course_spec.course_opened most (frames_spec.opened captures l)) (file_is unread left first held begun later is fills)
    ∙ ap (course_spec.course_opened most) (unopened_so captures held later enough may opened)
