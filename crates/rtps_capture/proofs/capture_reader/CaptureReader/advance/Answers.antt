use Rattle.std.proofs.Common.{Ok, ◌≡◌, ◌++◌, ◌∙◌, List, ℕ, Option, length, refl, subst, sym, arith}
use Rattle.std.specs.Prelude.{IfSome, option_map}
use Rattle.std.proofs.lemmas.Result.{err_from_is_err_and}
use Rattle.rtps_capture.specs.Capture as capture
use Rattle.rtps_capture.specs.Course as course
use Rattle.rtps_capture.specs.Frames as frames_spec
use Rattle.rtps_capture.specs.Left as left_spec
use Rattle.rtps_capture.specs.Noting as noting
use Rattle.rtps_capture.specs.declared.frames.Frame.{Frame}
use Rattle.rtps_capture.proofs.AdvanceLemmas.{frame_gave, gave_fault, gave_none, gave_one, goes_nowhere, none_found, none_left}
use Rattle.rtps_capture.proofs.HeldLemmas.{reads_on}
use Rattle.rtps_capture.proofs.capture_reader.CaptureReader.advance.Goals as goal

pub frames-init : goal.frames-init
frames-init g c =
    let start = c.args.self.now in
    (goes_nowhere (g.R.Read.remaining c.args.input.now) start.notes start.frames.held start.frames.frames, refl, omega arith)

pub returns-clause-goes : goal.returns-clause-goes
returns-clause-goes g c =
    let start = c.args.self.now in
    let old = c.frames.self in
    let new = c.next_frame.new.self in
    let unread = g.R.Read.remaining c.args.input.now in
    let between = g.R.Read.remaining c.frames.input in
    let left = g.R.Read.remaining c.next_frame.new.input in
    let so = c.frames.invariant.0 in
    let next = subst (λ (given : Option Frame). left_spec.GivesNext between left old.frames.held new.held old.frames.frames new.frames given) c.in_default.is c.in_ok-frame.ensures.gives in
    record {
      more = so.more ++ next.more;
      reads = reads_on unread between left start.frames.held old.frames.held new.held so.more next.more so.reads next.reads;
      tells = λ later may. none_left unread between left start.notes old.notes start.frames.held old.frames.held new.held start.frames.frames old.frames.frames new.frames so next later may;
      done = λ is. c.in_ok-frame.ensures.end c.in_default.is;
    }

pub returns-in_err-self-clause-goes : goal.returns-in_err-self-clause-goes
returns-in_err-self-clause-goes g c =
    let p = err_from_is_err_and c.from_residual-in_err-self.result c.from_residual-in_err-self.ensures.1 in
    let start = c.args.self.now in
    let old = c.frames.self in
    let new = c.next_frame.new.self in
    let unread = g.R.Read.remaining c.args.input.now in
    let between = g.R.Read.remaining c.frames.input in
    let left = g.R.Read.remaining c.next_frame.new.input in
    let so = c.frames.invariant.0 in
    let settled = c.settle.new.self in
    let captures = c.captures-captures.result in
    let gave =
    frame_gave unread between left start.notes old.notes settled start.frames.held old.frames.held new.held start.frames.frames old.frames.frames new.frames c.in-Some.frame captures so
    (subst (λ (given : Option Frame). left_spec.GivesNext between left old.frames.held new.held old.frames.frames new.frames given) c.in-Some.is c.in_ok-frame.ensures.gives)
    (subst (λ (given : Option Frame). IfSome given (frames_spec.StandsInFile (length new.held.octets))) c.in-Some.is c.in_ok-frame.ensures.stands) (c.captures-captures.ensures ∙ c.next_frame.ensures.same.0)
    c.in_ok-settle.ensures.settles c.settle.ensures.same.2 in
    let fault = c.in_err-self.field-0.0 in
    rw (p.1, p.2) (
    gave_fault unread left start.notes settled c.note.new.self start.frames.held new.held start.frames.frames new.frames captures c.in-Some.frame fault _ gave
    (subst (λ (l : List ℕ). capture.IsFault (course.frame_gives captures settled.most l (noting.notes_of settled) c.in-Some.frame) fault) c.octets.ensures c.in_err-self.ensures.noted)
    (λ faults. record { more = faults.0; reads = faults.1; tells = faults.2; done = λ is. absurd cc }))

pub returns-then-is_some-clause-goes : goal.returns-then-is_some-clause-goes
returns-then-is_some-clause-goes g c =
    let start = c.args.self.now in
    let old = c.frames.self in
    let new = c.next_frame.new.self in
    let unread = g.R.Read.remaining c.args.input.now in
    let between = g.R.Read.remaining c.frames.input in
    let left = g.R.Read.remaining c.next_frame.new.input in
    let so = c.frames.invariant.0 in
    let settled = c.settle.new.self in
    let captures = c.captures-captures.result in
    let gave =
    frame_gave unread between left start.notes old.notes settled start.frames.held old.frames.held new.held start.frames.frames old.frames.frames new.frames c.in-Some.frame captures so
    (subst (λ (given : Option Frame). left_spec.GivesNext between left old.frames.held new.held old.frames.frames new.frames given) c.in-Some.is c.in_ok-frame.ensures.gives)
    (subst (λ (given : Option Frame). IfSome given (frames_spec.StandsInFile (length new.held.octets))) c.in-Some.is c.in_ok-frame.ensures.stands) (c.captures-captures.ensures ∙ c.next_frame.ensures.same.0)
    c.in_ok-settle.ensures.settles c.settle.ensures.same.2 in
    let notes = c.note.new.self in
    let found = c.in_ok-self.field-0 in
    let noted =
    subst (λ (l : List ℕ). course.frame_gives captures settled.most l (noting.notes_of settled) c.in-Some.frame ≡ Ok (record { datagram = option_map (noting.datagram_at l notes.packet.items) found; notes = noting.notes_of notes }))
    c.octets.ensures c.in_ok-self.ensures.noted in
    record {
      more = gave.more;
      reads = gave.reads;
      tells = gave_one unread left start.notes settled notes start.frames.held new.held start.frames.frames new.frames captures c.in-Some.frame found gave c.note.ensures.most noted
          (sym c.is_some.ensures ∙ c.if-is_some.true);
      done = λ is. absurd cc;
    }

pub frames-preserved : goal.frames-preserved
frames-preserved g c =
    let start = c.args.self.now in
    let old = c.frames.self in
    let new = c.next_frame.new.self in
    let unread = g.R.Read.remaining c.args.input.now in
    let between = g.R.Read.remaining c.frames.input in
    let left = g.R.Read.remaining c.next_frame.new.input in
    let so = c.frames.invariant.0 in
    let settled = c.settle.new.self in
    let captures = c.captures-captures.result in
    let gave =
    frame_gave unread between left start.notes old.notes settled start.frames.held old.frames.held new.held start.frames.frames old.frames.frames new.frames c.in-Some.frame captures so
    (subst (λ (given : Option Frame). left_spec.GivesNext between left old.frames.held new.held old.frames.frames new.frames given) c.in-Some.is c.in_ok-frame.ensures.gives)
    (subst (λ (given : Option Frame). IfSome given (frames_spec.StandsInFile (length new.held.octets))) c.in-Some.is c.in_ok-frame.ensures.stands) (c.captures-captures.ensures ∙ c.next_frame.ensures.same.0)
    c.in_ok-settle.ensures.settles c.settle.ensures.same.2 in
    let notes = c.note.new.self in
    let found = c.in_ok-self.field-0 in
    let noted =
    subst (λ (l : List ℕ). course.frame_gives captures settled.most l (noting.notes_of settled) c.in-Some.frame ≡ Ok (record { datagram = option_map (noting.datagram_at l notes.packet.items) found; notes = noting.notes_of notes }))
    c.octets.ensures c.in_ok-self.ensures.noted in
    let none = sym c.is_some.ensures ∙ c.if-is_some.false in (
      gave_none unread left start.notes settled notes start.frames.held new.held start.frames.frames new.frames captures c.in-Some.frame found gave c.note.ensures.most noted none,
      none_found found none,
      omega (arith, c.frames.invariant.2, c.next_frame.ensures.same.1),
    )
