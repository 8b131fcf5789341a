use Rattle.std.proofs.Common.{◌≡◌, None, [], ◌++◌, ◌+◌, ◌-◌, ◌<◌, ◌≤◌, ◌∙◌, ℕ, List, drop, length, take, refl, sym, ap, subst, arith}
use Rattle.std.specs.List.{position}
use Rattle.std.proofs.lemmas.List.{length-append, length-take, take-append-le}
use Rattle.std.proofs.lemmas.Result.{err_from_is_err_and}
use Rattle.rtps_tool.specs.Lines as lines
use Rattle.rtps_tool.specs.RunFaults as run_faults
use Rattle.rtps_tool.specs.Runs as runs
use Rattle.rtps_tool.specs.Unfinished as unfinished
use Rattle.rtps_tool.specs.declared.faults.RecFault.{RecFault}
use Rattle.rtps_tool.proofs.ReadingLemmas.{HasRead, take_front, HasRead-start, HasRead-read, HasRead-last, HasRead-told, TakesText-last, FailsReading-last, FailsReading-on, FailsReading-on-past, FailsReading-text, run_fault_is_read}
use Rattle.rtps_tool.proofs.UnfinishedLemmas.{recording_of-past}
use Rattle.rtps_tool.proofs.streams.take_text.Goals as goal
use Rattle.rtps_tool.proofs.streams.take_text.Goals.{then-total-terms, else-total-terms}

pub pieces-init : goal.pieces-init
pieces-init g c =
    let start = c.args.start in
    let held = c.args.held.now in
    let lines = c.new-reader.result.lines in
    let limits = c.args.terms.limits in
    let captures = c.args.terms.captures in
    let front : start ≡ 0 + start = omega arith in (
      omega arith,
      omega (arith, c.requires.begun.1),
      omega (arith, c.new-reader.ensures.1),
      refl {a = None},
      λ before first plain taken told. (
        [],
        record { told = told; count = c.new-reader.ensures.0 },
        subst (λ (n : ℕ). HasRead limits captures before (g.R.Read.remaining c.args.input.now) start (λ later. unfinished.recording_behind limits.datagrams [] lines (take n held ++ later))) front
            (HasRead-start limits captures before (g.R.Read.remaining c.args.input.now) lines start held c.new-reader.ensures.1 taken (omega (arith, c.requires.room, c.requires.begun.1)) c.requires.begun.0 plain),
      ),
    )

pub slice_bounds-feed-end : goal.slice_bounds-feed-end
slice_bounds-feed-end g c = omega (arith, c.pieces.auto.held, c.requires.room, c.pieces.invariant.1)

pub slice_bounds-feed-end-in-pieces : goal.slice_bounds-feed-end-in-pieces
slice_bounds-feed-end-in-pieces g c = omega (arith, length-take (c.pieces.kept + c.pieces.got) c.pieces.held, c.pieces.auto.held, c.requires.room, c.pieces.invariant.1)

pub returns-in-Err-clause-told : goal.returns-in-Err-clause-told
returns-in-Err-clause-told g c = λ before first plain taken told.
    let captures = c.args.terms.captures in
    let so_far = c.pieces.invariant.4 before first plain taken told in
    let grown = so_far.2 in
    let faulty = c.in-Err.ensures.told so_far.0 first so_far.1 in
    let more = c.in_ok-total-in-Err.ensures in
    let F = λ (fault : RecFault). runs.FailsReading c.args.terms.limits captures before (g.R.Read.remaining c.read_on.new.input) (run_faults.run_fault_of fault) in
    let failed : F c.if-total-terms.first = elim c.if-total-terms.branch [
      | then-total-terms w ↦ subst F (sym w.first-is) (FailsReading-on-past _ _ _ _ _ _ _ _ grown more w.if-total-terms.true)
      | else-total-terms w ↦ subst F (sym w.first-is) (FailsReading-on _ _ _ _ _ _ _ _ c.in-Err.fault grown more w.if-total-terms.false faulty)
    ] in
    rw c.from.ensures failed

pub returns-in-Err-clause-fault : goal.returns-in-Err-clause-fault
returns-in-Err-clause-fault g c = rw c.from.ensures (run_fault_is_read c.if-total-terms.first)

pub returns-in_err-finish-clause-fault : goal.returns-in_err-finish-clause-fault
returns-in_err-finish-clause-fault g c =
    let p = err_from_is_err_and c.from_residual-in_err-finish.result c.from_residual-in_err-finish.ensures.1 in
    rw (p.1, p.2) (run_fault_is_read c.in_err-finish.field-0.0)

pub pieces-preserved : goal.pieces-preserved
pieces-preserved g c =
    let left = c.in-Ok.left in
    let got = c.in-Ok-read.got in
    let size = left + 65536 - left in
    let buf = c.read.new.buf in
    let fed = c.in-Ok.ensures in
    let new = c.feed.new.self in
    let rest = drop (c.pieces.kept + c.pieces.got) c.pieces.held in
    let held = c.feed.new.text ++ rest in
    let front : take left held ≡ take left c.feed.new.text = take-append-le left c.feed.new.text rest fed.kept.1 in
    let within : left ≤ length held = omega (arith, length-append c.feed.new.text rest, fed.kept.1) in (
      fed.kept.0,
      omega (arith, c.in-Ok-read.ensures.bound.0, fed.kept.0),
      omega (arith, fed.kept.1, fed.kept.2.counted, c.pieces.invariant.2, length-take (c.pieces.kept + c.pieces.got) c.pieces.held, length-take left c.feed.new.text),
      ap (position lines.is_line_feed) (take_front left size held buf within ∙ front) ∙ fed.kept.2.goes_on,
      λ before first plain taken told.
          let captures = c.args.terms.captures in
          let so_far = c.pieces.invariant.4 before first plain taken told in
          let more = fed.told so_far.0 first so_far.1 in
          let grown = HasRead-told c.args.terms.limits captures before _ _ _ _ so_far.2
          (λ later. ap (λ (text : List ℕ). unfinished.recording_behind c.args.terms.limits.datagrams more.all new.lines (text ++ later)) front ∙ more.stands later) in (
            more.all,
            more.has_told,
            HasRead-read c.args.terms.limits captures before _ _ c.pieces.total left got size new.lines more.all held buf grown c.in-Ok-read.ensures.bytes.0 (sym c.in-Ok-read.ensures.bound.1) within c.in-Ok-read.ensures.bound.0,
          ),
    )

pub returns-then-got-eq0-clause-told : goal.returns-then-got-eq0-clause-told
returns-then-got-eq0-clause-told g c = λ before first plain taken told.
    let left = c.in-Ok.left in
    let got = c.in-Ok-read.got in
    let size = left + 65536 - left in
    let buf = c.read.new.buf in
    let fed = c.in-Ok.ensures in
    let new = c.feed.new.self in
    let rest = drop (c.pieces.kept + c.pieces.got) c.pieces.held in
    let held = c.feed.new.text ++ rest in
    let front : take left held ≡ take left c.feed.new.text = take-append-le left c.feed.new.text rest fed.kept.1 in
    let within : left ≤ length held = omega (arith, length-append c.feed.new.text rest, fed.kept.1) in
    let captures = c.args.terms.captures in
    let so_far = c.pieces.invariant.4 before first plain taken told in
    let more = fed.told so_far.0 first so_far.1 in
    let grown = HasRead-told c.args.terms.limits captures before _ _ _ _ so_far.2
    (λ later. ap (λ (text : List ℕ). unfinished.recording_behind c.args.terms.limits.datagrams more.all new.lines (text ++ later)) front ∙ more.stands later) in
    let last = HasRead-last c.args.terms.limits captures before _ _ c.pieces.total left got size new.lines more.all held buf grown c.in-Ok-read.ensures.bytes.0 (sym c.in-Ok-read.ensures.bound.1) within c.in-Ok-read.ensures.bound.0 c.if-got-eq0.true in
    let whole = c.in_ok-finish.ensures more.all first more.has_told in
    TakesText-last c.args.terms.limits captures before _ c.pieces.total _ _ _ _ whole.all _ last (c.in-Ok-read.ensures.bytes.1 c.if-got-eq0.true (omega arith)) (omega arith) (omega arith) whole.told whole.stands

pub returns-in_err-finish-clause-told : goal.returns-in_err-finish-clause-told
returns-in_err-finish-clause-told g c = λ before first plain taken told.
    let p = err_from_is_err_and c.from_residual-in_err-finish.result c.from_residual-in_err-finish.ensures.1 in
    let left = c.in-Ok.left in
    let got = c.in-Ok-read.got in
    let size = left + 65536 - left in
    let buf = c.read.new.buf in
    let fed = c.in-Ok.ensures in
    let new = c.feed.new.self in
    let rest = drop (c.pieces.kept + c.pieces.got) c.pieces.held in
    let held = c.feed.new.text ++ rest in
    let front : take left held ≡ take left c.feed.new.text = take-append-le left c.feed.new.text rest fed.kept.1 in
    let within : left ≤ length held = omega (arith, length-append c.feed.new.text rest, fed.kept.1) in
    let captures = c.args.terms.captures in
    let so_far = c.pieces.invariant.4 before first plain taken told in
    let more = fed.told so_far.0 first so_far.1 in
    let grown = HasRead-told c.args.terms.limits captures before _ _ _ _ so_far.2
    (λ later. ap (λ (text : List ℕ). unfinished.recording_behind c.args.terms.limits.datagrams more.all new.lines (text ++ later)) front ∙ more.stands later) in
    let last = HasRead-last c.args.terms.limits captures before _ _ c.pieces.total left got size new.lines more.all held buf grown c.in-Ok-read.ensures.bytes.0 (sym c.in-Ok-read.ensures.bound.1) within c.in-Ok-read.ensures.bound.0 c.if-got-eq0.true in
    rw (p.1, p.2) (FailsReading-last c.args.terms.limits captures before _ c.pieces.total _ _ _ c.in_err-finish.field-0.0 last (c.in-Ok-read.ensures.bytes.1 c.if-got-eq0.true (omega arith)) (omega arith) (c.in_err-finish.ensures more.all first more.has_told))

pub returns-clause-told : goal.returns-clause-told
returns-clause-told g c = λ before first plain taken told.
    let captures = c.args.terms.captures in
    let h = (c.pieces.invariant.4 before first plain taken told).2 in
    let past : c.args.terms.limits.octets < length h.text = omega (arith, h.size, c.pieces-test.false) in
    FailsReading-text c.args.terms.limits captures before _ h.text RecFault.TooMany record { taken = h.taken; whole = λ few. absurd (omega (arith, past, few)) }
    (recording_of-past c.args.terms.limits captures h.text past)
