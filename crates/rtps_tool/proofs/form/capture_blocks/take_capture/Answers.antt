use Rattle.std.proofs.Common.{subst}
use Rattle.rtps_capture.specs.Advancing as advancing
use Rattle.rtps_capture.specs.declared.advance.Opened.{Opened}
use Rattle.rtps_tool.proofs.BlocksLemmas.{began_so, came_open, stops_open}
use Rattle.rtps_tool.proofs.form.capture_blocks.take_capture.Goals as goal

pub returns-in-Capture : goal.returns-in-Capture
returns-in-Capture g c = λ before taken.
    let terms = c.args.terms in
    let unread = g.R.Read.remaining c.args.input.now in
    let left = g.R.Read.remaining c.open.new.input in
    let begun = c.args.begun.now in
    let opens = subst (λ (opened : Opened). advancing.Opens terms.captures terms.limits.datagrams unread left begun opened) c.in-Capture.is c.in_ok-reader.ensures.opened in
    c.take_whole.ensures before (came_open terms.limits terms.captures before unread left begun c.in-Capture.reader (began_so terms.captures before unread begun taken c.requires.begun c.requires.form) opens)

pub returns-in-Other : goal.returns-in-Other
returns-in-Other g c = λ before taken.
    let terms = c.args.terms in
    let unread = g.R.Read.remaining c.args.input.now in
    let left = g.R.Read.remaining c.open.new.input in
    let begun = c.args.begun.now in
    let opens = subst (λ (opened : Opened). advancing.Opens terms.captures terms.limits.datagrams unread left begun opened) c.in-Other.is c.in_ok-reader.ensures.opened in
    c.fault_behind.ensures terms.captures before
    (stops_open terms.limits terms.captures before unread left begun c.in-Other.read c.in-Other.ended (began_so terms.captures before unread begun taken c.requires.begun c.requires.form) opens)
