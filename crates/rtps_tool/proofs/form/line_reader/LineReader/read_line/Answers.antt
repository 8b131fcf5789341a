use Rattle.std.proofs.Common.{◌≡◌, ◌∷◌, ◌++◌, ◌+◌, [], ℕ, List, length, Some, None, false, ◌∙◌, ap, subst, arith}
use Rattle.std.proofs.lemmas.List.{append-nil, length-append}
use Rattle.std.proofs.lemmas.Bool.Decides.{nat_tests}
use Rattle.rtps_capture.specs.Course as course
use Rattle.rtps_digits.specs.Pairs as pairs
use Rattle.rtps_tool.specs.RecordingText as recording_text
use Rattle.rtps_tool.specs.Unfinished as unfinished
use Rattle.rtps_tool.specs.declared.faults.RecFault.{RecFault}
use Rattle.rtps_tool.proofs.RecordingLemmas.{recording_of_lines-nil, recording_of_lines-skipped, recording_of_lines-faulty, recording_of_lines-taken}
use Rattle.rtps_tool.proofs.UnfinishedLemmas.{untimed-more}
use Rattle.rtps_tool.proofs.form.line_reader.LineReader.read_line.Goals as goal

pub returns-then-not-is_datagram_line-clause-told : goal.returns-then-not-is_datagram_line-clause-told
returns-then-not-is_datagram_line-clause-told g c = λ done start told.
    let skipped : recording_text.is_datagram_line c.args.line.now ≡ false = cc in
    let same : done ++ [] ≡ done = append-nil done in
    ([], recording_of_lines-skipped _ _ _ c.args.line.now [] skipped ∙ recording_of_lines-nil _ _ _, record { told = rw same told.told; count = rw same told.count })

pub returns-then-self-most-clause-told : goal.returns-then-self-most-clause-told
returns-then-self-most-clause-told g c = λ done start told.
    let number = c.args.self.now.lines + 1 in
    let size = told.count in
    let found : recording_text.line_fault c.args.most (length done) number c.args.line.now ≡ Some RecFault.TooMany = grind (arith, nat_tests) in
    recording_of_lines-faulty _ number _ c.args.line.now [] _ (cc) found

pub returns-then-line-gt-DIGITS_MAX-clause-told : goal.returns-then-line-gt-DIGITS_MAX-clause-told
returns-then-line-gt-DIGITS_MAX-clause-told g c = λ done start told.
    let number = c.args.self.now.lines + 1 in
    let size = told.count in
    let found : recording_text.line_fault c.args.most (length done) number c.args.line.now ≡ Some (RecFault.TooLong number) = grind (arith, nat_tests) in
    recording_of_lines-faulty _ number _ c.args.line.now [] _ (cc) found

pub returns-then-not-branch-clause-told : goal.returns-then-not-branch-clause-told
returns-then-not-branch-clause-told g c = λ done start told.
    let number = c.args.self.now.lines + 1 in
    let size = told.count in
    let found : recording_text.line_fault c.args.most (length done) number c.args.line.now ≡ Some (RecFault.BadHex number) = grind (arith, nat_tests, c.in_ok-decode_line.ensures.found) in
    recording_of_lines-faulty _ number _ c.args.line.now [] _ (cc) found

pub returns-clause-told : goal.returns-clause-told
returns-clause-told g c = λ done start told.
    let number = c.args.self.now.lines + 1 in
    let size = told.count in
    let line = c.args.line.now in
    let found : recording_text.line_fault c.args.most (length done) number line ≡ None = grind (arith, nat_tests, c.in_ok-decode_line.ensures.found) in
    let octets = pairs.octets_of line in
    let is = c.in_ok-decode_line.ensures.octets c.if-not-branch.false in
    let is_octets : c.deref.result.now ≡ octets = c.deref.ensures.value ∙ is in
    let Told = λ (one : List ℕ). let value : course.DatagramValue = record { octets = one; time = None; frame = 0 } in g.T.Take.has_taken start (recording_text.untimed done ++ value ∷ []) c.take.new.self in
    let more = subst Told is_octets (c.in_ok-take.ensures start (recording_text.untimed done) told.told) in (
      octets ∷ [],
      recording_of_lines-taken _ number _ line [] (cc) found ∙ ap (unfinished.with_front (octets ∷ [])) (recording_of_lines-nil _ _ _),
      record { told = rw (untimed-more done octets) more; count = omega (arith, length-append done (octets ∷ [])) },
    )
