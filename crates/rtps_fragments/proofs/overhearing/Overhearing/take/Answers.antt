use Rattle.std.proofs.Common.{◌≡◌, ◌∙◌, true, cond, ap, refl, sym}
use Rattle.std.specs.BTreeSet.{contains}
use Rattle.rtps_fragments.specs.ToldSamples as told_samples
use Rattle.rtps_fragments.specs.Whole as whole
use Rattle.rtps_fragments.specs.declared.overhearing.Overhearing.{Overhearing}
use Rattle.rtps_fragments.specs.declared.whole.SampleNumber.{SampleNumber}
use Rattle.rtps_fragments.proofs.MakingLemmas.{makings_more, overhearing_not, overhearing_whole}
use Rattle.rtps_fragments.proofs.overhearing.Overhearing.take.Goals as goal

pub returns-in_ok-insert : goal.returns-in_ok-insert
returns-in_ok-insert c = λ before was.
    let sent = told_samples.sent_value c.args.sent.now in
    let old = c.args.self.now in
    let noted = c.in_ok-note.ensures in
    let came = told_samples.overheard sent.key before in
    let new : Overhearing = record { makings = c.note.new.self; whole = c.insert.new.self; alloc = old.alloc } in
    let kept = makings_more (λ k. told_samples.overheard k before) sent old.makings new.makings was.each (noted.here came (was.each sent.key)) noted.others in
    let added : (number : SampleNumber) → contains whole.number_cmp c.insert.new.self number ≡ cond (whole.is_number (whole.key_number sent.key) number) true (contains whole.number_cmp old.whole number) =
    λ number. c.in_ok-insert.ensures.updates.0 number ∙ ap (λ n. cond (whole.is_number n number) true (contains whole.number_cmp old.whole number)) c.key_number.ensures in
    (overhearing_whole before sent old new was kept (sym c.if-branch.true ∙ noted.whole came (was.each sent.key)) added, noted.told came (was.each sent.key))

pub returns-else-branch : goal.returns-else-branch
returns-else-branch c = λ before was.
    let sent = told_samples.sent_value c.args.sent.now in
    let old = c.args.self.now in
    let noted = c.in_ok-note.ensures in
    let came = told_samples.overheard sent.key before in
    let new : Overhearing = record { makings = c.note.new.self; whole = old.whole; alloc = old.alloc } in
    let kept = makings_more (λ k. told_samples.overheard k before) sent old.makings new.makings was.each (noted.here came (was.each sent.key)) noted.others in
    (overhearing_not before sent old new was kept (sym c.if-branch.false ∙ noted.whole came (was.each sent.key)) refl, noted.told came (was.each sent.key))
