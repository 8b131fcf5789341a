use Rattle.std.proofs.Common.{◌≡◌, ◌∙◌, ◌++◌, List, map, subst, sym}
use Rattle.std.proofs.lemmas.Result.{on_ok_weaker}
use Rattle.rtps_receiver.specs.Values as values
use Rattle.rtps_audit.specs.Placed as placed
use Rattle.rtps_fragments.specs.Hearing as hearing
use Rattle.rtps_who.specs.Introducing as introducing
use Rattle.rtps_who.specs.Telling as telling
use Rattle.rtps_who.specs.declared.introductions.Introductions.{Introductions}
use Rattle.rtps_who.specs.declared.told_nodes.ToldNodes.{ToldNodes}
use Rattle.rtps_report.proofs.end.note_overheard.Goals as goal

-- the acts that are told are told behind those before
abbrev Tells : Introductions → ToldNodes → ToldNodes → List placed.PlacedValue → Type 0
Tells introductions old new acts =
    (announcing before : List values.ActValue) → introducing.IsIntroducedBy announcing introductions → telling.IsToldBy announcing before old → telling.IsToldBy announcing (before ++ map (λ placed. placed.act) acts) new

pub returns-then-not-have_fragments : goal.returns-then-not-have_fragments
returns-then-not-have_fragments c =
    let acts = map placed.placed_value c.args.acts.now in
    let same = sym (c.acts_are_overheard_without_fragments.ensures acts (sym c.have_fragments.ensures ∙ c.if-not-have_fragments.true)) in
    on_ok_weaker c.note_writer.result (subst (Tells c.args.introductions.now c.args.told.now c.note_writer.new.told) same) c.note_writer.ensures

pub returns : goal.returns
returns c = on_ok_weaker c.note_writer-2.result (subst (Tells c.args.introductions.now c.args.told.now c.note_writer-2.new.told) c.in_ok-heard.ensures) c.note_writer-2.ensures
