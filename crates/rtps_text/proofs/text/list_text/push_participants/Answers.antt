use Rattle.std.proofs.Common.{◌++◌, ◌∙◌, [], List, ap, get_or, sym, take, flat_map, string_bytes}
use Rattle.std.proofs.lemmas.List.{flat_map_more, take_more}
use Rattle.rtps_ids.specs.declared.identity.Guid.{Guid}
use Rattle.rtps_text.specs.ListText as list_text
use Rattle.rtps_text.proofs.text.list_text.push_participants.Goals as goal

pub loop-guid-preserved : goal.loop-guid-preserved
loop-guid-preserved c =
    let guids = c.args.guids.now in
    let i = c.loop-guid.guid-index in
    let none : Guid = record { prefix = record { 0 = [] }; entity = record { 0 = [] } } in
    let start = string_bytes c.args.text.now in
    c.in_ok-writeln.ensures.bytes
    ∙ (ap (λ bytes. bytes ++ list_text.participant_line (get_or guids i none)) c.loop-guid.invariant
    ∙ (flat_map_more list_text.participant_line start (take i guids) (get_or guids i none)
    ∙ ap (λ (done : List Guid). start ++ flat_map list_text.participant_line done) (sym (take_more guids i none c.loop-guid-test.true))))
