use Rattle.std.proofs.Common.{[], ◌≡◌, ◌++◌, ◌∙◌, ap, append-nil, map, sym}
use Rattle.std.specs.List.{cons_option}
use Rattle.rtps_receiver.specs.Speech as speech
use Rattle.rtps_receiver.specs.Values as values
use Rattle.rtps_receiver.specs.declared.spoken.Spoken.{Spoken}
use Rattle.rtps_audit.specs.Placed as placed
use Rattle.rtps_audit.proofs.PlacedLemmas.{all_between, all_with_first, one_between}
use Rattle.rtps_audit.proofs.answer.note_next.Goals as goal

pub returns-in_default-clause-added : goal.returns-in_default-clause-added
returns-in_default-clause-added c = λ pair.
    let alone = one_between c.args.acts.now c.args.start c.index-acts-start.result c.requires c.index-acts-start.is in
    sym (append-nil _)
    ∙ ap (λ l. placed.answers_kept c.args.answers.now.readers pair ++ l) (sym (ap (λ l. placed.answers_among pair (placed.placed_at c.args.datagram (map values.spoken_value l))) alone ∙ ap (λ o. cons_option o []) (c.in_default.ensures.answer pair)))

pub note_run-requires : goal.note_run-requires
note_run-requires c =
    let acts = c.args.acts.now in
    let start = c.args.start in
    let of_reader = λ (a : Spoken). speech.origin_of (values.spoken_value a) ≡ c.in-Some.pair.reader in
    all_between of_reader acts start c.run_end-end.result (all_with_first of_reader acts start c.run_end-end.result _ c.index-acts-start.is c.requires (sym c.in-Some.ensures.reader) c.run_end-end.ensures.run)
