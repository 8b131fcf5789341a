use Rattle.std.proofs.Common.{◌≡◌, ◌++◌, ◌∙◌, List, arith, ap, length, map, subst, sym}
use Rattle.std.proofs.lemmas.List.{length-map}
use Rattle.rtps_receiver.specs.Values as values
use Rattle.rtps_audit.specs.Placed as placed_spec
use Rattle.rtps_audit.specs.declared.placed.Placed.{Placed}
use Rattle.rtps_fragments.specs.Hearing as hearing_spec
use Rattle.rtps_fragments.specs.SampleActs as sample_acts
use Rattle.rtps_fragments.specs.SampleCounts as sample_counts
use Rattle.rtps_fragments.proofs.SampleCountLemmas.{few_at, pieces_more, placed_length}
use Rattle.rtps_fragments.proofs.sample_counts.count_told.Goals as goal

pub returns-clause-heard : goal.returns-clause-heard
returns-clause-heard c = λ before was.
    let one = placed_spec.placed_value c.args.placed.now in
    subst (λ pieces. hearing_spec.HaveCome c.args.hearing.now.reader pieces c.hear_fragments.new.self.makings) (sym (pieces_more before one)) (c.in_ok-hear_fragments.ensures.heard (sample_counts.with_pieces before) was).0

pub returns-clause-count : goal.returns-clause-count
returns-clause-count c = λ before was.
    let one = placed_spec.placed_value c.args.placed.now in
    let reader = c.args.hearing.now.reader in
    let told = sample_acts.samples_told reader (sample_counts.with_pieces before) one.act (hearing_spec.piece_in one.act.body) in
    let all = (c.in_ok-hear_fragments.ensures.heard (sample_counts.with_pieces before) was).1 in
    let count : c.len.result ≡ sample_counts.samples_at reader before one =
    c.len.ensures ∙ c.hear_fragments.new.self.acts.ok.0 ∙ sym (length-map c.hear_fragments.new.self.acts.items placed_spec.placed_value) ∙ ap length all
    ∙ ap (λ (l : List Placed). length (map placed_spec.placed_value l ++ placed_spec.placed_at one.datagram told)) c.clear.ensures.items ∙ placed_length one.datagram told in
    let few = few_at reader before one in
    c.of.ensures (omega (arith, count, few)) ∙ count
