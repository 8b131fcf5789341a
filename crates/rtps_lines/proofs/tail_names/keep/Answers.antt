use Rattle.std.proofs.Common.{◌∙◌, List, ap, map, sym, take}
use Rattle.std.specs.Prelude.{nat_lt}
use Rattle.std.specs.List.{insert, position_or_len}
use Rattle.std.proofs.lemmas.List.{take-map}
use Rattle.rtps_lines.specs.TailNames as tail_names
use Rattle.rtps_lines.specs.declared.tail_names.TopicTail.{TopicTail}
use Rattle.rtps_lines.proofs.TailLemmas.{map-insert}
use Rattle.rtps_lines.proofs.tail_names.keep.Goals as goal

pub returns : goal.returns
returns c =
    let tails = c.args.tails.now.items in
    let tail = c.args.tail in
    let place = c.place_among-place.result in
    let stands = c.place_among-place.ensures.place ∙ ap (λ (all : List TopicTail). position_or_len (λ one. nat_lt one.longest tail.longest) (map tail_names.tail_value all)) c.deref.ensures.value in
    ap (map tail_names.tail_value) (c.truncate.ensures.items ∙ ap (take tail_names.NAMED_TAILS) c.in_ok-insert.ensures.items)
    ∙ sym (take-map tail_names.tail_value tail_names.NAMED_TAILS (insert tails place tail))
    ∙ ap (take tail_names.NAMED_TAILS) (map-insert tail_names.tail_value tails place tail)
    ∙ ap (λ n. take tail_names.NAMED_TAILS (insert (map tail_names.tail_value tails) n (tail_names.tail_value tail))) stands
