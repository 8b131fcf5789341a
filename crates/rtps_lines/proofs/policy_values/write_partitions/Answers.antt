use Rattle.std.proofs.Common.{rules, ◌++◌, [], ◌∙◌, List, ℕ, ap, append-nil, codes, subst, sym}
use Rattle.std.specs.Fmt.{HasWritten}
use Rattle.std.specs.List.{join_by}
use Rattle.rtps_parts.specs.Names as names
use Rattle.rtps_lines.proofs.JoinLemmas.{all_to_come, item_written, to_come}
use Rattle.rtps_lines.proofs.policy_values.write_partitions.Goals as goal

pub loop-name-init : goal.loop-name-init
loop-name-init g c = (tt, tt, search rules, λ plain. ([], search rules, all_to_come names.name_text _ ∙ cc))

pub loop-name-preserved : goal.loop-name-preserved
loop-name-preserved g c = (
  tt,
  tt,
  search rules,
  λ plain.
      let took = g.W.Write.write_str_gives in
      let was = c.loop-name.invariant.3 plain in
      let item : HasWritten took c.loop-name.f (c.loop-name.comma.now ++ names.name_text c.in-Some.name.now) c.write.new.self = search rules in
      item_written took names.name_text _ _ _ was.0 c.loop-name.comma.now (join_by names.name_text (codes ", ") c.args.names) c.in-Some.name.now c.next.new.self was.1 (ap (λ left. was.0 ++ to_come names.name_text c.loop-name.comma.now left) (sym c.in-Some.ensures.steps) ∙ was.2) item,
)

pub returns : goal.returns
returns g c = λ plain ok.
    let was = c.loop-name.invariant.3 plain in
    subst (λ (text : List ℕ). HasWritten g.W.Write.write_str_gives c.args.f.now text c.loop-name.f)
    (sym (append-nil was.0) ∙ ap (λ left. was.0 ++ to_come names.name_text c.loop-name.comma.now left) (sym c.in-None.ensures.steps.0) ∙ was.2) was.1
