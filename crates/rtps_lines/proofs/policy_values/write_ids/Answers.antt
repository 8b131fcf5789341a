use Rattle.std.proofs.Common.{rules, ◌++◌, [], ◌∙◌, List, ℕ, ap, append-nil, codes, subst, sym}
use Rattle.std.specs.Fmt.{HasWritten}
use Rattle.std.specs.List.{join_by}
use Rattle.rtps_lines.specs.PolicyValues as policy_values
use Rattle.rtps_lines.proofs.JoinLemmas.{all_to_come, item_written, to_come}
use Rattle.rtps_lines.proofs.policy_values.write_ids.Goals as goal

pub loop-id-init : goal.loop-id-init
loop-id-init g c = (tt, tt, search rules, λ plain. ([], search rules, all_to_come policy_values.id_text _ ∙ cc))

pub loop-id-preserved : goal.loop-id-preserved
loop-id-preserved g c = (
  tt,
  tt,
  search rules,
  λ plain.
      let took = g.W.Write.write_str_gives in
      let was = c.loop-id.invariant.3 plain in
      let item : HasWritten took c.loop-id.f (c.loop-id.comma.now ++ policy_values.id_text c.in-Some.id) c.write.new.self = search rules in
      item_written took policy_values.id_text _ _ _ was.0 c.loop-id.comma.now (join_by policy_values.id_text (codes ", ") c.args.ids) c.in-Some.id c.next.new.self was.1 (ap (λ left. was.0 ++ to_come policy_values.id_text c.loop-id.comma.now left) (sym c.in-Some.ensures.steps) ∙ was.2) item,
)

pub returns : goal.returns
returns g c = λ plain ok.
    let was = c.loop-id.invariant.3 plain in
    subst (λ (text : List ℕ). HasWritten g.W.Write.write_str_gives c.args.f.now text c.loop-id.f)
    (sym (append-nil was.0) ∙ ap (λ left. was.0 ++ to_come policy_values.id_text c.loop-id.comma.now left) (sym c.in-None.ensures.steps.0) ∙ was.2) was.1
