use Rattle.std.proofs.Common.{Bor, ◌≡◌, ◌++◌, ◌∷◌, [], ◌∙◌, IsSome, List, Option, None, Some, ap, cond, refl, subst, sym}
use Rattle.std.proofs.lemmas.List.{map-append}
use Rattle.std.specs.BTreeMap.{BTreeMap, get}
use Rattle.std.specs.Global.{Vec}
use Rattle.std.specs.Option.{option_copied_mut}
use Rattle.std.specs.Ordering.{is_eq}
use Rattle.rtps_evidence.specs.Explanation as explanation
use Rattle.rtps_report.specs.Events as events
use Rattle.rtps_evidence.specs.declared.explanation.Explanation.{Explanation}
use Rattle.rtps_report.specs.declared.event_rows.EventKey.{EventKey}
use Rattle.rtps_report.proofs.EventLemmas.{rows_written}
use Rattle.rtps_report.proofs.event_rows.EventRows.append.Goals as goal

-- borrowed rows as values, with one more
more : (rows old : List (Bor Explanation)) (row : Bor Explanation) → rows ≡ old ++ row ∷ [] → events.rows_value rows ≡ events.rows_value old ++ explanation.explanation_value row.now ∷ []
more rows old row is = ap events.rows_value is ∙ map-append (λ (one : Bor Explanation). explanation.explanation_value one.now) old (row ∷ [])

pub returns-in-Some-clause-rows : goal.returns-in-Some-clause-rows
returns-in-Some-clause-rows c = λ other.
    let old = c.args.self.now.map in
    let found = c.in-Some.found.now in
    let row = explanation.explanation_value c.args.row.now in
    let there : get events.key_cmp old c.args.key ≡ Some found = sym c.get_mut.ensures.value ∙ ap option_copied_mut c.in-Some.is in
    let updates = (c.get_mut.follows.holds c.push.new.self).3 (subst IsSome (sym there) refl) in
    ap events.rows_in (updates.0 other)
    ∙ rows_written (get events.key_cmp old) c.args.key other c.push.new.self row
    (more c.push.new.self.items found.items c.args.row c.in_ok-push.ensures.items ∙ ap (λ (o : Option (Vec (Bor Explanation))). events.rows_in o ++ row ∷ []) (sym there))

pub returns-clause-rows : goal.returns-clause-rows
returns-clause-rows c = λ other.
    let old = c.args.self.now.map in
    let list = c.push-2.new.self in
    let row = explanation.explanation_value c.args.row.now in
    let none : get events.key_cmp old c.args.key ≡ None = sym c.get_mut.ensures.value ∙ ap option_copied_mut c.in_default.is in
    ap events.rows_in (c.in_ok-insert.ensures.updates.0 other
    ∙ ap (λ (kept : BTreeMap EventKey (Vec (Bor Explanation))). cond (is_eq (events.key_cmp c.args.key other)) (Some list) (get events.key_cmp kept other)) c.get_mut.follows.holds-at-none)
    ∙ rows_written (get events.key_cmp old) c.args.key other list row
    (more list.items [] c.args.row (c.in_ok-push-2.ensures.items ∙ ap (λ (items : List (Bor Explanation)). items ++ c.args.row ∷ []) c.new-rows.ensures.items)
    ∙ ap (λ (o : Option (Vec (Bor Explanation))). events.rows_in o ++ row ∷ []) (sym none))
