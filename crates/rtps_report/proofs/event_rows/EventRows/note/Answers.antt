use Rattle.std.proofs.Common.{◌≡◌, ◌++◌, ◌∷◌, [], ◌∙◌, Bool, List, false, not, true, append-nil, ap, cond, refl, sym}
use Rattle.std.proofs.lemmas.Result.{on_ok_weaker}
use Rattle.rtps_evidence.specs.Explanation as explanation
use Rattle.rtps_report.specs.Events as events
use Rattle.rtps_report.specs.declared.event_rows.EventKey.{EventKey}
use Rattle.rtps_report.specs.declared.event_rows.EventRows.{EventRows}
use Rattle.rtps_report.proofs.EventLemmas.{by_none, none_of, noted, some_of}
use Rattle.rtps_report.proofs.event_rows.EventRows.note.Goals as goal
use Rattle.rtps_report.proofs.event_rows.EventRows.note.Goals.{then-not-has_rows+in_ok-push, else-not-has_rows}

turned : (has none : Bool) → has ≡ not none → has ≡ false → none ≡ true
turned has true is fails = refl
turned has false is fails = absurd (let clash : true ≡ false = sym is ∙ fails in cc)

kept : (has none : Bool) → has ≡ not none → has ≡ true → none ≡ false
kept has false is holds = refl
kept has true is holds = absurd (let clash : false ≡ true = sym is ∙ holds in cc)

pub returns : goal.returns
returns c =
    let old = c.args.self.now in
    let own = events.rows_at old.map c.args.key in
    let row = explanation.explanation_value c.args.row.now in
    let known : (c.if-not-has_rows.self.map ≡ old.map) × (c.if-not-has_rows.self.keys.items ≡ old.keys.items ++ by_none own (c.args.key ∷ [])) = elim c.if-not-has_rows.branch [
      | then-not-has_rows+in_ok-push w ↦ (
        ap (λ (s : EventRows). s.map) w.self-is,
        ap (λ (s : EventRows). s.keys.items) w.self-is ∙ w.in_ok-push.ensures.items
            ∙ ap (λ (keys : List EventKey). old.keys.items ++ keys) (sym (none_of own (c.args.key ∷ []) (turned c.has_rows.result (events.has_none own) c.has_rows.ensures w.if-not-has_rows.true))),
      )
      | else-not-has_rows w ↦ (
        ap (λ (s : EventRows). s.map) w.self-is,
        ap (λ (s : EventRows). s.keys.items) w.self-is ∙ sym (append-nil old.keys.items)
            ∙ ap (λ (keys : List EventKey). old.keys.items ++ keys) (sym (some_of own (c.args.key ∷ []) (kept c.has_rows.result (events.has_none own) c.has_rows.ensures w.if-not-has_rows.false))),
      )
    ] in
    on_ok_weaker c.append.result
    (λ each. λ talk tail rows is were.
    noted talk tail rows row c.args.key old c.append.new.self is were
    (λ other. each other ∙ ap (λ map. events.rows_at map other ++ cond (events.is_key other c.args.key) (row ∷ []) []) known.0)
    (ap (λ keys. keys.items) c.append.ensures.keys ∙ known.1))
    c.append.ensures.rows
