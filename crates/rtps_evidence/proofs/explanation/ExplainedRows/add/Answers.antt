use Rattle.std.proofs.Common.{◌≡◌, ◌∙◌, ◌++◌, ◌∷◌, [], All, List, ap, map, subst, sym}
use Rattle.std.proofs.lemmas.List.{map-append}
use Rattle.std.proofs.lemmas.List.Elements.{All-push}
use Rattle.rtps_audit.specs.Intake as intake_spec
use Rattle.rtps_discovery.specs.Directory as directory_spec
use Rattle.rtps_discovery.specs.declared.matching.Pair.{Pair}
use Rattle.rtps_evidence.specs.Evidence as evidence_spec
use Rattle.rtps_evidence.specs.Explanation as explanation
use Rattle.rtps_evidence.specs.Kinds as kinds
use Rattle.rtps_evidence.specs.declared.evidence.Evidence.{Evidence}
use Rattle.rtps_evidence.specs.declared.explanation.Explanation.{Explanation}
use Rattle.rtps_evidence.proofs.LostLemmas.{losses_more, places_more}
use Rattle.rtps_evidence.proofs.explanation.ExplainedRows.add.Goals as goal

pub returns : goal.returns
returns c = λ setting pairs is_map are found.
    let pair = c.args.pair in
    let old = c.args.self.now in
    let row = c.explanation_of.result in
    let row_is = c.explanation_of.ensures in
    let rows = c.in_ok-push.ensures.items in
    let lost = c.in_ok-push-2.ensures.items in
    let shows = λ (row : Explanation). evidence_spec.IsEvidenceBy setting.spans setting.from setting.beside row.pair setting.intake row.evidence in
    let here = c.one_map.ensures.unique (intake_spec.acts_together setting.intake.announcing) c.args.directory.now are.directory is_map are.is_map in
    record {
      of_pairs = ap (map (λ (row : Explanation). row.pair)) rows ∙ map-append (λ (row : Explanation). row.pair) old.rows.items (row ∷ []) ∙ ap (λ l. l ++ row.pair ∷ []) are.of_pairs ∙ ap (λ p. pairs ++ p ∷ []) row_is.pair;
      places = places_more old.rows.items _ row rows (row_is.place ∙ c.len.ensures ∙ old.rows.ok.0) are.places;
      losses = subst (λ l. explanation.AreLostOf setting.spans setting.from setting.beside setting.intake (pairs ++ pair ∷ []) l) (sym (ap (map kinds.lost_value) lost ∙ map-append kinds.lost_value old.lost.items (c.args.found.lost ∷ [])))
          (losses_more setting.spans setting.from setting.beside setting.intake pairs (map kinds.lost_value old.lost.items) pair (kinds.lost_value c.args.found.lost) are.losses found.lost);
      directory = are.directory;
      is_map = are.is_map;
      named = subst (All (explanation.IsNamed are.directory.endpoints)) (sym rows)
          (All-push (explanation.IsNamed are.directory.endpoints) old.rows.items row are.named (subst (λ (of : directory_spec.DirectoryValue). explanation.IsNamed of.endpoints row) here row_is.named));
      shown = subst (All shows) (sym rows) (All-push shows old.rows.items row are.shown
          (subst (λ (e : Evidence). evidence_spec.IsEvidenceBy setting.spans setting.from setting.beside row.pair setting.intake e) (sym row_is.evidence)
          (subst (λ (p : Pair). evidence_spec.IsEvidenceBy setting.spans setting.from setting.beside p setting.intake c.args.found.evidence) (sym row_is.pair) found.evidence)));
    }
