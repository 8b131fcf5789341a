use Rattle.std.proofs.Common.{◌∙◌, ◌++◌, ◌∷◌, [], ◌&&◌, Bool, List, true, ap, ap₂, get_or, map, sym, take, take_all}
use Rattle.std.proofs.lemmas.List.{map-append, take_more}
use Rattle.std.proofs.lemmas.List.Folds.{list_all-append, list_all-map, list_all_at}
use Rattle.rtps_receiver.specs.Values as values
use Rattle.rtps_fragments.specs.SampleCounts as sample_counts
use Rattle.rtps_page.specs.ChartEntries as chart_entries
use Rattle.rtps_page.specs.declared.tellings.Telling.{Telling}
use Rattle.rtps_page.proofs.tellings.Told.are_alike.Goals as goal

pub loop-telling-preserved : goal.loop-telling-preserved
loop-telling-preserved c =
    let each = c.deref-telling-items.result.now in
    let at = c.args.self.at in
    let i = c.loop-telling.telling-index in
    let x = c.telling-item.result in
    let told = chart_entries.told_of at in
    let test : chart_entries.Told → Bool = chart_entries.is_told_alike (values.spoken_value c.args.act.now) (get_or (map sample_counts.number_of c.args.self.tellings.now.all.items) at 0) in
    let more = ap (λ (l : List Telling). map told l) (take_more each i x c.loop-telling-test.true ∙ ap (λ y. take i each ++ y ∷ []) (sym c.telling-item.is)) ∙ map-append told (take i each) (x ∷ []) in
    ap (chart_entries.are_told_alike (values.spoken_value c.args.act.now) (get_or (map sample_counts.number_of c.args.self.tellings.now.all.items) at 0)) more
    ∙ list_all-append test (map told (take i each)) (told x ∷ []) ∙ ap₂ (λ a b. a && (b && true)) c.loop-telling.invariant (sym c.is_alike.ensures ∙ c.if-not-is_alike.false)

pub returns-then-not-is_alike : goal.returns-then-not-is_alike
returns-then-not-is_alike c =
    let each = c.deref-telling-items.result.now in
    let at = c.args.self.at in
    let test : chart_entries.Told → Bool = chart_entries.is_told_alike (values.spoken_value c.args.act.now) (get_or (map sample_counts.number_of c.args.self.tellings.now.all.items) at 0) in
    let tests : List Telling → Bool = λ l. chart_entries.are_told_alike (values.spoken_value c.args.act.now) (get_or (map sample_counts.number_of c.args.self.tellings.now.all.items) at 0) (map (chart_entries.told_of at) l) in
    sym (ap tests (sym c.deref-telling-items.ensures.value) ∙ list_all-map test (chart_entries.told_of at) each
    ∙ list_all_at (λ telling. test (chart_entries.told_of at telling)) each c.loop-telling.telling-index c.telling-item.result c.loop-telling-test.true
    (ap (λ telling. test (chart_entries.told_of at telling)) (sym c.telling-item.is) ∙ (sym c.is_alike.ensures ∙ c.if-not-is_alike.true)))

pub returns : goal.returns
returns c =
    let each = c.deref-telling-items.result.now in
    let at = c.args.self.at in
    sym c.loop-telling.invariant
    ∙ ap (λ (l : List Telling). chart_entries.are_told_alike (values.spoken_value c.args.act.now) (get_or (map sample_counts.number_of c.args.self.tellings.now.all.items) at 0) (map (chart_entries.told_of at) l))
    (take_all c.loop-telling.telling-index each c.loop-telling-test.false ∙ c.deref-telling-items.ensures.value)
