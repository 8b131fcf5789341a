use Rattle.std.proofs.Common.{◌++◌, ◌∷◌, [], ◌∙◌, List, ap, codes, flat_map, subst, sym}
use Rattle.rtps_page.specs.ChartEntries as chart_entries
use Rattle.rtps_page.proofs.EntryLemmas.{writer_tokens}
use Rattle.rtps_page.proofs.Written.{Token, begin_array, begin_object, end_array, end_object, entries_by, guid_text, json_tokens, key, placed_in, seven_parts, string, two_parts}
use Rattle.rtps_page.proofs.chart_writers.push_writer.Goals as goal

pub returns-clause-tokens : goal.returns-clause-tokens
returns-clause-tokens c = λ intake is.
    let start : List Token = c.args.writer.now.tokens in
    let guid = c.args.guid in
    let acts = placed_in intake.acts in
    let pairs = c.args.said.pairs.now in
    let readers = chart_entries.readers_of pairs guid in
    let from = c.acts_of.ensures intake is in
    let are = subst (λ l. chart_entries.AreTellings readers l c.in_ok-tellings.tellings) (sym from) (c.in_ok-tellings.ensures intake is) in
    let entries = ap (λ l. flat_map json_tokens (chart_entries.entries_behind readers [] l)) from in
    seven_parts start (begin_object ∷ []) (key (codes "guid") ∷ string (guid_text guid) ∷ []) (key (codes "acts") ∷ []) (begin_array ∷ []) (flat_map json_tokens (entries_by pairs guid acts)) (end_array ∷ [])
    (end_object ∷ []) c.in_ok-begin_object.ensures.ok
    (two_parts c.begin_object.new.self.tokens (key (codes "guid") ∷ []) (string (guid_text guid) ∷ []) c.in_ok-key.ensures.ok c.in_ok-push_guid.ensures.tokens) c.in_ok-key-2.ensures.ok c.in_ok-begin_array.ensures.ok
    (c.in_ok-push_acts.ensures.tokens readers are ∙ ap (λ l. c.begin_array.new.self.tokens ++ l) entries) c.in_ok-end_array.ensures.ok c.in_ok-end_object.ensures.ok
    ∙ ap (λ tokens. start ++ tokens) (sym (writer_tokens acts pairs guid))
