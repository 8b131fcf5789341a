use Rattle.std.proofs.Common.{◌∷◌, [], List, None, codes, map}
use Rattle.rtps_json.specs.JsonText as json_text
use Rattle.rtps_page.proofs.Written.{Token, answers_json, array_of, json_tokens, key, placed_in, three_parts, timed_members, times_member, tokens_of, writer_json, writers_behind}
use Rattle.rtps_page.proofs.page_data.push_charts.Goals as goal

pub returns-clause-tokens : goal.returns-clause-tokens
returns-clause-tokens c = λ intake is.
    let start : List Token = c.args.writer.now.tokens in
    let times = json_text.clock_times c.args.clock in
    let acts = placed_in intake.acts in
    let pairs = c.args.pairs.now in
    let one : List Token = key (codes "writers") ∷ json_tokens (array_of (map (writer_json acts c.args.said.pairs.now) (writers_behind None pairs))) in
    let two : List Token = key (codes "answers") ∷ json_tokens (array_of (map (answers_json acts) pairs)) in
    let three : List Token = tokens_of (timed_members times (times_member times acts pairs ∷ [])) in
    three_parts start one two three (c.in_ok-push_writers.ensures.tokens intake is) (c.in_ok-push_all_answers.ensures.tokens intake is) (c.in_ok-push_times.ensures.tokens intake is)
