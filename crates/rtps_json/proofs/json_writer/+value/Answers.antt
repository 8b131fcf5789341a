use Rattle.std.proofs.Common.{◌++◌, ◌∷◌, [], ◌∙◌, List, ap, sym}
use Rattle.std.proofs.lemmas.Result.{on_ok_weaker}
use Rattle.json.specs.Token.{Token, begin_object, end_object}
use Rattle.rtps_json.specs.JsonText.{tokens_of}
use Rattle.rtps_json.specs.Values.{members_json}
use Rattle.rtps_json.proofs.JsonLemmas.{object_tokens}
use Rattle.rtps_lines.proofs.Offered.{three_parts}
use Rattle.rtps_json.proofs.json_writer.+value.Goals as goal

pub push_object-returns-clause-tokens : goal.push_object-returns-clause-tokens
push_object-returns-clause-tokens t c =
    let start : List Token = c.args.writer.now.tokens in
    let members = members_json c.args.members.now.items in
    on_ok_weaker c.end_object.result
    (λ last.
    three_parts start (begin_object ∷ []) (tokens_of members) (end_object ∷ []) c.in_ok-begin_object.ensures.ok c.in_ok-push_members.ensures.tokens last
    ∙ ap (λ tokens. start ++ tokens) (sym (object_tokens members)))
    c.end_object.ensures.ok
