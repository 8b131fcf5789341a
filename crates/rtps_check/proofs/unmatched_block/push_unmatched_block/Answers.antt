use Rattle.std.proofs.Common.{◌≡◌, ◌++◌, ◌∙◌, ◌==◌, [], List, None, ap, append-nil, codes, false, length, map, string_bytes, subst, sym, ℕ}
use Rattle.std.proofs.lemmas.List.{length-map}
use Rattle.std.proofs.lemmas.List.Sorted.{length_permutation}
use Rattle.std.proofs.lemmas.Result.{on_ok_weaker}
use Rattle.rtps_lines.proofs.Offered.{three_parts}
use Rattle.rtps_lines.specs.Causes as causes
use Rattle.rtps_parts.specs.Parts as parts
use Rattle.rtps_policies.specs.Unmatched as unmatched
use Rattle.rtps_policies.specs.declared.unmatched.Unmatched.{Unmatched}
use Rattle.rtps_report.specs.Talk as talk
use Rattle.rtps_check.specs.TalkText as talk_text
use Rattle.rtps_check.proofs.UnmatchedLemmas.{none_by_topic, some_lines}
use Rattle.rtps_check.proofs.unmatched_block.push_unmatched_block.Goals as goal
use Rattle.rtps_lines.specs.declared.sentences.block.TheConstants as said

pub returns-then-is_empty : goal.returns-then-is_empty
returns-then-is_empty c =
    let talk = talk.talk_value c.args.talk.now in
    let none = ap (λ (n : ℕ). n == 0) (length-map c.args.talk.now.unmatched.items unmatched.unmatched_value ∙ sym c.args.talk.now.unmatched.ok.0) ∙ sym c.is_empty.ensures ∙ c.if-is_empty.true in
    record { sorted = []; by_topic = none_by_topic talk.unmatched none; is_text = sym (append-nil (string_bytes c.args.text.now)) }

pub returns : goal.returns
returns c =
    let talk = talk.talk_value c.args.talk.now in
    let old = string_bytes c.args.text.now in
    let values = map (λ one. unmatched.unmatched_value one.now) c.in_ok-sorted.sorted.items in
    let ordered : talk_text.AreByTopic talk.unmatched values =
    subst (λ (all : List Unmatched). talk_text.AreByTopic (map unmatched.unmatched_value all) values) c.deref.ensures.value c.in_ok-sorted.ensures in
    let number = c.len.result in
    let stored = c.args.talk.now.unmatched in
    let long : length values ≡ number =
    length_permutation talk.unmatched values ordered.all ∙ length-map stored.items unmatched.unmatched_value ∙ sym stored.ok.0 ∙ sym c.len.ensures in
    let some : (number == 0) ≡ false = ap (λ (n : ℕ). n == 0) c.len.ensures ∙ sym c.is_empty.ensures ∙ c.if-is_empty.false in
    let head : parts.WordsValue → List ℕ = λ words. codes "\n" ++ (parts.amount number words ++ (codes "\n" ++ [])) in
    let end = talk_text.remedy_line said.UNMATCHED_REMEDY.now in
    on_ok_weaker c.writeln.result
    (λ last.
    record {
      sorted = values;
      by_topic = ordered;
      is_text = three_parts old (head causes.unmatched_words) (talk_text.unmatched_pairs talk.ends None values) end
          (c.in_ok-render.ensures ∙ ap (λ words. old ++ head words) c.unmatched_words.ensures) c.in_ok-push_pairs.ensures last
          ∙ ap (λ lines. old ++ lines) (some_lines talk.ends values number long some);
    })
    c.writeln.ensures.bytes
