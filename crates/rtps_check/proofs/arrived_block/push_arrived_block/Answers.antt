use Rattle.std.proofs.Common.{◌≡◌, ◌++◌, ◌∙◌, ◌==◌, [], List, None, Bor, ap, append-nil, false, filter, length, map, string_bytes, subst, sum_by, sym, ℕ}
use Rattle.std.proofs.lemmas.List.{length-map}
use Rattle.std.proofs.lemmas.Result.{on_ok_weaker}
use Rattle.rtps_lines.proofs.Offered.{three_parts}
use Rattle.rtps_report.specs.BestEfforts as best_efforts
use Rattle.rtps_report.specs.declared.best_effort.HeldPair.{HeldPair}
use Rattle.rtps_report.specs.Talk as talk
use Rattle.rtps_check.specs.ArrivedText as arrived_text
use Rattle.rtps_check.specs.TalkText as talk_text
use Rattle.rtps_check.proofs.ArrivedLemmas.{empty_list, some_lossy}
use Rattle.rtps_check.proofs.arrived_block.push_arrived_block.Goals as goal
use Rattle.rtps_lines.specs.declared.sentences.block.TheConstants as said

abbrev values : List (Bor HeldPair) → List best_efforts.HeldValue
values pairs = map (λ (one : Bor HeldPair). best_efforts.held_value one.now) pairs

pub returns-then-is_empty : goal.returns-then-is_empty
returns-then-is_empty c =
    let talk = talk.talk_value c.args.talk.now in
    let sorted = c.in_ok-sorted.sorted in
    let none : sorted.items ≡ [] = empty_list sorted.items (ap (λ (n : ℕ). n == 0) (sym sorted.ok.0) ∙ sym c.is_empty.ensures ∙ c.if-is_empty.true) in
    let ordered : arrived_text.AreByTopic (filter arrived_text.is_lossy talk.held) (values sorted.items) =
    subst (λ (all : List HeldPair). arrived_text.AreByTopic (filter arrived_text.is_lossy (map best_efforts.held_value all)) (values sorted.items)) c.deref.ensures.value c.in_ok-sorted.ensures in
    record {
      sorted = [];
      by_topic = subst (λ (all : List (Bor HeldPair)). arrived_text.AreByTopic (filter arrived_text.is_lossy talk.held) (values all)) none ordered;
      is_text = sym (append-nil (string_bytes c.args.text.now));
    }

pub returns : goal.returns
returns c =
    let talk = talk.talk_value c.args.talk.now in
    let old = string_bytes c.args.text.now in
    let stored = c.in_ok-sorted.sorted in
    let sorted = values stored.items in
    let ordered : arrived_text.AreByTopic (filter arrived_text.is_lossy talk.held) sorted =
    subst (λ (all : List HeldPair). arrived_text.AreByTopic (filter arrived_text.is_lossy (map best_efforts.held_value all)) sorted) c.deref.ensures.value c.in_ok-sorted.ensures in
    let lost = c.lost_among.result in
    let number = c.len.result in
    let long : length sorted ≡ number = length-map stored.items (λ (one : Bor HeldPair). best_efforts.held_value one.now) ∙ sym stored.ok.0 ∙ sym c.len.ensures in
    let sum : sum_by arrived_text.lost_of sorted ≡ lost = sym (c.lost_among.ensures ∙ ap (λ (all : List (Bor HeldPair)). sum_by arrived_text.lost_of (values all)) c.deref-2.ensures.value) in
    let some : (number == 0) ≡ false = ap (λ (n : ℕ). n == 0) c.len.ensures ∙ sym c.is_empty.ensures ∙ c.if-is_empty.false in
    let end = talk_text.remedy_line said.LOST_REMEDY.now in
    on_ok_weaker c.writeln.result
    (λ last.
    record {
      sorted = sorted;
      by_topic = ordered;
      is_text = three_parts old (arrived_text.lossy_head lost number) (arrived_text.lossy_pairs talk.ends None sorted) end (c.in_ok-render.ensures ∙ ap (λ head. old ++ head) c.lossy_head.ensures) c.in_ok-push_pairs.ensures last
          ∙ ap (λ lines. old ++ lines) (some_lossy talk.ends sorted lost number sum long some);
    })
    c.writeln.ensures.bytes
