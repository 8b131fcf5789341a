use Rattle.std.proofs.Common.{◌≡◌, ◌∙◌, ◌==◌, ℕ, Option, None, false, ap, cond, sym}
use Rattle.std.specs.BTreeMap.{get}
use Rattle.std.specs.Ordering.{nat_cmp}
use Rattle.std.proofs.lemmas.Result.{on_ok_weaker}
use Rattle.rtps_receiver.specs.Said as said
use Rattle.rtps_audit.specs.Placed as placed
use Rattle.rtps_coverage.specs.Stretches as stretches
use Rattle.rtps_evidence.specs.CountedAnswers as counted_answers
use Rattle.rtps_evidence.specs.declared.last_asks.LastAsk.{LastAsk}
use Rattle.rtps_evidence.specs.Missed as missed
use Rattle.rtps_evidence.proofs.ResendLemmas.{IsSame, excused_heard, is_before_it, left_heard, none_asked, not_brought}
use Rattle.rtps_evidence.proofs.RequestLemmas.{is_key}
use Rattle.rtps_evidence.proofs.excused.Resends.hear.Goals as goal

pub returns-in_default : goal.returns-in_default
returns-in_default c = λ counted asks acts are.
    let pair = c.args.pair in
    let x = placed.placed_value c.args.placed.now in
    let out : (n : ℕ) → missed.brings pair.writer pair.reader n x ≡ false = λ n. sym (c.said_to.ensures.brought n) ∙ ap (said.is_at n) c.in_default.is in
    record {
      asks = λ n. are.asks n ∙ sym (not_brought pair counted n acts x (asks n) (out n)).left;
      answers = are.answers;
      excused = λ n. are.excused n ∙ sym (not_brought pair counted n acts x (asks n) (out n)).excused;
    }

pub returns-in_default-ask_before : goal.returns-in_default-ask_before
returns-in_default-ask_before c = λ counted asks acts are.
    let pair = c.args.pair in
    let x = placed.placed_value c.args.placed.now in
    let old : ℕ → Option LastAsk = get nat_cmp c.args.self.now.asks in
    let same : (n : ℕ) → IsSame pair counted n acts x (asks n) =
    λ n. none_asked pair counted n acts x (asks n) c.in-Some.number old (sym (c.said_to.ensures.brought n) ∙ ap (said.is_at n) c.in-Some.is) (are.asks n) (sym c.ask_before.ensures ∙ c.in_default-ask_before.is) in
    record {
      asks = λ n. are.asks n ∙ sym (same n).left;
      answers = are.answers;
      excused = λ n. are.excused n ∙ sym (same n).excused;
    }

pub returns : goal.returns
returns c =
    let pair = c.args.pair in
    let x = placed.placed_value c.args.placed.now in
    let number = c.in-Some.number in
    let ask = c.in-Some-ask_before.ask in
    let old : ℕ → Option LastAsk = get nat_cmp c.args.self.now.asks in
    let found = is_before_it x (old number) ask (sym c.ask_before.ensures ∙ c.in-Some-ask_before.is) in
    let told : (n : ℕ) → missed.brings pair.writer pair.reader n x ≡ (number == n) = λ n. sym (c.said_to.ensures.brought n) ∙ ap (said.is_at n) c.in-Some.is in
    on_ok_weaker c.push_if.result (λ put counted asks acts are. record {
      asks = λ n.
          c.remove.ensures.updates.0 n ∙ ap (λ b. cond b None (old n)) (is_key number n)
          ∙ left_heard pair counted n acts x (asks n) ask number (old n) (told n) (are.asks n) (λ equal. ap old (sym equal) ∙ found.is) found.at;
      answers = c.lacks_around-lacks.ensures.same ∙ are.answers;
      excused = λ n.
          put n
          ∙ excused_heard pair counted n acts x (asks n) ask number (old n) (stretches.stretches_have c.args.self.now.excused.items n) c.lacks_around-lacks.result (told n) (are.asks n) (λ equal. ap old (sym equal) ∙ found.is) found.at (are.excused n)
          (c.lacks_around-lacks.ensures.lacks ∙ ap (λ l. counted_answers.lacks_among l c.location_of.result) are.answers ∙ ap (counted_answers.lacks_among counted) c.location_of.ensures);
    }) c.push_if.ensures
