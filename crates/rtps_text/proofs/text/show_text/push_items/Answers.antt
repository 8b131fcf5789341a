use Rattle.std.proofs.Common.{◌≡◌, ◌∷◌, [], ◌++◌, ◌∙◌, ap, sym, List, None, Ok, Err, append_assoc, append-nil, string_bytes}
use Rattle.rtps_wire.specs.Reading as reading
use Rattle.rtps_wire.specs.Skipped as skipped
use Rattle.rtps_text.specs.ShowText as show_text
use Rattle.rtps_receiver.specs.Acts as acts
use Rattle.rtps_text.proofs.ShowLemmas.{outcomes_text-item, unread_more}
use Rattle.rtps_wire.proofs.Offered.{next_stands_at, refusal_is_last, skipped_first}
use Rattle.rtps_wire.specs.Values as values
use Rattle.rtps_text.proofs.text.show_text.push_items.Goals as goal

pub items-preserved-in_ok-push_said-in-Some-fragments_at : goal.items-preserved-in_ok-push_said-in-Some-fragments_at
items-preserved-in_ok-push_said-in-Some-fragments_at c =
    let fragments = show_text.fragments_at c.args.datagram.fragments c.args.datagram.octets.now in
    let state = c.items.state in
    let old = string_bytes c.items.text in
    let left = reading.outcomes_left c.items.items in
    let later = reading.outcomes_left c.take_skipped.new.self in
    let first = skipped_first left c.in-Some.id c.in-Some.ensures.id in
    let item = first.0 in
    let next : left ≡ Ok item ∷ later = first.2 ∙ ap (λ l. Ok item ∷ l) (sym c.in-Some.ensures.left) in
    let line = c.in_ok-push_said-in-Some-fragments_at.ensures.line ∙ ap (λ found. old ++ show_text.unread_line state c.at-at.result c.in-Some.id found) (sym c.in-Some-fragments_at.ensures) in (
      unread_more fragments state old _ _ left later item c.in-Some.id c.at-at.result line next first.1 (c.at-at.ensures ∙ sym (next_stands_at c.items.items item later next)) c.items.invariant.0,
      c.in_ok-push_said-in-Some-fragments_at.ensures.tail,
    )

pub items-preserved-in_ok-push_skipped-in-None : goal.items-preserved-in_ok-push_skipped-in-None
items-preserved-in_ok-push_skipped-in-None c =
    let fragments = show_text.fragments_at c.args.datagram.fragments c.args.datagram.octets.now in
    let state = c.items.state in
    let old = string_bytes c.items.text in
    let left = reading.outcomes_left c.items.items in
    let later = reading.outcomes_left c.take_skipped.new.self in
    let first = skipped_first left c.in-Some.id c.in-Some.ensures.id in
    let item = first.0 in
    let next : left ≡ Ok item ∷ later = first.2 ∙ ap (λ l. Ok item ∷ l) (sym c.in-Some.ensures.left) in
    let line = c.in_ok-push_skipped-in-None.ensures ∙ ap (λ found. old ++ show_text.unread_line state c.at-at.result c.in-Some.id found) (sym c.in-None.ensures) in (
      unread_more fragments state old _ _ left later item c.in-Some.id c.at-at.result line next first.1 (c.at-at.ensures ∙ sym (next_stands_at c.items.items item later next)) c.items.invariant.0,
      c.items.invariant.1,
    )

-- the line of an item, and then those behind it
pub items-preserved-in-Some-Ok : goal.items-preserved-in-Some-Ok
items-preserved-in-Some-Ok c =
    let fragments = show_text.fragments_at c.args.datagram.fragments c.args.datagram.octets.now in
    let state = c.items.state in
    let old = string_bytes c.items.text in
    let later = reading.outcomes_left c.next.new.self in
    let item = values.item_value c.in-Some-Ok.item in
    let step : reading.outcomes_left c.items.items ≡ Ok item ∷ later =
    ap reading.outcomes_left (sym c.in_default.ensures.left) ∙ c.in-Some-Ok.ensures.steps ∙ ap (λ o. reading.outcome_value o ∷ later) c.in-Some-Ok.field-0-is in
    let not : skipped.skipped_id item.body ≡ None = ap skipped.skipped_next (sym step) ∙ sym c.in_default.ensures.id in (
      ap (λ s. string_bytes c.push_item.new.text ++ show_text.outcomes_text fragments s later) c.interpret.ensures.state
          ∙ ap (λ bytes. bytes ++ show_text.outcomes_text fragments (acts.state_behind state (item ∷ [])) later) c.in_ok-push_item-in-Some-Ok.ensures.line
          ∙ append_assoc old (show_text.item_line state item) (show_text.outcomes_text fragments (acts.state_behind state (item ∷ [])) later)
          ∙ ap (λ bytes. old ++ bytes) (sym (outcomes_text-item fragments state item later not))
          ∙ ap (λ (more : List reading.Outcome). old ++ show_text.outcomes_text fragments state more) (sym step) ∙ c.items.invariant.0,
      c.interpret.ensures.tail,
    )

-- a refusal is the last line
pub items-preserved : goal.items-preserved
items-preserved c =
    let fragments = show_text.fragments_at c.args.datagram.fragments c.args.datagram.octets.now in
    let left = c.items.items in
    let later = reading.outcomes_left c.next.new.self in
    let refusal = c.in-Some-Err.refusal in
    let step : reading.outcomes_left left ≡ Err refusal ∷ later =
    ap reading.outcomes_left (sym c.in_default.ensures.left) ∙ c.in-Some-Err.ensures.steps ∙ ap (λ o. reading.outcome_value o ∷ later) c.in-Some-Err.field-0-is in
    let none : later ≡ [] = refusal_is_last left refusal later step in
    let last : reading.outcomes_left left ≡ Err refusal ∷ [] = step ∙ ap (λ (more : List reading.Outcome). Err refusal ∷ more) none in (
      ap (λ (more : List reading.Outcome). string_bytes c.push_refusal.new.text ++ show_text.outcomes_text fragments c.items.state more) none
          ∙ append-nil _ ∙ c.in_ok-push_refusal-in-Some-Err.ensures
          ∙ ap (λ (more : List reading.Outcome). string_bytes c.items.text ++ show_text.outcomes_text fragments c.items.state more) (sym last) ∙ c.items.invariant.0,
      c.items.invariant.1,
    )
