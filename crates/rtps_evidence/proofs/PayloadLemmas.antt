-- The payloads that are sent for a number, with one act more.
use Rattle.std.proofs.Common.{◌≡◌, ◌∙◌, ℕ, Bool, true, false, cond, not, List, [], ◌∷◌, ◌++◌, Option, Some, None, refl, sym, ap}
use Rattle.std.specs.Prelude.{is_some}
use Rattle.std.specs.List.{find}
use Rattle.std.specs.Option.{option_map, option_or}
use Rattle.std.proofs.lemmas.List.Folds.{find-append}
use Rattle.std.proofs.lemmas.Slice.Eq.{bytes_eq-Decides}
use Rattle.rtps_ids.specs.declared.identity.Guid.{Guid}
use Rattle.rtps_wire.specs.Values as wire_values
use Rattle.rtps_audit.specs.Placed as placed
use Rattle.rtps_evidence.specs.Locations as locations
use Rattle.rtps_evidence.proofs.FindLemmas.{first_passed, first_stays}

-- a payload is the same as itself
same_self : (p : wire_values.PayloadValue) → locations.is_same p p ≡ true
same_self wire_values.PayloadValue.Absent = refl
same_self (wire_values.PayloadValue.Whole octets) = (bytes_eq-Decides octets octets).1 refl
same_self (wire_values.PayloadValue.Key octets) = (bytes_eq-Decides octets octets).1 refl

find_stays : {X : Type 0} (test : X → Bool) (xs ys : List X) (y : X) → find test xs ≡ Some y → find test (xs ++ ys) ≡ Some y
find_stays test xs ys y at = find-append test xs ys ∙ ap (λ o. option_or o (find test ys)) at

find_last : {X : Type 0} (test : X → Bool) (xs : List X) (x : X) → find test xs ≡ None → find test (xs ++ x ∷ []) ≡ cond (test x) (Some x) None
find_last test xs x at = find-append test xs (x ∷ []) ∙ ap (λ o. option_or o (find test (x ∷ []))) at

module _ (writer reader : Guid) (n : ℕ) where
  abbrev sends : placed.PlacedValue → Bool
  sends x = locations.sends writer reader n x

  abbrev differs : wire_values.PayloadValue → placed.PlacedValue → Bool
  differs p x = locations.differs p (locations.payload_for writer reader n x)

  abbrev other_by : List placed.PlacedValue → Option wire_values.PayloadValue → Option locations.SentValue
  other_by acts first = option_map (locations.sent_at writer reader n) (locations.other_sending writer reader n first acts)

  -- where none of these acts sends a payload, none sends another one
  none_other : (p : wire_values.PayloadValue) (acts : List placed.PlacedValue) → find sends acts ≡ None → find (differs p) acts ≡ None
  none_other p [] none = refl
  none_other p (y ∷ ys) none = by (none_other p ys) (locations.payload_for writer reader n y) none
    where
      by : (find sends ys ≡ None → find (differs p) ys ≡ None) → (o : Option wire_values.PayloadValue) → cond (is_some o) (Some y) (find sends ys) ≡ None → cond (locations.differs p o) (Some y) (find (differs p) ys) ≡ None
      by rest None none = rest none
      by rest (Some q) none = absurd (cc)

  -- what is sent for it beside the first payload
  beside : (acts : List placed.PlacedValue) (y : placed.PlacedValue) (p : wire_values.PayloadValue) → find sends acts ≡ Some y → locations.payload_for writer reader n y ≡ Some p
      → locations.other_sent writer reader n acts ≡ option_map (locations.sent_at writer reader n) (find (differs p) acts)
  beside acts y p at sent = ap (λ o. other_by acts (locations.payload_at writer reader n o)) at ∙ ap (other_by acts) sent

  no_other : (acts : List placed.PlacedValue) → find sends acts ≡ None → locations.other_sent writer reader n acts ≡ None
  no_other acts none = ap (λ o. other_by acts (locations.payload_at writer reader n o)) none

  -- the payload of the first, where there is one
  payload_there : (o : Option wire_values.PayloadValue) (p : wire_values.PayloadValue) (sent made : locations.SentValue) → Some sent ≡ Some made → sent.payload ≡ Some p → made.payload ≡ Some p
  payload_there o p sent made same is = let equal : sent ≡ made = (let e : Some sent ≡ Some made = same in cc) in sym (ap (λ (s : locations.SentValue). s.payload) equal) ∙ is

  -- behind the first payload
  pub sent_behind : (acts : List placed.PlacedValue) (x : placed.PlacedValue) (sent : locations.SentValue) (other new : Option locations.SentValue) (p : wire_values.PayloadValue) → sent.payload ≡ Some p
      → (other ≡ option_map (locations.sent_at writer reader n) (find (differs p) acts) → new ≡ option_map (locations.sent_at writer reader n) (find (differs p) (acts ++ x ∷ [])))
      → locations.AreSent writer reader n acts (Some sent) other → locations.AreSent writer reader n (acts ++ x ∷ []) (Some sent) new
  sent_behind acts x sent other new p is step are = by (find sends acts) refl are.first_is
    where
      by : (o : Option placed.PlacedValue) → find sends acts ≡ o → Some sent ≡ option_map (locations.sent_at writer reader n) o → locations.AreSent writer reader n (acts ++ x ∷ []) (Some sent) new
      by None at first = absurd (cc)
      by (Some y) at first =
          let stays = find_stays sends acts (x ∷ []) y at in
          let payload : locations.payload_for writer reader n y ≡ Some p = payload_there (Some p) p sent (locations.sent_at writer reader n y) first is in
          record {
            first_is = first ∙ sym (ap (option_map (locations.sent_at writer reader n)) stays);
            other_is = step (are.other_is ∙ beside acts y p at payload) ∙ sym (beside (acts ++ x ∷ []) y p stays payload);
          }

  -- the first payload
  pub sent_first : (acts : List placed.PlacedValue) (x : placed.PlacedValue) (other : Option locations.SentValue) (p : wire_values.PayloadValue) → locations.payload_for writer reader n x ≡ Some p → locations.AreSent writer reader n acts None other
      → locations.AreSent writer reader n (acts ++ x ∷ []) (Some (locations.sent_at writer reader n x)) None
  sent_first acts x other p sends_it are = by (find sends acts) refl are.first_is
    where
      passes : sends x ≡ true
      passes = ap is_some sends_it

      by : (o : Option placed.PlacedValue) → find sends acts ≡ o → None ≡ option_map (locations.sent_at writer reader n) o → locations.AreSent writer reader n (acts ++ x ∷ []) (Some (locations.sent_at writer reader n x)) None
      by (Some y) at first = absurd (cc)
      by None at first =
          let here : find sends (acts ++ x ∷ []) ≡ Some x = find_last sends acts x at ∙ ap (λ b. cond b (Some x) None) passes in
          let same : differs p x ≡ false = ap (locations.differs p) sends_it ∙ ap not (same_self p) in
          let none : find (differs p) (acts ++ x ∷ []) ≡ None = find_last (differs p) acts x (none_other p acts at) ∙ ap (λ b. cond b (Some x) None) same in
          record {
            first_is = sym (ap (option_map (locations.sent_at writer reader n)) here);
            other_is = sym (beside (acts ++ x ∷ []) x p here sends_it ∙ ap (option_map (locations.sent_at writer reader n)) none);
          }

  -- an act that sends none
  pub sent_still : (acts : List placed.PlacedValue) (x : placed.PlacedValue) (first other : Option locations.SentValue) → locations.payload_for writer reader n x ≡ None → locations.AreSent writer reader n acts first other
      → locations.AreSent writer reader n (acts ++ x ∷ []) first other
  sent_still acts x first other sends_none are = by (find sends acts) refl
    where
      out : sends x ≡ false
      out = ap is_some sends_none

      by : (o : Option placed.PlacedValue) → find sends acts ≡ o → locations.AreSent writer reader n (acts ++ x ∷ []) first other
      by None at =
          record {
            first_is = first_passed (locations.sent_at writer reader n) sends acts x first out are.first_is;
            other_is = are.other_is ∙ no_other acts at ∙ sym (no_other (acts ++ x ∷ []) (find_last sends acts x at ∙ ap (λ b. cond b (Some x) None) out));
          }
      by (Some y) at = sends_by (locations.payload_for writer reader n y) refl
        where
          stays : find sends (acts ++ x ∷ []) ≡ Some y
          stays = find_stays sends acts (x ∷ []) y at

          sends_by : (o : Option wire_values.PayloadValue) → locations.payload_for writer reader n y ≡ o → locations.AreSent writer reader n (acts ++ x ∷ []) first other
          sends_by None payload =
              record {
                first_is = first_passed (locations.sent_at writer reader n) sends acts x first out are.first_is;
                other_is = are.other_is ∙ ap (λ o. other_by acts (locations.payload_at writer reader n o)) at ∙ ap (other_by acts) payload
                    ∙ sym (ap (λ o. other_by (acts ++ x ∷ []) (locations.payload_at writer reader n o)) stays ∙ ap (other_by (acts ++ x ∷ [])) payload);
              }
          sends_by (Some p) payload =
              record {
                first_is = first_passed (locations.sent_at writer reader n) sends acts x first out are.first_is;
                other_is = first_passed (locations.sent_at writer reader n) (differs p) acts x other (ap (locations.differs p) sends_none) (are.other_is ∙ beside acts y p at payload) ∙ sym (beside (acts ++ x ∷ []) y p stays payload);
              }

  -- once the other one is found, both stay
  pub sent_settled : (acts more : List placed.PlacedValue) (first other : Option locations.SentValue) → is_some other ≡ true → locations.AreSent writer reader n acts first other → locations.AreSent writer reader n (acts ++ more) first other
  sent_settled acts more first other there are = by (find sends acts) refl
    where
      by : (o : Option placed.PlacedValue) → find sends acts ≡ o → locations.AreSent writer reader n (acts ++ more) first other
      by None at = absurd (let no : false ≡ true = ap is_some (sym (are.other_is ∙ no_other acts at)) ∙ there in cc)
      by (Some y) at = sends_by (locations.payload_for writer reader n y) refl
        where
          stays : find sends (acts ++ more) ≡ Some y
          stays = find_stays sends acts more y at

          sends_by : (o : Option wire_values.PayloadValue) → locations.payload_for writer reader n y ≡ o → locations.AreSent writer reader n (acts ++ more) first other
          sends_by None payload = absurd (let no : false ≡ true = ap is_some (sym (are.other_is ∙ ap (λ o. other_by acts (locations.payload_at writer reader n o)) at ∙ ap (other_by acts) payload)) ∙ there in cc)
          sends_by (Some p) payload =
              record {
                first_is = are.first_is ∙ ap (option_map (locations.sent_at writer reader n)) (at ∙ sym stays);
                other_is = first_stays (locations.sent_at writer reader n) (differs p) acts more other there (are.other_is ∙ beside acts y p at payload) ∙ sym (beside (acts ++ more) y p stays payload);
              }
