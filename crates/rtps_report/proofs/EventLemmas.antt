-- Rows of events, with one row more, and events in their order.
use Rattle.std.proofs.Common.{Bor, ◌≡◌, ◌∙◌, ℕ, ◌+◌, ◌<◌, ◌&&◌, Bool, true, false, cond, not, List, [], ◌∷◌, ◌++◌, Option, Some, None, append-nil, ap, ap₂, filter, get_or, length, map, refl, subst, sym, take}
use Rattle.std.specs.Cmp.Lexicographic.{texts_ties}
use Rattle.std.specs.Global.{Vec}
use Rattle.std.specs.Option.{option_cmp}
use Rattle.std.specs.Ordering.{is_eq, ordering_then}
use Rattle.std.specs.declared.cmp.Ordering.{Ordering}
use Rattle.std.specs.declared.cmp.Ordering.TheVariants.{Less, Equal, Greater}
use Rattle.std.proofs.lemmas.List.{map_more}
use Rattle.std.proofs.lemmas.List.Elements.{filter-append}
use Rattle.std.proofs.lemmas.Slice.Eq.{bytes_eq-Decides}
use Rattle.rtps_ids.specs.declared.identity.GuidPrefix.{GuidPrefix}
use Rattle.rtps_receiver.specs.Speech as speech
use Rattle.rtps_audit.proofs.Offered.{bytes_eq-sym}
use Rattle.rtps_report.specs.Events as events
use Rattle.rtps_report.specs.Talk as talk
use Rattle.rtps_evidence.specs.declared.explanation.Explanation.{Explanation}
use Rattle.rtps_evidence.specs.Explanation as explanation
use Rattle.rtps_report.specs.declared.event_rows.EventKey.{EventKey}
use Rattle.rtps_report.specs.declared.event_rows.EventRows.{EventRows}

-- ---- keys that compare alike

both_true : (a b : Bool) → (a && b) ≡ true → (a ≡ true) × (b ≡ true)
both_true true b e = (refl, e)
both_true false b e = absurd (let clash : false ≡ true = e in cc)

tied : (a b : Ordering) → is_eq (ordering_then a b) ≡ (is_eq a && is_eq b)
tied Less b = refl
tied Equal b = refl
tied Greater b = refl

second_is : (one other : Option GuidPrefix) → is_eq (option_cmp events.prefix_cmp one other) ≡ events.is_second one other
second_is None None = refl
second_is None (Some other) = refl
second_is (Some one) None = refl
second_is (Some one) (Some other) = sym (texts_ties one.0 other.0)

key_is : (one other : EventKey) → is_eq (events.key_cmp one other) ≡ events.is_key one other
key_is one other =
    tied (events.prefix_cmp one.first other.first) (option_cmp events.prefix_cmp one.second other.second)
    ∙ ap₂ (λ (a b : Bool). a && b) (sym (texts_ties one.first.0 other.first.0)) (second_is one.second other.second)

prefix_by : List ℕ → GuidPrefix
prefix_by octets = record { 0 = octets }

same_prefix : (one other : GuidPrefix) → speech.is_prefix one other ≡ true → one ≡ other
unfolding prefix_by
same_prefix one other e = ap prefix_by ((bytes_eq-Decides one.0 other.0).0 e)

same_second : (one other : Option GuidPrefix) → events.is_second one other ≡ true → one ≡ other
same_second None None e = refl
same_second None (Some other) e = absurd (let clash : false ≡ true = e in cc)
same_second (Some one) None e = absurd (let clash : false ≡ true = e in cc)
same_second (Some one) (Some other) e = ap Some (same_prefix one other e)

key_by_parts : GuidPrefix → Option GuidPrefix → EventKey
key_by_parts first second = record { first = first; second = second }

pub same_key : (one other : EventKey) → events.is_key one other ≡ true → one ≡ other
unfolding key_by_parts
same_key one other e =
    let parts = both_true (speech.is_prefix one.first other.first) (events.is_second one.second other.second) e in
    ap₂ key_by_parts (same_prefix one.first other.first parts.0) (same_second one.second other.second parts.1)

second-sym : (one other : Option GuidPrefix) → events.is_second one other ≡ events.is_second other one
second-sym None None = refl
second-sym None (Some other) = refl
second-sym (Some one) None = refl
second-sym (Some one) (Some other) = bytes_eq-sym one.0 other.0

pub key-sym : (one other : EventKey) → events.is_key one other ≡ events.is_key other one
key-sym one other = ap₂ (λ (a b : Bool). a && b) (bytes_eq-sym one.first.0 other.first.0) (second-sym one.second other.second)

prefix-refl : (prefix : GuidPrefix) → speech.is_prefix prefix prefix ≡ true
prefix-refl prefix = (bytes_eq-Decides prefix.0 prefix.0).1 refl

second-refl : (second : Option GuidPrefix) → events.is_second second second ≡ true
second-refl None = refl
second-refl (Some prefix) = prefix-refl prefix

pub key-refl : (key : EventKey) → events.is_key key key ≡ true
key-refl key = ap₂ (λ (a b : Bool). a && b) (prefix-refl key.first) (second-refl key.second)

-- ---- a row more of one event

-- rows of an event are written with one more
pub rows_written : (found : EventKey → Option (Vec (Bor Explanation))) (key other : EventKey) (list : Vec (Bor Explanation)) (row : explanation.ExplanationValue)
    → events.rows_in (Some list) ≡ events.rows_in (found key) ++ row ∷ []
    → events.rows_in (cond (is_eq (events.key_cmp key other)) (Some list) (found other)) ≡ events.rows_in (found other) ++ cond (events.is_key other key) (row ∷ []) []
rows_written found key other list row more = by (events.is_key key other) refl
  where
    by : (b : Bool) → events.is_key key other ≡ b
        → events.rows_in (cond (is_eq (events.key_cmp key other)) (Some list) (found other)) ≡ events.rows_in (found other) ++ cond (events.is_key other key) (row ∷ []) []
    by true e =
        ap (λ (b : Bool). events.rows_in (cond b (Some list) (found other))) (key_is key other ∙ e) ∙ more
        ∙ ap (λ one. events.rows_in (found one) ++ row ∷ []) (same_key key other e)
        ∙ ap (λ (b : Bool). events.rows_in (found other) ++ cond b (row ∷ []) []) (sym (key-sym other key ∙ e))
    by false e =
        ap (λ (b : Bool). events.rows_in (cond b (Some list) (found other))) (key_is key other ∙ e) ∙ sym (append-nil (events.rows_in (found other)))
        ∙ ap (λ (b : Bool). events.rows_in (found other) ++ cond b (row ∷ []) []) (sym (key-sym other key ∙ e))

-- ---- a row more of all

pub rows_more : (talk : talk.TalkValue) (tail : ℕ) (rows : List explanation.ExplanationValue) (row : explanation.ExplanationValue) (key : EventKey)
    → events.rows_with talk tail (rows ++ row ∷ []) key ≡ events.rows_with talk tail rows key ++ cond (events.is_that key (events.noted_key talk tail row)) (row ∷ []) []
rows_more talk tail rows row key = filter-append (λ (one : explanation.ExplanationValue). events.is_that key (events.noted_key talk tail one)) rows (row ∷ [])

-- keys, where there are no rows
pub by_none : List explanation.ExplanationValue → List EventKey → List EventKey
by_none [] keys = keys
by_none (row ∷ rows) keys = []

kept : (first : explanation.ExplanationValue) (key k : EventKey) (left : List explanation.ExplanationValue) (b : Bool) → events.is_key key k ≡ b
    → filter (λ other. not (events.is_key k other)) (by_none left (key ∷ [])) ≡ by_none (cond b (first ∷ left) left) (key ∷ [])
unfolding by_none
kept first key k [] true e = ap (λ (b : Bool). cond (not b) (key ∷ []) []) (key-sym k key ∙ e)
kept first key k [] false e = ap (λ (b : Bool). cond (not b) (key ∷ []) []) (key-sym k key ∙ e)
kept first key k (one ∷ left) true e = refl
kept first key k (one ∷ left) false e = refl

kept_by_test : (first : explanation.ExplanationValue) (key k : EventKey) (left : List explanation.ExplanationValue)
    → filter (λ other. not (events.is_key k other)) (by_none left (key ∷ [])) ≡ by_none (cond (events.is_key key k) (first ∷ left) left) (key ∷ [])
kept_by_test first key k left = kept first key k left (events.is_key key k) refl

-- keys behind a row, with one key more that there may be already
one_more : (first : explanation.ExplanationValue) (k : Option EventKey) (key : EventKey) (all known : List EventKey) (left : List explanation.ExplanationValue) → all ≡ known ++ by_none left (key ∷ [])
    → events.before_others k all ≡ events.before_others k known ++ by_none (cond (events.is_that key k) (first ∷ left) left) (key ∷ [])
one_more first None key all known left onward = onward
one_more first (Some k) key all known left onward =
    ap (λ (keys : List EventKey). k ∷ filter (λ other. not (events.is_key k other)) keys) onward
    ∙ ap (λ (keys : List EventKey). k ∷ keys) (filter-append (λ other. not (events.is_key k other)) known (by_none left (key ∷ []))
    ∙ ap (λ (keys : List EventKey). filter (λ other. not (events.is_key k other)) known ++ keys) (kept_by_test first key k left))

pub keys_more : (talk : talk.TalkValue) (tail : ℕ) (rows : List explanation.ExplanationValue) (row : explanation.ExplanationValue) (key : EventKey) → events.noted_key talk tail row ≡ Some key
    → events.keys_of talk tail (rows ++ row ∷ []) ≡ events.keys_of talk tail rows ++ by_none (events.rows_with talk tail rows key) (key ∷ [])
unfolding by_none
keys_more talk tail [] row key is = ap (λ k. events.before_others k []) is
keys_more talk tail (first ∷ rows) row key is =
    one_more first (events.noted_key talk tail first) key (events.keys_of talk tail (rows ++ row ∷ [])) (events.keys_of talk tail rows) (events.rows_with talk tail rows key)
    (keys_more talk tail rows row key is)

pub keys_same : (talk : talk.TalkValue) (tail : ℕ) (rows : List explanation.ExplanationValue) (row : explanation.ExplanationValue) → events.noted_key talk tail row ≡ None
    → events.keys_of talk tail (rows ++ row ∷ []) ≡ events.keys_of talk tail rows
keys_same talk tail [] row none = ap (λ k. events.before_others k []) none
keys_same talk tail (first ∷ rows) row none = ap (events.before_others (events.noted_key talk tail first)) (keys_same talk tail rows row none)

-- what is kept of rows, with one row more of an event
pub noted : (talk : talk.TalkValue) (tail : ℕ) (rows : List explanation.ExplanationValue) (row : explanation.ExplanationValue) (key : EventKey) (old new : EventRows)
    → events.noted_key talk tail row ≡ Some key → events.AreEventRows talk tail rows old
    → ((other : EventKey) → events.rows_at new.map other ≡ events.rows_at old.map other ++ cond (events.is_key other key) (row ∷ []) [])
    → new.keys.items ≡ old.keys.items ++ by_none (events.rows_at old.map key) (key ∷ []) → events.AreEventRows talk tail (rows ++ row ∷ []) new
noted talk tail rows row key old new is were each grown =
    record {
      each = λ other.
          each other ∙ ap (λ (own : List explanation.ExplanationValue). own ++ cond (events.is_key other key) (row ∷ []) []) (were.each other)
          ∙ ap (λ (k : Option EventKey). events.rows_with talk tail rows other ++ cond (events.is_that other k) (row ∷ []) []) (sym is) ∙ sym (rows_more talk tail rows row other);
      keys = grown ∙ ap (λ (own : List explanation.ExplanationValue). old.keys.items ++ by_none own (key ∷ [])) (were.each key)
          ∙ ap (λ (known : List EventKey). known ++ by_none (events.rows_with talk tail rows key) (key ∷ [])) were.keys ∙ sym (keys_more talk tail rows row key is);
    }

-- the same with one that nobody has to look at
pub not_noted : (talk : talk.TalkValue) (tail : ℕ) (rows : List explanation.ExplanationValue) (row : explanation.ExplanationValue) (kept : EventRows) → events.noted_key talk tail row ≡ None → events.AreEventRows talk tail rows kept
    → events.AreEventRows talk tail (rows ++ row ∷ []) kept
not_noted talk tail rows row kept none were =
    record {
      each = λ other.
          were.each other ∙ sym (append-nil (events.rows_with talk tail rows other))
          ∙ ap (λ (k : Option EventKey). events.rows_with talk tail rows other ++ cond (events.is_that other k) (row ∷ []) []) (sym none) ∙ sym (rows_more talk tail rows row other);
      keys = were.keys ∙ sym (keys_same talk tail rows row none);
    }

-- keys, by whether there are rows
pub none_of : (rows : List explanation.ExplanationValue) (keys : List EventKey) → events.has_none rows ≡ true → by_none rows keys ≡ keys
unfolding by_none
none_of [] keys none = refl
none_of (row ∷ rows) keys none = absurd (let clash : false ≡ true = none in cc)

pub some_of : (rows : List explanation.ExplanationValue) (keys : List EventKey) → events.has_none rows ≡ false → by_none rows keys ≡ []
unfolding by_none
some_of [] keys some = absurd (let clash : true ≡ false = some in cc)
some_of (row ∷ rows) keys some = refl

-- ---- the loop over rows

-- what is kept of the rows so far and the next one
pub with_next : (talk : talk.TalkValue) (tail : ℕ) (rows : List Explanation) (i : ℕ) (d : Explanation) (kept : EventRows) → i < length rows
    → events.AreEventRows talk tail (map explanation.explanation_value (take i rows) ++ explanation.explanation_value (get_or rows i d) ∷ []) kept → events.AreEventRows talk tail (map explanation.explanation_value (take (i + 1) rows)) kept
with_next talk tail rows i d kept within are = subst (λ all. events.AreEventRows talk tail all kept) (sym (map_more explanation.explanation_value rows i d within)) are

-- the same where nobody has to look at the next one
pub without_next : (talk : talk.TalkValue) (tail : ℕ) (rows : List Explanation) (i : ℕ) (d : Explanation) (key : Option EventKey) (kept : EventRows) → i < length rows
    → key ≡ events.noted_key talk tail (explanation.explanation_value (get_or rows i d)) → key ≡ None
    → events.AreEventRows talk tail (map explanation.explanation_value (take i rows)) kept → events.AreEventRows talk tail (map explanation.explanation_value (take (i + 1) rows)) kept
without_next talk tail rows i d key kept within is none are =
    with_next talk tail rows i d kept within (not_noted talk tail (map explanation.explanation_value (take i rows)) (explanation.explanation_value (get_or rows i d)) kept (sym is ∙ none) are)
