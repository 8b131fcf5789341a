-- The tokens of entries, of a writer and of answers, and that a writer says the acts that are from it.
use Rattle.std.proofs.Common.{◌≡◌, ◌+◌, ◌<◌, ◌++◌, ◌∷◌, [], ◌∙◌, ℕ, ℤ, List, Bool, true, false, ap, append-nil, append_assoc, codes, cond, decimal, filter, get_or, length, map, refl, rules, sym, take, map-id, flat_map}
use Rattle.std.proofs.lemmas.List.{map-append, take_more}
use Rattle.std.proofs.lemmas.List.Elements.{filter-append}
use Rattle.std.proofs.lemmas.List.Concat.{flat_map-append}
use Rattle.std.proofs.lemmas.List.Folds.{flat_map-map}
use Rattle.json.specs.Json.{Json, string as json_string}
use Rattle.rtps_evidence.specs.declared.location.Location.{Location}
use Rattle.rtps_discovery.specs.declared.matching.Pair.{Pair}
use Rattle.rtps_ids.specs.declared.identity.Guid.{Guid}
use Rattle.rtps_receiver.specs.Speech as speech
use Rattle.rtps_audit.specs.Placed as placed_spec
use Rattle.rtps_audit.specs.declared.placed.Placed.{Placed}
use Rattle.rtps_audit.proofs.Offered.{speaker_is_origin}
use Rattle.rtps_page.specs.Page as page
use Rattle.rtps_page.proofs.Written.{answer_json, answers_in, array_of, begin_array, begin_object, count_json, end_array, end_object, entries_by, entry_json, guid_text, json_tokens, key, mapped_tokens, named_json, number, number_json, set_items, string, Token, writer_json}

-- the tokens of an array
pub array_tokens : (values : List Json) → json_tokens (array_of values) ≡ begin_array ∷ (flat_map json_tokens values ++ end_array ∷ [])
array_tokens values = ap (λ l. json_tokens (array_of l)) (sym (map-id values)) ∙ mapped_tokens (λ value. value) values

-- the tokens of an entry, part by part
pub entry_tokens : (place : Location) (named kind : List ℕ) (numbers : List ℤ)
    → json_tokens (entry_json place named kind numbers)
    ≡ begin_array ∷ number (decimal place.datagram) ∷ number (decimal place.at) ∷ string kind ∷ (flat_map (λ n. json_tokens (number_json n)) numbers ++ (flat_map json_tokens (named_json named) ++ end_array ∷ []))
entry_tokens place named kind numbers =
    let start : List Token → List Token = λ rest. begin_array ∷ number (decimal place.datagram) ∷ number (decimal place.at) ∷ string kind ∷ rest in
    let end : List Token = end_array ∷ [] in
    let names = flat_map json_tokens (named_json named) in
    array_tokens (count_json place.datagram ∷ count_json place.at ∷ json_string kind ∷ (map number_json numbers ++ named_json named))
    ∙ ap (λ l. start (l ++ end)) (flat_map-append json_tokens (map number_json numbers) (named_json named) ∙ ap (λ l. l ++ names) (flat_map-map json_tokens number_json numbers))
    ∙ ap start (append_assoc (flat_map (λ n. json_tokens (number_json n)) numbers) names end)

-- an array behind its key, and the end of the object
array_last : (values : List Json) → json_tokens (array_of values) ++ end_object ∷ [] ≡ begin_array ∷ (flat_map json_tokens values ++ (end_array ∷ end_object ∷ []))
array_last values = ap (λ l. l ++ end_object ∷ []) (array_tokens values) ∙ ap (λ l. begin_array ∷ l) (append_assoc (flat_map json_tokens values) (end_array ∷ []) (end_object ∷ []))

pub writer_tokens : (acts : List placed_spec.PlacedValue) (all : List Pair) (writer : Guid)
    → json_tokens (writer_json acts all writer)
    ≡ begin_object ∷ key (codes "guid") ∷ string (guid_text writer) ∷ key (codes "acts") ∷ begin_array ∷ (flat_map json_tokens (entries_by all writer acts) ++ (end_array ∷ end_object ∷ []))
writer_tokens acts all writer = ap (λ l. begin_object ∷ key (codes "guid") ∷ string (guid_text writer) ∷ key (codes "acts") ∷ l) (array_last (entries_by all writer acts))

pub answered_tokens : (pair : Pair) (answers : List placed_spec.PlacedValue)
    → json_tokens (page.answered_json pair answers)
    ≡ begin_object ∷ key (codes "writer") ∷ string (guid_text pair.writer) ∷ key (codes "reader") ∷ string (guid_text pair.reader) ∷ key (codes "bases") ∷ begin_array
    ∷ (flat_map (λ placed. json_tokens (answer_json placed)) answers ++ (end_array ∷ end_object ∷ []))
answered_tokens pair answers =
    let start : List Token → List Token = λ rest. begin_object ∷ key (codes "writer") ∷ string (guid_text pair.writer) ∷ key (codes "reader") ∷ string (guid_text pair.reader) ∷ key (codes "bases") ∷ rest in
    ap start (array_last (map answer_json answers))
    ∙ ap (λ l. start (begin_array ∷ (l ++ (end_array ∷ end_object ∷ [])))) (flat_map-map json_tokens answer_json answers)

-- the tokens of an answer, part by part
pub answer_tokens : (placed : placed_spec.PlacedValue)
    → json_tokens (answer_json placed)
    ≡ begin_array ∷ number (decimal placed.datagram) ∷ number (decimal placed.act.at) ∷ (flat_map json_tokens (set_items placed.act.body) ++ end_array ∷ [])
answer_tokens placed = array_tokens (count_json placed.datagram ∷ count_json placed.act.at ∷ set_items placed.act.body)

-- those of numbers in an array
pub numbers_tokens : (numbers : List ℕ) → json_tokens (array_of (map count_json numbers)) ≡ begin_array ∷ (flat_map (λ n. json_tokens (count_json n)) numbers ++ end_array ∷ [])
numbers_tokens numbers = array_tokens (map count_json numbers) ∙ ap (λ l. begin_array ∷ (l ++ end_array ∷ [])) (flat_map-map json_tokens count_json numbers)

-- what a writer says is from it, and what a reader answers
is_false : (b : Bool) → (b ≡ true → false ≡ true) → b ≡ false
is_false true h = sym (h refl)
is_false false h = refl

kept_first : {X : Type 0} (test keeps : X → Bool) → ((x : X) → test x ≡ true → keeps x ≡ true) → (xs : List X) → filter test (filter keeps xs) ≡ filter test xs
kept_first test keeps all [] = refl
kept_first {X} test keeps all (x ∷ xs) = go (keeps x) (all x) (kept_first test keeps all xs)
  where
    go : (kept : Bool) → (test x ≡ true → kept ≡ true) → filter test (filter keeps xs) ≡ filter test xs → filter test (cond kept (x ∷ filter keeps xs) (filter keeps xs)) ≡ filter test (x ∷ xs)
    go true h rest = ap (λ l. cond (test x) (x ∷ l) l) rest
    go false h rest = rest ∙ sym (ap (λ b. cond b (x ∷ filter test xs) (filter test xs)) (is_false (test x) h))

pub spoken_from : (writer : Guid) (acts : List placed_spec.PlacedValue)
    → filter (λ placed. speech.is_spoken_by placed.act writer) (filter (placed_spec.is_from writer) acts) ≡ filter (λ placed. speech.is_spoken_by placed.act writer) acts
spoken_from writer acts = kept_first (λ placed. speech.is_spoken_by placed.act writer) (placed_spec.is_from writer) (speaker_is_origin writer) acts

answerer_is_origin : (pair : Pair) (placed : placed_spec.PlacedValue) → speech.is_answer placed.act pair.reader pair.writer ≡ true → placed_spec.is_from pair.reader placed ≡ true
answerer_is_origin pair placed e = search rules

pub answered_from : (pair : Pair) (acts : List placed_spec.PlacedValue) → answers_in pair (filter (placed_spec.is_from pair.reader) acts) ≡ answers_in pair acts
answered_from pair acts = kept_first (λ placed. speech.is_answer placed.act pair.reader pair.writer) (placed_spec.is_from pair.reader) (answerer_is_origin pair) acts

-- the answers among one act more
answers_past : (pair : Pair) (acts : List Placed) (i : ℕ) (x : Placed) → i < length acts → x ≡ get_or acts i x
    → answers_in pair (map placed_spec.placed_value (take (i + 1) acts)) ≡ answers_in pair (map placed_spec.placed_value (take i acts)) ++ cond (speech.is_answer (placed_spec.placed_value x).act pair.reader pair.writer) (placed_spec.placed_value x ∷ []) []
answers_past pair acts i x lt at =
    ap (λ (l : List Placed). answers_in pair (map placed_spec.placed_value l)) (take_more acts i x lt ∙ ap (λ (y : Placed). take i acts ++ y ∷ []) (sym at))
    ∙ ap (answers_in pair) (map-append placed_spec.placed_value (take i acts) (x ∷ []))
    ∙ filter-append (λ placed. speech.is_answer placed.act pair.reader pair.writer) (map placed_spec.placed_value (take i acts)) (placed_spec.placed_value x ∷ [])

pub answers_yes : (pair : Pair) (acts : List Placed) (i : ℕ) (x : Placed) → i < length acts → x ≡ get_or acts i x → speech.is_answer (placed_spec.placed_value x).act pair.reader pair.writer ≡ true
    → answers_in pair (map placed_spec.placed_value (take (i + 1) acts)) ≡ answers_in pair (map placed_spec.placed_value (take i acts)) ++ placed_spec.placed_value x ∷ []
answers_yes pair acts i x lt at e = answers_past pair acts i x lt at ∙ ap (λ b. answers_in pair (map placed_spec.placed_value (take i acts)) ++ cond b (placed_spec.placed_value x ∷ []) []) e

pub answers_no : (pair : Pair) (acts : List Placed) (i : ℕ) (x : Placed) → i < length acts → x ≡ get_or acts i x → speech.is_answer (placed_spec.placed_value x).act pair.reader pair.writer ≡ false
    → answers_in pair (map placed_spec.placed_value (take (i + 1) acts)) ≡ answers_in pair (map placed_spec.placed_value (take i acts))
answers_no pair acts i x lt at e =
    answers_past pair acts i x lt at ∙ ap (λ b. answers_in pair (map placed_spec.placed_value (take i acts)) ++ cond b (placed_spec.placed_value x ∷ []) []) e
    ∙ append-nil (answers_in pair (map placed_spec.placed_value (take i acts)))
