-- The grammar of JSON reads the same tokens where markup in a text that was printed is written as its two digits.
use Rattle.std.proofs.Common.{◌≡◌, ◌<◌, ◌≤◌, ◌++◌, ◌∷◌, [], ◌∙◌, ◌&&◌, ◌⊎◌, ℕ, zero, suc, List, Some, Bool, true, false, ap, ap₂, append_assoc, append-nil, arith, cond, inl, inr, option_and_then, refl, subst, sym, le-ltb, ne_eqb}
use Rattle.std.proofs.lemmas.Bool.{cases_eq, cases_lt}
use Rattle.std.proofs.lemmas.List.Concat.{flat_map-append}
use lib.Utf8.{encode}
use Rattle.json.specs.Json.{Json, Items, Members, null, boolean, number, string, array, object, no_items, item, no_members, member, document, if_last, max_depth, value}
use Rattle.json.specs.Lex.{Lexeme, Mode, between, colon, comma, fresh, in_string, lex, lex_byte, operator, other, punctuate, space, string_token, token, tokens}
use Rattle.json.specs.Print.{ArePrintable, ArePrintableOrBad, IsPrintable, begins, ends, escape, escape_byte, print, print_from, quoted, separator, token_text}
use Rattle.json.specs.Text.{code_unit, content, plain, prepend, short_escape}
use Rattle.json.specs.Token as t
use Rattle.json.specs.Token.{Token}
use Rattle.json.specs.Tree.{depth, items_tokens, json_tokens, members_tokens}
use Rattle.json.specs.Word.{ends_word, is_operator, is_space, word}
use Rattle.json.proofs.Numbered.{ArePrintableOrBad-tokens}
use Rattle.json.proofs.Printed.Numbers.{in_word-ended, lex-number}
use Rattle.json.proofs.Printed.Strings.{content-escape, escape_byte_plain, lex-escape}
use Rattle.json.proofs.Printed.Trees.{value-json_tokens}
use Rattle.rtps_page.specs.SafeText as safe_text
use Rattle.rtps_page.proofs.NumberText.{number_stays}
use Rattle.rtps_page.proofs.SafeLemmas.{Marks, ampersand, greater, less, marks, plain as no_mark, plain_stays}

-- ---- strings

-- what both readers make of what stands for x in a string, before any text
record Passes (x : ℕ) : Type 0 where
  read : (r : List ℕ) → content plain (safe_text.safe_text safe_text.in_json (escape_byte x) ++ r) ≡ prepend (x ∷ []) (content plain r)
  lexed : (r : List ℕ) → lex in_string (safe_text.safe_text safe_text.in_json (escape_byte x) ++ r) ≡ lex in_string r

-- P holds below n, counted down from the top
abbrev Each : (ℕ → Type 0) → ℕ → Type 0
Each P zero = Unit {0}
Each P (suc n) = P n × Each P n

each_holds : (P : ℕ → Type 0) (n : ℕ) → Each P n → (x : ℕ) → x < n → P x
each_holds P zero h x lt = absurd (omega arith)
each_holds P (suc n) h x lt = go (each_holds P n h.1 x) (cases_eq x n)
  where
    go : (x < n → P x) → (x ≡ n) ⊎ (x ≡ n → ⊥) → P x
    go below (inl e) = subst P (sym e) h.0
    go below (inr ne) = below (omega arith)

controls : Each Passes 32
unfolding safe_text.safe_octet escape_byte content lex code_unit short_escape encode
controls = (record { read = λ r. refl; lexed = λ r. refl }, (record { read = λ r. refl; lexed = λ r. refl }, (record { read = λ r. refl; lexed = λ r. refl }, (record { read = λ r. refl; lexed = λ r. refl }, (record { read = λ r. refl; lexed = λ r. refl }, (record { read = λ r. refl; lexed = λ r. refl }, (record { read = λ r. refl; lexed = λ r. refl }, (record { read = λ r. refl; lexed = λ r. refl }, (record { read = λ r. refl; lexed = λ r. refl }, (record { read = λ r. refl; lexed = λ r. refl }, (record { read = λ r. refl; lexed = λ r. refl }, (record { read = λ r. refl; lexed = λ r. refl }, (record { read = λ r. refl; lexed = λ r. refl }, (record { read = λ r. refl; lexed = λ r. refl }, (record { read = λ r. refl; lexed = λ r. refl }, (record { read = λ r. refl; lexed = λ r. refl }, (record { read = λ r. refl; lexed = λ r. refl }, (record { read = λ r. refl; lexed = λ r. refl }, (record { read = λ r. refl; lexed = λ r. refl }, (record { read = λ r. refl; lexed = λ r. refl }, (record { read = λ r. refl; lexed = λ r. refl }, (record { read = λ r. refl; lexed = λ r. refl }, (record { read = λ r. refl; lexed = λ r. refl }, (record { read = λ r. refl; lexed = λ r. refl }, (record { read = λ r. refl; lexed = λ r. refl }, (record { read = λ r. refl; lexed = λ r. refl }, (record { read = λ r. refl; lexed = λ r. refl }, (record { read = λ r. refl; lexed = λ r. refl }, (record { read = λ r. refl; lexed = λ r. refl }, (record { read = λ r. refl; lexed = λ r. refl }, (record { read = λ r. refl; lexed = λ r. refl }, (record { read = λ r. refl; lexed = λ r. refl }, tt))))))))))))))))))))))))))))))))

-- the octets that are escaped in a string, and those that are markup
special : Passes 34 × Passes 92 × Passes 38 × Passes 60 × Passes 62
unfolding safe_text.safe_octet escape_byte content lex code_unit short_escape encode
special = (record { read = λ r. refl; lexed = λ r. refl }, record { read = λ r. refl; lexed = λ r. refl }, record { read = λ r. refl; lexed = λ r. refl }, record { read = λ r. refl; lexed = λ r. refl }, record { read = λ r. refl; lexed = λ r. refl })

stays_inside : (o s : Bool) (x : ℕ) (r : List ℕ) (k : Mode → List Lexeme) → lex_byte in_string (cond o operator (cond s space other)) x r k ≡ k in_string
stays_inside true s x r k = refl
stays_inside false true x r k = refl
stays_inside false false x r k = refl

-- an octet that stands for itself
itself : (x : ℕ) → (x ≡ 34 → ⊥) → (x ≡ 92 → ⊥) → 32 ≤ x → (x ≡ 38 → ⊥) → (x ≡ 60 → ⊥) → (x ≡ 62 → ⊥) → safe_text.safe_text safe_text.in_json (escape_byte x) ≡ x ∷ []
itself x q b l a s g = ap (safe_text.safe_text safe_text.in_json) (escape_byte_plain x q b l) ∙ ap (λ o. o ++ []) (plain_stays safe_text.in_json x a s g)

plain_passes : (x : ℕ) → (x ≡ 34 → ⊥) → (x ≡ 92 → ⊥) → 32 ≤ x → safe_text.safe_text safe_text.in_json (escape_byte x) ≡ x ∷ [] → Passes x
unfolding content lex
plain_passes x q b l same =
    record {
      read = λ r. rw (same, ne_eqb x 34 q, ne_eqb x 92 b, le-ltb x 32 l);
      lexed = λ r. rw (same, ne_eqb x 34 q, ne_eqb x 92 b) (stays_inside (is_operator x) (is_space x) x r (λ m. lex m r));
    }

passes : (x : ℕ) → Passes x
passes x = go (cases_eq x 34) (cases_eq x 92) (cases_lt x 32) (marks x)
  where
    go : (x ≡ 34) ⊎ (x ≡ 34 → ⊥) → (x ≡ 92) ⊎ (x ≡ 92 → ⊥) → (x < 32) ⊎ (32 ≤ x) → Marks x → Passes x
    go (inl e) b c m = subst Passes (sym e) special.0
    go (inr q) (inl e) c m = subst Passes (sym e) special.1
    go (inr q) (inr b) (inl c) m = each_holds Passes 32 controls x c
    go (inr q) (inr b) (inr l) (ampersand e) = subst Passes (sym e) special.2
    go (inr q) (inr b) (inr l) (less e) = subst Passes (sym e) special.3
    go (inr q) (inr b) (inr l) (greater e) = subst Passes (sym e) special.4
    go (inr q) (inr b) (inr l) (no_mark a s g) = plain_passes x q b l (itself x q b l a s g)

safe_more : (x : ℕ) (s r : List ℕ) → safe_text.safe_text safe_text.in_json (escape (x ∷ s)) ++ r ≡ safe_text.safe_text safe_text.in_json (escape_byte x) ++ (safe_text.safe_text safe_text.in_json (escape s) ++ r)
safe_more x s r =
    ap (λ l. l ++ r) (flat_map-append (safe_text.safe_octet safe_text.in_json) (escape_byte x) (escape s)) ∙ append_assoc (safe_text.safe_text safe_text.in_json (escape_byte x)) (safe_text.safe_text safe_text.in_json (escape s)) r

content-safe : (s r : List ℕ) → content plain (safe_text.safe_text safe_text.in_json (escape s) ++ 34 ∷ r) ≡ Some s
unfolding content
content-safe [] r = refl
content-safe (x ∷ s) r = ap (content plain) (safe_more x s (34 ∷ r)) ∙ (passes x).read _ ∙ ap (prepend (x ∷ [])) (content-safe s r)

lex-safe : (s r : List ℕ) → lex in_string (safe_text.safe_text safe_text.in_json (escape s) ++ 34 ∷ r) ≡ lex between r
unfolding lex
lex-safe [] r = refl
lex-safe (x ∷ s) r = ap (lex in_string) (safe_more x s (34 ∷ r)) ∙ (passes x).lexed _ ∙ lex-safe s r

safe_quoted : (s r : List ℕ) → safe_text.safe_text safe_text.in_json (quoted s) ++ r ≡ 34 ∷ (safe_text.safe_text safe_text.in_json (escape s) ++ 34 ∷ r)
unfolding safe_text.safe_octet
safe_quoted s r =
    ap (λ l. 34 ∷ (l ++ r)) (flat_map-append (safe_text.safe_octet safe_text.in_json) (escape s) (34 ∷ []))
    ∙ ap (λ l. 34 ∷ l) (append_assoc (safe_text.safe_text safe_text.in_json (escape s)) (34 ∷ []) r)

lex-quoted : (s r : List ℕ) → lex between (quoted s ++ r) ≡ token (t.string s) ∷ lex between r
unfolding lex
lex-quoted s r =
    ap (λ l. lex between (34 ∷ l)) (append_assoc (escape s) (34 ∷ []) r) ∙ ap₂ (λ o l. token (string_token o) ∷ l) (content-escape s r) (lex-escape s r)

lex-safe_quoted : (s r : List ℕ) → lex between (safe_text.safe_text safe_text.in_json (quoted s) ++ r) ≡ token (t.string s) ∷ lex between r
unfolding lex
lex-safe_quoted s r = ap (lex between) (safe_quoted s r) ∙ ap₂ (λ o l. token (string_token o) ∷ l) (content-safe s r) (lex-safe s r)

-- ---- tokens

-- behind a value stands a comma, a closing bracket or nothing
value_ends : (ts : List Token) → ends_word (print_from true ts) ≡ true
unfolding print_from
value_ends [] = refl
value_ends (t.bad ∷ ts) = refl
value_ends (tok ∷ ts) = refl

safe_value_ends : (ts : List Token) → ends_word (safe_text.safe_text safe_text.in_json (print_from true ts)) ≡ true
unfolding print_from safe_text.safe_octet
safe_value_ends [] = refl
safe_value_ends (t.bad ∷ ts) = refl
safe_value_ends (tok ∷ ts) = refl

-- two texts behind a token that give the same lexemes
record Alike (tok : Token) (one two : List ℕ) : Type 0 where
  same : lex between one ≡ lex between two
  one_ends : ends tok ≡ true → ends_word one ≡ true
  two_ends : ends tok ≡ true → ends_word two ≡ true

colon_before : (one two : List ℕ) → lex between one ≡ lex between two → lex between (58 ∷ one) ≡ lex between (58 ∷ two)
unfolding lex
colon_before one two same = ap (λ l. colon ∷ l) same

same_token : (tok : Token) (one two : List ℕ) → IsPrintable tok → Alike tok one two
    → lex between (safe_text.safe_text safe_text.in_json (token_text tok) ++ one) ≡ lex between (token_text tok ++ two)
unfolding lex word safe_text.safe_octet
same_token t.begin_object one two h a = ap (λ l. token t.begin_object ∷ l) a.same
same_token t.end_object one two h a = ap (λ l. token t.end_object ∷ l) a.same
same_token t.begin_array one two h a = ap (λ l. token t.begin_array ∷ l) a.same
same_token t.end_array one two h a = ap (λ l. token t.end_array ∷ l) a.same
same_token (t.key s) one two h a =
    ap (λ l. lex between (l ++ one)) (flat_map-append (safe_text.safe_octet safe_text.in_json) (quoted s) (58 ∷ []))
    ∙ ap (lex between) (append_assoc (safe_text.safe_text safe_text.in_json (quoted s)) (58 ∷ []) one) ∙ lex-safe_quoted s (58 ∷ one)
    ∙ ap (λ l. token (t.string s) ∷ l) (colon_before one two a.same) ∙ sym (lex-quoted s (58 ∷ two)) ∙ sym (ap (lex between) (append_assoc (quoted s) (58 ∷ []) two))
same_token (t.string s) one two h a = lex-safe_quoted s one ∙ ap (λ l. token (t.string s) ∷ l) a.same ∙ sym (lex-quoted s two)
same_token (t.number s) one two h a =
    ap (λ l. lex between (l ++ one)) (number_stays safe_text.in_json s h) ∙ lex-number s one h (a.one_ends refl) ∙ ap (λ l. token (t.number s) ∷ l) a.same ∙ sym (lex-number s two h (a.two_ends refl))
same_token (t.boolean true) one two h a =
    ap₂ (λ b l. token (cond b (t.boolean true) t.bad) ∷ l) (a.one_ends refl ∙ sym (a.two_ends refl)) (in_word-ended one (a.one_ends refl) ∙ a.same ∙ sym (in_word-ended two (a.two_ends refl)))
same_token (t.boolean false) one two h a =
    ap₂ (λ b l. token (cond b (t.boolean false) t.bad) ∷ l) (a.one_ends refl ∙ sym (a.two_ends refl)) (in_word-ended one (a.one_ends refl) ∙ a.same ∙ sym (in_word-ended two (a.two_ends refl)))
same_token t.null one two h a =
    ap₂ (λ b l. token (cond b t.null t.bad) ∷ l) (a.one_ends refl ∙ sym (a.two_ends refl)) (in_word-ended one (a.one_ends refl) ∙ a.same ∙ sym (in_word-ended two (a.two_ends refl)))
same_token t.bad one two h a = absurd h

same_separator : (b : Bool) (one two : List ℕ) → lex between one ≡ lex between two → lex between (safe_text.safe_text safe_text.in_json (cond b (44 ∷ []) []) ++ one) ≡ lex between (cond b (44 ∷ []) [] ++ two)
unfolding lex safe_text.safe_octet
same_separator true one two h = ap (λ l. comma ∷ l) h
same_separator false one two h = h

same_lexemes : (after : Bool) (ts : List Token) → ArePrintable ts → lex between (safe_text.safe_text safe_text.in_json (print_from after ts)) ≡ lex between (print_from after ts)
unfolding print_from ArePrintable
same_lexemes after [] h = refl
same_lexemes after (tok ∷ ts) h =
    let rest = print_from (ends tok) ts in
    let alike : Alike tok (safe_text.safe_text safe_text.in_json rest) rest = record {
      same = same_lexemes (ends tok) ts h.1;
      one_ends = λ e. ap (λ b. ends_word (safe_text.safe_text safe_text.in_json (print_from b ts))) e ∙ safe_value_ends ts;
      two_ends = λ e. ap (λ b. ends_word (print_from b ts)) e ∙ value_ends ts;
    } in
    ap (lex between) (flat_map-append (safe_text.safe_octet safe_text.in_json) (separator after tok) (token_text tok ++ rest)
    ∙ ap (λ l. safe_text.safe_text safe_text.in_json (separator after tok) ++ l) (flat_map-append (safe_text.safe_octet safe_text.in_json) (token_text tok) rest))
    ∙ same_separator (after && begins tok) (safe_text.safe_text safe_text.in_json (token_text tok) ++ safe_text.safe_text safe_text.in_json rest) (token_text tok ++ rest) (same_token tok (safe_text.safe_text safe_text.in_json rest) rest h.0 alike)

-- ---- values

abbrev is_sound : Token → Bool
is_sound t.bad = false
is_sound tok = true

abbrev are_sound : List Token → Bool
are_sound [] = true
are_sound (tok ∷ ts) = is_sound tok && are_sound ts

sound-append : (ts us : List Token) → are_sound ts ≡ true → are_sound us ≡ true → are_sound (ts ++ us) ≡ true
sound-append [] us h k = k
sound-append (tok ∷ ts) us h k = first (is_sound tok) (are_sound ts) h (λ e. sound-append ts us e k)
  where
    first : (a b : Bool) → (a && b) ≡ true → (b ≡ true → are_sound (ts ++ us) ≡ true) → (a && are_sound (ts ++ us)) ≡ true
    first true b h k = k h
    first false b h k = h

mutual
  json_sound : (json : Json) → are_sound (json_tokens json) ≡ true
  json_sound null = refl
  json_sound (boolean b) = refl
  json_sound (number s) = refl
  json_sound (string s) = refl
  json_sound (array js) = items_sound js
  json_sound (object ms) = members_sound ms

  items_sound : (items : Items) → are_sound (items_tokens items) ≡ true
  items_sound no_items = refl
  items_sound (item j js) = sound-append (json_tokens j) (items_tokens js) (json_sound j) (items_sound js)

  members_sound : (members : Members) → are_sound (members_tokens members) ≡ true
  members_sound no_members = refl
  members_sound (member k j ms) = sound-append (json_tokens j) (members_tokens ms) (json_sound j) (members_sound ms)

printable : (ts : List Token) → ArePrintableOrBad ts → are_sound ts ≡ true → ArePrintable ts
unfolding ArePrintable
printable [] h k = tt
printable (t.number s ∷ ts) h k = (h.0, printable ts h.1 k)
printable (t.bad ∷ ts) h k = absurd (let no = k in cc)
printable (tok ∷ ts) h k = (tt, printable ts h.1 k)

-- a value whose text is read back as its tokens is read back from the text without markup
pub reads_back : (json : Json) → depth json ≤ max_depth → tokens (print (json_tokens json)) ≡ json_tokens json → document (safe_text.safe_text safe_text.in_json (print (json_tokens json))) ≡ Some json
reads_back json shallow read =
    let sound : ArePrintable (json_tokens json) = printable (json_tokens json) (subst ArePrintableOrBad read (ArePrintableOrBad-tokens (print (json_tokens json)))) (json_sound json) in
    let same : tokens (safe_text.safe_text safe_text.in_json (print (json_tokens json))) ≡ json_tokens json = ap (punctuate fresh) (same_lexemes false (json_tokens json) sound) ∙ read in
    ap (option_and_then (λ p. if_last p.0 p.1)) (ap (value max_depth) (same ∙ sym (append-nil (json_tokens json))) ∙ value-json_tokens json max_depth [] shallow)
