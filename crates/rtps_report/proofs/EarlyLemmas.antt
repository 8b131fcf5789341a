-- Who speaks early, with one act more, and with one datagram more.
use Rattle.std.proofs.Common.{Bor, ◌≡◌, ◌∙◌, ℕ, suc, ◌+◌, ◌<◌, Bool, true, false, cond, List, [], ◌∷◌, ◌++◌, ap, append-nil, append_assoc, arith, filter, flat_map, fold, get_or, length, map, sym, take}
use Rattle.std.specs.List.{enumerate_from}
use Rattle.std.proofs.lemmas.List.Elements.{filter-append}
use Rattle.std.proofs.lemmas.List.Sums.{fold-append, fold_push}
use Rattle.rtps_ids.specs.declared.identity.GuidPrefix.{GuidPrefix}
use Rattle.rtps_audit.specs.Placed as placed
use Rattle.rtps_receiver.specs.Values as values
use Rattle.rtps_report.specs.ActsRead as acts_read
use Rattle.rtps_report.specs.Early as early
use Rattle.rtps_report.proofs.NamingWalkLemmas.{length_so_far, read_more}

-- the participants of those acts that are picked
abbrev pub picked : (values.ActValue → Bool) → List GuidPrefix → List values.ActValue → List GuidPrefix
picked P prefixes acts = fold early.with_source prefixes (filter P acts)

pub one_more : (P : values.ActValue → Bool) (prefixes : List GuidPrefix) (acts : List values.ActValue) (act : values.ActValue)
    → picked P prefixes (acts ++ act ∷ []) ≡ cond (P act) (early.with_source (picked P prefixes acts) act) (picked P prefixes acts)
one_more P prefixes acts act = ap (fold early.with_source prefixes) (filter-append P acts (act ∷ [])) ∙ by (P act)
  where
    by : (b : Bool) → fold early.with_source prefixes (filter P acts ++ cond b (act ∷ []) []) ≡ cond b (early.with_source (picked P prefixes acts) act) (picked P prefixes acts)
    by true = fold_push early.with_source prefixes (filter P acts) act
    by false = ap (fold early.with_source prefixes) (append-nil (filter P acts))

-- the early acts of a datagram of this number
abbrev early_of_row : List placed.PlacedValue → ℕ × List values.ActValue → List values.ActValue
early_of_row announcing row = filter (early.is_early announcing row.0) row.1

rows_more : (announcing : List placed.PlacedValue) (start : ℕ) (datagrams : List (List values.ActValue)) (acts : List values.ActValue)
    → flat_map (early_of_row announcing) (enumerate_from start (datagrams ++ acts ∷ [])) ≡ flat_map (early_of_row announcing) (enumerate_from start datagrams) ++ early_of_row announcing (start + length datagrams, acts)
rows_more announcing start [] acts =
    let same : start ≡ start + 0 = omega arith in
    append-nil (early_of_row announcing (start, acts)) ∙ ap (λ (n : ℕ). early_of_row announcing (n, acts)) same
rows_more announcing start (first ∷ datagrams) acts =
    let further : start + 1 + length datagrams ≡ start + suc (length datagrams) = omega arith in
    ap (λ (rest : List values.ActValue). early_of_row announcing (start, first) ++ rest)
    (rows_more announcing (start + 1) datagrams acts ∙ ap (λ (n : ℕ). flat_map (early_of_row announcing) (enumerate_from (start + 1) datagrams) ++ early_of_row announcing (n, acts)) further)
    ∙ sym (append_assoc (early_of_row announcing (start, first)) (flat_map (early_of_row announcing) (enumerate_from (start + 1) datagrams)) (early_of_row announcing (start + suc (length datagrams), acts)))

-- the participants of a recording that are early, with one datagram more
pub datagram_more : (announcing : List placed.PlacedValue) (recording : List (Bor (List ℕ))) (place : ℕ) (default : Bor (List ℕ)) (acts : List values.ActValue) → place < length recording
    → acts ≡ acts_read.acts_read_in (get_or recording place default).now
    → fold early.with_source (fold early.with_source [] (early.early_in announcing (acts_read.datagrams_read (map (λ one. one.now) (take place recording))))) (filter (early.is_early announcing (place + 1)) acts)
    ≡ fold early.with_source [] (early.early_in announcing (acts_read.datagrams_read (map (λ one. one.now) (take (place + 1) recording))))
datagram_more announcing recording place default acts within is =
    let so_far : List (List values.ActValue) = acts_read.datagrams_read (map (λ (one : Bor (List ℕ)). one.now) (take place recording)) in
    let number : 1 + length so_far ≡ place + 1 = let size = length_so_far recording place within in omega (arith, size) in
    sym (ap (λ datagrams. fold early.with_source [] (early.early_in announcing datagrams)) (read_more recording place default within ∙ ap (λ (those : List values.ActValue). so_far ++ those ∷ []) (sym is))
    ∙ ap (fold early.with_source []) (rows_more announcing 1 so_far acts ∙ ap (λ (n : ℕ). early.early_in announcing so_far ++ early_of_row announcing (n, acts)) number)
    ∙ fold-append early.with_source [] (early.early_in announcing so_far) (early_of_row announcing (place + 1, acts)))
