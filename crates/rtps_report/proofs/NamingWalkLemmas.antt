-- Which participants of a recording name which, with one datagram more.
use Rattle.std.proofs.Common.{Bor, ◌≡◌, ◌∙◌, ℕ, ◌+◌, ◌<◌, ◌≤◌, List, [], ◌∷◌, ◌++◌, ap, arith, count_by, get_or, length, map, sym, take}
use Rattle.std.specs.List.{list_any}
use Rattle.std.proofs.lemmas.List.{length-map, length-take-le, map_more, map_push}
use Rattle.std.proofs.lemmas.List.Sums.{count_by-le-length}
use Rattle.rtps_policies.specs.Namings as namings_spec
use Rattle.rtps_receiver.specs.Values as values
use Rattle.rtps_policies.specs.declared.naming.Naming.{Naming}
use Rattle.rtps_policies.specs.declared.naming.Namings.{Namings}
use Rattle.rtps_report.specs.ActsRead as acts_read

length_read : (recording : List (Bor (List ℕ))) → length (acts_read.datagrams_read (map (λ datagram. datagram.now) recording)) ≡ length recording
length_read recording = length-map (map (λ (datagram : Bor (List ℕ)). datagram.now) recording) acts_read.acts_read_in ∙ length-map recording (λ (datagram : Bor (List ℕ)). datagram.now)

-- as many datagrams are noted as are read
pub length_so_far : (recording : List (Bor (List ℕ))) (place : ℕ) → place < length recording
    → place ≡ length (acts_read.datagrams_read (map (λ datagram. datagram.now) (take place recording)))
length_so_far recording place within = let le : place ≤ length recording = omega arith in sym (length_read (take place recording) ∙ length-take-le place recording le)

-- a naming is counted once for each datagram at most
pub few_heard : (datagrams : List (List values.ActValue)) (namings : Namings) (naming : Naming) → namings_spec.AreNamingsOf datagrams namings → namings_spec.named_by namings naming ≤ length datagrams
few_heard datagrams namings naming is =
    let few : count_by (λ acts. list_any (namings_spec.names naming) acts) datagrams ≤ length datagrams = count_by-le-length (λ acts. list_any (namings_spec.names naming) acts) datagrams in
    let counted : namings_spec.named_by namings naming ≡ count_by (λ acts. list_any (namings_spec.names naming) acts) datagrams = is naming in
    omega (arith, few, counted)

pub few_named : (recording : List (Bor (List ℕ))) (place : ℕ) (namings : Namings) (naming : Naming) → place < length recording
    → namings_spec.AreNamingsOf (acts_read.datagrams_read (map (λ datagram. datagram.now) (take place recording))) namings → namings_spec.named_by namings naming ≤ place
few_named recording place namings naming within is =
    let few = few_heard (acts_read.datagrams_read (map (λ (datagram : Bor (List ℕ)). datagram.now) (take place recording))) namings naming is in
    let size : place ≡ length (acts_read.datagrams_read (map (λ (datagram : Bor (List ℕ)). datagram.now) (take place recording))) = length_so_far recording place within in
    omega (arith, few, size)

-- one datagram more is read
pub read_more : (recording : List (Bor (List ℕ))) (place : ℕ) (default : Bor (List ℕ)) → place < length recording
    → acts_read.datagrams_read (map (λ one. one.now) (take (place + 1) recording)) ≡ acts_read.datagrams_read (map (λ one. one.now) (take place recording)) ++ acts_read.acts_read_in (get_or recording place default).now ∷ []
read_more recording place default within =
    ap (map acts_read.acts_read_in) (map_more (λ (one : Bor (List ℕ)). one.now) recording place default within)
    ∙ map_push acts_read.acts_read_in (map (λ (one : Bor (List ℕ)). one.now) (take place recording)) (get_or recording place default).now
