-- What is read of the datagrams of a recording, with one datagram more.
use Rattle.std.proofs.Common.{Bor, ◌≡◌, ◌∙◌, ℕ, suc, ◌+◌, ◌<◌, ◌≤◌, List, [], ◌∷◌, ◌++◌, ap, arith, get_or, length, map, refl, sym, take}
use Rattle.std.proofs.lemmas.List.{length-map, length-take-le, map_push}
use Rattle.rtps_wire.specs.Reading as reading
use Rattle.rtps_receiver.specs.Acts as acts
use Rattle.rtps_receiver.specs.Values as values
use Rattle.rtps_fragments.specs.FragmentWalk as fragment_walk
use Rattle.rtps_fragments.specs.ReadDatagrams as read_datagrams
use Rattle.rtps_fragments.specs.RecordedSamples as recorded_samples
use Rattle.rtps_fragments.specs.SampleActs as sample_acts
use Rattle.rtps_fragments.specs.declared.fragments.Fragments.{Fragments}
use Rattle.rtps_fragments.proofs.IndexSteps.{announced_count, read_next, taken}
use Rattle.rtps_fragments.proofs.PlainStarts.{each_of}
use Rattle.rtps_fragments.proofs.SampleSteps.{octets_of, sending_next}
use Rattle.rtps_fragments.proofs.WithoutFragments.{acts_plain, intake_stays, plain_count}

length_behind : (before : ℕ) (datagrams others : List (List values.ActValue)) → length (read_datagrams.read_behind before datagrams others) ≡ length datagrams
length_behind before [] others = refl
length_behind before (acts ∷ datagrams) [] = ap suc (length_behind (before + 1) datagrams [])
length_behind before (acts ∷ datagrams) (other ∷ others) = ap suc (length_behind (before + 1) datagrams others)

read_push : (before number : ℕ) (datagrams others : List (List values.ActValue)) (acts other : List values.ActValue) → length datagrams ≡ length others → number ≡ before + length datagrams + 1
    → read_datagrams.read_behind before (datagrams ++ acts ∷ []) (others ++ other ∷ []) ≡ read_datagrams.read_behind before datagrams others ++ read_datagrams.datagram_read number acts other ∷ []
read_push before number [] [] acts other same at = ap (λ n. read_datagrams.datagram_read n acts other ∷ []) (let e : before + 1 ≡ number = omega (arith, at) in e)
read_push before number [] (one ∷ others) acts other same at = absurd (omega (arith, same))
read_push before number (first ∷ datagrams) [] acts other same at = absurd (omega (arith, same))
read_push before number (first ∷ datagrams) (one ∷ others) acts other same at =
    ap (λ rest. read_datagrams.datagram_read (before + 1) first one ∷ rest) (read_push (before + 1) number datagrams others acts other (omega (arith, same)) (omega (arith, at)))

-- where no submessage belongs to fragments, it is the same whether they are read or skipped
pub read_stays : (recording : List (List ℕ)) → recorded_samples.IsWithoutFragments recording → read_datagrams.read_of Fragments.Skipped recording ≡ read_datagrams.read_of Fragments.Read recording
read_stays recording none =
    sym ((λ i. read_datagrams.read_behind 0 (acts_plain recording (each_of recording none) i) (intake_stays recording none i).announcing))

-- the acts that are read of so many datagrams
acts_count : (fragments : Fragments) (xs : List (Bor (List ℕ))) (i : ℕ) → i ≤ length xs → length (read_datagrams.acts_read fragments (octets_of (take i xs))) ≡ i
acts_count Fragments.Skipped xs i le = plain_count xs i le
acts_count Fragments.Read xs i le =
    length-map (fragment_walk.sending_of (octets_of (take i xs))) (map (λ (one : sample_acts.PieceAct). one.act)) ∙ length-map (octets_of (take i xs)) fragment_walk.piece_acts_of
    ∙ length-map (take i xs) (λ (datagram : Bor (List ℕ)). datagram.now) ∙ length-take-le i xs le

-- the next datagram has the next number
pub next_number : (fragments : Fragments) (xs : List (Bor (List ℕ))) (i : ℕ) → i ≤ length xs → length (read_datagrams.read_of fragments (octets_of (take i xs))) + 1 ≡ i + 1
next_number fragments xs i le = ap (λ n. n + 1) (length_behind 0 (read_datagrams.acts_read fragments (octets_of (take i xs))) _ ∙ acts_count fragments xs i le)

-- with one datagram more, where fragments are skipped
pub skipped_more : (xs : List (Bor (List ℕ))) (i : ℕ) (d : Bor (List ℕ)) → i < length xs
    → read_datagrams.read_of Fragments.Skipped (octets_of (take (i + 1) xs)) ≡ read_datagrams.read_of Fragments.Skipped (octets_of (take i xs)) ++ read_datagrams.datagram_read (i + 1) (acts.acts_of (reading.reading_of (get_or xs i d).now)) (acts.acts_of (reading.reading_of (get_or xs i d).now)) ∷ []
skipped_more xs i d lt =
    let le : i ≤ length xs = omega (arith, lt) in
    let so_far = read_datagrams.acts_read Fragments.Skipped (octets_of (take i xs)) in
    let own = acts.acts_of (reading.reading_of (get_or xs i d).now) in
    let count = acts_count Fragments.Skipped xs i le in
    ap (λ (acts : List (List values.ActValue)). read_datagrams.read_behind 0 acts acts) (read_next xs i d lt (λ datagram. acts.acts_of (reading.reading_of datagram))) ∙ read_push 0 (i + 1) so_far so_far own own refl (omega (arith, count))

-- and where they are read
pub read_more : (xs : List (Bor (List ℕ))) (i : ℕ) (d : Bor (List ℕ)) (announcing : List values.ActValue) → i < length xs → (taken xs i).announcing ++ announcing ∷ [] ≡ (taken xs (i + 1)).announcing
    → read_datagrams.read_of Fragments.Read (octets_of (take (i + 1) xs)) ≡ read_datagrams.read_of Fragments.Read (octets_of (take i xs)) ++ read_datagrams.datagram_read (i + 1) (map (λ one. one.act) (fragment_walk.piece_acts_of (get_or xs i d).now)) announcing ∷ []
read_more xs i d announcing lt announced =
    let le : i ≤ length xs = omega (arith, lt) in
    let so_far = read_datagrams.acts_read Fragments.Read (octets_of (take i xs)) in
    let own = map (λ (one : sample_acts.PieceAct). one.act) (fragment_walk.piece_acts_of (get_or xs i d).now) in
    let count = acts_count Fragments.Read xs i le in
    let others = announced_count xs i le in
    let acts : read_datagrams.acts_read Fragments.Read (octets_of (take (i + 1) xs)) ≡ so_far ++ own ∷ [] =
    ap (map (map (λ (one : sample_acts.PieceAct). one.act))) (sending_next xs i d lt) ∙ map_push (map (λ (one : sample_acts.PieceAct). one.act)) (fragment_walk.sending_of (octets_of (take i xs))) (fragment_walk.piece_acts_of (get_or xs i d).now) in
    (λ j. read_datagrams.read_behind 0 (acts j) (sym announced j)) ∙ read_push 0 (i + 1) so_far (taken xs i).announcing own announcing (omega (arith, count, others)) (omega (arith, count))
