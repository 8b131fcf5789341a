-- The samples that are told as acts of one datagram, for one writer and one reader.
use Rattle.std.proofs.lemmas.Grind.{common_steps}
use Rattle.std.proofs.Common.{◌≡◌, ℕ, suc, Bool, true, false, cond, ◌&&◌, List, [], ◌∷◌, ◌++◌, map, length, filter, Option, Some, None, refl, sym, ◌∙◌, ap, subst, inl, inr, ◌⊎◌, append_assoc, append-nil, arith, rules}
use Rattle.std.specs.Prelude.{Contains, ◌==◌, ◌||◌}
use Rattle.std.specs.List.{cons_option, filter_map, flat_map}
use Rattle.std.proofs.lemmas.Bool.Decides.{Decides-eqb, nat_tests}
use Rattle.std.proofs.lemmas.List.Elements.{Contains-append_left, Contains-append_right, Contains-append_cases}
use Rattle.std.proofs.lemmas.Bool.{and_from, and_parts}
use Rattle.rtps_ids.specs.declared.identity.Guid.{Guid}
use Rattle.rtps_wire.specs.Values as wire_values
use Rattle.rtps_receiver.specs.Speech as receiver_speech
use Rattle.rtps_receiver.specs.Values as receiver_values
use Rattle.rtps_audit.specs.Delivery as delivery
use Rattle.rtps_audit.specs.Speech as audit_speech
use Rattle.rtps_audit.proofs.Offered.{contains_cases, contains_head, contains_mapped, contains_none, contains_tail, if_some, mapped_contains}
use Rattle.rtps_fragments.specs.Heard as heard
use Rattle.rtps_fragments.specs.FragmentDelivery as fragment_delivery
use Rattle.rtps_wire.specs.declared.data_frag.Shape.{Shape}
use Rattle.rtps_fragments.specs.Samples as samples
use Rattle.rtps_fragments.specs.SampleActs as sample_acts
use Rattle.rtps_fragments.proofs.Lists.{own_entity, own_prefix}
use Rattle.rtps_fragments.proofs.HeardLemmas.{IsToldBy, heard_from, heard_of, one_more}
use Rattle.rtps_fragments.proofs.ToldLemmas.{IsPut, if_then, none_came, own_shape, same_sample, told_more}

-- ---- who speaks

-- an act that names a writer is from it
abbrev pub NamesItsWriter : receiver_values.ActValue → Type 0
NamesItsWriter act = receiver_speech.writer_named act.body ≡ Some (receiver_speech.entity_from act.body)

pub spoken_is_origin : (act : receiver_values.ActValue) (writer : Guid) → NamesItsWriter act → receiver_speech.is_spoken_by act writer ≡ true → receiver_speech.origin_of act ≡ writer
spoken_is_origin act writer named spoken = search rules

-- a sample is from where its act is from
pub sample_spoken : (reader : Guid) (act : receiver_values.ActValue) (n : ℕ) (payload : wire_values.PayloadValue) (writer : Guid) → NamesItsWriter act → receiver_speech.is_spoken_by (sample_acts.sample_act reader act n payload) writer ≡ receiver_speech.is_spoken_by act writer
sample_spoken reader act n payload writer named = ap (λ o. receiver_speech.is_prefix act.source writer.prefix && receiver_speech.names o writer.entity) (sym named)

-- the reader that it is told hears it
pub sample_heard : (reader : Guid) (act : receiver_values.ActValue) (n : ℕ) (payload : wire_values.PayloadValue) → receiver_speech.is_heard_by (sample_acts.sample_act reader act n payload) reader ≡ true
sample_heard reader act n payload = both _ (receiver_speech.is_entity reader.entity receiver_speech.unknown_entity) _ (own_prefix reader.prefix) (own_entity reader.entity)
  where
    both : (p a e : Bool) → p ≡ true → e ≡ true → (p && (a || e)) ≡ true
    both p a e h h2 = grind (arith, nat_tests)

-- each act with a piece names its writer
abbrev pub NamesAll : List sample_acts.PieceAct → Type 0
NamesAll acts = (part : sample_acts.PieceAct) (piece : fragment_delivery.Piece) → Contains acts part → part.piece ≡ Some piece → NamesItsWriter part.act

-- ---- fragments of a sample

own_came : (n : ℕ) (shape : Shape) (i : ℕ) (parts : List (List ℕ)) → filter_map (samples.came_of n shape) (fragment_delivery.fragments_from n shape i parts) ≡ heard.came_from i parts
own_came n shape i [] = refl
own_came n shape i (octets ∷ parts) =
    let first : ℕ × List ℕ = (i, octets) in
    ap (λ b. cons_option (cond b (Some first) None) (filter_map (samples.came_of n shape) (fragment_delivery.fragments_from n shape (suc i) parts))) (own_shape n shape) ∙ ap (λ cs. first ∷ cs) (own_came n shape (suc i) parts)

-- what came of the sample by a piece
pub piece_came : (n : ℕ) (shape : Shape) (piece : fragment_delivery.Piece) (b : Bool) → samples.is_of n shape piece.number piece.shape ≡ b → filter_map (samples.came_of n shape) (fragment_delivery.fragments_of piece) ≡ cond b (heard.came_from piece.first piece.parts) []
piece_came n shape piece true its =
    let (number, same) = same_sample n shape piece.number piece.shape its in
    ap (λ m. filter_map (samples.came_of m shape) (fragment_delivery.fragments_of piece)) (sym number) ∙ ap (λ s. filter_map (samples.came_of piece.number s) (fragment_delivery.fragments_of piece)) (sym same) ∙ own_came piece.number piece.shape piece.first piece.parts
piece_came n shape piece false apart = none_came n shape piece.number piece.shape piece.first piece.parts apart

module _ (writer reader : Guid) where
  -- the act is spoken by the writer and heard by the reader
  abbrev pub hears_part : sample_acts.PieceAct → Bool
  hears_part part = receiver_speech.is_spoken_by part.act writer && receiver_speech.is_heard_by part.act reader

  -- acts, and behind each the samples that it tells the reader
  abbrev pub acts_told : List sample_acts.PieceAct → List sample_acts.PieceAct → List receiver_values.ActValue
  acts_told before acts = sample_acts.acts_and (sample_acts.samples_told reader) before acts

  -- one of these acts tells the reader the payload
  abbrev pub TellsReader : List receiver_values.ActValue → ℕ → wire_values.PayloadValue → Type 0
  TellsReader acts n payload = (act : receiver_values.ActValue) × Contains acts act × (audit_speech.word_for writer reader act n ≡ Some (delivery.Word.Told payload))

  -- a sample tells its payload
  tells_its_own : (act : receiver_values.ActValue) (n : ℕ) (payload : wire_values.PayloadValue) → NamesItsWriter act → receiver_speech.is_spoken_by act writer ≡ true → audit_speech.word_for writer reader (sample_acts.sample_act reader act n payload) n ≡ Some (delivery.Word.Told payload)
  tells_its_own act n payload named spoken =
      let made = sample_acts.sample_act reader act n payload in
      let passes = and_from _ _ (sample_spoken reader act n payload writer named ∙ spoken) (sample_heard reader act n payload) in
      ap (λ b. cond b (audit_speech.word_of made.body n) None) passes ∙ ap (λ b. cond b (Some (delivery.Word.Told payload)) None) ((Decides-eqb n n).1 refl)

  -- what a piece tells is told by a sample behind its act
  here_told : (before : List sample_acts.PieceAct) (part : sample_acts.PieceAct) (n : ℕ) (payload : wire_values.PayloadValue) → NamesAll (part ∷ []) → IsToldBy hears_part before part n payload → TellsReader (sample_acts.samples_told reader before part.act part.piece) n payload
  here_told before part n payload named (piece, is, hears, number, told) =
      let own = named part piece (contains_head part []) is in
      let (spoken, heard_it) = and_parts (receiver_speech.is_spoken_by part.act writer) (receiver_speech.is_heard_by part.act reader) hears in
      let origin = spoken_is_origin part.act writer own spoken in
      let there : Contains (samples.told_by (sample_acts.heard_from (receiver_speech.origin_of part.act) reader before) piece) payload = subst (λ w. Contains (samples.told_by (sample_acts.heard_from w reader before) piece) payload) (sym origin) told in
      let act = sample_acts.sample_act reader part.act piece.number payload in
      let among = mapped_contains (sample_acts.sample_act reader part.act piece.number) (samples.told_by (sample_acts.heard_from (receiver_speech.origin_of part.act) reader before) piece) payload there in
      let kept = subst (λ b. Contains (cond b (map (sample_acts.sample_act reader part.act piece.number) (samples.told_by (sample_acts.heard_from (receiver_speech.origin_of part.act) reader before) piece)) []) act) (sym heard_it) among in (
        act,
        subst (λ o. Contains (sample_acts.samples_told reader before part.act o) act) (sym is) kept,
        subst (λ m. audit_speech.word_for writer reader act m ≡ Some (delivery.Word.Told payload)) number (tells_its_own part.act piece.number payload own spoken),
      )

  -- what can be put together of these acts too could be before, or one of them tells it
  pub parts_told : (n : ℕ) (shape : Shape) (payload : wire_values.PayloadValue) (before parts : List sample_acts.PieceAct) → NamesAll parts
      → Contains (samples.payloads_of n shape (heard_of hears_part (before ++ parts))) payload
      → Contains (samples.payloads_of n shape (heard_of hears_part before)) payload ⊎ TellsReader (acts_told before parts) n payload
  parts_told n shape payload before [] named among = inl (subst (λ ps. Contains (samples.payloads_of n shape (heard_of hears_part ps)) payload) (append-nil before) among)
  parts_told n shape payload before (part ∷ parts) named among =
      let rest = acts_told (before ++ part ∷ []) parts in
      let here = sample_acts.samples_told reader before part.act part.piece in
      elim (parts_told n shape payload (before ++ part ∷ []) parts (λ other piece there is. named other piece (contains_tail part parts other there) is)
      (subst (λ ps. Contains (samples.payloads_of n shape (heard_of hears_part ps)) payload) (sym (append_assoc before (part ∷ []) parts)) among)) [
        | inl earlier ↦ elim (one_more hears_part n shape before part payload earlier) [
          | inl old ↦ inl old
          | inr now ↦
              let (act, there, says) = here_told before part n payload (λ other piece has is. named other piece (only_here other has) is) now in
              inr (act, contains_tail part.act (here ++ rest) act (Contains-append_left here rest act there), says)
        ]
        | inr (act, there, says) ↦ inr (act, contains_tail part.act (here ++ rest) act (Contains-append_right here rest act there), says)
      ]
    where
      only_here : (other : sample_acts.PieceAct) → Contains (part ∷ []) other → Contains (part ∷ parts) other
      only_here other has = elim (contains_cases part [] other has) [
        | inl same ↦ subst (Contains (part ∷ parts)) same (contains_head part parts)
        | inr nothing ↦ absurd (contains_none other nothing)
      ]

-- ---- where an act is from

-- The act is a sample that one of these parts tells the reader, behind earlier ones.
pub record IsSampleOf (reader : Guid) (before parts : List sample_acts.PieceAct) (act : receiver_values.ActValue) : Type 0 where
  pub part : sample_acts.PieceAct
  pub piece : fragment_delivery.Piece
  pub payload : wire_values.PayloadValue
  pub earlier : List sample_acts.PieceAct
  pub among : Contains parts part
  pub has : part.piece ≡ Some piece
  pub hears : receiver_speech.is_heard_by part.act reader ≡ true
  pub told : Contains (samples.told_by (sample_acts.heard_from (receiver_speech.origin_of part.act) reader earlier) piece) payload
  pub is : sample_acts.sample_act reader part.act piece.number payload ≡ act
  pub known : (other : sample_acts.PieceAct) → Contains earlier other → Contains (before ++ parts) other

sample_from : (reader : Guid) (before : List sample_acts.PieceAct) (part : sample_acts.PieceAct) (parts : List sample_acts.PieceAct) (o : Option fragment_delivery.Piece) (act : receiver_values.ActValue) → part.piece ≡ o → Contains (sample_acts.samples_told reader before part.act o) act → IsSampleOf reader before (part ∷ parts) act
sample_from reader before part parts None act is among = absurd (contains_none act among)
sample_from reader before part parts (Some piece) act is among = by (receiver_speech.is_heard_by part.act reader) refl among
  where
    payloads : List wire_values.PayloadValue
    payloads = samples.told_by (sample_acts.heard_from (receiver_speech.origin_of part.act) reader before) piece

    by : (b : Bool) → receiver_speech.is_heard_by part.act reader ≡ b → Contains (cond b (map (sample_acts.sample_act reader part.act piece.number) payloads) []) act → IsSampleOf reader before (part ∷ parts) act
    by false e there = absurd (contains_none act there)
    by true e there =
        let (payload, told, same) = contains_mapped (sample_acts.sample_act reader part.act piece.number) payloads act there in
        record {
          part = part;
          piece = piece;
          payload = payload;
          earlier = before;
          among = contains_head part parts;
          has = is;
          hears = e;
          told = told;
          is = same;
          known = λ other has. Contains-append_left before (part ∷ parts) other has;
        }

-- it is one of the acts, or a sample
abbrev pub IsActOf : Guid → List sample_acts.PieceAct → List sample_acts.PieceAct → receiver_values.ActValue → Type 0
IsActOf reader before parts act = ((part : sample_acts.PieceAct) × Contains parts part × (part.act ≡ act)) ⊎ IsSampleOf reader before parts act

pub act_or_sample : (reader : Guid) (before parts : List sample_acts.PieceAct) (act : receiver_values.ActValue) → Contains (sample_acts.acts_and (sample_acts.samples_told reader) before parts) act → IsActOf reader before parts act
act_or_sample reader before [] act among = absurd (contains_none act among)
act_or_sample reader before (part ∷ parts) act among =
    let here = sample_acts.samples_told reader before part.act part.piece in
    let rest = sample_acts.acts_and (sample_acts.samples_told reader) (before ++ part ∷ []) parts in
    elim (contains_cases part.act (here ++ rest) act among) [
      | inl own ↦ inl (part, contains_head part parts, own)
      | inr behind ↦ elim (Contains-append_cases here rest act behind) [
        | inl sample ↦ inr (sample_from reader before part parts part.piece act refl sample)
        | inr later ↦ further (act_or_sample reader (before ++ part ∷ []) parts act later)
      ]
    ]
  where
    further : IsActOf reader (before ++ part ∷ []) parts act → IsActOf reader before (part ∷ parts) act
    further (inl (other, there, is)) = inl (other, contains_tail part parts other there, is)
    further (inr sample) = inr (record {
      part = sample.part;
      piece = sample.piece;
      payload = sample.payload;
      earlier = sample.earlier;
      among = contains_tail part parts sample.part sample.among;
      has = sample.has;
      hears = sample.hears;
      told = sample.told;
      is = sample.is;
      known = λ other there. subst (λ ps. Contains ps other) (append_assoc before (part ∷ []) parts) (sample.known other there);
    })

-- the acts themselves are among them
pub act_there : (reader : Guid) (before parts : List sample_acts.PieceAct) (part : sample_acts.PieceAct) → Contains parts part → Contains (sample_acts.acts_and (sample_acts.samples_told reader) before parts) part.act
act_there reader before [] part among = absurd (contains_none part among)
act_there reader before (first ∷ parts) part among =
    let here = sample_acts.samples_told reader before first.act first.piece in
    let rest = sample_acts.acts_and (sample_acts.samples_told reader) (before ++ first ∷ []) parts in
    elim (contains_cases first parts part among) [
      | inl same ↦ subst (λ (p : sample_acts.PieceAct). Contains (first.act ∷ (here ++ rest)) p.act) same (contains_head first.act (here ++ rest))
      | inr there ↦ contains_tail first.act (here ++ rest) part.act (Contains-append_right here rest part.act (act_there reader (before ++ first ∷ []) parts part there))
    ]

module _ (writer reader : Guid) where
  -- the payload of n is put together of fragments that all have this
  abbrev pub IsPutOf : (fragment_delivery.Fragment → Type 0) → ℕ → delivery.Word → Type 0
  IsPutOf there n word = (payload : wire_values.PayloadValue) × (word ≡ delivery.Word.Told payload) × ((fragments : List fragment_delivery.Fragment) × IsPut n fragments payload × ((f : fragment_delivery.Fragment) → Contains fragments f → there f))

  -- what a sample tells the reader is put together of fragments that the reader hears
  pub sample_is_put : (before parts : List sample_acts.PieceAct) → NamesAll (before ++ parts) → (there : fragment_delivery.Fragment → Type 0)
      → ((part : sample_acts.PieceAct) → Contains (before ++ parts) part → hears_part writer reader part ≡ true → (f : fragment_delivery.Fragment) → Contains (sample_acts.fragments_in part.piece) f → there f)
      → (act : receiver_values.ActValue) (n : ℕ) (word : delivery.Word) → IsSampleOf reader before parts act → audit_speech.word_for writer reader act n ≡ Some word → IsPutOf there n word
  sample_is_put before parts named there sent act n word sample says =
      let piece = sample.piece in
      let payload = sample.payload in
      let known_part = Contains-append_right before parts sample.part sample.among in
      let own = named sample.part piece known_part sample.has in
      let made = sample_acts.sample_act reader sample.part.act piece.number payload in
      let (test, value) = if_some _ (audit_speech.word_of made.body n) word (subst (λ (a : receiver_values.ActValue). audit_speech.word_for writer reader a n ≡ Some word) (sym sample.is) says) in
      let (spoken, heard_it) = and_parts (receiver_speech.is_spoken_by made writer) (receiver_speech.is_heard_by made reader) test in
      let speaks = sym (sample_spoken reader sample.part.act piece.number payload writer own) ∙ spoken in
      let origin = spoken_is_origin sample.part.act writer own speaks in
      let (number, is) = if_then (piece.number == n) (delivery.Word.Told payload) word value in
      let same = (Decides-eqb piece.number n).0 number in
      let earlier = sample_acts.heard_from writer reader sample.earlier in
      let told : Contains (samples.told_by earlier piece) payload = subst (λ w. Contains (samples.told_by (sample_acts.heard_from w reader sample.earlier) piece) payload) origin sample.told in
      let put = subst (λ ps. Contains ps payload) (sym (told_more earlier piece)) (Contains-append_right (samples.payloads_of piece.number piece.shape earlier) (samples.told_by earlier piece) payload told) in
      let is_put : IsPut piece.number (earlier ++ fragment_delivery.fragments_of piece) payload = (piece.shape, put) in (
        payload,
        sym is,
        (
          earlier ++ fragment_delivery.fragments_of piece,
          subst (λ m. IsPut m (earlier ++ fragment_delivery.fragments_of piece) payload) same is_put,
          λ f among. elim (Contains-append_cases earlier (fragment_delivery.fragments_of piece) f among) [
            | inl old ↦ let (part, has, passes, of) = heard_from (hears_part writer reader) sample.earlier f old in sent part (sample.known part has) passes f of
            | inr now ↦ sent sample.part known_part (and_from _ _ speaks sample.hears) f (subst (λ o. Contains (sample_acts.fragments_in o) f) (sym sample.has) now)
          ],
        ),
      )
