-- The samples of built-in writers that are noted, one after another, and all at once.
use Rattle.std.proofs.lemmas.Grind.{common_steps}
use Rattle.std.proofs.lemmas.Bool.Decides.{nat_tests}
use Rattle.std.proofs.Common.{◌≡◌, ℕ, zero, suc, Bool, true, false, cond, ◌&&◌, List, [], ◌∷◌, ◌++◌, map, Option, Some, None, refl, sym, ◌∙◌, ap, subst, inl, inr, ◌⊎◌, append_assoc, append-nil, arith}
use Rattle.std.specs.Prelude.{Contains, get_or, is_some, nat_le}
use Rattle.std.specs.List.{flat_map}
use Rattle.std.proofs.lemmas.List.Elements.{Contains-append_cases, Contains-append_left, Contains-append_right}
use Rattle.std.proofs.lemmas.Option.{some_pair_parts}
use Rattle.std.specs.Cmp.Lexicographic.{bytes_decides}
use Rattle.std.proofs.lemmas.Bool.{cases_Bool, and_from}
use Rattle.rtps_ids.specs.declared.identity.EntityId.{EntityId}
use Rattle.rtps_ids.specs.declared.identity.Guid.{Guid}
use Rattle.rtps_discovery.specs.Notice as notice
use Rattle.rtps_wire.specs.Values as wire_values
use Rattle.rtps_receiver.specs.Speech as speech
use Rattle.rtps_receiver.specs.Values as receiver_values
use Rattle.rtps_audit.specs.Intake as intake
use Rattle.rtps_audit.proofs.Offered.{contains_cases, contains_head, contains_mapped, contains_none, contains_tail, mapped_contains}
use Rattle.rtps_fragments.specs.Announcing as announcing
use Rattle.rtps_fragments.specs.FragmentDelivery as fragment_delivery
use Rattle.rtps_wire.specs.declared.data_frag.Shape.{Shape}
use Rattle.rtps_wire.specs.DataFrag as data_frag
use Rattle.rtps_fragments.specs.Laws as laws
use Rattle.rtps_fragments.specs.Samples as samples
use Rattle.rtps_fragments.specs.SampleActs as sample_acts
use Rattle.rtps_fragments.specs.SamplesSent as samples_sent
use Rattle.rtps_fragments.proofs.ActsTell.{announcer_named}
use Rattle.rtps_fragments.proofs.Lists.{flat_from, flat_has, own_entity, own_prefix}
use Rattle.rtps_fragments.proofs.HeardLemmas.{IsToldBy, heard-append, heard-cons, heard_one, one_more}
use Rattle.rtps_fragments.proofs.MergingLemmas.{if_among}
use Rattle.rtps_fragments.proofs.SampleActLemmas.{NamesItsWriter, spoken_is_origin}
use Rattle.rtps_fragments.proofs.ToldLemmas.{payloads_grow, told_more}

-- ---- datagrams together

notes-append : (before acts more : List sample_acts.PieceAct) → announcing.acts_and_notes before (acts ++ more) ≡ announcing.acts_and_notes before acts ++ announcing.acts_and_notes (before ++ acts) more
notes-append before [] more = ap (λ bs. announcing.acts_and_notes bs more) (sym (append-nil before))
notes-append before (one ∷ acts) more =
    let notes = announcing.notes_told before one.act one.piece in
    ap (λ xs. one.act ∷ (notes ++ xs)) (notes-append (before ++ one ∷ []) acts more)
    ∙ ap (λ xs. one.act ∷ xs) (sym (append_assoc notes (announcing.acts_and_notes (before ++ one ∷ []) acts) (announcing.acts_and_notes ((before ++ one ∷ []) ++ acts) more)))
    ∙ ap (λ bs. announcing.acts_and_notes before (one ∷ acts) ++ announcing.acts_and_notes bs more) (append_assoc before (one ∷ []) acts)

notes_together : (before : List sample_acts.PieceAct) (recording : List (List sample_acts.PieceAct)) → intake.acts_together (announcing.datagrams_and_notes before recording) ≡ announcing.acts_and_notes before (sample_acts.piece_acts_in recording)
notes_together before [] = refl
notes_together before (acts ∷ recording) =
    ap (λ xs. announcing.acts_and_notes before acts ++ xs) (notes_together (before ++ acts) recording) ∙ sym (notes-append before acts (sample_acts.piece_acts_in recording))

-- ---- what is noted is to be noted

-- The act notes a sample that one of these acts tells, behind earlier ones and before later ones.
record IsNoteOf (all : List sample_acts.PieceAct) (act : receiver_values.ActValue) : Type 0 where
  part : sample_acts.PieceAct
  piece : fragment_delivery.Piece
  payload : wire_values.PayloadValue
  earlier : List sample_acts.PieceAct
  later : List sample_acts.PieceAct
  whole : earlier ++ part ∷ later ≡ all
  has : part.piece ≡ Some piece
  told : Contains (samples.told_by (samples_sent.sent_by (speech.origin_of part.act) earlier) piece) payload
  is : samples_sent.noted_act part.act piece.number payload ≡ act

act_or_note : (before acts : List sample_acts.PieceAct) (act : receiver_values.ActValue) → Contains (announcing.acts_and_notes before acts) act → Contains (map (λ one. one.act) acts) act ⊎ IsNoteOf (before ++ acts) act
act_or_note before [] act among = absurd (contains_none act among)
act_or_note before (part ∷ acts) act among =
    let notes = announcing.notes_told before part.act part.piece in
    let rest = announcing.acts_and_notes (before ++ part ∷ []) acts in
    elim (contains_cases part.act (notes ++ rest) act among) [
      | inl here ↦ inl (subst (Contains (map (λ (one : sample_acts.PieceAct). one.act) (part ∷ acts))) here (contains_head part.act (map (λ (one : sample_acts.PieceAct). one.act) acts)))
      | inr behind ↦ elim (Contains-append_cases notes rest act behind) [
        | inl note ↦ inr (note_here part.piece refl note)
        | inr later ↦ elim (act_or_note (before ++ part ∷ []) acts act later) [
          | inl plain ↦ inl (contains_tail part.act (map (λ (one : sample_acts.PieceAct). one.act) acts) act plain)
          | inr note ↦ inr (subst (λ ps. IsNoteOf ps act) (append_assoc before (part ∷ []) acts) note)
        ]
      ]
    ]
  where
    note_here : (o : Option fragment_delivery.Piece) → part.piece ≡ o → Contains (announcing.notes_told before part.act o) act → IsNoteOf (before ++ part ∷ acts) act
    note_here None e there = absurd (contains_none act there)
    note_here (Some piece) e there =
        let made = if_among (announcing.is_built_in (speech.entity_from part.act.body)) (map (samples_sent.noted_act part.act piece.number) (samples.told_by (samples_sent.sent_by (speech.origin_of part.act) before) piece)) act there in
        let (payload, told, same) = contains_mapped (samples_sent.noted_act part.act piece.number) (samples.told_by (samples_sent.sent_by (speech.origin_of part.act) before) piece) act made in
        record { part = part; piece = piece; payload = payload; earlier = before; later = acts; whole = refl; has = e; told = told; is = same }

module _ (all : List sample_acts.PieceAct) (named : (part : sample_acts.PieceAct) (piece : fragment_delivery.Piece) → Contains all part → part.piece ≡ Some piece → NamesItsWriter part.act) where
  -- the act is spoken by the writer that it is from
  spoken_by_own : (part : sample_acts.PieceAct) → NamesItsWriter part.act → speech.is_spoken_by part.act (speech.origin_of part.act) ≡ true
  spoken_by_own part names_it = grind (arith, nat_tests, common_steps, and_from, own_prefix, own_entity)

  note_is_sent : (act : receiver_values.ActValue) → IsNoteOf all act → Contains (samples_sent.acts_to_note all) act
  note_is_sent act note =
      let among : Contains all note.part = subst (λ ps. Contains ps note.part) note.whole (Contains-append_right note.earlier (note.part ∷ note.later) note.part (contains_head note.part note.later)) in
      let sent = mapped_contains (samples_sent.noted_act note.part.act note.piece.number) (samples.payloads_of note.piece.number note.piece.shape (samples_sent.sent_by (speech.origin_of note.part.act) all)) note.payload (put note (named note.part note.piece among note.has)) in
      let there : Contains (samples_sent.samples_sent all note.part.act note.part.piece) (samples_sent.noted_act note.part.act note.piece.number note.payload) =
      subst (λ o. Contains (samples_sent.samples_sent all note.part.act o) (samples_sent.noted_act note.part.act note.piece.number note.payload)) (sym note.has) sent in
      Contains-append_right (map (λ (one : sample_acts.PieceAct). one.act) all) (flat_map (λ (one : sample_acts.PieceAct). samples_sent.samples_sent all one.act one.piece) all) act
      (flat_has (λ (one : sample_acts.PieceAct). samples_sent.samples_sent all one.act one.piece) all note.part act among (subst (Contains (samples_sent.samples_sent all note.part.act note.part.piece)) note.is there))
    where
      put : (note : IsNoteOf all act) → NamesItsWriter note.part.act → Contains (samples.payloads_of note.piece.number note.piece.shape (samples_sent.sent_by (speech.origin_of note.part.act) all)) note.payload
      put note names_it =
          let writer = speech.origin_of note.part.act in
          let hears = λ (p : sample_acts.PieceAct). speech.is_spoken_by p.act writer in
          let n = note.piece.number in
          let shape = note.piece.shape in
          let old = samples_sent.sent_by writer note.earlier in
          let more = samples_sent.sent_by writer note.later in
          let here : heard_one (hears note.part) note.part.piece ≡ fragment_delivery.fragments_of note.piece = ap (λ b. heard_one b note.part.piece) (spoken_by_own note.part names_it) ∙ ap sample_acts.fragments_in note.has in
          let split : samples_sent.sent_by writer all ≡ (old ++ fragment_delivery.fragments_of note.piece) ++ more =
          ap (samples_sent.sent_by writer) (sym note.whole) ∙ heard-append hears note.earlier (note.part ∷ note.later) ∙ ap (λ fs. old ++ fs) (heard-cons hears note.part note.later ∙ ap (λ fs. fs ++ more) here) ∙ sym (append_assoc old (fragment_delivery.fragments_of note.piece) more) in
          let grown = payloads_grow n shape (old ++ fragment_delivery.fragments_of note.piece) more in
          let first : Contains (samples.payloads_of n shape (old ++ fragment_delivery.fragments_of note.piece)) note.payload =
          subst (λ xs. Contains xs note.payload) (sym (told_more old note.piece)) (Contains-append_right (samples.payloads_of n shape old) (samples.told_by old note.piece) note.payload note.told) in
          subst (λ fs. Contains (samples.payloads_of n shape fs) note.payload) (sym split) (subst (λ xs. Contains xs note.payload) (sym grown.1) (Contains-append_left (samples.payloads_of n shape (old ++ fragment_delivery.fragments_of note.piece)) grown.0 note.payload first))

-- ---- what is to be noted is noted

-- a note is from where its act is from
note_spoken : (act : receiver_values.ActValue) (n : ℕ) (payload : wire_values.PayloadValue) (writer : Guid) → NamesItsWriter act → speech.is_spoken_by (samples_sent.noted_act act n payload) writer ≡ speech.is_spoken_by act writer
note_spoken act n payload writer named = ap (λ o. speech.is_prefix act.source writer.prefix && speech.names o writer.entity) (sym named)

plain_there : (before acts : List sample_acts.PieceAct) (act : receiver_values.ActValue) → Contains (map (λ one. one.act) acts) act → Contains (announcing.acts_and_notes before acts) act
plain_there before [] act among = absurd (contains_none act among)
plain_there before (part ∷ acts) act among =
    let notes = announcing.notes_told before part.act part.piece in
    let rest = announcing.acts_and_notes (before ++ part ∷ []) acts in
    elim (contains_cases part.act (map (λ (one : sample_acts.PieceAct). one.act) acts) act among) [
      | inl here ↦ subst (Contains (announcing.acts_and_notes before (part ∷ acts))) here (contains_head part.act (notes ++ rest))
      | inr there ↦ contains_tail part.act (notes ++ rest) act (Contains-append_right notes rest act (plain_there (before ++ part ∷ []) acts act there))
    ]

module _ (writer : Guid) (built : announcing.is_built_in writer.entity ≡ true) where
  abbrev hears : sample_acts.PieceAct → Bool
  hears part = speech.is_spoken_by part.act writer

  note_there : (before : List sample_acts.PieceAct) (part : sample_acts.PieceAct) (n : ℕ) (payload : wire_values.PayloadValue) → ((piece : fragment_delivery.Piece) → part.piece ≡ Some piece → NamesItsWriter part.act) → IsToldBy hears before part n payload
      → laws.HasData (announcing.notes_told before part.act part.piece) writer n payload
  note_there before part n payload named (piece, is, spoken, number, told) =
      let names_it = named piece is in
      let from = spoken_is_origin part.act writer names_it spoken in
      let act = samples_sent.noted_act part.act piece.number payload in
      let moved : Contains (samples.told_by (samples_sent.sent_by (speech.origin_of part.act) before) piece) payload = subst (λ g. Contains (samples.told_by (samples_sent.sent_by g before) piece) payload) (sym from) told in
      let made = mapped_contains (samples_sent.noted_act part.act piece.number) (samples.told_by (samples_sent.sent_by (speech.origin_of part.act) before) piece) payload moved in
      let noted : Contains (announcing.notes_told before part.act (Some piece)) act =
      subst (λ b. Contains (cond b (map (samples_sent.noted_act part.act piece.number) (samples.told_by (samples_sent.sent_by (speech.origin_of part.act) before) piece)) []) act) (sym (ap (λ (g : Guid). announcing.is_built_in g.entity) from ∙ built)) made in (
        act,
        subst (λ o. Contains (announcing.notes_told before part.act o) act) (sym is) noted,
        note_spoken part.act piece.number payload writer names_it ∙ spoken,
        ap (λ m. let pair : ℕ × wire_values.PayloadValue = (m, payload) in Some pair) number,
      )

  put_or_note : (n : ℕ) (shape : Shape) (payload : wire_values.PayloadValue) (before acts : List sample_acts.PieceAct) → ((part : sample_acts.PieceAct) (piece : fragment_delivery.Piece) → Contains acts part → part.piece ≡ Some piece → NamesItsWriter part.act)
      → Contains (samples.payloads_of n shape (samples_sent.sent_by writer (before ++ acts))) payload → Contains (samples.payloads_of n shape (samples_sent.sent_by writer before)) payload ⊎ laws.HasData (announcing.acts_and_notes before acts) writer n payload
  put_or_note n shape payload before [] named among = inl (subst (λ ps. Contains (samples.payloads_of n shape (samples_sent.sent_by writer ps)) payload) (append-nil before) among)
  put_or_note n shape payload before (part ∷ acts) named among =
      let notes = announcing.notes_told before part.act part.piece in
      let rest = announcing.acts_and_notes (before ++ part ∷ []) acts in
      elim (put_or_note n shape payload (before ++ part ∷ []) acts (λ other piece there. named other piece (contains_tail part acts other there)) (subst (λ ps. Contains (samples.payloads_of n shape (samples_sent.sent_by writer ps)) payload) (sym (append_assoc before (part ∷ []) acts)) among)) [
        | inl earlier ↦ elim (one_more hears n shape before part payload earlier) [
          | inl old ↦ inl old
          | inr told ↦ inr (
              let (act, there, spoken, is) = note_there before part n payload (λ piece e. named part piece (contains_head part acts) e) told in
              (act, contains_tail part.act (notes ++ rest) act (Contains-append_left notes rest act there), spoken, is)
              )
        ]
        | inr (act, there, spoken, is) ↦ inr (act, contains_tail part.act (notes ++ rest) act (Contains-append_right notes rest act there), spoken, is)
      ]

  sent_is_noted : (all : List sample_acts.PieceAct) → ((part : sample_acts.PieceAct) (piece : fragment_delivery.Piece) → Contains all part → part.piece ≡ Some piece → NamesItsWriter part.act) → (n : ℕ) (payload : wire_values.PayloadValue)
      → laws.HasData (samples_sent.acts_to_note all) writer n payload → laws.HasData (announcing.acts_and_notes [] all) writer n payload
  sent_is_noted all named n payload (act, among, spoken, is) = elim (Contains-append_cases (map (λ (one : sample_acts.PieceAct). one.act) all) (flat_map (λ (one : sample_acts.PieceAct). samples_sent.samples_sent all one.act one.piece) all) act among) [
    | inl plain ↦ (act, plain_there [] all act plain, spoken, is)
    | inr sample ↦ let (part, there, sent) = flat_from (λ (one : sample_acts.PieceAct). samples_sent.samples_sent all one.act one.piece) all act sample in of_part part there part.piece refl sent
  ]
    where
      none : (last : ℕ) → samples.samples_of last [] ≡ []
      none zero = refl
      none (suc last) = refl

      of_part : (part : sample_acts.PieceAct) → Contains all part → (o : Option fragment_delivery.Piece) → part.piece ≡ o → Contains (samples_sent.samples_sent all part.act o) act → laws.HasData (announcing.acts_and_notes [] all) writer n payload
      of_part part there None e sent = absurd (contains_none act sent)
      of_part part there (Some piece) e sent =
          let (other, told, same) = contains_mapped (samples_sent.noted_act part.act piece.number) (samples.payloads_of piece.number piece.shape (samples_sent.sent_by (speech.origin_of part.act) all)) act sent in
          let names_it = named part piece there e in
          let speaks : speech.is_spoken_by part.act writer ≡ true = sym (note_spoken part.act piece.number other writer names_it) ∙ ap (λ (a : receiver_values.ActValue). speech.is_spoken_by a writer) same ∙ spoken in
          let from = spoken_is_origin part.act writer names_it speaks in
          let pair : Some (piece.number, other) ≡ Some (n, payload) = ap (λ (a : receiver_values.ActValue). laws.data_of a.body) same ∙ is in
          let (number, equal) = some_pair_parts piece.number n other payload pair in
          let moved : Contains (samples.payloads_of n piece.shape (samples_sent.sent_by writer all)) payload =
          subst (λ p. Contains (samples.payloads_of n piece.shape (samples_sent.sent_by writer all)) p) equal
          (subst (λ m. Contains (samples.payloads_of m piece.shape (samples_sent.sent_by writer all)) other) number (subst (λ g. Contains (samples.payloads_of piece.number piece.shape (samples_sent.sent_by g all)) other) from told)) in
          elim (put_or_note n piece.shape payload [] all named moved) [
            | inl nothing ↦ absurd (contains_none payload (subst (λ xs. Contains (map (fragment_delivery.payload_by piece.shape) xs) payload) (none (data_frag.last_fragment piece.shape)) nothing))
            | inr has ↦ has
          ]

pub built_in_samples_announce : laws.BuiltInSamplesAnnounce
built_in_samples_announce recording parts writer n payload built = (to, from)
  where
    named : (part : sample_acts.PieceAct) (piece : fragment_delivery.Piece) → Contains (sample_acts.piece_acts_in recording) part → part.piece ≡ Some piece → NamesItsWriter part.act
    named part piece there has =
        let (datagram, stands, in_it) = flat_from (λ (d : List sample_acts.PieceAct). d) recording part there in
        announcer_named part.act.body piece.number (parts datagram part piece stands in_it has).announces

    to : laws.HasData (intake.acts_together (announcing.announcing_with recording)) writer n payload → laws.HasData (samples_sent.acts_to_note (sample_acts.piece_acts_in recording)) writer n payload
    to (act, among, spoken, is) = (act, placed (act_or_note [] (sample_acts.piece_acts_in recording) act (subst (λ xs. Contains xs act) (notes_together [] recording) among)), spoken, is)
      where
        placed : Contains (map (λ one. one.act) (sample_acts.piece_acts_in recording)) act ⊎ IsNoteOf (sample_acts.piece_acts_in recording) act → Contains (samples_sent.acts_to_note (sample_acts.piece_acts_in recording)) act
        placed (inl plain) = Contains-append_left (map (λ (one : sample_acts.PieceAct). one.act) (sample_acts.piece_acts_in recording)) (flat_map (λ (one : sample_acts.PieceAct). samples_sent.samples_sent (sample_acts.piece_acts_in recording) one.act one.piece) (sample_acts.piece_acts_in recording)) act plain
        placed (inr note) = note_is_sent (sample_acts.piece_acts_in recording) named act note

    from : laws.HasData (samples_sent.acts_to_note (sample_acts.piece_acts_in recording)) writer n payload → laws.HasData (intake.acts_together (announcing.announcing_with recording)) writer n payload
    from has = subst (λ xs. laws.HasData xs writer n payload) (sym (notes_together [] recording)) (sent_is_noted writer built (sample_acts.piece_acts_in recording) named n payload has)

-- ---- who announces

announcer_is : (octets : List ℕ) (writer : EntityId) → get_or octets 3 0 ≡ 0xc2 → notice.is_entity octets writer ≡ true → announcing.is_built_in writer ≡ true
announcer_is octets writer kind is = ap (nat_le 0xc0) (ap (λ (os : List ℕ). get_or os 3 0) ((bytes_decides writer.0 octets).0 is) ∙ kind)

-- participants, writers and readers are announced by these (9.3.1.3 "Predefined EntityIds")
pub announcers_are_built_in : laws.AnnouncersAreBuiltIn
announcers_are_built_in writer some = elim (cases_Bool (notice.is_entity (0x00 ∷ 0x01 ∷ 0x00 ∷ 0xc2 ∷ []) writer)) [
  | inl is ↦ announcer_is (0x00 ∷ 0x01 ∷ 0x00 ∷ 0xc2 ∷ []) writer refl is
  | inr one ↦ elim (cases_Bool (notice.is_entity (0x00 ∷ 0x00 ∷ 0x03 ∷ 0xc2 ∷ []) writer)) [
    | inl is ↦ announcer_is (0x00 ∷ 0x00 ∷ 0x03 ∷ 0xc2 ∷ []) writer refl is
    | inr two ↦ elim (cases_Bool (notice.is_entity (0x00 ∷ 0x00 ∷ 0x04 ∷ 0xc2 ∷ []) writer)) [
      | inl is ↦ announcer_is (0x00 ∷ 0x00 ∷ 0x04 ∷ 0xc2 ∷ []) writer refl is
      | inr three ↦ absurd (let none : notice.subject_of writer ≡ None = rw (one, two, three) refl in let clash : true ≡ false = sym some ∙ ap is_some none in cc)
    ]
  ]
]
