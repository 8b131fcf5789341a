-- The samples that a directory is to note.
use Rattle.std.proofs.Common.{◌≡◌, ℕ, suc, true, List, length, Option, Some, None, refl, sym, ap, subst, arith, inl, inr, ◌⊎◌}
use Rattle.std.specs.Prelude.{Contains}
use Rattle.std.specs.List.{concat, filter_map}
use Rattle.std.proofs.lemmas.Option.{slice_get_cases, some_pair_parts}
use Rattle.rtps_ids.specs.declared.identity.Guid.{Guid}
use Rattle.rtps_wire.specs.Values as wire_values
use Rattle.rtps_receiver.specs.Speech as speech
use Rattle.rtps_receiver.specs.Values as receiver_values
use Rattle.rtps_audit.proofs.Offered.{contains_mapped, contains_none, mapped_contains}
use Rattle.rtps_fragments.specs.FragmentDelivery as fragment_delivery
use Rattle.rtps_wire.specs.DataFrag as data_frag
use Rattle.rtps_fragments.specs.Laws as laws
use Rattle.rtps_fragments.specs.Samples as samples
use Rattle.rtps_fragments.specs.SampleActs as sample_acts
use Rattle.rtps_fragments.specs.SamplesSent as samples_sent
use Rattle.rtps_fragments.proofs.ActsTell.{announcer_named}
use Rattle.rtps_fragments.proofs.Lists.{flat_from}
use Rattle.rtps_fragments.proofs.HeardLemmas.{heard_from}
use Rattle.rtps_fragments.proofs.PiecesLeft.{of_its_piece, sent_within}
use Rattle.rtps_fragments.proofs.PutTogether.{came_within, parts_picked, payloads_differ, put_of}
use Rattle.rtps_fragments.proofs.SampleActLemmas.{spoken_is_origin}
use Rattle.rtps_fragments.proofs.SampleLemmas.{AreWithin, two}

module _ (all : List sample_acts.PieceAct) (writer : Guid) (n : ℕ) (parts : (part : sample_acts.PieceAct) (piece : fragment_delivery.Piece) → Contains all part → part.piece ≡ Some piece → laws.IsPieceAct part piece) where
  origin : (part : sample_acts.PieceAct) (piece : fragment_delivery.Piece) → Contains all part → part.piece ≡ Some piece → speech.is_spoken_by part.act writer ≡ true → speech.origin_of part.act ≡ writer
  origin part piece among is spoken = spoken_is_origin part.act writer (announcer_named part.act.body piece.number (parts part piece among is).announces) spoken

  noted_is_put : (payload : wire_values.PayloadValue) → laws.IsNoted all writer n payload → fragment_delivery.IsPutTogether (Contains (samples_sent.sent_by writer all)) n payload
  noted_is_put payload (part, among, spoken, there) = by part.piece refl there
    where
      by : (o : Option fragment_delivery.Piece) → part.piece ≡ o → Contains (samples_sent.samples_sent all part.act o) (samples_sent.noted_act part.act n payload) → fragment_delivery.IsPutTogether (Contains (samples_sent.sent_by writer all)) n payload
      by None is sent = absurd (contains_none (samples_sent.noted_act part.act n payload) sent)
      by (Some piece) is sent =
          let from = origin part piece among is spoken in
          let (other, told, same) = contains_mapped (samples_sent.noted_act part.act piece.number) (samples.payloads_of piece.number piece.shape (samples_sent.sent_by (speech.origin_of part.act) all)) (samples_sent.noted_act part.act n payload) sent in
          let pair : Some (piece.number, other) ≡ Some (n, payload) = ap (λ (a : receiver_values.ActValue). laws.data_of a.body) same in
          let (number, equal) = some_pair_parts piece.number n other payload pair in
          let moved : Contains (samples.payloads_of n piece.shape (samples_sent.sent_by writer all)) payload =
          subst (λ p. Contains (samples.payloads_of n piece.shape (samples_sent.sent_by writer all)) p) equal
          (subst (λ m. Contains (samples.payloads_of m piece.shape (samples_sent.sent_by writer all)) other) number (subst (λ g. Contains (samples.payloads_of piece.number piece.shape (samples_sent.sent_by g all)) other) from told)) in
          put_of (Contains (samples_sent.sent_by writer all)) n (samples_sent.sent_by writer all) (λ f there also. there) (sent_within all writer n parts) payload (piece.shape, moved)

  -- a part of the sample
  some_part : (payload : wire_values.PayloadValue) (put : fragment_delivery.IsPutTogether (Contains (samples_sent.sent_by writer all)) n payload)
      → (part : sample_acts.PieceAct) × (piece : fragment_delivery.Piece) × Contains all part × (speech.is_spoken_by part.act writer ≡ true) × (part.piece ≡ Some piece) × (piece.number ≡ n) × (piece.shape ≡ put.shape)
  some_part payload put = elim (slice_get_cases put.parts 0).1 [
    | inl found ↦
        let f : fragment_delivery.Fragment = record { number = n; shape = put.shape; index = suc 0; octets = found.0 } in
        let (part, there, spoken, has) = heard_from (λ (p : sample_acts.PieceAct). speech.is_spoken_by p.act writer) all f (put.each 0 found.0 found.2) in
        let (piece, is, number, shape, own) = of_its_piece part.piece f has in
        (part, piece, there, spoken, is, number, shape)
    | inr past ↦ absurd (let some = put.some in let le = past.0 in omega arith)
  ]

  -- what is told of its shape is noted
  told_is_noted : (payload : wire_values.PayloadValue) (put : fragment_delivery.IsPutTogether (Contains (samples_sent.sent_by writer all)) n payload) (other : wire_values.PayloadValue) → Contains (samples.payloads_of n put.shape (samples_sent.sent_by writer all)) other → laws.IsNoted all writer n other
  told_is_noted payload put other told =
      let (part, piece, there, spoken, is, number, shape) = some_part payload put in
      let from = origin part piece there is spoken in
      let moved : Contains (samples.payloads_of piece.number piece.shape (samples_sent.sent_by (speech.origin_of part.act) all)) other =
      subst (λ g. Contains (samples.payloads_of piece.number piece.shape (samples_sent.sent_by g all)) other) (sym from)
      (subst (λ m. Contains (samples.payloads_of m piece.shape (samples_sent.sent_by writer all)) other) (sym number) (subst (λ s. Contains (samples.payloads_of n s (samples_sent.sent_by writer all)) other) (sym shape) told)) in
      let sent = mapped_contains (samples_sent.noted_act part.act piece.number) (samples.payloads_of piece.number piece.shape (samples_sent.sent_by (speech.origin_of part.act) all)) other moved in
      let noted : Contains (samples_sent.samples_sent all part.act (Some piece)) (samples_sent.noted_act part.act n other) =
      subst (λ m. Contains (samples_sent.samples_sent all part.act (Some piece)) (samples_sent.noted_act part.act m other)) number sent in
      (part, there, spoken, subst (λ o. Contains (samples_sent.samples_sent all part.act o) (samples_sent.noted_act part.act n other)) (sym is) noted)

  put_is_noted : (payload : wire_values.PayloadValue) → fragment_delivery.IsPutTogether (Contains (samples_sent.sent_by writer all)) n payload
      → laws.IsNoted all writer n payload ⊎ ((x : wire_values.PayloadValue) × (y : wire_values.PayloadValue) × laws.IsNoted all writer n x × laws.IsNoted all writer n y × (x ≡ y → ⊥))
  put_is_noted payload put =
      let came = filter_map (samples.came_of n put.shape) (samples_sent.sent_by writer all) in
      let bounds = came_within n put.shape (samples_sent.sent_by writer all) (sent_within all writer n parts) in
      elim (two came put.parts put.some (parts_picked n (samples_sent.sent_by writer all) payload put) (subst (λ last. AreWithin last came) (sym put.all) bounds)) [
        | inl is ↦ inl (subst (laws.IsNoted all writer n) (sym put.payload_is) (noted (concat put.parts) is))
        | inr (x, y, one, other, differ) ↦ inr (fragment_delivery.payload_by put.shape x, fragment_delivery.payload_by put.shape y, noted x one, noted y other, payloads_differ put.shape x y differ)
      ]
    where
      noted : (octets : List ℕ) → Contains (samples.samples_of (length put.parts) (filter_map (samples.came_of n put.shape) (samples_sent.sent_by writer all))) octets → laws.IsNoted all writer n (fragment_delivery.payload_by put.shape octets)
      noted octets among =
          let came = filter_map (samples.came_of n put.shape) (samples_sent.sent_by writer all) in
          let placed = subst (λ last. Contains (samples.samples_of last came) octets) put.all among in
          told_is_noted payload put (fragment_delivery.payload_by put.shape octets) (mapped_contains (fragment_delivery.payload_by put.shape) (samples.samples_of (data_frag.last_fragment put.shape) came) octets placed)

pub noted_samples_are_sent : laws.NotedSamplesAreSent
noted_samples_are_sent recording parts writer n payload =
    let all = sample_acts.piece_acts_in recording in
    let own : (part : sample_acts.PieceAct) (piece : fragment_delivery.Piece) → Contains all part → part.piece ≡ Some piece → laws.IsPieceAct part piece = λ part piece there has.
    let (datagram, stands, in_it) = flat_from (λ (d : List sample_acts.PieceAct). d) recording part there in parts datagram part piece stands in_it has in
    (noted_is_put all writer n own payload, put_is_noted all writer n own payload)
