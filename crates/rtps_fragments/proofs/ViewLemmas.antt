-- What one reader hears of the acts of one GUID in their places, one act after another.
use Rattle.std.proofs.lemmas.Grind.{common_steps}
use Rattle.std.proofs.lemmas.Bool.Decides.{nat_tests}
use Rattle.std.proofs.Common.{◌≡◌, ℕ, ◌+◌, Bool, true, false, cond, ◌&&◌, List, [], ◌∷◌, ◌++◌, filter, map, Option, Some, None, refl, sym, ◌∙◌, ap, ap₂, subst, inl, inr, append_assoc, append-nil, arith}
use Rattle.std.specs.List.{cons_option, filter_map, list_any}
use Rattle.std.specs.Prelude.{◌||◌}
use Rattle.std.proofs.lemmas.Bool.{cases_Bool}
use Rattle.std.proofs.lemmas.List.{map-append}
use Rattle.std.proofs.lemmas.List.Elements.{filter-append, filter_map-append}
use Rattle.rtps_ids.specs.declared.identity.Guid.{Guid}
use Rattle.rtps_wire.specs.Values as wire_values
use Rattle.rtps_receiver.specs.Speech as speech
use Rattle.rtps_receiver.specs.Values as values
use Rattle.rtps_discovery.specs.declared.matching.Pair.{Pair}
use Rattle.rtps_audit.specs.Placed as placed
use Rattle.rtps_audit.specs.Speech as audit_speech
use Rattle.rtps_audit.proofs.Offered.{speaker_is_origin}
use Rattle.rtps_wire.specs.DataFrag as data_frag
use Rattle.rtps_fragments.specs.FragmentDelivery as fragment_delivery
use Rattle.rtps_fragments.specs.Heard as heard
use Rattle.rtps_fragments.specs.Hearing as hearing
use Rattle.rtps_fragments.specs.Making as making
use Rattle.rtps_fragments.specs.Merging as merging
use Rattle.rtps_fragments.specs.ToldSamples as told_samples
use Rattle.rtps_fragments.specs.declared.piece.SampleKey.{SampleKey}
use Rattle.rtps_fragments.proofs.HearingLemmas.{no_piece}
use Rattle.rtps_fragments.proofs.MergingLemmas.{came_by_act, map_map, payloads_more, sent_by_act}
use Rattle.rtps_fragments.proofs.ToldLemmas.{if_then}
use Rattle.rtps_fragments.specs.SampleActs as sample_acts
use Rattle.rtps_fragments.specs.Samples as samples
use Rattle.rtps_fragments.proofs.HeardLemmas.{heard-more, heard_one}
use Rattle.rtps_fragments.proofs.SampleActLemmas.{hears_part}
use Rattle.rtps_fragments.proofs.ToldSampleLemmas.{guid_same}

-- ---- one act more

-- the acts with their pieces
abbrev pub pieces_at : List placed.PlacedValue → List sample_acts.PieceAct
pieces_at acts = map (λ one. hearing.with_piece one.act) acts

-- an act in its place, and the samples that it tells behind these
abbrev pub heard_one_at : Guid → List sample_acts.PieceAct → placed.PlacedValue → List placed.PlacedValue
heard_one_at reader before one = one ∷ placed.placed_at one.datagram (sample_acts.samples_told reader before one.act (hearing.piece_in one.act.body))

pub heard_behind-more : (reader : Guid) (before : List sample_acts.PieceAct) (acts : List placed.PlacedValue) (one : placed.PlacedValue) → hearing.heard_behind reader before (acts ++ one ∷ []) ≡ hearing.heard_behind reader before acts ++ heard_one_at reader (before ++ pieces_at acts) one
heard_behind-more reader before [] one =
    ap (λ told. one ∷ told) (append-nil (placed.placed_at one.datagram (sample_acts.samples_told reader before one.act (hearing.piece_in one.act.body)))) ∙ ap (λ bs. heard_one_at reader bs one) (sym (append-nil before))
heard_behind-more reader before (first ∷ acts) one =
    let told = placed.placed_at first.datagram (sample_acts.samples_told reader before first.act (hearing.piece_in first.act.body)) in
    ap (λ rest. first ∷ (told ++ rest)) (heard_behind-more reader (before ++ hearing.with_piece first.act ∷ []) acts one ∙ ap (λ bs. hearing.heard_behind reader (before ++ hearing.with_piece first.act ∷ []) acts ++ heard_one_at reader bs one) (append_assoc before (hearing.with_piece first.act ∷ []) (pieces_at acts)))
    ∙ ap (λ rest. first ∷ rest) (sym (append_assoc told (hearing.heard_behind reader (before ++ hearing.with_piece first.act ∷ []) acts) (heard_one_at reader (before ++ pieces_at (first ∷ acts)) one)))

-- ---- what an act lets a reader put together

fragment_body : (body : values.ActBodyValue) (piece : fragment_delivery.Piece) → hearing.piece_in body ≡ Some piece → (value : values.FragmentValue) × (body ≡ values.ActBodyValue.DataFrag value) × (value.number ≡ piece.number)
fragment_body (values.ActBodyValue.DataFrag value) piece e = (value, refl, by value.sent e)
  where
    by : (o : Option values.SentPartValue) → hearing.piece_sent value.number o ≡ Some piece → value.number ≡ piece.number
    by None h = cc
    by (Some part) h = let (well, is) = if_then (hearing.is_part part) _ piece h in ap (λ (p : fragment_delivery.Piece). p.number) is
fragment_body (values.ActBodyValue.Data value) piece e = cc
fragment_body (values.ActBodyValue.Heartbeat value) piece e = cc
fragment_body (values.ActBodyValue.AckNack value) piece e = cc
fragment_body (values.ActBodyValue.Gap value) piece e = cc
fragment_body (values.ActBodyValue.NackFrag value) piece e = cc

fragment_act : (act : values.ActValue) (piece : fragment_delivery.Piece) → hearing.piece_in act.body ≡ Some piece → merging.IsFragmentAct (hearing.with_piece act) piece
fragment_act act piece e = let (value, body, number) = fragment_body act.body piece e in record { value = value; body = body; number = number }

-- the samples that fragments tell a reader, as acts
abbrev pub told_acts : Guid → values.ActValue → told_samples.SentValue → List (ℕ × List ℕ) → List values.ActValue
told_acts reader act sent came = map (λ (told : told_samples.ToldValue). sample_acts.sample_act reader act sent.key.number told.payload) (told_samples.told_by_sent sent came)

-- What the reader hears with this act, and what it tells the reader.
pub record HearsMore (reader : Guid) (before : List sample_acts.PieceAct) (act : values.ActValue) (sent : told_samples.SentValue) : Type 0 where
  pub came : (key : SampleKey) → making.came_more (hearing.came_to reader before) sent key ≡ hearing.came_to reader (before ++ hearing.with_piece act ∷ []) key
  pub told : told_acts reader act sent (hearing.came_to reader before sent.key) ≡ sample_acts.samples_told reader before act (hearing.piece_in act.body)

pub hears_more : (reader : Guid) (before : List sample_acts.PieceAct) (act : values.ActValue) (i : ℕ) (sent : told_samples.SentValue) → speech.is_heard_by act reader ≡ true → merging.sent_in i act (hearing.piece_in act.body) ≡ sent ∷ [] → HearsMore reader before act sent
hears_more reader before act i sent heard_it is = by (hearing.piece_in act.body) refl is
  where
    one : {X : Type 0} (x y : X) → ◌≡◌ {A = List X} (x ∷ []) (y ∷ []) → x ≡ y
    one x y h = cc

    with_true : (b c : Bool) → c ≡ true → (b && c) ≡ b
    with_true b c h = grind (arith, nat_tests)

    joined : (b : Bool) (xs ys : List (ℕ × List ℕ)) → cond b (xs ++ ys) xs ≡ xs ++ cond b ys []
    joined true xs ys = refl
    joined false xs ys = sym (append-nil xs)

    of_piece : (piece : fragment_delivery.Piece) → hearing.piece_in act.body ≡ Some piece → HearsMore reader before act (sent_by_act i act piece)
    of_piece piece e = record {
      came = λ key.
          let came = samples.came_of key.number (told_samples.shape_of key) in
          let part = hearing.with_piece act in
          let old = hearing.came_to reader before key in
          joined (told_samples.is_sample key (merging.key_of act piece)) old (heard.came_from piece.first piece.parts) ∙ ap (λ cs. old ++ cs) (sym (came_by_act part piece (fragment_act act piece e) key))
          ∙ ap (λ b. old ++ filter_map came (heard_one b (Some piece))) (sym (with_true (speech.is_spoken_by act key.writer) (speech.is_heard_by act reader) heard_it))
          ∙ ap (λ o. old ++ filter_map came (heard_one (hears_part key.writer reader part) o)) (sym e)
          ∙ sym (ap (filter_map came) (heard-more (hears_part key.writer reader) before part) ∙ filter_map-append came (sample_acts.heard_from key.writer reader before) (heard_one (hears_part key.writer reader part) part.piece));
      told =
          let made = λ (octets : List ℕ). fragment_delivery.payload_by piece.shape octets in
          let old = hearing.came_to reader before (merging.key_of act piece) in
          let octets = told_samples.samples_more (data_frag.last_fragment piece.shape) old (heard.came_from piece.first piece.parts) in
          map_map (λ (told : told_samples.ToldValue). sample_acts.sample_act reader act piece.number told.payload) (λ octets. let told : told_samples.ToldValue = record { act = i; payload = made octets } in told) octets
          ∙ sym (map_map (sample_acts.sample_act reader act piece.number) made octets)
          ∙ ap (map (sample_acts.sample_act reader act piece.number)) (payloads_more (sample_acts.heard_from (speech.origin_of act) reader before) old piece refl)
          ∙ ap (λ b. cond b (map (sample_acts.sample_act reader act piece.number) (samples.told_by (sample_acts.heard_from (speech.origin_of act) reader before) piece)) []) (sym heard_it)
          ∙ ap (sample_acts.samples_told reader before act) (sym e);
    }

    by : (o : Option fragment_delivery.Piece) → hearing.piece_in act.body ≡ o → merging.sent_in i act o ≡ sent ∷ [] → HearsMore reader before act sent
    by None e h = cc
    by (Some piece) e h = subst (HearsMore reader before act) (one (sent_by_act i act piece) sent h) (of_piece piece e)

-- ---- no fragments

-- acts without fragments tell nothing
pub heard_without : (reader : Guid) (before : List sample_acts.PieceAct) (acts : List placed.PlacedValue) → list_any (λ at. hearing.sends_fragments at.act.body) acts ≡ false → hearing.heard_behind reader before acts ≡ acts
heard_without reader before [] none = refl
heard_without reader before (one ∷ acts) none =
    let (here, rest) = neither (hearing.sends_fragments one.act.body) _ none in
    ap (λ o. one ∷ (placed.placed_at one.datagram (sample_acts.samples_told reader before one.act o) ++ hearing.heard_behind reader (before ++ hearing.with_piece one.act ∷ []) acts)) (no_piece one.act.body here)
    ∙ ap (λ xs. one ∷ xs) (heard_without reader (before ++ hearing.with_piece one.act ∷ []) acts rest)
  where
    neither : (a b : Bool) → (a || b) ≡ false → (a ≡ false) × (b ≡ false)
    neither a b h = grind (arith, nat_tests)

-- ---- the acts of a recording in their places

acts_at : (reader : Guid) (d : ℕ) (before : List sample_acts.PieceAct) (acts : List values.ActValue) (rest : List placed.PlacedValue)
    → placed.placed_at d (sample_acts.acts_and (sample_acts.samples_told reader) before (map hearing.with_piece acts)) ++ hearing.heard_behind reader (before ++ map hearing.with_piece acts) rest ≡ hearing.heard_behind reader before (placed.placed_at d acts ++ rest)
acts_at reader d before [] rest = ap (λ bs. hearing.heard_behind reader bs rest) (append-nil before)
acts_at reader d before (act ∷ acts) rest =
    let told = sample_acts.samples_told reader before act (hearing.piece_in act.body) in
    let more = sample_acts.acts_and (sample_acts.samples_told reader) (before ++ hearing.with_piece act ∷ []) (map hearing.with_piece acts) in
    let here : placed.PlacedValue = record { datagram = d; act = act } in
    let at = λ (a : values.ActValue). let one : placed.PlacedValue = record { datagram = d; act = a } in one in
    ap (λ xs. here ∷ (xs ++ hearing.heard_behind reader (before ++ map hearing.with_piece (act ∷ acts)) rest)) (map-append at told more)
    ∙ ap (λ xs. here ∷ xs) (append_assoc (placed.placed_at d told) (placed.placed_at d more) (hearing.heard_behind reader (before ++ map hearing.with_piece (act ∷ acts)) rest))
    ∙ ap (λ bs. here ∷ (placed.placed_at d told ++ (placed.placed_at d more ++ hearing.heard_behind reader bs rest))) (sym (append_assoc before (hearing.with_piece act ∷ []) (map hearing.with_piece acts)))
    ∙ ap (λ xs. here ∷ (placed.placed_at d told ++ xs)) (acts_at reader d (before ++ hearing.with_piece act ∷ []) acts rest)

recording_at : (reader : Guid) (count : ℕ) (before : List sample_acts.PieceAct) (recording : List (List values.ActValue))
    → placed.placed_behind count (sample_acts.datagrams_and (sample_acts.samples_told reader) before (map (map hearing.with_piece) recording)) ≡ hearing.heard_behind reader before (placed.placed_behind count recording)
recording_at reader count before [] = refl
recording_at reader count before (acts ∷ recording) =
    ap (λ rest. placed.placed_at (count + 1) (sample_acts.acts_and (sample_acts.samples_told reader) before (map hearing.with_piece acts)) ++ rest) (recording_at reader (count + 1) (before ++ map hearing.with_piece acts) recording)
    ∙ acts_at reader (count + 1) before acts (placed.placed_behind (count + 1) recording)

-- ---- those of one GUID

module _ (origin reader : Guid) where
  -- the samples that an act tells are from where it is from
  told_from : (d : ℕ) (one : placed.PlacedValue) (b : Bool) → placed.is_from origin one ≡ b → (n : ℕ) (payloads : List wire_values.PayloadValue) → filter (placed.is_from origin) (placed.placed_at d (map (sample_acts.sample_act reader one.act n) payloads)) ≡ cond b (placed.placed_at d (map (sample_acts.sample_act reader one.act n) payloads)) []
  told_from d one true e n [] = refl
  told_from d one false e n [] = refl
  told_from d one true e n (payload ∷ payloads) =
      let told : placed.PlacedValue = record { datagram = d; act = sample_acts.sample_act reader one.act n payload } in
      let rest = placed.placed_at d (map (sample_acts.sample_act reader one.act n) payloads) in
      ap (λ b. cond b (told ∷ filter (placed.is_from origin) rest) (filter (placed.is_from origin) rest)) e ∙ ap (λ xs. told ∷ xs) (told_from d one true e n payloads)
  told_from d one false e n (payload ∷ payloads) =
      let told : placed.PlacedValue = record { datagram = d; act = sample_acts.sample_act reader one.act n payload } in
      let rest = placed.placed_at d (map (sample_acts.sample_act reader one.act n) payloads) in
      ap (λ b. cond b (told ∷ filter (placed.is_from origin) rest) (filter (placed.is_from origin) rest)) e ∙ told_from d one false e n payloads

  samples_from : (d : ℕ) (one : placed.PlacedValue) (b : Bool) → placed.is_from origin one ≡ b → (before : List sample_acts.PieceAct) (o : Option fragment_delivery.Piece)
      → filter (placed.is_from origin) (placed.placed_at d (sample_acts.samples_told reader before one.act o)) ≡ cond b (placed.placed_at d (sample_acts.samples_told reader before one.act o)) []
  samples_from d one true e before None = refl
  samples_from d one false e before None = refl
  samples_from d one b e before (Some piece) = by (speech.is_heard_by one.act reader)
    where
      payloads : List wire_values.PayloadValue
      payloads = samples.told_by (sample_acts.heard_from (speech.origin_of one.act) reader before) piece

      nothing : (b : Bool) → [] ≡ cond b (placed.placed_at d []) []
      nothing true = refl
      nothing false = refl

      by : (hears : Bool) → filter (placed.is_from origin) (placed.placed_at d (cond hears (map (sample_acts.sample_act reader one.act piece.number) payloads) [])) ≡ cond b (placed.placed_at d (cond hears (map (sample_acts.sample_act reader one.act piece.number) payloads) [])) []
      by true = told_from d one b e piece.number payloads
      by false = nothing b

  -- the same is heard of the GUID
  abbrev IsSame : List sample_acts.PieceAct → List sample_acts.PieceAct → Type 0
  IsSame before other = sample_acts.heard_from origin reader before ≡ sample_acts.heard_from origin reader other

  same_more : (before other : List sample_acts.PieceAct) (part : sample_acts.PieceAct) → IsSame before other → IsSame (before ++ part ∷ []) (other ++ part ∷ [])
  same_more before other part same =
      heard-more (hears_part origin reader) before part ∙ ap (λ fs. fs ++ heard_one (hears_part origin reader part) part.piece) same ∙ sym (heard-more (hears_part origin reader) other part)

  -- the act of another GUID adds nothing
  same_without : (before other : List sample_acts.PieceAct) (one : placed.PlacedValue) → placed.is_from origin one ≡ false → IsSame before other → IsSame (before ++ hearing.with_piece one.act ∷ []) other
  same_without before other one apart same =
      let part = hearing.with_piece one.act in
      heard-more (hears_part origin reader) before part ∙ ap (λ b. sample_acts.heard_from origin reader before ++ heard_one (b && speech.is_heard_by one.act reader) part.piece) unspoken ∙ append-nil (sample_acts.heard_from origin reader before) ∙ same
    where
      unspoken : speech.is_spoken_by one.act origin ≡ false
      unspoken = elim (cases_Bool (speech.is_spoken_by one.act origin)) [
        | inl spoken ↦ absurd (let clash : true ≡ false = sym (speaker_is_origin origin one spoken) ∙ apart in cc)
        | inr not ↦ not
      ]

  samples_same : (before other : List sample_acts.PieceAct) (one : placed.PlacedValue) → placed.is_from origin one ≡ true → IsSame before other → (o : Option fragment_delivery.Piece) → sample_acts.samples_told reader before one.act o ≡ sample_acts.samples_told reader other one.act o
  samples_same before other one e same None = refl
  samples_same before other one e same (Some piece) =
      let own : origin ≡ speech.origin_of one.act = guid_same origin (speech.origin_of one.act) e in
      ap (λ fs. cond (speech.is_heard_by one.act reader) (map (sample_acts.sample_act reader one.act piece.number) (samples.told_by fs piece)) [])
      (ap (λ g. sample_acts.heard_from g reader before) (sym own) ∙ same ∙ ap (λ g. sample_acts.heard_from g reader other) own)

  pub heard_from_one : (before other : List sample_acts.PieceAct) (acts : List placed.PlacedValue) → IsSame before other → filter (placed.is_from origin) (hearing.heard_behind reader before acts) ≡ hearing.heard_behind reader other (filter (placed.is_from origin) acts)
  heard_from_one before other [] same = refl
  heard_from_one before other (one ∷ acts) same = by (placed.is_from origin one) refl (λ bs os e. heard_from_one bs os acts e)
    where
      part : sample_acts.PieceAct
      part = hearing.with_piece one.act

      told : List sample_acts.PieceAct → List placed.PlacedValue
      told bs = placed.placed_at one.datagram (sample_acts.samples_told reader bs one.act part.piece)

      rest : List placed.PlacedValue
      rest = hearing.heard_behind reader (before ++ part ∷ []) acts

      by : (b : Bool) → placed.is_from origin one ≡ b
          → ((bs os : List sample_acts.PieceAct) → IsSame bs os → filter (placed.is_from origin) (hearing.heard_behind reader bs acts) ≡ hearing.heard_behind reader os (filter (placed.is_from origin) acts))
          → cond b (one ∷ filter (placed.is_from origin) (told before ++ rest)) (filter (placed.is_from origin) (told before ++ rest)) ≡ hearing.heard_behind reader other (cond b (one ∷ filter (placed.is_from origin) acts) (filter (placed.is_from origin) acts))
      by true e go =
          ap (λ xs. one ∷ xs) (filter-append (placed.is_from origin) (told before) rest ∙ ap₂ ◌++◌ (samples_from one.datagram one true e before part.piece ∙ ap (placed.placed_at one.datagram) (samples_same before other one e same part.piece)) (go (before ++ part ∷ []) (other ++ part ∷ []) (same_more before other part same)))
      by false e go = filter-append (placed.is_from origin) (told before) rest ∙ ap₂ ◌++◌ (samples_from one.datagram one false e before part.piece) (go (before ++ part ∷ []) other (same_without before other one e same))

-- what a reader hears of the acts of a GUID
pub heard_of_origin : (origin reader : Guid) (recording : List (List values.ActValue)) → filter (placed.is_from origin) (placed.placed_in (hearing.heard_by reader recording)) ≡ hearing.heard_of reader (filter (placed.is_from origin) (placed.placed_in recording))
heard_of_origin origin reader recording = ap (filter (placed.is_from origin)) (recording_at reader 0 [] recording) ∙ heard_from_one origin reader [] [] (placed.placed_in recording) refl

-- ---- no sample is an answer

module _ (pair : Pair) (reader : Guid) where
  no_answers : (d : ℕ) (act : values.ActValue) (n : ℕ) (payloads : List wire_values.PayloadValue) → placed.answers_among pair (placed.placed_at d (map (sample_acts.sample_act reader act n) payloads)) ≡ []
  no_answers d act n [] = refl
  no_answers d act n (payload ∷ payloads) = by (speech.is_answer (sample_acts.sample_act reader act n payload) pair.reader pair.writer) ∙ no_answers d act n payloads
    where
      by : (b : Bool) → cons_option (placed.answer_at d act.at (cond b None None)) (placed.answers_among pair (placed.placed_at d (map (sample_acts.sample_act reader act n) payloads))) ≡ placed.answers_among pair (placed.placed_at d (map (sample_acts.sample_act reader act n) payloads))
      by true = refl
      by false = refl

  told_answers : (d : ℕ) (act : values.ActValue) (before : List sample_acts.PieceAct) (o : Option fragment_delivery.Piece) → placed.answers_among pair (placed.placed_at d (sample_acts.samples_told reader before act o)) ≡ []
  told_answers d act before None = refl
  told_answers d act before (Some piece) = by (speech.is_heard_by act reader)
    where
      by : (b : Bool) → placed.answers_among pair (placed.placed_at d (cond b (map (sample_acts.sample_act reader act piece.number) (samples.told_by (sample_acts.heard_from (speech.origin_of act) reader before) piece)) [])) ≡ []
      by true = no_answers d act piece.number (samples.told_by (sample_acts.heard_from (speech.origin_of act) reader before) piece)
      by false = refl

  answers_behind : (before : List sample_acts.PieceAct) (acts : List placed.PlacedValue) → placed.answers_among pair (hearing.heard_behind reader before acts) ≡ placed.answers_among pair acts
  answers_behind before [] = refl
  answers_behind before (one ∷ acts) =
      let told = placed.placed_at one.datagram (sample_acts.samples_told reader before one.act (hearing.piece_in one.act.body)) in
      let rest = hearing.heard_behind reader (before ++ hearing.with_piece one.act ∷ []) acts in
      ap (cons_option (placed.answer_of pair one)) (filter_map-append (placed.answer_of pair) told rest ∙ ap₂ ◌++◌ (told_answers one.datagram one.act before (hearing.piece_in one.act.body)) (answers_behind (before ++ hearing.with_piece one.act ∷ []) acts))

-- the answers stay
pub answers_heard : (pair : Pair) (reader : Guid) (recording : List (List values.ActValue)) → placed.answers_among pair (placed.placed_in (hearing.heard_by reader recording)) ≡ placed.answers_among pair (placed.placed_in recording)
answers_heard pair reader recording = ap (placed.answers_among pair) (recording_at reader 0 [] recording) ∙ answers_behind pair reader [] (placed.placed_in recording)
