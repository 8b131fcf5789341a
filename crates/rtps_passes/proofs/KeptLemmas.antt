-- The payloads that are kept, after one act more, and the entries of them.
use Rattle.std.proofs.Common.{ℕ, zero, suc, ◌≡◌, ◌<◌, Bool, true, List, [], ◌∷◌, ◌++◌, Some, None, length, get_or, inl, inr, refl, sym, ◌∙◌, ap, subst, arith}
use Rattle.std.specs.Prelude.{◌≢◌, ◌==◌, if◌then◌else◌, Contains}
use Rattle.std.proofs.lemmas.Bool.{cases_lt}
use Rattle.std.proofs.Math.Seq.{get_or-append_seam}
use Rattle.std.proofs.lemmas.List.{get_or_append_left, length-append}
use Rattle.std.proofs.lemmas.List.Elements.{Contains-append_left, Contains-push, Contains-push_cases}
use Rattle.rtps_receiver.specs.Values as receiver_values
use Rattle.rtps_wire.specs.Values as wire_values
use Rattle.rtps_audit.specs.Delivery as delivery
use Rattle.rtps_audit.specs.PayloadConflict as payload_conflict
use Rattle.rtps_audit.specs.Placed as placed_spec
use Rattle.rtps_audit.specs.Speech as speech
use Rattle.rtps_audit.specs.declared.payload_conflict.AddressedPayload.{AddressedPayload}
use Rattle.rtps_passes.specs.Comparison as comparison
use Rattle.rtps_passes.specs.declared.kept_payload.KeptPayload.{KeptPayload}

-- ---- an entry and what is kept of it

-- what is kept of an entry is told by the act that sends the entry
pub told_of_sent : (act : receiver_values.ActValue) (entry : AddressedPayload) (kept : KeptPayload) → comparison.IsEntryOf entry kept → payload_conflict.IsSentBy act entry → comparison.IsToldBy act kept
told_of_sent act entry kept is sent = record {
  dest = sent.dest ∙ sym is.dest;
  reader = sent.reader ∙ ap Some (sym is.reader);
  says = λ n. sent.says n ∙ ap (λ m. if n == m then Some (delivery.Word.Told (wire_values.payload_value entry.payload.now)) else None) (sym is.number) ∙ ap (λ x. if n == kept.number then Some (delivery.Word.Told x) else None) (sym is.payload);
}

-- and the other way round
pub sent_of_told : (act : receiver_values.ActValue) (entry : AddressedPayload) (kept : KeptPayload) → comparison.IsEntryOf entry kept → comparison.IsToldBy act kept → payload_conflict.IsSentBy act entry
sent_of_told act entry kept is told = record {
  dest = told.dest ∙ is.dest;
  reader = told.reader ∙ ap Some is.reader;
  says = λ n. told.says n ∙ ap (λ m. if n == m then Some (delivery.Word.Told (wire_values.payload_value kept.payload)) else None) is.number ∙ ap (λ x. if n == entry.number then Some (delivery.Word.Told x) else None) is.payload;
}

-- ---- one act more

-- an act that tells no payload that is wanted
pub kept_silent : (wanted : ℕ → Bool) (placed : List placed_spec.PlacedValue) (kept : List KeptPayload) (at : placed_spec.PlacedValue) → ((n : ℕ) (x : wire_values.PayloadValue) → wanted n ≡ true → speech.word_of at.act.body n ≢ Some (delivery.Word.Told x)) → comparison.AreKept wanted placed kept → comparison.AreKept wanted (placed ++ at ∷ []) kept
kept_silent wanted placed kept at silent known = record {
  told = λ one among. let was = known.told one among in (was.0, (was.1.0, Contains-append_left placed (at ∷ []) was.1.0 was.1.1, was.1.2));
  all = λ act n x among asked says. elim (Contains-push_cases placed at act among) [
    | inl there ↦ known.all act n x there asked says
    | inr is ↦ absurd (silent n x asked (ap (λ (a : placed_spec.PlacedValue). speech.word_of a.act.body n) is ∙ says))
  ];
}

-- an act that tells what is kept already
pub kept_again : (wanted : ℕ → Bool) (placed : List placed_spec.PlacedValue) (kept : List KeptPayload) (at : placed_spec.PlacedValue) (one : KeptPayload) → Contains kept one → comparison.IsToldBy at.act one → comparison.AreKept wanted placed kept → comparison.AreKept wanted (placed ++ at ∷ []) kept
kept_again wanted placed kept at one there told known = record {
  told = λ other among. let was = known.told other among in (was.0, (was.1.0, Contains-append_left placed (at ∷ []) was.1.0 was.1.1, was.1.2));
  all = λ act n x among asked says. elim (Contains-push_cases placed at act among) [
    | inl before ↦ known.all act n x before asked says
    | inr is ↦ subst (λ (a : placed_spec.PlacedValue). (other : KeptPayload) × Contains kept other × comparison.IsToldBy a.act other) is (one, there, told)
  ];
}

-- an act that tells what is kept from then on
pub kept_more : (wanted : ℕ → Bool) (placed : List placed_spec.PlacedValue) (kept : List KeptPayload) (at : placed_spec.PlacedValue) (one : KeptPayload) → comparison.IsToldBy at.act one → wanted one.number ≡ true → comparison.AreKept wanted placed kept → comparison.AreKept wanted (placed ++ at ∷ []) (kept ++ one ∷ [])
kept_more wanted placed kept at one told asked known = record {
  told = λ other among. elim (Contains-push_cases kept one other among) [
    | inl there ↦ let was = known.told other there in (was.0, (was.1.0, Contains-append_left placed (at ∷ []) was.1.0 was.1.1, was.1.2))
    | inr is ↦ subst (λ (k : KeptPayload). (wanted k.number ≡ true) × ((act : placed_spec.PlacedValue) × Contains (placed ++ at ∷ []) act × comparison.IsToldBy act.act k)) is (asked, (at, Contains-push placed at, told))
  ];
  all = λ act n x among wants says. elim (Contains-push_cases placed at act among) [
    | inl before ↦ let was = known.all act n x before wants says in (was.0, Contains-append_left kept (one ∷ []) was.0 was.1, was.2)
    | inr is ↦ subst (λ (a : placed_spec.PlacedValue). (other : KeptPayload) × Contains (kept ++ one ∷ []) other × comparison.IsToldBy a.act other) is (one, Contains-push kept one, told)
  ];
}

-- nothing is kept of nothing
pub none_kept : (wanted : ℕ → Bool) → comparison.AreKept wanted [] []
none_kept wanted = record {
  told = λ one among. let lt = among.1 in absurd (omega arith);
  all = λ at n x among asked says. let lt = among.1 in absurd (omega arith);
}

-- ---- the entries

-- the entries are of what is kept, one after another
pub record AreEntries (entries : List AddressedPayload) (kept : List KeptPayload) : Type 0 where
  pub counted : length entries ≡ length kept
  pub each : (k : ℕ) (d : AddressedPayload) (e : KeptPayload) → k < length kept → comparison.IsEntryOf (get_or entries k d) (get_or kept k e)

pub no_entries : (entries : List AddressedPayload) → entries ≡ [] → AreEntries entries []
no_entries entries empty = record { counted = ap length empty; each = λ k d e lt. absurd (omega arith) }

pub entries_more : (entries new : List AddressedPayload) (kept : List KeptPayload) (entry : AddressedPayload) (one : KeptPayload) → new ≡ entries ++ entry ∷ [] → comparison.IsEntryOf entry one → AreEntries entries kept → AreEntries new (kept ++ one ∷ [])
entries_more entries new kept entry one is of known = subst (λ l. AreEntries l (kept ++ one ∷ [])) (sym is) (record {
  counted = let long = length-append entries (entry ∷ []) in let many = length-append kept (one ∷ []) in let same = known.counted in omega arith;
  each = λ k d e lt. elim (cases_lt k (length kept)) [
    | inl before ↦
        let first : k < length entries = let same = known.counted in omega arith in
        subst (λ (a : AddressedPayload). comparison.IsEntryOf a (get_or (kept ++ one ∷ []) k e)) (sym (get_or_append_left entries (entry ∷ []) d k first))
        (subst (λ (b : KeptPayload). comparison.IsEntryOf (get_or entries k d) b) (sym (get_or_append_left kept (one ∷ []) e k before)) (known.each k d e before))
    | inr ge ↦
        let many = length-append kept (one ∷ []) in
        let last : k ≡ length kept = omega arith in
        let end : k ≡ length entries = last ∙ sym known.counted in
        subst (λ (a : AddressedPayload). comparison.IsEntryOf a (get_or (kept ++ one ∷ []) k e)) (sym (ap (λ i. get_or (entries ++ entry ∷ []) i d) end ∙ get_or-append_seam entries entry [] d))
        (subst (λ (b : KeptPayload). comparison.IsEntryOf entry b) (sym (ap (λ i. get_or (kept ++ one ∷ []) i e) last ∙ get_or-append_seam kept one [] e)) of)
  ];
})

-- what stands at a place
pub element : {X : Type 0} (xs : List X) (k : ℕ) → k < length xs → (x : X) × ((d : X) → get_or xs k d ≡ x)
element [] k lt = absurd (omega arith)
element (x ∷ xs) zero lt = (x, λ d. refl)
element (x ∷ xs) (suc k) lt = element xs k (omega arith)

pub entries_sent : (wanted : ℕ → Bool) (placed : List placed_spec.PlacedValue) (entries : List AddressedPayload) (kept : List KeptPayload) → AreEntries entries kept → comparison.AreKept wanted placed kept → payload_conflict.AreSentIn wanted placed entries
entries_sent wanted placed entries kept of known = record {
  sent = λ entry among.
      let lt : among.0 < length kept = let same = of.counted in let first = among.1 in omega arith in
      let one = element kept among.0 lt in
      let is = subst (λ (a : AddressedPayload). comparison.IsEntryOf a one.0) among.2 (subst (comparison.IsEntryOf (get_or entries among.0 entry)) (one.1 one.0) (of.each among.0 entry one.0 lt)) in
      let told = known.told one.0 (among.0, lt, one.1 one.0) in
      (subst (λ n. wanted n ≡ true) is.number told.0, (told.1.0, told.1.1, sent_of_told told.1.0.act entry one.0 is told.1.2));
  all = λ act n x among asked says.
      let was = known.all act n x among asked says in
      let at = was.1 in
      let first : at.0 < length entries = let same = of.counted in let lt = at.1 in omega arith in
      let entry = element entries at.0 first in
      let is = subst (λ (a : AddressedPayload). comparison.IsEntryOf a was.0) (entry.1 entry.0) (subst (comparison.IsEntryOf (get_or entries at.0 entry.0)) at.2 (of.each at.0 entry.0 was.0 at.1)) in
      (entry.0, (at.0, first, entry.1 entry.0), sent_of_told act.act entry.0 was.0 is was.2);
}
