use Rattle.std.proofs.Common.{◌∙◌, ◌++◌, ◌∷◌, [], Some, None, ap, not, refl, subst, sym}
use Rattle.std.specs.Option.{option_map}
use Rattle.rtps_audit.specs.Placed as placed
use Rattle.rtps_wire.specs.Values as values
use Rattle.rtps_evidence.specs.Locations as locations
use Rattle.rtps_evidence.proofs.FindLemmas.{first_noted, first_passed, some_mapped}
use Rattle.rtps_evidence.proofs.MadeLemmas.{sent_made}
use Rattle.rtps_evidence.proofs.PayloadLemmas.{sent_behind, sent_first, sent_settled, sent_still}
use Rattle.rtps_evidence.proofs.sent_payload.SentPayloads.with.Goals as goal

pub returns-then-is_some : goal.returns-then-is_some
returns-then-is_some c = λ acts are.
    let pair = c.args.pair in
    let self = c.args.self.now in
    sent_settled pair.writer pair.reader c.args.number acts (placed.placed_value c.args.placed.now ∷ []) (option_map locations.sent_value self.first) (option_map locations.sent_value self.other)
    (some_mapped locations.sent_value self.other ∙ sym c.is_some.ensures ∙ c.if-is_some.true) are

pub returns-in_default : goal.returns-in_default
returns-in_default c = λ acts are.
    let pair = c.args.pair in
    let self = c.args.self.now in
    sent_still pair.writer pair.reader c.args.number acts (placed.placed_value c.args.placed.now) (option_map locations.sent_value self.first) (option_map locations.sent_value self.other)
    (sym c.payload_for.ensures ∙ ap (option_map values.payload_value) c.in_default.is) are

pub returns-in_default-first : goal.returns-in_default-first
returns-in_default-first c = λ acts are.
    let w = c.args.pair.writer in
    let r = c.args.pair.reader in
    let n = c.args.number in
    let x = placed.placed_value c.args.placed.now in
    let other = option_map locations.sent_value c.args.self.now.other in
    let p = values.payload_value c.in-Some.payload in
    let payload = sym c.payload_for.ensures ∙ ap (option_map values.payload_value) c.in-Some.is in
    subst (λ (s : locations.SentValue). locations.AreSent w r n (acts ++ x ∷ []) (Some s) None) (sym (sent_made w r n (Some p) c.location_of-place.result x (sym payload) c.location_of-place.ensures))
    (sent_first w r n acts x other p payload (subst (λ o. locations.AreSent w r n acts o other) (ap (option_map locations.sent_value) c.in_default-first.is) are))

pub returns-then-is_same : goal.returns-then-is_same
returns-then-is_same c = λ acts are.
    let w = c.args.pair.writer in
    let r = c.args.pair.reader in
    let n = c.args.number in
    let x = placed.placed_value c.args.placed.now in
    let other = option_map locations.sent_value c.args.self.now.other in
    let first = ap (option_map locations.sent_value) c.in-Some-first.is in
    let p = values.payload_value c.in-Some-first.first.payload in
    let payload = sym c.payload_for.ensures ∙ ap (option_map values.payload_value) c.in-Some.is in
    let out = ap (locations.differs p) payload ∙ ap not (sym c.is_same.ensures ∙ c.if-is_same.true) in
    subst (λ o. locations.AreSent w r n (acts ++ x ∷ []) o other) (sym first)
    (sent_behind w r n acts x (locations.sent_value c.in-Some-first.first) other other p refl (λ is. first_passed (locations.sent_at w r n) (λ (at : placed.PlacedValue). locations.differs p (locations.payload_for w r n at)) acts x other out is)
    (subst (λ o. locations.AreSent w r n acts o other) first are))

pub returns : goal.returns
returns c = λ acts are.
    let w = c.args.pair.writer in
    let r = c.args.pair.reader in
    let n = c.args.number in
    let x = placed.placed_value c.args.placed.now in
    let other = option_map locations.sent_value c.args.self.now.other in
    let first = ap (option_map locations.sent_value) c.in-Some-first.is in
    let p = values.payload_value c.in-Some-first.first.payload in
    let q = values.payload_value c.in-Some.payload in
    let payload = sym c.payload_for.ensures ∙ ap (option_map values.payload_value) c.in-Some.is in
    let passes = ap (locations.differs p) payload ∙ ap not (sym c.is_same.ensures ∙ c.if-is_same.false) in
    let none = some_mapped locations.sent_value c.args.self.now.other ∙ sym c.is_some.ensures ∙ c.if-is_some.false in
    subst (λ o. locations.AreSent w r n (acts ++ x ∷ []) o (Some (locations.sent_value (record { payload = c.in-Some.payload; place = c.location_of-place.result })))) (sym first)
    (sent_behind w r n acts x (locations.sent_value c.in-Some-first.first) other _ p refl
    (λ is. ap Some (sent_made w r n (Some q) c.location_of-place.result x (sym payload) c.location_of-place.ensures)
    ∙ first_noted (locations.sent_at w r n) (λ (at : placed.PlacedValue). locations.differs p (locations.payload_for w r n at)) acts x other none passes is)
    (subst (λ o. locations.AreSent w r n acts o other) first are))
