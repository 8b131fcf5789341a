-- By what ends are known, and which pairs are asked for: what is kept is what a recording says.
use Rattle.std.proofs.Common.{◌≡◌, ◌∙◌, ℕ, ◌+◌, ◌<◌, Bool, true, false, List, [], ◌∷◌, ◌++◌, Option, None, ap, append-nil, append_assoc, cond, filter, filter_map, flat_map, get_or, length, map, option_map, refl, subst, sym, take, unwrap_or}
use Rattle.std.proofs.Math.Path.{fun_ext}
use Rattle.std.proofs.lemmas.List.{map_more, map_push}
use Rattle.std.proofs.lemmas.Grind.{flat_map-append}
use Rattle.std.proofs.lemmas.List.Elements.{filter-append}
use Rattle.std.specs.List.{list_any}
use Rattle.rtps_ids.specs.declared.identity.Guid.{Guid}
use Rattle.rtps_ids.specs.declared.identity.GuidPrefix.{GuidPrefix}
use Rattle.rtps_receiver.specs.Values as values
use Rattle.rtps_discovery.specs.Directory as directory
use Rattle.rtps_discovery.specs.Endpoint as endpoint
use Rattle.rtps_discovery.specs.declared.endpoint.Endpoint.{Endpoint}
use Rattle.rtps_audit.specs.Intake as intake_spec
use Rattle.rtps_audit.specs.Placed as placed_spec
use Rattle.rtps_audit.specs.declared.placed.Placed.{Placed}
use Rattle.rtps_fragments.specs.Announcements as announcements_spec
use Rattle.rtps_fragments.specs.Hearing as hearing
use Rattle.rtps_policies.specs.Announcing as announcing
use Rattle.rtps_policies.specs.declared.announced.Announced.{Announced}
use Rattle.rtps_policies.specs.declared.host.Address.{Address}
use Rattle.rtps_who.specs.Introducing as introducing
use Rattle.rtps_who.specs.Naming as naming
use Rattle.rtps_who.specs.Processes as processes
use Rattle.rtps_who.specs.Recorded as recorded_spec
use Rattle.rtps_who.specs.Samples as samples
use Rattle.rtps_who.specs.Services as services
use Rattle.rtps_who.specs.Telling as telling
use Rattle.rtps_who.specs.declared.introductions.Introductions.{Introductions}
use Rattle.rtps_who.specs.declared.told_nodes.ToldNodes.{ToldNodes}
use Rattle.rtps_who.specs.declared.who.Who.{Who}
use Rattle.rtps_who.proofs.Offered.{end_node_is, process_is}
use Rattle.rtps_report.specs.Asked as asked
use Rattle.rtps_report.specs.Ends as ends
use Rattle.rtps_report.specs.Rows as rows
use Rattle.rtps_report.specs.Talk as talk
use Rattle.rtps_report.proofs.TalkLemmas.{acts_behind, hosts_are, says_nothing, told_alone}

-- which pairs are asked for by what is kept
pub choice_kept : (asked : asked.AskedValue) (intake : intake_spec.Intake) (entries : directory.Entries) (who : Who) → ((guid : Guid) → recorded_spec.node_in who guid ≡ naming.node_of (ends.recorded_in intake entries) guid)
    → rows.chosen_by asked (recorded_spec.node_in who) ≡ talk.choice_in asked intake entries
choice_kept asked intake entries who same = ap (rows.chosen_by asked) (fun_ext same)

-- an end by what is kept
pub end_is : (recorded : naming.Recorded) (who : Who) (announced : Announced) → recorded_spec.IsWhoIn recorded who → announcing.IsAnnouncedBy recorded.announcing announced → (guid : Guid) → ends.end_kept who announced guid ≡ ends.end_of recorded guid
end_is recorded who announced is are guid =
    let made : Option samples.NodeValue → processes.ProcessValue → Option Address → ends.EndValue = λ node process address. record { node = node; process = process; address = address } in
    let node = end_node_is recorded who is guid in
    let process = process_is recorded who is guid.prefix in
    let host = hosts_are recorded.announcing announced are guid.prefix in
    λ i. made (node i) (process i) (host i).address

-- ---- what announces

no_process : (act : values.ActValue) → announcements_spec.is_of_built_in act.body ≡ false → introducing.process_told act ≡ None
no_process act other = rw (says_nothing act other) refl

no_endpoint : (act : values.ActValue) → announcements_spec.is_of_built_in act.body ≡ false → introducing.endpoint_told act ≡ None
no_endpoint act other = rw (says_nothing act other) refl

-- what few acts introduce is what all do
pub introduced_all : (datagrams : List (List values.ActValue)) (introductions : Introductions) → introducing.IsIntroducedBy (map (λ (p : placed_spec.PlacedValue). p.act) (announcements_spec.announcements_in datagrams)) introductions
    → introducing.IsIntroducedBy (intake_spec.acts_together datagrams) introductions
introduced_all datagrams introductions is =
    let endpoints = told_alone introducing.endpoint_told no_endpoint (placed_spec.placed_in datagrams) ∙ ap (filter_map introducing.endpoint_told) (acts_behind 0 datagrams) in
    record {
      processes = λ guid. is.processes guid ∙ ap (announcing.first_of guid) (told_alone introducing.process_told no_process (placed_spec.placed_in datagrams) ∙ ap (filter_map introducing.process_told) (acts_behind 0 datagrams));
      tellers = λ guid. is.tellers guid ∙ ap (list_any (introducing.is_teller guid)) endpoints;
      services = λ prefix. is.services prefix ∙ ap (λ told. services.names_of (flat_map (introducing.names_by prefix) told)) endpoints;
    }

-- the acts of one more
pub acts_more : (placed : List Placed) (i : ℕ) (one : Placed) → i < length placed → one ≡ get_or placed i one
    → map (λ (p : placed_spec.PlacedValue). p.act) (map placed_spec.placed_value (take (i + 1) placed)) ≡ map (λ (p : placed_spec.PlacedValue). p.act) (map placed_spec.placed_value (take i placed)) ++ values.spoken_value one.act ∷ []
acts_more placed i one within read =
    let so_far = map placed_spec.placed_value (take i placed) in
    ap (map (λ (p : placed_spec.PlacedValue). p.act)) (map_more placed_spec.placed_value placed i one within ∙ ap (λ (last : Placed). so_far ++ placed_spec.placed_value last ∷ []) (sym read))
    ∙ map_push (λ (p : placed_spec.PlacedValue). p.act) so_far (placed_spec.placed_value one)

-- the same of a step more
pub introduced_more : (announcements : List Placed) (i : ℕ) (one : Placed) (introductions : Introductions) → i < length announcements → one ≡ get_or announcements i one
    → introducing.IsIntroducedBy (map (λ (p : placed_spec.PlacedValue). p.act) (map placed_spec.placed_value (take i announcements)) ++ values.spoken_value one.act ∷ []) introductions
    → introducing.IsIntroducedBy (map (λ (p : placed_spec.PlacedValue). p.act) (map placed_spec.placed_value (take (i + 1) announcements))) introductions
introduced_more announcements i one introductions within read is = subst (λ acts. introducing.IsIntroducedBy acts introductions) (sym (acts_more announcements i one within read)) is

-- ---- what the writers that tell of nodes tell

-- one act more of a writer
pub told_more : (announcing before : List values.ActValue) (placed : List Placed) (i : ℕ) (one : Placed) (told : ToldNodes) → i < length placed → one ≡ get_or placed i one
    → telling.IsToldBy announcing ((before ++ map (λ (p : placed_spec.PlacedValue). p.act) (map placed_spec.placed_value (take i placed))) ++ values.spoken_value one.act ∷ []) told
    → telling.IsToldBy announcing (before ++ map (λ (p : placed_spec.PlacedValue). p.act) (map placed_spec.placed_value (take (i + 1) placed))) told
told_more announcing before placed i one told within read is =
    subst (λ acts. telling.IsToldBy announcing acts told)
    (append_assoc before (map (λ (p : placed_spec.PlacedValue). p.act) (map placed_spec.placed_value (take i placed))) (values.spoken_value one.act ∷ []) ∙ ap (λ l. before ++ l) (sym (acts_more placed i one within read))) is

-- the acts of the writers among the first endpoints
abbrev pub told_to : intake_spec.Intake → List Endpoint → List values.ActValue
told_to intake endpoints = flat_map (ends.acts_by intake) (filter introducing.tells_nodes (map endpoint.endpoint_value endpoints))

pub writer_more : (intake : intake_spec.Intake) (endpoints : List Endpoint) (i : ℕ) (d : Endpoint) → i < length endpoints → introducing.tells_nodes (endpoint.endpoint_value (get_or endpoints i d)) ≡ true
    → told_to intake (take i endpoints) ++ ends.acts_by intake (endpoint.endpoint_value (get_or endpoints i d)) ≡ told_to intake (take (i + 1) endpoints)
writer_more intake endpoints i d within tells =
    let one = endpoint.endpoint_value (get_or endpoints i d) in
    let before = map endpoint.endpoint_value (take i endpoints) in
    ap (λ l. told_to intake (take i endpoints) ++ l) (sym (append-nil (ends.acts_by intake one)))
    ∙ sym (flat_map-append (ends.acts_by intake) (filter introducing.tells_nodes before) (one ∷ []))
    ∙ ap (λ b. flat_map (ends.acts_by intake) (filter introducing.tells_nodes before ++ cond b (one ∷ []) [])) (sym tells)
    ∙ ap (flat_map (ends.acts_by intake)) (sym (filter-append introducing.tells_nodes before (one ∷ [])))
    ∙ ap (λ l. flat_map (ends.acts_by intake) (filter introducing.tells_nodes l)) (sym (map_more endpoint.endpoint_value endpoints i d within))

-- what is kept after the acts of one writer more
pub writer_told : (intake : intake_spec.Intake) (announcing : List values.ActValue) (endpoints : List Endpoint) (i : ℕ) (d : Endpoint) (acts : List Placed) (told : ToldNodes) → i < length endpoints
    → introducing.tells_nodes (endpoint.endpoint_value (get_or endpoints i d)) ≡ true → map placed_spec.placed_value acts ≡ filter (placed_spec.is_from (endpoint.endpoint_value (get_or endpoints i d)).guid) (placed_spec.placed_in intake.acts)
    → telling.IsToldBy announcing (told_to intake (take i endpoints) ++ map (λ (p : placed_spec.PlacedValue). p.act) (hearing.overheard_of (map placed_spec.placed_value acts))) told
    → telling.IsToldBy announcing (told_to intake (take (i + 1) endpoints)) told
writer_told intake announcing endpoints i d acts told within tells are is =
    subst (λ those. telling.IsToldBy announcing those told)
    (ap (λ (placed : List placed_spec.PlacedValue). told_to intake (take i endpoints) ++ map (λ (p : placed_spec.PlacedValue). p.act) (hearing.overheard_of placed)) are ∙ writer_more intake endpoints i d within tells) is

-- the endpoints that are gone through are the settled ones
pub endpoints_told : (those found : List Endpoint) (settled : List endpoint.EndpointValue) → those ≡ found → map endpoint.endpoint_value found ≡ settled → map endpoint.endpoint_value those ≡ settled
endpoints_told those found settled same are = ap (map endpoint.endpoint_value) same ∙ are

pub writer_skip : (intake : intake_spec.Intake) (endpoints : List Endpoint) (i : ℕ) (d : Endpoint) → i < length endpoints → introducing.tells_nodes (endpoint.endpoint_value (get_or endpoints i d)) ≡ false
    → told_to intake (take i endpoints) ≡ told_to intake (take (i + 1) endpoints)
writer_skip intake endpoints i d within silent =
    let one = endpoint.endpoint_value (get_or endpoints i d) in
    let before = map endpoint.endpoint_value (take i endpoints) in
    ap (flat_map (ends.acts_by intake)) (sym (append-nil (filter introducing.tells_nodes before)))
    ∙ ap (λ b. flat_map (ends.acts_by intake) (filter introducing.tells_nodes before ++ cond b (one ∷ []) [])) (sym silent)
    ∙ ap (flat_map (ends.acts_by intake)) (sym (filter-append introducing.tells_nodes before (one ∷ [])))
    ∙ ap (λ l. flat_map (ends.acts_by intake) (filter introducing.tells_nodes l)) (sym (map_more endpoint.endpoint_value endpoints i d within))

-- ---- all of it

-- what is kept of a recording that was heard
pub who_heard : (intake : intake_spec.Intake) (entries : directory.Entries) (announcements : List Placed) (who : Who) → map placed_spec.placed_value announcements ≡ announcements_spec.announcements_in intake.announcing
    → introducing.IsIntroducedBy (map (λ (p : placed_spec.PlacedValue). p.act) (map placed_spec.placed_value announcements)) who.introductions × ((announcing : List values.ActValue) → introducing.IsIntroducedBy announcing who.introductions → telling.IsToldBy announcing (ends.acts_told intake entries) who.told)
    → recorded_spec.IsWhoIn (ends.recorded_in intake entries) who
who_heard intake entries announcements who same is =
    let introduced = introduced_all intake.announcing who.introductions (subst (λ placed. introducing.IsIntroducedBy (map (λ (p : placed_spec.PlacedValue). p.act) placed) who.introductions) same is.0) in
    record { introductions = introduced; told = is.1 (intake_spec.acts_together intake.announcing) introduced }
