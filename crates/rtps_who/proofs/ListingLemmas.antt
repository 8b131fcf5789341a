-- Listings, one behind another.
use Rattle.std.proofs.Common.{◌≡◌, ◌∙◌, ℕ, ◌+◌, ◌-◌, ◌<◌, ◌≤◌, Bool, true, false, cond, List, [], ◌∷◌, ◌++◌, Option, Some, None, ap, filter, map, refl, reverse, subst, sym}
use Rattle.std.specs.BTreeMap.{is_at}
use Rattle.std.specs.Map.{lookup}
use Rattle.std.specs.Option.{option_map, option_or}
use Rattle.std.proofs.lemmas.List.{reverse-append}
use Rattle.rtps_ids.specs.declared.identity.Guid.{Guid}
use Rattle.rtps_ids.specs.declared.identity.GuidPrefix.{GuidPrefix}
use Rattle.rtps_receiver.specs.Speech as speech
use Rattle.rtps_discovery.specs.GuidOrder as guid_order
use Rattle.rtps_who.specs.Items as items
use Rattle.rtps_who.specs.Listings as listings_spec
use Rattle.rtps_who.specs.Samples as samples
use Rattle.rtps_who.specs.declared.node.Node.{Node}
use Rattle.rtps_who.proofs.IdLemmas.{guids_alike}
use Rattle.rtps_who.proofs.ItemLemmas.{items_end, items_step, items_stop}
use Rattle.rtps_who.proofs.TableLemmas.{lookup_append}

-- what is kept of an endpoint
abbrev kept : List (Guid × Node) → Guid → Option samples.NodeValue
kept table guid = option_map samples.node_value (lookup (is_at (guid_order.guid_cmp guid)) table)

pub lists_none : (table : List (Guid × Node)) → listings_spec.Lists table table []
lists_none table guid = refl

or_assoc : {X : Type 0} (one two three : Option X) → option_or (option_or one two) three ≡ option_or one (option_or two three)
or_assoc None two three = refl
or_assoc (Some x) two three = refl

-- the last among more is among those behind, or else among those before
pub last_append : (guid : Guid) (xs ys : List (Guid × samples.NodeValue)) → listings_spec.last_listed guid (xs ++ ys) ≡ option_or (listings_spec.last_listed guid ys) (listings_spec.last_listed guid xs)
last_append guid xs ys = ap (lookup (is_at (guid_order.guid_cmp guid))) (reverse-append xs ys) ∙ lookup_append (is_at (guid_order.guid_cmp guid)) (reverse ys) (reverse xs)

pub lists_behind : (old mid new : List (Guid × Node)) (xs ys : List (Guid × samples.NodeValue)) → listings_spec.Lists old mid xs → listings_spec.Lists mid new ys → listings_spec.Lists old new (xs ++ ys)
lists_behind old mid new xs ys one two guid =
    two guid ∙ ap (option_or (listings_spec.last_listed guid ys)) (one guid) ∙ sym (or_assoc (listings_spec.last_listed guid ys) (listings_spec.last_listed guid xs) (kept old guid))
    ∙ ap (λ last. option_or last (kept old guid)) (sym (last_append guid xs ys))

-- an endpoint is kept with its node
pub listed_one : (old new : List (Guid × Node)) (guid : Guid) (node : Node)
    → ((other : Guid) → lookup (is_at (guid_order.guid_cmp other)) new ≡ cond (is_at (guid_order.guid_cmp guid) other) (Some node) (lookup (is_at (guid_order.guid_cmp other)) old))
    → listings_spec.Lists old new ((guid, samples.node_value node) ∷ [])
listed_one old new guid node updates other =
    ap (option_map samples.node_value) (updates other) ∙ ap (λ b. option_map samples.node_value (cond b (Some node) (lookup (is_at (guid_order.guid_cmp other)) old))) (guids_alike guid other)
    ∙ by (is_at (guid_order.guid_cmp other) guid) (lookup (is_at (guid_order.guid_cmp other)) old)
  where
    by : (b : Bool) (found : Option Node) → option_map samples.node_value (cond b (Some node) found) ≡ option_or (cond b (Some (samples.node_value node)) None) (option_map samples.node_value found)
    by true found = refl
    by false found = refl

-- ---- items

-- what is listed of those to come is what is left of all
abbrev pub ListsAll : {X : Type 0} → (List X → List (Guid × samples.NodeValue)) → (List ℕ → Option (X × List ℕ)) → ℕ → ℕ → List ℕ → List ℕ → List (Guid × Node) → List (Guid × Node) → Type 0
ListsAll listings front count counter octets rest start now =
    (new : List (Guid × Node)) → listings_spec.Lists now new (listings (items.items_in front (count - counter) rest)) → listings_spec.Lists start new (listings (items.items_in front count octets))

pub lists_more : {X : Type 0} (listings : List X → List (Guid × samples.NodeValue)) (own : X → List (Guid × samples.NodeValue)) → ((x : X) (xs : List X) → listings (x ∷ xs) ≡ own x ++ listings xs)
    → (front : List ℕ → Option (X × List ℕ)) (count counter : ℕ) (octets rest : List ℕ) (found : X × List ℕ) (start now next : List (Guid × Node)) → counter < count → Some found ≡ front rest
    → listings_spec.Lists now next (own found.0) → ListsAll listings front count counter octets rest start now → ListsAll listings front count (counter + 1) octets found.1 start next
lists_more listings own joined front count counter octets rest found start now next less is one so_far = λ new more.
    so_far new
    (subst (listings_spec.Lists now new) (sym (ap listings (items_step front count counter rest found less is) ∙ joined found.0 (items.items_in front (count - (counter + 1)) found.1)))
    (lists_behind now next new (own found.0) (listings (items.items_in front (count - (counter + 1)) found.1)) one more))

pub lists_cut : {X : Type 0} (listings : List X → List (Guid × samples.NodeValue)) → listings [] ≡ [] → (front : List ℕ → Option (X × List ℕ)) (count counter : ℕ) (octets rest : List ℕ)
    (start now : List (Guid × Node)) → counter < count → None ≡ front rest → ListsAll listings front count counter octets rest start now → listings_spec.Lists start now (listings (items.items_in front count octets))
lists_cut listings none front count counter octets rest start now less is so_far =
    so_far now (subst (listings_spec.Lists now now) (sym (ap listings (items_stop front count counter rest less is) ∙ none)) (lists_none now))

pub lists_all : {X : Type 0} (listings : List X → List (Guid × samples.NodeValue)) → listings [] ≡ [] → (front : List ℕ → Option (X × List ℕ)) (count counter : ℕ) (octets rest : List ℕ)
    (start now : List (Guid × Node)) → count ≤ counter → ListsAll listings front count counter octets rest start now → listings_spec.Lists start now (listings (items.items_in front count octets))
lists_all listings none front count counter octets rest start now all so_far =
    so_far now (subst (listings_spec.Lists now now) (sym (ap listings (items_end front count counter rest all) ∙ none)) (lists_none now))

-- the endpoints of a node, one by one
pub listings_joined : (prefix : GuidPrefix) (node : samples.NodeValue) (guid : Guid) (guids : List Guid)
    → listings_spec.listings_of prefix node (guid ∷ guids) ≡ listings_spec.listings_of prefix node (guid ∷ []) ++ listings_spec.listings_of prefix node guids
listings_joined prefix node guid guids = by (speech.is_prefix guid.prefix prefix)
  where
    by : (b : Bool) → map (λ (g : Guid). (g, node)) (cond b (guid ∷ filter (λ (g : Guid). speech.is_prefix g.prefix prefix) guids) (filter (λ (g : Guid). speech.is_prefix g.prefix prefix) guids))
        ≡ map (λ (g : Guid). (g, node)) (cond b (guid ∷ []) []) ++ listings_spec.listings_of prefix node guids
    by true = refl
    by false = refl
