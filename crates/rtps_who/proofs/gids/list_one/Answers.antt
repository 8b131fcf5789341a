use Rattle.std.proofs.Common.{◌≡◌, [], ◌∷◌, ap, cond, map, subst, sym, true, false}
use Rattle.rtps_receiver.specs.Speech as speech
use Rattle.rtps_ids.specs.declared.identity.Guid.{Guid}
use Rattle.rtps_who.specs.Listings as listings
use Rattle.rtps_who.specs.Samples as samples
use Rattle.rtps_who.proofs.ListingLemmas.{listed_one, lists_none}
use Rattle.rtps_who.proofs.gids.list_one.Goals as goal

pub returns-in_ok-insert : goal.returns-in_ok-insert
returns-in_ok-insert c =
    let own : speech.is_prefix c.args.guid.prefix c.args.prefix ≡ true = cc (c.if-eq.ensures) in
    subst (listings.Lists c.args.listed.now.entries c.insert.new.self.entries) (ap (λ b. map (λ (g : Guid). (g, samples.node_value c.args.node)) (cond b (c.args.guid ∷ []) [])) (sym own))
    (listed_one c.args.listed.now.entries c.insert.new.self.entries c.args.guid c.args.node c.in_ok-insert.ensures.updates.0)

pub returns-else-eq : goal.returns-else-eq
returns-else-eq c =
    let other : speech.is_prefix c.args.guid.prefix c.args.prefix ≡ false = cc (c.if-eq.ensures) in
    subst (listings.Lists c.args.listed.now.entries c.args.listed.now.entries) (ap (λ b. map (λ (g : Guid). (g, samples.node_value c.args.node)) (cond b (c.args.guid ∷ []) [])) (sym other))
    (lists_none c.args.listed.now.entries)
