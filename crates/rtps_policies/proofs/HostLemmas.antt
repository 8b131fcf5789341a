-- The best address of parameters, one parameter after another.
use Rattle.std.proofs.Common.{◌≡◌, ◌∙◌, ℕ, Bool, true, false, List, [], ◌∷◌, Option, Some, None, ap, cond, find, not, refl}
use Rattle.std.specs.List.{cons_option}
use Rattle.std.specs.Option.{option_or}
use Rattle.rtps_ids.specs.declared.order.Order.{Order}
use Rattle.rtps_params.specs.Grammar as grammar
use Rattle.rtps_policies.specs.Hosts as hosts
use Rattle.rtps_policies.specs.declared.host.Address.{Address}

-- the best of these addresses and one of IPv6 before them
abbrev pub best_with : Option Address → List Address → Option Address
best_with found addresses = option_or (find hosts.is_v4 addresses) (option_or found (find (λ address. not (hosts.is_v4 address)) addresses))

pub passed : (order : Order) (found : Option Address) (pair : ℕ × List ℕ) (pairs : grammar.Pairs) → hosts.address_by order pair ≡ None → best_with found (hosts.addresses_in order (pair ∷ pairs)) ≡ best_with found (hosts.addresses_in order pairs)
passed order found pair pairs none = ap (λ o. best_with found (cons_option o (hosts.addresses_in order pairs))) none

pub found_v4 : (order : Order) (found : Option Address) (pair : ℕ × List ℕ) (pairs : grammar.Pairs) (address : Address) → hosts.address_by order pair ≡ Some address → hosts.is_v4 address ≡ true
    → best_with found (hosts.addresses_in order (pair ∷ pairs)) ≡ Some address
found_v4 order found pair pairs address is v4 =
    ap (λ o. best_with found (cons_option o (hosts.addresses_in order pairs))) is
    ∙ ap (λ (b : Bool). option_or (cond b (Some address) (find hosts.is_v4 (hosts.addresses_in order pairs))) (option_or found (cond (not b) (Some address) (find (λ address. not (hosts.is_v4 address)) (hosts.addresses_in order pairs))))) v4

kept : (found : Option Address) (address : Address) (others : Option Address) → option_or found (Some address) ≡ option_or (option_or found (Some address)) others
kept None address others = refl
kept (Some one) address others = refl

pub found_v6 : (order : Order) (found : Option Address) (pair : ℕ × List ℕ) (pairs : grammar.Pairs) (address : Address) → hosts.address_by order pair ≡ Some address → hosts.is_v4 address ≡ false
    → best_with found (hosts.addresses_in order (pair ∷ pairs)) ≡ best_with (option_or found (Some address)) (hosts.addresses_in order pairs)
found_v6 order found pair pairs address is v6 =
    ap (λ o. best_with found (cons_option o (hosts.addresses_in order pairs))) is
    ∙ ap (λ (b : Bool). option_or (cond b (Some address) (find hosts.is_v4 (hosts.addresses_in order pairs))) (option_or found (cond (not b) (Some address) (find (λ address. not (hosts.is_v4 address)) (hosts.addresses_in order pairs))))) v6
    ∙ ap (option_or (find hosts.is_v4 (hosts.addresses_in order pairs))) (kept found address (find (λ address. not (hosts.is_v4 address)) (hosts.addresses_in order pairs)))

nothing_more : (one : Option Address) → one ≡ option_or one None
nothing_more None = refl
nothing_more (Some address) = refl

pub ended : (order : Order) (found : Option Address) → found ≡ best_with found (hosts.addresses_in order [])
ended order found = nothing_more found
