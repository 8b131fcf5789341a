-- One way and silence, by what is counted and announced.
use Rattle.std.proofs.Common.{◌≡◌, ◌∙◌, ℕ, Bool, ap}
use Rattle.rtps_policies.specs.Silence as silence
use Rattle.rtps_policies.specs.declared.host.Host.{Host}

pub one_way_same : (named answered named' answered' : ℕ) (one other one' other' : Host) → named ≡ named' → answered ≡ answered' → one ≡ one' → other ≡ other'
    → silence.one_way_by named answered one other ≡ silence.one_way_by named' answered' one' other'
one_way_same named answered named' answered' one other one' other' n a h k =
    ap (λ x. silence.one_way_by x answered one other) n ∙ ap (λ x. silence.one_way_by named' x one other) a ∙ ap (λ x. silence.one_way_by named' answered' x other) h ∙ ap (silence.one_way_by named' answered' one') k

pub reason_same : (same same' one_way one_way' : Bool) (one other one' other' : Host) → same ≡ same' → one ≡ one' → other ≡ other' → one_way ≡ one_way'
    → silence.first_reason same (silence.two_domains one other) one_way ≡ silence.first_reason same' (silence.two_domains one' other') one_way'
reason_same same same' one_way one_way' one other one' other' s h k w =
    ap (λ x. silence.first_reason x (silence.two_domains one other) one_way) s ∙ ap (λ x. silence.first_reason same' (silence.two_domains x other) one_way) h
    ∙ ap (λ x. silence.first_reason same' (silence.two_domains one' x) one_way) k ∙ ap (silence.first_reason same' (silence.two_domains one' other')) w
