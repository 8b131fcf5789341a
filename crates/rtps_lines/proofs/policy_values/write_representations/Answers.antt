use Rattle.std.proofs.Common.{rules, arith, ◌≡◌, ◌∷◌, [], ◌∙◌, ◌==◌, ◌||◌, Bool, true, false, if◌then◌else◌, List, ℕ, ap, append-nil, codes, length, refl, subst, sym}
use Rattle.std.proofs.lemmas.Bool.Decides.{nat_tests}
use Rattle.std.specs.Fmt.{HasWritten}
use Rattle.std.specs.List.{join_by}
use Rattle.rtps_discovery.specs.Matching as matching
use Rattle.rtps_policies.specs.Fitting as fitting
use Rattle.rtps_policies.specs.Views as views
use Rattle.rtps_lines.specs.PolicyValues as policy_values
use Rattle.rtps_lines.proofs.policy_values.write_representations.Goals as goal

one_told : (writes : Bool) (ids : List ℕ) → (writes || (length ids == 0)) ≡ true
    → (if writes then policy_values.id_text (views.first_in ids) else join_by policy_values.id_text (codes ", ") (views.accepted_in ids)) ≡ policy_values.id_text (views.first_in ids)
one_told true ids is = refl
one_told false [] is = append-nil _
one_told false (id ∷ ids) is = absurd (grind (arith, nat_tests))

all_told : (writes : Bool) (ids : List ℕ) → (writes || (length ids == 0)) ≡ false
    → (if writes then policy_values.id_text (views.first_in ids) else join_by policy_values.id_text (codes ", ") (views.accepted_in ids)) ≡ join_by policy_values.id_text (codes ", ") ids
all_told true ids is = absurd (let bad = is in cc)
all_told false [] is = absurd (let bad = is in cc)
all_told false (id ∷ ids) is = refl

pub returns-then-tells_one : goal.returns-then-tells_one
returns-then-tells_one g c = λ plain ok.
    let took = g.W.Write.write_str_gives in
    let profile = fitting.profile_value c.args.profile.now in
    let sent : HasWritten took c.args.f.now (policy_values.id_text c.sent.result) c.write.new.self = search rules in
    subst (λ (text : List ℕ). HasWritten took c.args.f.now text c.write.new.self)
    (ap policy_values.id_text c.sent.ensures ∙ sym (one_told (matching.is_writer profile.endpoint.side) profile.policies.representations (sym c.tells_one.ensures ∙ c.if-tells_one.true))) sent

pub returns-else-tells_one : goal.returns-else-tells_one
returns-else-tells_one g c = λ plain ok.
    let took = g.W.Write.write_str_gives in
    let profile = fitting.profile_value c.args.profile.now in
    subst (λ (text : List ℕ). HasWritten took c.args.f.now text c.write_ids.new.f)
    (ap (join_by policy_values.id_text (codes ", ")) c.ids.ensures ∙ sym (all_told (matching.is_writer profile.endpoint.side) profile.policies.representations (sym c.tells_one.ensures ∙ c.if-tells_one.false)))
    (c.write_ids.ensures plain ok)
