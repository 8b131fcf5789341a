use Rattle.std.proofs.Common.{◌∙◌, ap, sym}
use Rattle.rtps_evidence.specs.Kinds as kinds
use Rattle.rtps_json.specs.JsonText as json_text
use Rattle.rtps_json.specs.Values.{members_json}
use Rattle.rtps_lines.proofs.Offered.{not_found}
use Rattle.rtps_json.proofs.number_members.kinds_members_at.Goals as goal

pub returns-in-None : goal.returns-in-None
returns-in-None c =
    ap members_json c.new.ensures.items
    ∙ ap (λ (lost : kinds.LostValue). json_text.kinds_members (json_text.clock_times c.args.clock) lost) (sym (not_found c.args.lost.now c.args.place c.in-None.ensures.lookup.0))
