use Rattle.std.proofs.Common.{◌≡◌, ◌++◌, ◌∷◌, [], Ok, subst, sym}
use Rattle.std.proofs.lemmas.Result.{on_ok_weaker}
use Rattle.rtps_receiver.specs.Values as values
use Rattle.rtps_receiver.specs.declared.act.Act.{Act}
use Rattle.rtps_discovery.specs.Directory as directory
use Rattle.rtps_discovery.specs.Notice as notice
use Rattle.rtps_discovery.proofs.directory_map.Directory.note.Goals as goal

-- the act with this body
abbrev told : Act → values.ActBodyValue → values.ActValue
told act body =
    record { at = act.at; source = act.source; version = act.version; vendor = act.vendor; dest = act.dest; stamp = act.stamp; order = act.order; body = body }

pub returns-clause-map : goal.returns-clause-map
returns-clause-map c = on_ok_weaker c.note_spoken.result
    (λ next acts is. subst (λ b. directory.IsMapOf (acts ++ told c.args.act.now b ∷ []) c.note_spoken.new.self) c.copied.ensures (next acts is))
    c.note_spoken.ensures.map

pub returns-clause-again : goal.returns-clause-again
returns-clause-again c = λ acts were seen.
    subst (λ b. (c.note_spoken.result ≡ Ok (notice.answer_of (notice.announcement_of (told c.args.act.now b)))) × (c.note_spoken.new.self ≡ c.args.self.now)) c.copied.ensures
    (c.note_spoken.ensures.again acts were (subst (λ b. notice.RepeatsOneOf acts (told c.args.act.now b)) (sym c.copied.ensures) seen))
