use Rattle.std.proofs.Common.{◌∙◌, ◌||◌, ◌&&◌, Some, None, ap, cond, nat_lt, refl}
use Rattle.std.specs.BTreeMap.{get}
use Rattle.std.specs.BTreeSet.{contains}
use Rattle.std.specs.Option.{option_or}
use Rattle.rtps_receiver.specs.Speech as speech
use Rattle.rtps_receiver.specs.Values as values
use Rattle.rtps_known.specs.Bulletins as bulletins
use Rattle.rtps_known.specs.Spreads as spreads
use Rattle.rtps_known.proofs.SendingLemmas.{asker_kept}
use Rattle.rtps_known.proofs.spread.Spread.note_answer.Goals as goal

pub returns : goal.returns
returns c =
    let old = c.args.self.now in
    let source = c.args.act.now.source in
    let asked = c.window-asked.result in
    record {
      sent = refl;
      bases = λ prefix n.
          c.in_ok-note_base.ensures prefix n ∙ ap (λ base. nat_lt n (spreads.base_kept old.bases prefix) || (speech.is_prefix source prefix && nat_lt n base)) c.base-acknowledged.ensures;
      firsts = λ prefix.
          c.in_ok-note_first.ensures prefix
          ∙ ap (λ base. option_or (get bulletins.prefix_cmp old.firsts prefix) (cond (speech.is_prefix source prefix && nat_lt 1 base) (Some c.args.place) None)) c.base-acknowledged.ensures;
      askers = λ prefix there. c.in_ok-insert_if.ensures prefix ∙ ap (λ b. b || (speech.is_prefix prefix source && nat_lt asked.lo asked.hi)) there;
      asker = λ prefix n asks.
          asker_kept (values.spoken_value c.args.act.now) prefix n asked.lo asked.hi (contains bulletins.prefix_cmp old.askers prefix) _ c.window-asked.ensures.among (c.in_ok-insert_if.ensures prefix) asks;
      again = λ prefix n. c.in_ok-note_asked.ensures prefix n;
    }
