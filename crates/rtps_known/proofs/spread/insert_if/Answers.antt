use Rattle.std.proofs.Common.{◌∙◌, ◌||◌, ◌&&◌, ap, sym}
use Rattle.std.specs.BTreeMap.{is_at}
use Rattle.std.specs.BTreeSet.{contains}
use Rattle.std.specs.List.{list_any}
use Rattle.std.proofs.lemmas.Map.Text.{is_eq-slice_cmp}
use Rattle.rtps_receiver.specs.Speech as speech
use Rattle.rtps_known.specs.Bulletins as bulletins
use Rattle.rtps_known.proofs.BoolLemmas.{and_all}
use Rattle.rtps_known.proofs.KeyLemmas.{any_key}
use Rattle.rtps_known.proofs.OrderLemmas.{exact_prefixes}
use Rattle.rtps_known.proofs.spread.insert_if.Goals as goal

pub returns-in_ok-insert : goal.returns-in_ok-insert
returns-in_ok-insert c = λ other.
    ap (list_any (is_at (bulletins.prefix_cmp other))) c.in_ok-insert.ensures.keys ∙ any_key bulletins.prefix_cmp exact_prefixes (is_at (bulletins.prefix_cmp other)) c.args.prefixes.now.keys c.args.prefix
    ∙ ap (λ b. contains bulletins.prefix_cmp c.args.prefixes.now other || b)
    (is_eq-slice_cmp other.0 c.args.prefix.0 ∙ and_all (speech.is_prefix other c.args.prefix) ∙ ap (λ b. speech.is_prefix other c.args.prefix && b) (sym c.if-holds.true))
