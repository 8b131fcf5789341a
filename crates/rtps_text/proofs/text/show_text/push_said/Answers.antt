use Rattle.std.proofs.Common.{◌++◌, ◌∙◌, ap, string_bytes, sym}
use Rattle.std.proofs.lemmas.Result.{on_ok_weaker}
use Rattle.rtps_ids.specs.declared.order.Order.{Order}
use Rattle.rtps_wire.specs.DataFrag as data_frag
use Rattle.rtps_text.specs.ShowText as show_text
use Rattle.rtps_text.proofs.ShowLemmas.{nack_frag_is_whole, said-lacked, said-none, said-sent}
use Rattle.rtps_text.proofs.text.show_text.push_said.Goals as goal

pub returns-in-Some-clause-line : goal.returns-in-Some-clause-line
returns-in-Some-clause-line c =
    let said = said-sent c.args.submessage.now (data_frag.data_frag_value c.in-Some.read) c.in-Some.ensures.value in
    on_ok_weaker c.push_data_frag.result
    (λ line. line ∙ ap (λ found. string_bytes c.args.text.now ++ show_text.unread_line c.args.state.now c.args.at c.args.id found) (sym said))
    c.push_data_frag.ensures.line

pub order_of-order-requires : goal.order_of-order-requires
order_of-order-requires c = nack_frag_is_whole c.args.submessage.now c.in-Some-read.read c.in-Some-read.ensures

pub returns-in-Some-read-clause-line : goal.returns-in-Some-read-clause-line
returns-in-Some-read-clause-line c =
    let said = said-lacked c.args.submessage.now c.in-Some-read.read c.in_default.ensures.value c.in-Some-read.ensures in
    on_ok_weaker c.push_nack_frag.result
    (λ line. line ∙ ap (λ (order : Order). string_bytes c.args.text.now ++ show_text.nack_frag_line c.args.state.now c.args.at order c.in-Some-read.read) c.order_of-order.ensures
    ∙ ap (λ found. string_bytes c.args.text.now ++ show_text.unread_line c.args.state.now c.args.at c.args.id found) (sym said))
    c.push_nack_frag.ensures.line

pub returns-in-None-clause-line : goal.returns-in-None-clause-line
returns-in-None-clause-line c =
    let said = said-none c.args.submessage.now c.in_default.ensures.value c.in-None.ensures in
    on_ok_weaker c.push_skipped.result
    (λ line. line ∙ ap (λ found. string_bytes c.args.text.now ++ show_text.unread_line c.args.state.now c.args.at c.args.id found) (sym said))
    c.push_skipped.ensures
