use Rattle.std.proofs.Common.{◌∙◌, ap, refl, subst, sym}
use Rattle.std.proofs.lemmas.List.{get_or_read}
use Rattle.rtps_audit.specs.Account as account
use Rattle.rtps_audit.specs.declared.account.Account.{Account}
use Rattle.rtps_audit.proofs.AccountsLemmas.{all_stand_note}
use Rattle.rtps_audit.proofs.accounts.Accounts.note.Goals as goal

pub returns-clause-stand : goal.returns-clause-stand
returns-clause-stand g c = λ from writer pairs placed asks counted early known.
    let covered = g.C.Coverage.covered in
    let here = get_or_read c.args.self.now.accounts.items c.args.ask.place c.index_mut.result.now c.requires c.index_mut.ensures.value in
    all_stand_note covered from writer pairs placed asks c.args.ask c.args.self.now _ c.note.new.self c.requires refl refl refl refl refl (λ d. c.note.ensures.pair ∙ ap (λ (a : Account _). a.pair) (here d)) counted
    (λ d answers stands. c.note.ensures.stands from writer placed answers counted early (subst (account.Stands covered from writer placed answers) (sym (here d)) stands)) known
