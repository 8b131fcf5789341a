use Rattle.std.proofs.Common.{◌≡◌, ◌-◌, arith, of_z, subst, sym, to_z, w64}
use Rattle.std.proofs.lemmas.Int.{ints}
use Rattle.rtps_audit.specs.Answered as answered
use Rattle.rtps_audit.proofs.AccountLemmas.{front_by}
use Rattle.rtps_audit.proofs.account.Account.note.Goals as goal

pub returns-clause-stands : goal.returns-clause-stands
returns-clause-stands g c = λ from writer placed answers counted early known.
    let account = c.args.self.now in
    let reader = account.pair.reader in
    let front = c.front-front.result in
    let same : to_z w64 (of_z w64 front) ≡ front = omega (arith, ints) in
    let is = front_by from (g.C.Coverage.covered account.told) front writer reader placed c.args.answer.datagram counted early known.told c.front-front.ensures in
    record { told = known.told; claims = c.note_answer.ensures from writer reader placed answers (subst (answered.IsFrontBy from writer reader placed (c.args.answer.datagram - 1)) (sym same) is) known.claims }
