use Rattle.rtps_evidence.proofs.AmountLemmas.{none_kept, none_sent}
use Rattle.std.proofs.Common.{ap}
use Rattle.rtps_coverage.specs.Stretches as stretches
use Rattle.rtps_evidence.proofs.heard.Heard.new.Goals as goal

pub returns : goal.returns
returns c =
    let none = c.new-2.ensures in
    let pair = c.args.exchange.now.pair in
    record {
      announced = c.new.ensures pair.writer;
      numbers = record {
        told = λ n. none_kept c.new-2.result.early.items c.new-2.result.late.items c.new-2.result.gone.items c.new-2.result.gone_late.items n none.early none.late none.gone none.gone_late;
        sent = λ n. none_sent c.new-2.result.early.items c.new-2.result.late.items n none.early none.late;
        early = λ n. ap (λ l. stretches.stretches_have l n) none.early;
        gone = λ n. ap (λ l. stretches.stretches_have l n) none.gone;
      };
      wait = record { answers = c.new-3.ensures.answers; longest = c.new-3.ensures.none };
      asked = c.behind.ensures pair.writer pair.reader;
    }
