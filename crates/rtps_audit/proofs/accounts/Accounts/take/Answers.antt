use Rattle.std.proofs.Common.{◌≡◌, ◌∙◌, true, false, ap, max, sym}
use Rattle.rtps_coverage.specs.MergedRanges as merged_ranges
use Rattle.rtps_audit.proofs.accounts.Accounts.take.Goals as goal

pub returns-then-not-branch : goal.returns-then-not-branch
returns-then-not-branch g c = record {
  writer = c.in_ok-tell.ensures.writer;
  from = c.in_ok-tell.ensures.from;
  heard = c.in_ok-tell.ensures.heard;
  kept = λ n positive small is. ap (λ set. merged_ranges.covered_of set n) c.in_ok-tell.ensures.set ∙ is;
  again = λ place d n lt positive small comes.
      let yes = c.in_ok-tell.ensures.again place d n lt comes in
      let no = c.if-not-branch.true in
      let clash : true ≡ false = sym yes ∙ no in
      absurd cc;
  last = c.in_ok-tell.ensures.last ∙ c.max-self.ensures ∙ ap (max c.args.self.now.last) c.announced_number.ensures.value;
}
