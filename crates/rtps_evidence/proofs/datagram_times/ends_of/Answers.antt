use Rattle.std.proofs.lemmas.List.{length-append}
use Rattle.std.proofs.Common.{◌≡◌, ◌∙◌, ◌+◌, ◌∷◌, [], None, ap, sym, length, get_or, take, arith}
use Rattle.rtps_evidence.specs.Times as times
use Rattle.rtps_evidence.proofs.DatagramTimeLemmas.{ends_more}
use Rattle.rtps_evidence.proofs.TimeLemmas.{end_more}
use Rattle.rtps_evidence.proofs.datagram_times.ends_of.Goals.{then-left-eq0+in_ok-push, else-left-eq0}
use Rattle.rtps_evidence.proofs.datagram_times.ends_of.Goals as goal

pub loop-time-preserved : goal.loop-time-preserved
loop-time-preserved c =
    let all = c.args.times.now in
    let place = c.loop-time.time-index in
    let ends = c.loop-time.ends.items in
    let so_far = c.loop-time.invariant in
    let size = so_far.size in
    let last : c.later-latest.result ≡ times.end_of (take (place + 1) all) =
    c.later-latest.ensures ∙ ap (λ t. times.later_of t (get_or all place None)) so_far.latest ∙ sym (end_more all place c.loop-time-test.true) in
    elim c.if-left-eq0.branch [
      | then-left-eq0+in_ok-push w ↦
          let zero = w.if-left-eq0.true in
          let left = w.left-is in
          let is = w.in_ok-push.ensures.items in
          let more = ap length is ∙ length-append ends (c.loop-time.latest ∷ []) in
          rw w.ends-is (record {
            latest = last;
            size = omega (arith, more, size, zero, left);
            each = ends_more all ends _ place c.loop-time.latest is (omega (arith, size, zero)) so_far.latest so_far.each;
          })
      | else-left-eq0 w ↦
          let some = w.if-left-eq0.false in
          let left = w.left-is in
          rw w.ends-is (record { latest = last; size = omega (arith, size, some, left); each = so_far.each })
    ]
