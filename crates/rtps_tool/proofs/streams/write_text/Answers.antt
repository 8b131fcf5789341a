use Rattle.std.proofs.Common.{◌≡◌, ◌+◌, ◌-◌, ◌++◌, length, take, drop, sym, ap, ◌∙◌, subst, arith}
use Rattle.std.proofs.Math.Seq.{take-add}
use Rattle.std.proofs.lemmas.List.{take_rest}
use Rattle.std.proofs.KnownBytes.{Appends-trans}
use Rattle.std.specs.Io.KnownBytes.{Appends}
use Rattle.rtps_tool.proofs.streams.write_text.Goals as goal

pub writes-preserved : goal.writes-preserved
writes-preserved g c =
    let text = c.args.text.now in
    let done = c.writes.written in
    let taken = c.in-Ok.taken in
    let rest = take_rest text done in
    let joined : take done text ++ take taken (take (length text - done) (drop done text)) ≡ take (done + taken) text =
    ap (λ piece. take done text ++ take taken piece) rest ∙ sym (take-add done taken text) in
    (omega (arith, c.in-Ok.ensures.bound), subst (Appends _ _) joined (Appends-trans _ _ _ _ _ c.writes.invariant.1 c.in-Ok.ensures.bytes))
