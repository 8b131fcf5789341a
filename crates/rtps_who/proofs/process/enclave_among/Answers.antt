use Rattle.std.proofs.Common.{◌≡◌, ◌∙◌, Some, ap, arith, drop, false, length, sym, true}
use Rattle.std.specs.Option.{option_map}
use Rattle.rtps_who.specs.Processes as processes
use Rattle.rtps_who.specs.Texts as texts
use Rattle.rtps_who.specs.declared.layout.mark.TheConstants as mark
use Rattle.rtps_who.proofs.ItemLemmas.{find_here, find_more}
use Rattle.rtps_who.proofs.Slices.{take_behind}
use Rattle.rtps_who.proofs.process.enclave_among.Goals as goal

pub returns-then-starts_with : goal.returns-then-starts_with
returns-then-starts_with c =
    let named : processes.is_enclave c.in_ok-piece.piece.now ≡ true = sym c.starts_with.ensures.value ∙ c.if-starts_with.true in
    ap (λ octets. Some octets) (take_behind 8 c.in_ok-piece.piece.now)
    ∙ sym (ap (option_map (λ piece. drop 8 piece))
    (find_here processes.is_enclave (texts.front_piece mark.SEMICOLON) (length c.args.octets.now) c.loop.counter c.args.octets.now c.loop.rest.now (c.in_ok-piece.piece.now, c.in_ok-piece.behind.now) (omega arith) c.in_ok-piece.ensures named
    c.loop.invariant))

pub loop-preserved : goal.loop-preserved
loop-preserved c =
    let other : processes.is_enclave c.in_ok-piece.piece.now ≡ false = sym c.starts_with.ensures.value ∙ c.if-starts_with.false in
    find_more processes.is_enclave (texts.front_piece mark.SEMICOLON) (length c.args.octets.now) c.loop.counter c.args.octets.now c.loop.rest.now (c.in_ok-piece.piece.now, c.in_ok-piece.behind.now) (omega arith) c.in_ok-piece.ensures other
    c.loop.invariant
