use Rattle.std.proofs.Common.{◌≡◌, ◌++◌, ◌∙◌, List, ℕ, ap, arith, drop, length, subst, sym, take}
use Rattle.std.proofs.lemmas.List.{drop-take}
use Rattle.std.proofs.Math.Seq.{take-append_seam}
use Rattle.std.specs.Io.KnownBytes.{Consumes}
use Rattle.rtps_capture.proofs.held.read_behind.Goals as goal

pub returns-clause-read : goal.returns-clause-read
returns-clause-read g c =
    let front = c.len-front.result in
    let got = c.in_ok-got.got in
    let read = c.read_over.new.octets in
    let rest = drop (length read) c.resize.new.self.items in
    let size : c.resize.new.self.len ≡ length read = omega (arith, c.in_ok-got.ensures.size, c.as_mut_slice.ensures.len) in
    let whole : take c.resize.new.self.len (read ++ rest) ≡ read = ap (λ (n : ℕ). take n (read ++ rest)) size ∙ take-append_seam read rest in
    let came : drop front c.truncate.new.self.items ≡ take got (drop front read) =
    ap (λ (octets : List ℕ). drop front octets) c.truncate.ensures.items ∙ drop-take front got _ ∙ ap (λ (octets : List ℕ). take got (drop front octets)) whole in
    let counted : front ≡ length c.args.octets.now.items = omega (arith, c.len-front.ensures, c.args.octets.now.ok) in
    let Came = Consumes (g.R.Read.remaining c.args.input.now) (g.R.Read.remaining c.read_over.new.input) in
    subst (λ (n : ℕ). Came (drop n c.truncate.new.self.items)) counted (subst Came (sym came) c.in_ok-got.ensures.read)
