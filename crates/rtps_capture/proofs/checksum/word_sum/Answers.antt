use Rattle.std.proofs.Common.{◌≡◌, ℕ, ◌+◌, ◌-◌, ◌*◌, Fits, w8, ◌<◌, ◌≤◌, List, [], ◌∷◌, ap, drop, get_or, length, refl, ◌∙◌, arith}
use Rattle.std.proofs.lemmas.List.{drop-drop, get_or-drop, length-drop}
use Rattle.rtps_capture.specs.Checksum as checksum
use Rattle.rtps_capture.proofs.checksum.word_sum.Goals as goal

-- the sum of two octets and those behind them, of one, and of none
word_step : (octets : List ℕ) → 2 ≤ length octets → checksum.word_sum octets ≡ get_or octets 0 0 * 256 + get_or octets 1 0 + checksum.word_sum (drop 2 octets)
unfolding checksum.word_sum
word_step [] two = absurd (omega arith)
word_step (high ∷ []) two = absurd (omega arith)
word_step (high ∷ low ∷ octets) two = refl

word_last : (octets : List ℕ) → length octets ≡ 1 → checksum.word_sum octets ≡ get_or octets 0 0 * 256
unfolding checksum.word_sum
word_last [] one = absurd (omega arith)
word_last (high ∷ []) one = refl
word_last (high ∷ low ∷ octets) one = absurd (omega arith)

word_none : (octets : List ℕ) → length octets ≡ 0 → checksum.word_sum octets ≡ 0
unfolding checksum.word_sum
word_none [] none = refl
word_none (high ∷ octets) none = absurd (omega arith)

octet_at : (octets : List ℕ) (at : ℕ) → get_or (drop at octets) 0 0 ≡ get_or octets at 0
octet_at octets at = let same : at + 0 ≡ at = omega arith in get_or-drop at octets 0 0 ∙ ap (λ (n : ℕ). get_or octets n 0) same

small : (octets : List ℕ) (at : ℕ) → Fits w8 (get_or octets at 0) → get_or octets at 0 < 256
small octets at fits = omega (arith, fits)

pub loop-word-preserved : goal.loop-word-preserved
loop-word-preserved c =
    let octets = c.args.octets.now in
    let at = 2 * c.loop-word.word in
    let next : at + 2 ≡ 2 * (c.loop-word.word + 1) = omega arith in
    let within : at + 2 ≤ length octets = omega arith in
    let step = word_step (drop at octets) (omega (arith, length-drop at octets)) in
    let high = octet_at octets at in
    let low = get_or-drop at octets 1 0 in
    let behind = ap checksum.word_sum (drop-drop 2 at octets) ∙ ap (λ (n : ℕ). checksum.word_sum (drop n octets)) next in
    let one = small octets at (c.type_inv.octets at) in
    let two = small octets (at + 1) (c.type_inv.octets (at + 1)) in (omega (arith, one, two), omega (arith, step, high, low, behind))

pub returns-then-octets-eq1-clause-sum : goal.returns-then-octets-eq1-clause-sum
returns-then-octets-eq1-clause-sum c =
    let octets = c.args.octets.now in
    let at = 2 * c.loop-word.word in
    let last : length octets - 1 ≡ at = omega arith in
    let sum = word_last (drop at octets) (omega (arith, length-drop at octets)) in
    let octet = octet_at octets at in
    let read = ap (λ (n : ℕ). get_or octets n 0) last in omega (arith, sum, octet, read)

pub returns-else-octets-eq1-clause-sum : goal.returns-else-octets-eq1-clause-sum
returns-else-octets-eq1-clause-sum c =
    let octets = c.args.octets.now in
    let at = 2 * c.loop-word.word in omega (arith, word_none (drop at octets) (omega (arith, length-drop at octets)))
