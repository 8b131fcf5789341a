-- What is held of an input that is read by blocks.
use Rattle.std.proofs.Common.{◌≡◌, ℕ, ◌+◌, ◌≤◌, true, List, [], ◌++◌, length, drop, take, refl, sym, ap, ap₂, ◌∙◌, append_assoc, append-nil, take-append-drop, arith}
use Rattle.std.specs.Prelude.{Option}
use Rattle.std.specs.Io.KnownBytes.{Consumes, IsAtEnd}
use Rattle.std.proofs.KnownBytes.{Consumes-nil, Consumes-trans}
use Rattle.std.proofs.lemmas.List.{drop-append-le, length-append}
use Rattle.rtps_capture.specs.Held as held_spec

-- behind what was held come the octets that were read
pub came_behind : (passed : ℕ) (old new : List ℕ) → take (length old) new ≡ old → passed ≤ length old → drop passed new ≡ drop passed old ++ drop (length old) new
came_behind passed old new same within =
    let came = drop (length old) new in
    ap (drop passed) (sym (take-append-drop (length old) new) ∙ ap (λ (l : List ℕ). l ++ came) same) ∙ drop-append-le passed old came within

-- nothing was read
pub reads_none : (unread : Option (List ℕ)) (held : held_spec.HeldValue) → held_spec.Reads unread unread held held []
reads_none unread held = record { taken = Consumes-nil unread; counted = omega arith; closed = λ is. (refl, is); at_end = λ was is. was is }

-- octets were read twice
pub reads_on : (a b c : Option (List ℕ)) (x y z : held_spec.HeldValue) (some more : List ℕ) → held_spec.Reads a b x y some → held_spec.Reads b c y z more → held_spec.Reads a c x z (some ++ more)
reads_on a b c x y z some more first second = record {
  taken = Consumes-trans a b c some more first.taken second.taken;
  counted = omega (arith, first.counted, second.counted, length-append some more);
  closed = λ is. let one = first.closed is in let other = second.closed one.1 in (ap₂ (λ (k l : List ℕ). k ++ l) one.0 other.0, other.1);
  at_end = λ was is. second.at_end (first.at_end was) is;
}

-- what may come behind was to come, with what was read
pub may_come : (a b : Option (List ℕ)) (old new : held_spec.HeldValue) (more later : List ℕ) → held_spec.Reads a b old new more → held_spec.MayCome new later → held_spec.MayCome old (more ++ later)
may_come a b old new more later reads may = λ is. let closed = reads.closed is in ap₂ (λ (k l : List ℕ). k ++ l) closed.0 (may closed.1)

pub fills_none : (unread : Option (List ℕ)) (held : held_spec.HeldValue) → held_spec.Fills unread unread held held
fills_none unread held = record { more = []; reads = reads_none unread held; octets = sym (append-nil held.octets) }

pub fills_on : (a b c : Option (List ℕ)) (x y z : held_spec.HeldValue) → held_spec.Fills a b x y → held_spec.Fills b c y z → held_spec.Fills a c x z
fills_on a b c x y z first second = record {
  more = first.more ++ second.more;
  reads = reads_on a b c x y z first.more second.more first.reads second.reads;
  octets = second.octets ∙ ap (λ (l : List ℕ). l ++ second.more) first.octets ∙ append_assoc x.octets first.more second.more;
}

-- a read gave these octets, or none where the input ended
pub filled : (a b : Option (List ℕ)) (old new : held_spec.HeldValue) (passed got : ℕ) (front whole : List ℕ) → drop passed front ≡ old.octets → passed ≤ length front → (old.ended ≡ true → ⊥)
    → (new.ended ≡ true → got ≡ 0) → new.octets ≡ drop passed whole → new.read ≡ old.read + length (drop (length front) whole) → take (length front) whole ≡ front → Consumes a b (drop (length front) whole) → (got ≡ 0 → IsAtEnd b)
    → held_spec.Fills a b old new
filled a b old new passed got front whole same within going ends octets count kept read last =
    let came = drop (length front) whole in
    let joined : new.octets ≡ old.octets ++ came = octets ∙ came_behind passed front whole kept within ∙ ap (λ (l : List ℕ). l ++ came) same in
    record {
      more = came;
      reads = record {
        taken = read;
        counted = count;
        closed = λ is. absurd (going is);
        at_end = λ was is. last (ends is);
      };
      octets = joined;
    }
