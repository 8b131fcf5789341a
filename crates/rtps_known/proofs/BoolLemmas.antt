-- Tests that are joined.
use Rattle.std.proofs.Common.{◌≡◌, Bool, true, false, ◌||◌, ◌&&◌, refl}

pub or_swap : (a b : Bool) → (a || b) ≡ (b || a)
or_swap true true = refl
or_swap true false = refl
or_swap false true = refl
or_swap false false = refl

pub or_again : (a b : Bool) → (a || b) ≡ (a || b || a)
or_again true true = refl
or_again true false = refl
or_again false true = refl
or_again false false = refl

pub or_join : (a b c : Bool) → (a || (b || c)) ≡ (a || b || c)
or_join true b c = refl
or_join false b c = refl

pub or_none : (a : Bool) → a ≡ (a || false)
or_none true = refl
or_none false = refl

-- one more in front of others
pub or_front : (a b c : Bool) → (a || c || b) ≡ (a || b || c)
or_front true b c = refl
or_front false true true = refl
or_front false true false = refl
or_front false false true = refl
or_front false false false = refl

pub and_none : (a : Bool) → (a && false) ≡ false
and_none true = refl
and_none false = refl

pub and_all : (a : Bool) → a ≡ (a && true)
and_all true = refl
and_all false = refl
