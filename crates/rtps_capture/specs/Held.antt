-- What is held of an input that is read by blocks. own: where an input is cut into blocks changes nothing of what it says, and nothing is
-- read behind its end, so that a file that is still written is what it was when its end was met.
use Rattle.std.specs.Prelude.{ℕ, ◌+◌, ◌≡◌, Bool, true, List, [], ◌++◌, length, Option}
use Rattle.std.specs.Io.KnownBytes.{Consumes, IsAtEnd}

-- octets that were read and are not passed yet, how many were read in all, and whether the input ended
pub record HeldValue : Type 0 where
  pub octets : List ℕ
  pub read : ℕ
  pub ended : Bool

-- these octets may come behind those that were read: none where the input ended
abbrev pub MayCome : HeldValue → List ℕ → Type 0
MayCome held later = held.ended ≡ true → later ≡ []

-- these octets were read of an input that had and has this left, where that is known: none where it had ended
pub record Reads (unread left : Option (List ℕ)) (old new : HeldValue) (more : List ℕ) : Type 0 where
  pub taken : Consumes unread left more
  pub counted : new.read ≡ old.read + length more
  pub closed : old.ended ≡ true → (more ≡ []) × (new.ended ≡ true)
  pub at_end : (old.ended ≡ true → IsAtEnd unread) → new.ended ≡ true → IsAtEnd left

-- octets were read behind those that were held
pub record Fills (unread left : Option (List ℕ)) (old new : HeldValue) : Type 0 where
  pub more : List ℕ
  pub reads : Reads unread left old new more
  pub octets : new.octets ≡ old.octets ++ more
