use Rattle.std.proofs.Common.{ℕ, ◌≡◌, ◌<◌, ◌≤◌, ◌++◌, ◌∷◌, [], List, get_or, length}
use Rattle.rtps_audit.specs.Placed as placed
use Rattle.rtps_evidence.proofs.ear.tell.Given as goal

-- the ears so far have heard the act, and the others stay
abbrev pub invariant-loop-place : goal.invariant-loop-place
invariant-loop-place g l = record {
  counted : length l.ears ≡ length l.fn.ears;
  heard : (k : ℕ) (d start : g.row.E.Denot) (acts : List placed.PlacedValue) → k < l.place → g.E.Ear.has_heard start acts (get_or l.fn.ears k d)
      → g.E.Ear.has_heard start (acts ++ placed.placed_value l.placed ∷ []) (get_or l.ears k d);
  rest : (k : ℕ) (d : g.row.E.Denot) → l.place ≤ k → get_or l.ears k d ≡ get_or l.fn.ears k d;
}
