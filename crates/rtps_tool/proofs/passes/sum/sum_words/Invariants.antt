use Rattle.std.proofs.Common.{◌≡◌, List, ℕ, take}
use Rattle.std.specs.List.{fold}
use Rattle.rtps_tool.specs.Sums as sums
use Rattle.rtps_tool.proofs.passes.sum.sum_words.Given as goal

-- the sum with the words so far
abbrev pub invariant-loop-word : goal.invariant-loop-word
invariant-loop-word l = l.sum ≡ fold (λ (sum : ℕ) (word : List ℕ). sums.sum_word sum (sums.word_of word)) l.start (take l.word-index l.words)
