-- A shuffle by draws: exchange by exchange, from the last place down.
use Rattle.std.specs.Prelude.{ℕ, zero, suc, ◌+◌, ◌-◌, ◌%◌, List, length}
use Rattle.std.specs.List.{swap}
use Rattle.draws.specs.Draws.{next}

-- For i from the given place down to 1: draw r from the state, and exchange the entries i and r mod (i + 1).
-- The row afterwards, and the state of the draws.
abbrev pub shuffled_from : {X : Type 0} → ℕ → List X → ℕ → List X × ℕ
shuffled_from zero row state = (row, state)
shuffled_from (suc i) row state = shuffled_from i (swap row (suc i) (next state % (suc i + 1))) (next state)

-- a whole row, so from its last place down
abbrev pub shuffled : {X : Type 0} → List X → ℕ → List X × ℕ
shuffled row state = shuffled_from (length row - 1) row state
