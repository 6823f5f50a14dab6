-- SplitMesher: the places are shuffled and split into a left and a right half, and the two are offered to one another,
-- place by place, the right half shifted by one more from pass to pass.
use Rattle.std.specs.Prelude.{◌≡◌, ℕ, ◌+◌, ◌/◌, ◌%◌, ◌<◌, List, [], length, fold, ◌≢◌, slice_index}
use Rattle.std.specs.List.{range_with_len}
use Rattle.draws.specs.Shuffle.{shuffled}
use Rattle.pairing.specs.declared.pairs.Pair.{Pair}
use Rattle.pairing.specs.declared.halves.SplitMesher.{SplitMesher}
use Rattle.pairing.specs.Pairs.{offered}

-- left j and right (j + shift) mod h, where a half has h entries
abbrev pub shifted_turn : List ℕ → List ℕ → ℕ → ℕ → List Pair → ℕ → List Pair
shifted_turn ms order h shift ps j = offered ms ps (slice_index order j) (slice_index order (h + (j + shift) % h))

-- one pass: each j of the left half
abbrev pub pass : List ℕ → List ℕ → ℕ → List Pair → ℕ → List Pair
pass ms order h ps shift = fold (shifted_turn ms order h shift) ps (range_with_len 0 h)

-- a pass for each shift below t
abbrev pub passes : List ℕ → List ℕ → ℕ → List Pair
passes ms order t = fold (pass ms order (length ms / 2)) [] (range_with_len 0 t)

-- the places in the order that the draws shuffle them into, and the state of the draws afterwards
abbrev pub shuffled_places : ℕ → ℕ → List ℕ × ℕ
shuffled_places n state = shuffled (range_with_len 0 n) state

abbrev pub split_pairs : SplitMesher → List ℕ → List Pair
split_pairs s ms = passes ms (shuffled_places (length ms) s.draws.state).0 s.tries

abbrev pub split_next : SplitMesher → List ℕ → SplitMesher
split_next s ms = record { draws = record { state = (shuffled_places (length ms) s.draws.state).1 }; tries = s.tries }

-- entries below n, as many as n, and no two alike
pub record Order (n : ℕ) (order : List ℕ) : Type 0 where
  pub long : length order ≡ n
  pub below : (k : ℕ) → k < n → slice_index order k < n
  pub apart : (i j : ℕ) → i < n → j < n → i ≢ j → slice_index order i ≢ slice_index order j
