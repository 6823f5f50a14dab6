-- Greedy: each place in turn, if it is unpaired, takes the least unpaired place above it whose mask joins.
use Rattle.std.specs.Prelude.{◌≡◌, ℕ, ◌+◌, ◌-◌, ◌<◌, true, false, cond, ◌⊎◌, List, [], length, fold, Option, ◌≢◌}
use Rattle.std.specs.List.{find, range_with_len}
use Rattle.pairing.specs.declared.pairs.Pair.{Pair}
use Rattle.pairing.specs.Pairs.{paired, joins, takes, taken, with_pair}

-- the least of the places from k on that i may take
abbrev pub least_from : List ℕ → List Pair → ℕ → ℕ → Option ℕ
least_from ms ps i k = find (takes ms ps i) (range_with_len k (length ms - k))

-- the turn of the place i, after the pairs ps
abbrev pub turn : List ℕ → List Pair → ℕ → List Pair
turn ms ps i = cond (paired i ps) ps (taken ps i (least_from ms ps i (i + 1)))

-- every place in turn, from 0 upward
abbrev pub greedy_pairs : List ℕ → List Pair
greedy_pairs ms = fold (turn ms) [] (range_with_len 0 (length ms))

-- Greedy's rule: an unpaired place is paired with the least unpaired place above it whose mask joins, and where there is
-- no such place, with none.
abbrev pub TakesTheLeast : Type 0
TakesTheLeast =
    (ms : List ℕ) (ps : List Pair) (i : ℕ) → paired i ps ≡ false
    → ((j : ℕ) × (i < j) × (j < length ms) × (paired j ps ≡ false) × (joins ms i j ≡ true)
    × ((q : ℕ) → i < q → q < j → paired q ps ≡ false → joins ms i q ≢ true) × (turn ms ps i ≡ with_pair ps i j))
    ⊎ (((q : ℕ) → i < q → q < length ms → paired q ps ≡ false → joins ms i q ≢ true) × (turn ms ps i ≡ ps))
