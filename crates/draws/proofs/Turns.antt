-- One turn of a shuffle, and that a shuffle loses nothing.
use Rattle.std.proofs.Common.{◌≡◌, ℕ, zero, suc, ◌+◌, ◌-◌, ◌%◌, ◌<◌, ◌≤◌, List, length, refl, ap, ◌∙◌, arith}
use Rattle.std.specs.List.{swap}
use Rattle.std.specs.List.Sorted.{IsPermutation}
use Rattle.std.proofs.lemmas.List.Sorted.{IsPermutation-refl, IsPermutation-swap, IsPermutation-trans, length_permutation}
use Rattle.std.proofs.lemmas.Nat.{mod_below}
use Rattle.draws.specs.Draws.{next}
use Rattle.draws.specs.Shuffle.{shuffled, shuffled_from}

-- the turn at the place i
pub shuffled_more : {X : Type 0} (i : ℕ) (row row' : List X) (state state' : ℕ) → 0 < i → state' ≡ next state
    → row' ≡ swap row i (next state % (i + 1)) → shuffled_from (i - 1) row' state' ≡ shuffled_from i row state
shuffled_more zero row row' state state' pos es e = absurd (omega arith)
shuffled_more (suc i) row row' state state' pos es e =
    let less : suc i - 1 ≡ i = omega arith in
    ap (λ n. shuffled_from n row' state') less ∙ ap (λ l. shuffled_from i l state') e
    ∙ ap (λ s. shuffled_from i (swap row (suc i) (next state % (suc i + 1))) s) es

-- a shuffle from a place of the row down has the entries of the row
pub shuffled_from_same : {X : Type 0} (i : ℕ) (row : List X) (state : ℕ) → i ≤ length row - 1 → IsPermutation row (shuffled_from i row state).0
shuffled_from_same zero row state h = IsPermutation-refl row
shuffled_from_same (suc i) row state h =
    let j : ℕ = next state % (suc i + 1) in
    let below : j < suc i + 1 = mod_below (next state) (suc i + 1) (omega arith) in
    let one = IsPermutation-swap row (swap row (suc i) j) (suc i) j (omega arith) (omega arith) refl in
    let long = length_permutation row (swap row (suc i) j) one in
    IsPermutation-trans row (swap row (suc i) j) (shuffled_from i (swap row (suc i) j) (next state)).0 one
    (shuffled_from_same i (swap row (suc i) j) (next state) (omega (arith, long)))

pub shuffled_same : {X : Type 0} (row : List X) (state : ℕ) → IsPermutation row (shuffled row state).0
shuffled_same row state = shuffled_from_same (length row - 1) row state (omega arith)
