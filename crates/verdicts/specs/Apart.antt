-- Where two tables first differ.
use Rattle.std.specs.Prelude.{◌≡◌, ℕ, ◌<◌, Some, None, Option, ◌≢◌}

-- the lowest place below n at which two tables differ; none where they agree at all of them
abbrev pub FirstApart : {A : Type 0} → (ℕ → A) → (ℕ → A) → ℕ → Option ℕ → Type 0
FirstApart one two n None = (k : ℕ) → k < n → one k ≡ two k
FirstApart one two n (Some k) = (k < n) × (one k ≢ two k) × ((j : ℕ) → j < k → one j ≡ two j)
