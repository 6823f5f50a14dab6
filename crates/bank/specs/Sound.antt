-- What holds of every bank that is in use.
use Rattle.std.specs.Prelude.{◌≡◌, ℕ, ◌<◌, ◌≤◌, true, false, List, [], ◌∷◌}
use mathlib.Core.List.{Memᴰ}
use Rattle.bank.specs.Model.{BankState, most_frames}

-- numbers below n, none of them twice
abbrev pub Proper : ℕ → List ℕ → Type 0
Proper n [] = Unit {0}
Proper n (f ∷ fs) = (f < n) × (Memᴰ f fs → ⊥) × Proper n fs

pub record Sound (m : BankState) : Type 0 where
  pub few : m.size ≤ most_frames
  pub opening_proper : Proper m.size m.opening
  pub spare_proper : Proper m.size m.spare
  -- no spare frame is out
  pub spare_in : (f : ℕ) → Memᴰ f m.spare → m.out f ≡ false
  -- only frames of the bank are out
  pub out_below : (f : ℕ) → m.out f ≡ true → f < m.size
  -- a frame that is not out holds zeros
  pub in_clear : (f i : ℕ) → m.out f ≡ false → m.bytes f i ≡ 0
