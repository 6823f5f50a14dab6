-- The search for the first place at which two tables differ.
use Rattle.std.proofs.Common.{◌≡◌, ℕ, ◌+◌, ◌<◌, Bool, true, false, Some, Decides, sym, ◌∙◌, arith, below_more}
use Rattle.verdicts.specs.Apart.{FirstApart}

module _ {A : Type 0} where
  -- a decision on two things decides on what they equal
  pub decides_of : (x y v w : A) (r : Bool) → x ≡ v → y ≡ w → Decides r (x ≡ y) → Decides r (v ≡ w)
  decides_of x y v w r a b d = (λ is. sym a ∙ (d.0 is ∙ b), λ is. d.1 (a ∙ (is ∙ sym b)))

  module _ (one two : ℕ → A) (k : ℕ) (below : (j : ℕ) → j < k → one j ≡ two j) where
    -- no difference here, and the search goes on
    pub agrees_here : (r : Bool) → Decides r (one k ≡ two k) → r ≡ true → (j : ℕ) → j < k + 1 → one j ≡ two j
    agrees_here r d is = below_more (λ j. one j ≡ two j) k below (d.0 is)

    -- the first difference is here
    pub differs_here : (n : ℕ) (r : Bool) → k < n → Decides r (one k ≡ two k) → r ≡ false → FirstApart one two n (Some k)
    differs_here n r inside d is = (inside, λ same. let t : r ≡ true = d.1 same in let z : ◌≡◌ {A = ℕ} 0 1 = cc in omega arith, below)
