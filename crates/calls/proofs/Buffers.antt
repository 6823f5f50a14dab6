-- A buffer that is made of zeros.
use Rattle.std.proofs.Common.{◌≡◌, ℕ, zero, suc, ◌-◌, List, [], ◌++◌, take, replicate, refl, ap, ◌∙◌, arith}

take_nil : {A : Type 0} (n : ℕ) → take {A = A} n [] ≡ []
take_nil zero = refl
take_nil (suc n) = refl

pub grown_from-none : (xs : List ℕ) (k n b : ℕ) → xs ≡ [] → k ≡ 0 → take n xs ++ replicate (n - k) b ≡ replicate n b
grown_from-none xs k n b empty none =
    ap (λ ys. take n ys ++ replicate (n - k) b) empty ∙ ap (λ ys. ys ++ replicate (n - k) b) (take_nil n)
    ∙ ap (λ m. replicate m b) (let e : n - k ≡ n = omega arith in e)
