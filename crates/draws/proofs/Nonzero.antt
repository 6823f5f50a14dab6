-- A draw from a state that is not zero gives a state that is not zero.
use Rattle.std.proofs.Common.{◌≡◌, ℕ, ◌-◌, ◌*◌, ◌/◌, ◌%◌, ◌^◌, ◌<◌, arith}
use lib.Bits.{bit_xor, xor_add_and, and_le_l, and_le_r, xor_lt}
use Rattle.std.proofs.lemmas.Nat.{div-add-mod', mod_below}
use Rattle.draws.specs.Draws.{left, right, next}

-- two numbers whose bits nowhere differ are equal, so two that are not equal have a bit that differs
differing : (a b : ℕ) → (a ≡ b → ⊥) → 0 < bit_xor a b
differing a b apart = omega (arith, xor_add_and a b, and_le_l a b, and_le_r a b, apart)

-- a shift to the left by k moves every number of 32 bits but zero: 2 ^ k - 1 is odd, so it has an inverse v modulo 2 ^ 32,
-- and a number x with (2 ^ k - 1) * x = q * 2 ^ 32 is (q * v - w * x) * 2 ^ 32
moved_13 : (x : ℕ) → 0 < x → x < 2 ^ 32 → x ≡ (x * 2 ^ 13) % 2 ^ 32 → ⊥
moved_13 x pos fits same =
    let q : ℕ = (x * 2 ^ 13) / 2 ^ 32 in
    let whole : x ≡ (q * 4227850239 - 8063 * x) * 2 ^ 32 = omega (arith, div-add-mod' (x * 2 ^ 13) (2 ^ 32)) in
    omega (arith, whole)

moved_5 : (x : ℕ) → 0 < x → x < 2 ^ 32 → x ≡ (x * 2 ^ 5) % 2 ^ 32 → ⊥
moved_5 x pos fits same =
    let q : ℕ = (x * 2 ^ 5) / 2 ^ 32 in
    let whole : x ≡ (q * 3186588639 - 23 * x) * 2 ^ 32 = omega (arith, div-add-mod' (x * 2 ^ 5) (2 ^ 32)) in
    omega (arith, whole)

moved_17 : (x : ℕ) → 0 < x → x ≡ x / 2 ^ 17 → ⊥
moved_17 x pos same = omega arith

pub next_nonzero : (x : ℕ) → x < 2 ^ 32 → 0 < x → 0 < next x
unfolding next
next_nonzero x fits pos =
    let one : 0 < left 13 x = differing x ((x * 2 ^ 13) % 2 ^ 32) (moved_13 x pos fits) in
    let one_fits : left 13 x < 2 ^ 32 = xor_lt 32 x ((x * 2 ^ 13) % 2 ^ 32) fits (mod_below (x * 2 ^ 13) (2 ^ 32) (omega arith)) in
    let two : 0 < right 17 (left 13 x) = differing (left 13 x) (left 13 x / 2 ^ 17) (moved_17 (left 13 x) one) in
    let two_fits : right 17 (left 13 x) < 2 ^ 32 = xor_lt 32 (left 13 x) (left 13 x / 2 ^ 17) one_fits (omega arith) in
    differing (right 17 (left 13 x)) ((right 17 (left 13 x) * 2 ^ 5) % 2 ^ 32) (moved_5 (right 17 (left 13 x)) two two_fits)
