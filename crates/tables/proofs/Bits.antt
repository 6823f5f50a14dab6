-- The bits of a mask, as the code tests and clears them.
use Rattle.std.proofs.Common.{◌≡◌, ℕ, ◌/◌, ◌%◌, ◌^◌, ◌<◌, ◌≤◌, true, false, eqb, ap, ⊎_elim, arith, pow_mono}
use native.Mathlib.Nat.{div-eq_of_lt}
use Rattle.std.proofs.lemmas.Bool.{both_ways, cases_lt}
use Rattle.model.specs.Masks.{bit}

-- a mask of 64 bits has no bit set past them
pub bit_past : (m s : ℕ) → m < 2 ^ 64 → 64 ≤ s → bit m s ≡ false
bit_past m s fits past =
    let wide : 2 ^ 64 ≤ 2 ^ s = pow_mono past in
    let none : m / 2 ^ s ≡ 0 = div-eq_of_lt (omega (arith, wide)) in
    ap (λ q. eqb (q % 2) 1) none

pub set_below : (m s : ℕ) → m < 2 ^ 64 → bit m s ≡ true → s < 64
set_below m s fits set =
    ⊎_elim (λ below. below) (λ past. absurd (both_ways (bit m s) (bit_past m s fits past) set)) (cases_lt s 64)
