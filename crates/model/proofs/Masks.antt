-- The count of a mask's set bits over its places is the mask's own count of ones.
use Rattle.std.proofs.Common.{◌≡◌, ℕ, zero, suc, ◌+◌, ◌/◌, ◌%◌, ◌^◌, ◌<◌, cond, eqb, List, ◌∷◌, length, sym, refl, ap, ◌∙◌, subst, add-one, arith}
use lib.Count.{ones, ones_step}
use Rattle.std.proofs.lemmas.Nat.{shr_below, shr-shr, mod_below}
use Rattle.std.specs.List.{range_with_len, filter}
use Rattle.std.proofs.lemmas.Bool.{cond_both, eqb-true, eqb-false}
use Rattle.model.specs.Masks.{bit, set_bits, set_places}

none-set : ones 0 ≡ 0
unfolding ones
none-set = refl

pub set_bits_ones : (n m : ℕ) → m < 2 ^ n → ones m ≡ set_bits n m
unfolding set_bits
set_bits_ones zero m below = ap ones (let e : m ≡ 0 = omega arith in e) ∙ none-set
set_bits_ones (suc n) m below =
    ones_step m ∙ ap (λ k. m % 2 + k) (set_bits_ones n (m / 2) (shr_below m n 1 (subst (λ k. m < 2 ^ k) (sym (add-one n)) below)))

-- one place more: r is the bit there
counted_bit : (r k : ℕ) (rest : List ℕ) → r < 2 → length (cond (eqb r 1) (k ∷ rest) rest) ≡ r + length rest
counted_bit r k rest small =
    cond_both (eqb r 1) (k ∷ rest) rest (λ xs. length xs ≡ r + length rest) (λ set. omega (arith, eqb-true r 1 set)) (λ clear. omega (arith, eqb-false r 1 clear))

set-from : (n a m : ℕ) → length (filter (λ s. bit m s) (range_with_len a n)) ≡ set_bits n (m / 2 ^ a)
unfolding set_bits
set-from zero a m = refl
set-from (suc n) a m =
    counted_bit ((m / 2 ^ a) % 2) a (filter (λ s. bit m s) (range_with_len (a + 1) n)) (mod_below (m / 2 ^ a) 2 (omega arith))
    ∙ ap (λ k. (m / 2 ^ a) % 2 + k) (set-from n (a + 1) m ∙ ap (set_bits n) (sym (shr-shr m a 1)))

-- as many places are set as bits
pub length-set_places : (n m : ℕ) → length (set_places n m) ≡ set_bits n m
unfolding set_places
length-set_places n m = set-from n 0 m ∙ ap (set_bits n) (let e : m / 2 ^ 0 ≡ m = omega arith in e)
