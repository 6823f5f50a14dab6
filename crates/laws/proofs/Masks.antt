-- Bits of a mask: which are set, how many, and which free place a draw picks.
use Rattle.std.proofs.Common.{◌≡◌, ℕ, zero, suc, ◌+◌, ◌-◌, ◌/◌, ◌%◌, ◌^◌, ◌<◌, ◌≤◌, min, max, Bool, true, false, cond, not, ◌&&◌, ◌||◌, eqb, ◌⊎◌, List, [], ◌∷◌, ◌++◌, length, get_or, filter, sym, refl, ap, ◌∙◌, ap₂, inl, inr, pow-suc, arith, pow_mono}
use mathlib.Core.List.{Memᴰ}
use lib.Arith.{bin_ind}
use lib.Bits.{bit_and, bit_or, and_step, or_step, or_shr, and_shr, or_lt}
use Rattle.std.specs.List.{range_with_len, AllByRecursion}
use Rattle.std.proofs.lemmas.Bool.{eqb-true, eqb-false, ne_eqb, both_ways, cases_lt, cases_Bool, cases_eq}
use Rattle.std.proofs.lemmas.Bool.Decides.{nat_tests}
use Rattle.std.proofs.lemmas.Nat.{pow_pos, pow_below, shr-shr, div_below}
use Rattle.std.proofs.lemmas.List.Elements.{filter-append}
use Rattle.std.proofs.ByRecursion.{all_kept_by, kept_by_passes, All-get_or}
use Rattle.std.proofs.lemmas.List.{get_or_append_left}
use Rattle.model.specs.Masks.{bit, set_bits, free_places, free_place, set_places, without_slot, with_slot}

or_last : (a b : ℕ) → bit_or a b % 2 ≡ max (a % 2) (b % 2)
or_last a b = omega (arith, or_step a b)

and_last : (a b : ℕ) → bit_and a b % 2 ≡ min (a % 2) (b % 2)
and_last a b = omega (arith, and_step a b)

either_one : (u v : ℕ) → u < 2 → v < 2 → eqb (max u v) 1 ≡ (eqb u 1 || eqb v 1)
either_one u v hu hv = grind (arith, nat_tests)

-- the bits of either
pub bit-bit_or : (a b s : ℕ) → bit (bit_or a b) s ≡ (bit a s || bit b s)
bit-bit_or a b s =
    ap (λ n. eqb (n % 2) 1) (or_shr a b s)
    ∙ ap (λ n. eqb n 1) (or_last (a / 2 ^ s) (b / 2 ^ s))
    ∙ either_one ((a / 2 ^ s) % 2) ((b / 2 ^ s) % 2) (omega arith) (omega arith)

zero_shr : (k : ℕ) → 0 / 2 ^ k ≡ 0
zero_shr k = omega (arith, div_below 0 (2 ^ k) 1 (pow_pos k) (omega (arith, pow_pos k)))

-- masks that join share no bit
pub bits_apart : (a b s : ℕ) → bit_and a b ≡ 0 → bit a s ≡ true → bit b s ≡ true → ⊥
bits_apart a b s none ha hb =
    let shifted : bit_and (a / 2 ^ s) (b / 2 ^ s) ≡ 0 = sym (and_shr a b s) ∙ ap (λ n. n / 2 ^ s) none ∙ zero_shr s in
    omega (arith, and_last (a / 2 ^ s) (b / 2 ^ s), shifted, eqb-true ((a / 2 ^ s) % 2) 1 ha, eqb-true ((b / 2 ^ s) % 2) 1 hb)

pub bit_zero : (s : ℕ) → bit 0 s ≡ false
bit_zero s = ap (λ n. eqb (n % 2) 1) (zero_shr s)

shr_suc : (m s : ℕ) → m / 2 ^ suc s ≡ m / 2 / 2 ^ s
shr_suc m s = sym (shr-shr m 1 s ∙ ap (λ n. m / 2 ^ n) (omega arith))

pub bit_suc : (m s : ℕ) → bit m (suc s) ≡ bit (m / 2) s
bit_suc m s = ap (λ n. eqb (n % 2) 1) (shr_suc m s)

bit_here : (m : ℕ) → bit m 0 ≡ eqb (m % 2) 1
bit_here m = ap (λ n. eqb (n % 2) 1) (omega arith)

pow_half : (s : ℕ) → 2 ^ suc s / 2 ≡ 2 ^ s
pow_half s = omega (arith, pow-suc 2 s)

-- one slot alone
pub bit_pow : (s q : ℕ) → bit (2 ^ s) q ≡ eqb q s
bit_pow zero zero = refl
bit_pow zero (suc q) = bit_suc 1 q ∙ bit_zero q ∙ sym (ne_eqb (suc q) 0 (omega arith))
bit_pow (suc s) zero =
    bit_here (2 ^ suc s)
    ∙ ne_eqb (2 ^ suc s % 2) 1 (omega (arith, pow-suc 2 s))
    ∙ sym (ne_eqb 0 (suc s) (omega arith))
bit_pow (suc s) (suc q) = bit_suc (2 ^ suc s) q ∙ ap (λ n. bit n q) (pow_half s) ∙ bit_pow s q ∙ same_suc s q
  where
    same_suc : (s q : ℕ) → eqb q s ≡ eqb (suc q) (suc s)
    same_suc s q = grind (arith, nat_tests)

-- a set bit lies within the mask's width
pub bit_le : (m s : ℕ) → bit m s ≡ true → 2 ^ s ≤ m
bit_le m s h = by_size (cases_lt m (2 ^ s))
  where
    by_size : (m < 2 ^ s) ⊎ (2 ^ s ≤ m) → 2 ^ s ≤ m
    by_size (inl small) = absurd (omega (arith, div_below m (2 ^ s) 1 (pow_pos s) (omega arith), eqb-true ((m / 2 ^ s) % 2) 1 h))
    by_size (inr k) = k

pub bit_below : (m n s : ℕ) → m < 2 ^ n → bit m s ≡ true → s < n
bit_below m n s small h = by_size (cases_lt s n)
  where
    by_size : (s < n) ⊎ (n ≤ s) → s < n
    by_size (inl k) = k
    by_size (inr past) = absurd (omega (arith, bit_le m s h, pow_mono past))

pub with_slot-bit : (m s q : ℕ) → bit (with_slot m s) q ≡ (bit m q || eqb q s)
with_slot-bit m s q = bit-bit_or m (2 ^ s) q ∙ ap (λ b. bit m q || b) (bit_pow s q)

pub with_slot-below : (m s n : ℕ) → m < 2 ^ n → s < n → with_slot m s < 2 ^ n
with_slot-below m s n small h = or_lt n m (2 ^ s) small (pow_below s n h)

bit_minus : (s m q : ℕ) → bit m s ≡ true → bit (m - 2 ^ s) q ≡ (bit m q && not (eqb q s))
bit_minus zero m zero h =
    let odd : m % 2 ≡ 1 = eqb-true (m % 2) 1 (sym (bit_here m) ∙ h) in
    bit_here (m - 1) ∙ ne_eqb ((m - 1) % 2) 1 (omega arith) ∙ sym (and_false (bit m 0))
  where
    and_false : (b : Bool) → (b && false) ≡ false
    and_false true = refl
    and_false false = refl
bit_minus zero m (suc q) h =
    let odd : m % 2 ≡ 1 = eqb-true (m % 2) 1 (sym (bit_here m) ∙ h) in
    bit_suc (m - 1) q
    ∙ ap (λ n. bit n q) (let e : (m - 1) / 2 ≡ m / 2 = omega arith in e)
    ∙ sym (bit_suc m q)
    ∙ sym (and_true (bit m (suc q)) (eqb (suc q) 0) (ne_eqb (suc q) 0 (omega arith)))
  where
    and_true : (b t : Bool) → t ≡ false → (b && not t) ≡ b
    and_true true t e = grind arith
    and_true false t e = refl
bit_minus (suc s) m zero h =
    let low : 2 ^ s ≤ m / 2 = bit_le (m / 2) s (sym (bit_suc m s) ∙ h) in
    let same : (m - 2 ^ suc s) % 2 ≡ m % 2 = omega (arith, pow-suc 2 s) in
    bit_here (m - 2 ^ suc s)
    ∙ ap (λ n. eqb n 1) same
    ∙ sym (bit_here m)
    ∙ sym (and_true (bit m 0) (eqb 0 (suc s)) (ne_eqb 0 (suc s) (omega arith)))
  where
    and_true : (b t : Bool) → t ≡ false → (b && not t) ≡ b
    and_true true t e = grind arith
    and_true false t e = refl
bit_minus (suc s) m (suc q) h =
    let half : (m - 2 ^ suc s) / 2 ≡ m / 2 - 2 ^ s = omega (arith, pow-suc 2 s) in
    bit_suc (m - 2 ^ suc s) q
    ∙ ap (λ n. bit n q) half
    ∙ bit_minus s (m / 2) q (sym (bit_suc m s) ∙ h)
    ∙ ap₂ (λ a b. a && not b) (sym (bit_suc m q)) (same_suc s q)
  where
    same_suc : (s q : ℕ) → eqb q s ≡ eqb (suc q) (suc s)
    same_suc s q = grind (arith, nat_tests)

pub without_slot-bit : (m s q : ℕ) → bit (without_slot m s) q ≡ (bit m q && not (eqb q s))
without_slot-bit m s q = by_test (bit m s) refl
  where
    unset : (q≟s : Bool) → (bit m s ≡ false) → (q≟s ≡ true → q ≡ s) → bit m q ≡ (bit m q && not q≟s)
    unset true e same = rw (same refl) (rw e refl)
    unset false e same = keep (bit m q)
      where
        keep : (b : Bool) → b ≡ (b && true)
        keep true = refl
        keep false = refl

    by_test : (t : Bool) → bit m s ≡ t → bit (cond t (m - 2 ^ s) m) q ≡ (bit m q && not (eqb q s))
    by_test true e = bit_minus s m q e
    by_test false e = unset (eqb q s) e (eqb-true q s)

pub without_slot_le : (m s : ℕ) → without_slot m s ≤ m
without_slot_le m s = grind (arith, nat_tests)

-- how many bits are set
pub set_bits_zero : (n : ℕ) → set_bits n 0 ≡ 0
unfolding set_bits
set_bits_zero zero = refl
set_bits_zero (suc n) = omega (arith, set_bits_zero n)

pub set_bits_narrow : (n k m : ℕ) → m < 2 ^ k → set_bits n m ≤ k
unfolding set_bits
set_bits_narrow n zero m small =
    let e : m ≡ 0 = omega arith in
    rw e (omega (arith, set_bits_zero n))
set_bits_narrow zero (suc k) m small = omega arith
set_bits_narrow (suc n) (suc k) m small = omega (arith, set_bits_narrow n k (m / 2) (omega (arith, pow-suc 2 k)))

pub set_bits_wide : (n k m : ℕ) → m < 2 ^ k → k ≤ n → set_bits n m ≡ set_bits k m
unfolding set_bits
set_bits_wide n zero m small wide =
    let e : m ≡ 0 = omega arith in
    rw e (set_bits_zero n)
set_bits_wide zero (suc k) m small wide = absurd (omega arith)
set_bits_wide (suc n) (suc k) m small wide =
    ap (λ r. m % 2 + r) (set_bits_wide n k (m / 2) (omega (arith, pow-suc 2 k)) (omega arith))

-- masks that join have as many bits as both together
pub set_bits_or : (n a b : ℕ) → bit_and a b ≡ 0 → set_bits n (bit_or a b) ≡ set_bits n a + set_bits n b
unfolding set_bits
set_bits_or zero a b none = refl
set_bits_or (suc n) a b none =
    let half : bit_and (a / 2) (b / 2) ≡ 0 = omega (arith, and_step a b) in
    let e : bit_or a b / 2 ≡ bit_or (a / 2) (b / 2) = omega (arith, or_step a b) in
    let rest : set_bits n (bit_or a b / 2) ≡ set_bits n (a / 2) + set_bits n (b / 2) = ap (set_bits n) e ∙ set_bits_or n (a / 2) (b / 2) half in
    omega (arith, rest, or_last a b, and_last a b)

-- a mask that is not zero has a set bit
pub some_bit : (m : ℕ) → (m ≡ 0 → ⊥) → (s : ℕ) × (bit m s ≡ true)
some_bit =
    bin_ind (λ (n : ℕ). (n ≡ 0 → ⊥) → (s : ℕ) × (bit n s ≡ true)) (λ some. absurd (some refl)) by_last
  where
    by_test : (n : ℕ) → ((n / 2 ≡ 0 → ⊥) → (s : ℕ) × (bit (n / 2) s ≡ true)) → (n ≡ 0 → ⊥)
        → (eqb (n % 2) 1 ≡ true) ⊎ (eqb (n % 2) 1 ≡ false)
        → (s : ℕ) × (bit n s ≡ true)
    by_test n ih some (inl odd) = (0, bit_here n ∙ odd)
    by_test n ih some (inr even) =
        let rest = ih (λ e. some (omega (arith, eqb-false (n % 2) 1 even))) in
        (suc rest.0, bit_suc n rest.0 ∙ rest.1)

    by_last : (n : ℕ) → ((n / 2 ≡ 0 → ⊥) → (s : ℕ) × (bit (n / 2) s ≡ true)) → (n ≡ 0 → ⊥) → (s : ℕ) × (bit n s ≡ true)
    by_last n ih some = by_test n ih some (cases_Bool (eqb (n % 2) 1))

pub bit_nonzero : (m s : ℕ) → bit m s ≡ true → m ≡ 0 → ⊥
bit_nonzero m s h e = both_ways (bit m s) (rw e (bit_zero s)) h

-- places from a on
counting_split : (a k n : ℕ) → range_with_len a (k + n) ≡ range_with_len a k ++ range_with_len (a + k) n
counting_split a zero n =
    ap₂ range_with_len (let e : a ≡ a + 0 = omega arith in e) (let e : 0 + n ≡ n = omega arith in e)
counting_split a (suc k) n =
    ap (range_with_len a) (let e : suc k + n ≡ suc (k + n) = omega arith in e)
    ∙ ap (λ r. a ∷ r) (counting_split (a + 1) k n ∙ ap (λ x. range_with_len (a + 1) k ++ range_with_len x n) (omega arith))

pub counting_within : (a n : ℕ) → AllByRecursion (λ s. (a ≤ s) × (s < a + n)) (range_with_len a n)
counting_within a zero = tt
counting_within a (suc n) = ((omega arith, omega arith), wider a n (range_with_len (a + 1) n) (counting_within (a + 1) n))
  where
    wider : (a n : ℕ) (xs : List ℕ) → AllByRecursion (λ s. (a + 1 ≤ s) × (s < a + 1 + n)) xs → AllByRecursion (λ s. (a ≤ s) × (s < a + suc n)) xs
    wider a n [] h = tt
    wider a n (x ∷ xs) h = ((omega arith, omega arith), wider a n xs h.1)

-- free places and set bits make up all places
free-count : (n a m : ℕ) → length (filter (λ s. not (bit m s)) (range_with_len a n)) + set_bits n (m / 2 ^ a) ≡ n
unfolding set_bits
free-count zero a m = refl
free-count (suc n) a m =
    let next : m / 2 ^ a / 2 ≡ m / 2 ^ (a + 1) = shr-shr m a 1 in
    let ih : length (filter (λ s. not (bit m s)) (range_with_len (a + 1) n)) + set_bits n (m / 2 ^ a / 2) ≡ n = rw next (free-count n (a + 1) m) in
    by_bit ((m / 2 ^ a) % 2) (filter (λ s. not (bit m s)) (range_with_len (a + 1) n)) (set_bits n (m / 2 ^ a / 2)) (omega arith) ih
  where
    by_bit : (b : ℕ) (rest : List ℕ) (k : ℕ) → b < 2 → length rest + k ≡ n → length (cond (not (eqb b 1)) (a ∷ rest) rest) + (b + k) ≡ suc n
    by_bit zero rest k small e = omega arith
    by_bit (suc zero) rest k small e = omega arith
    by_bit (suc (suc b)) rest k small e = absurd (omega arith)

-- the k-th free place of a mask of w bits, where at least k of them are free
pub free_place-fits : (n w m k : ℕ) → w ≤ n → m < 2 ^ w → k < w - set_bits n m
    → (free_place n m k < w) × (bit m (free_place n m k) ≡ false)
unfolding free_place free_places
free_place-fits n w m k wide small few =
    let free = λ (s : ℕ). not (bit m s) in
    let front = filter free (range_with_len 0 w) in
    let many : length front + set_bits w m ≡ w = ap (λ x. length front + set_bits w x) (omega arith) ∙ free-count w 0 m in
    let inside : k < length front = omega (arith, set_bits_wide n w m small wide) in
    let parted : filter free (range_with_len 0 n) ≡ front ++ filter free (range_with_len (0 + w) (n - w)) =
    ap (λ x. filter free (range_with_len 0 x)) (let e : n ≡ w + (n - w) = omega arith in e) ∙ ap (filter free) (counting_split 0 w (n - w)) ∙ filter-append free (range_with_len 0 w) (range_with_len (0 + w) (n - w)) in
    let at : get_or (filter free (range_with_len 0 n)) k 0 ≡ get_or front k 0 =
    ap (λ xs. get_or xs k 0) parted ∙ get_or_append_left front (filter free (range_with_len (0 + w) (n - w))) 0 k inside in
    let within = All-get_or (λ s. (0 ≤ s) × (s < 0 + w)) front k 0 inside (all_kept_by free (λ s. (0 ≤ s) × (s < 0 + w)) (range_with_len 0 w) (counting_within 0 w)) in
    let passes = All-get_or (λ s. free s ≡ true) front k 0 inside (kept_by_passes free (range_with_len 0 w)) in
    (rw at (omega (arith, within)), rw at (not_true' (bit m (get_or front k 0)) passes))
  where
    not_true' : (b : Bool) → not b ≡ true → b ≡ false
    not_true' true e = absurd (both_ways false refl e)
    not_true' false e = refl

-- the set places are those whose bit is set
pub set_places-set : (n m : ℕ) → AllByRecursion (λ s. bit m s ≡ true) (set_places n m)
unfolding set_places
set_places-set n m = kept_by_passes (λ s. bit m s) (range_with_len 0 n)

pub kept_member : (test : ℕ → Bool) (a n s : ℕ) → a ≤ s → s < a + n → test s ≡ true → Memᴰ s (filter test (range_with_len a n))
kept_member test a zero s from below h = absurd (omega arith)
kept_member test a (suc n) s from below h =
    by_test (test a) refl (cases_eq s a) (λ apart. kept_member test (a + 1) n s (omega (arith, apart)) (omega arith) h)
  where
    by_test : (t : Bool) → test a ≡ t → (s ≡ a) ⊎ (s ≡ a → ⊥)
        → ((s ≡ a → ⊥) → Memᴰ s (filter test (range_with_len (a + 1) n)))
        → Memᴰ s (cond t (a ∷ filter test (range_with_len (a + 1) n)) (filter test (range_with_len (a + 1) n)))
    by_test true e (inl same) further = Memᴰ.head same
    by_test true e (inr apart) further = Memᴰ.tail (further apart)
    by_test false e (inl same) further = absurd (both_ways (test s) (rw same e) h)
    by_test false e (inr apart) further = further apart

pub set_places_member : (n m s : ℕ) → s < n → bit m s ≡ true → Memᴰ s (set_places n m)
unfolding set_places
set_places_member n m s below h = kept_member (λ k. bit m k) 0 n s (omega arith) (omega arith) h
