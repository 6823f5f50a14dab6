-- Masks of slots: a mask is a number, and slot s is occupied when bit s is set.
use Rattle.std.specs.Prelude.{ℕ, zero, suc, ◌+◌, ◌-◌, ◌/◌, ◌%◌, ◌^◌, Bool, cond, not, List, ◌==◌, bit_or, slice_index}
use Rattle.std.specs.List.{range_with_len, filter}

-- whether bit s of m is set
abbrev pub bit : ℕ → ℕ → Bool
bit m s = (m / 2 ^ s) % 2 == 1

-- how many of the first n bits of m are set
unfoldable pub set_bits : ℕ → ℕ → ℕ
set_bits zero m = 0
set_bits (suc n) m = m % 2 + set_bits n (m / 2)

-- the first n places of m that are free, in rising order
unfoldable pub free_places : ℕ → ℕ → List ℕ
free_places n m = filter (λ s. not (bit m s)) (range_with_len 0 n)

-- the free place of m that has k free places below it
unfoldable pub free_place : ℕ → ℕ → ℕ → ℕ
free_place n m k = slice_index (free_places n m) k

-- the first n places of m that are set, in rising order
unfoldable pub set_places : ℕ → ℕ → List ℕ
set_places n m = filter (λ s. bit m s) (range_with_len 0 n)

-- the mask m with slot s free
abbrev pub without_slot : ℕ → ℕ → ℕ
without_slot m s = cond (bit m s) (m - 2 ^ s) m

-- the mask m with slot s occupied too
abbrev pub with_slot : ℕ → ℕ → ℕ
with_slot m s = bit_or m (2 ^ s)
