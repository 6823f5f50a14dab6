-- Tables as functions from places, and stretches of a row of bytes.
use Rattle.std.specs.Prelude.{ℕ, ◌+◌, ◌-◌, cond, ◌&&◌, List, map, length, ◌==◌, nat_le, nat_lt, slice_index}
use Rattle.std.specs.List.{range_with_len}

-- the table f with v at the place k
abbrev pub put : {A : Type 0} → (ℕ → A) → ℕ → A → ℕ → A
put f k v q = cond (q == k) v (f q)

-- the n bytes of a row from the offset o on
unfoldable pub peek : (ℕ → ℕ) → ℕ → ℕ → List ℕ
peek row o n = map row (range_with_len o n)

-- a row with bs over the bytes from the offset o on
abbrev pub poke : (ℕ → ℕ) → ℕ → List ℕ → ℕ → ℕ
poke row o bs i = cond (nat_le o i && nat_lt i (o + length bs)) (slice_index bs (i - o)) (row i)
