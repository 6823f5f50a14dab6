-- Marsaglia's xorshift32: a state of 32 bits that is never zero, and the numbers drawn from it.
use Rattle.std.specs.Prelude.{ℕ, zero, suc, ◌*◌, ◌/◌, ◌%◌, ◌^◌, List, [], ◌∷◌, bit_xor}

-- x xored with itself shifted left by k, the bits above 32 dropped
abbrev pub left : ℕ → ℕ → ℕ
left k x = bit_xor x ((x * 2 ^ k) % 2 ^ 32)

-- x xored with itself shifted right by k
abbrev pub right : ℕ → ℕ → ℕ
right k x = bit_xor x (x / 2 ^ k)

-- the state after a draw, which is also the number drawn
unfoldable pub next : ℕ → ℕ
next x = left 5 (right 17 (left 13 x))

-- the state that a seed begins: a seed of 0 is read as 1
abbrev pub begun : ℕ → ℕ
begun zero = 1
begun (suc n) = suc n

-- the first n numbers drawn from a state
abbrev pub drawn : ℕ → ℕ → List ℕ
drawn zero x = []
drawn (suc n) x = next x ∷ drawn n (next x)
