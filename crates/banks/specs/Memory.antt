-- How a memory is cut into frames.
use Rattle.std.specs.Prelude.{ℕ, ◌+◌, ◌*◌, ◌/◌, ◌%◌, cond, ◌&&◌, List, length, replicate, Ok, Err, Result, ◌==◌, nat_le, nat_lt, slice_index}
use Rattle.refusal.specs.declared.Refusal.{Refusal}
use Rattle.refusal.specs.declared.Refusal.TheVariants.{Row}
use Rattle.bank.specs.Model.{frame_bytes, most_frames}

-- how many frames a memory of n bytes has: none, unless it is cut into at most as many as a bank can have, with no
-- byte left over
abbrev pub whole_frames : ℕ → ℕ
whole_frames n = cond (n % frame_bytes == 0 && nat_le (n / frame_bytes) most_frames) (n / frame_bytes) 0

-- how many frames two memories of a and b bytes have together: none, unless they are of one length
abbrev pub lane_frames : ℕ → ℕ → ℕ
lane_frames a b = cond (a == b) (whole_frames (a + b)) 0

-- two memories as one row of bytes, one of the first and one of the second by turns
abbrev pub woven : List ℕ → List ℕ → ℕ → ℕ
woven first second k = cond (k % 2 == 0) (slice_index first (k / 2)) (slice_index second (k / 2))

-- what the check of a memory answers that has n frames
abbrev pub checked : ℕ → Result (Unit {0}) Refusal
checked n = cond (n == 0) (Err Row) (Ok tt)

-- a memory after its frames were cleared; one that has none is left as it is
abbrev pub cleared : ℕ → List ℕ → List ℕ
cleared n memory = cond (n == 0) memory (replicate (length memory) 0)

-- where byte i of the frame f lies, with all frames end to end
abbrev pub place : ℕ → ℕ → ℕ
place f i = frame_bytes * f + i

-- the bytes of n frames that lie end to end; what is outside of the frames reads as 0
abbrev pub framed : ℕ → (ℕ → ℕ) → ℕ → ℕ → ℕ
framed n byte f i = cond (nat_lt f n && nat_lt i frame_bytes) (byte (place f i)) 0
