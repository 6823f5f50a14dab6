-- What a bank means that keeps its frames end to end in a store of bytes.
use Rattle.std.specs.Prelude.{◌≡◌, ℕ, ◌+◌, ◌*◌, ◌/◌, ◌%◌, ◌<◌, false, cond, List, length, Ok, Err, Result, nat_le, slice_index}
use Rattle.std.specs.List.{range_with_len}
use Rattle.refusal.specs.declared.Refusal.{Refusal}
use Rattle.refusal.specs.declared.Refusal.TheVariants.{Edge, NotOut}
use Rattle.bank.specs.Model.{BankState, frame_bytes}
use Rattle.banks.specs.declared.frames.FrameBank.{FrameBank}
use Rattle.banks.specs.declared.spares.Spares.{Spares}
use Rattle.banks.specs.Memory.{whole_frames, lane_frames, woven, place, framed}
use Rattle.banks.specs.Spares.{marked, listed}

-- the bank of n frames whose bytes lie end to end in a store; it opens with all frames, in rising order
abbrev pub bank_of : ℕ → (ℕ → ℕ) → Spares → BankState
bank_of n byte s =
    record { size = n; opening = range_with_len 0 n; spare = listed n s; out = marked n s; bytes = framed n byte }

-- what a bank over a store means, by how many frames the store has and the byte at each of its places
abbrev pub frame_bank : {S : Type 0} → (S → ℕ) → (S → ℕ → ℕ) → FrameBank S → BankState
frame_bank frames byte b = bank_of (frames b.store) (byte b.store) b.spares

-- where k bytes of the frame f lie from the offset o on, with n frames end to end, and the refusals of such a stretch
abbrev pub placed : ℕ → Spares → ℕ → ℕ → ℕ → Result ℕ Refusal
placed n s f o k = cond (nat_le (o + k) frame_bytes) (cond (marked n s f) (Ok (place f o)) (Err NotOut)) (Err Edge)

-- the bank of n frames right after a reset
abbrev pub fresh : ℕ → BankState
fresh n =
    record { size = n; opening = range_with_len 0 n; spare = range_with_len 0 n; out = λ f. false; bytes = λ f i. 0 }

-- what the flat bank means: byte i of the frame f is the byte at 1,024 × f + i of its memory
abbrev pub flat_bank : List ℕ → Spares → BankState
flat_bank memory s = bank_of (whole_frames (length memory)) (λ k. slice_index memory k) s

-- The memory is the frames end to end: it has no other bytes, and byte i of the frame f lies at 1,024 × f + i.
pub record EndToEnd (memory : List ℕ) (m : BankState) : Type 0 where
  pub whole : 0 < m.size → length memory ≡ frame_bytes * m.size
  pub byte : (f i : ℕ) → f < m.size → i < frame_bytes → m.bytes f i ≡ slice_index memory (frame_bytes * f + i)

-- In every value of a flat bank the memory is its frames end to end.
abbrev pub FlatEndToEnd : Type 0
FlatEndToEnd = (memory : List ℕ) (s : Spares) → EndToEnd memory (flat_bank memory s)

-- what the lane bank means: the flat bank over its two memories woven
abbrev pub lane_bank : List ℕ → List ℕ → Spares → BankState
lane_bank first second s = bank_of (lane_frames (length first) (length second)) (woven first second) s

-- The memories are the frames' lanes end to end: they have no other bytes, and byte i of the frame f lies at
-- 512 × f + i / 2, of the first memory for even i, of the second for odd i.
pub record InLanes (first second : List ℕ) (m : BankState) : Type 0 where
  pub whole_first : 0 < m.size → length first ≡ 512 * m.size
  pub whole_second : 0 < m.size → length second ≡ 512 * m.size
  pub even_byte : (f i : ℕ) → f < m.size → i < frame_bytes → i % 2 ≡ 0 → m.bytes f i ≡ slice_index first (512 * f + i / 2)
  pub odd_byte : (f i : ℕ) → f < m.size → i < frame_bytes → i % 2 ≡ 1 → m.bytes f i ≡ slice_index second (512 * f + i / 2)

-- In every value of a lane bank the memories are its frames' lanes.
abbrev pub LanesEndToEnd : Type 0
LanesEndToEnd = (first second : List ℕ) (s : Spares) → InLanes first second (lane_bank first second s)
