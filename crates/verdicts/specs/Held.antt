-- The bytes of a bank's frames.
use Rattle.std.specs.Prelude.{ℕ, cond, List, replicate}
use Rattle.bank.specs.Tables.{peek}
use Rattle.bank.specs.Model.{BankState, frame_bytes}

-- so many zeros
unfoldable pub zeros : ℕ → List ℕ
zeros n = replicate n 0

-- what a frame holds: its bytes where it is out, and zeros where it is not
unfoldable pub held : BankState → ℕ → List ℕ
held m f = cond (m.out f) (peek (m.bytes f) 0 frame_bytes) (zeros frame_bytes)
