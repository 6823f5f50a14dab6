-- Where the bytes of a patch lie, and what write, read and fetch do with the place.
use Rattle.std.specs.Prelude.{ℕ, ◌+◌, cond, Some, None, Ok, Err, Option, Result, nat_le}
use Rattle.refusal.specs.declared.Refusal.{Refusal}
use Rattle.refusal.specs.declared.Refusal.TheVariants.{Absent, Past, NotOut}
use Rattle.model.specs.declared.Patch.{Patch}
use Rattle.model.specs.Geometry.{Geometry, slot_offset}
use Rattle.model.specs.State.{State, frame_of}
use Rattle.pool.specs.declared.calls.Spot.{Spot}

-- the byte at the offset o of a patch lies in the frame of its span
abbrev pub spot_in : Geometry → Patch → ℕ → Option ℕ → Result Spot Refusal
spot_in g p o None = Err NotOut
spot_in g p o (Some f) = Ok (record { frame = f; offset = slot_offset g p.length p.slot + o })

abbrev pub spot_within : {C : Type 0} → Geometry → ℕ → ℕ → Option Patch → State C → Result Spot Refusal
spot_within g o n None s = Err Absent
spot_within g o n (Some p) s = cond (nat_le (o + n) p.length) (spot_in g p o (frame_of (s.spans p.span))) (Err Past)

-- n bytes of the label's patch from the offset o on lie from here on
abbrev pub spot_for : {C : Type 0} → Geometry → ℕ → ℕ → ℕ → State C → Result Spot Refusal
spot_for g label o n s = spot_within g o n (s.labels label) s
