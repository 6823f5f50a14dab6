-- A frame that is out, with its row.
use Rattle.std.specs.Prelude.{ℕ, Some, None, Option}
use Rattle.model.specs.declared.Row.{Row}
use Rattle.pool.specs.declared.held.Held.{Held}

-- the frame f, if it has a row
abbrev pub held_in : ℕ → Option Row → Option Held
held_in f None = None
held_in f (Some row) = Some (record { frame = f; row = row })
