use Rattle.std.proofs.Common.{◌≡◌, length, take}
use Rattle.model.specs.Mesh.{masks_of}
use Rattle.tables.specs.Views.{rows_of}
use Rattle.tables.proofs.rows.Rows.masks.Given as goal

abbrev pub invariant-loop-i : goal.invariant-loop-i
invariant-loop-i l = (length l.masks ≡ length l.frames) × (take l.i l.masks ≡ masks_of (rows_of l.self) (take l.i l.frames))
