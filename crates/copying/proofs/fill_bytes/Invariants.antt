use Rattle.std.proofs.Common.{◌≡◌, map, length, take}
use Rattle.model.specs.Mesh.{content}
use Rattle.copying.proofs.fill_bytes.Given as goal

abbrev pub invariant-loop-i : goal.invariant-loop-i
invariant-loop-i l = (length l.bytes ≡ length l.cells) × (take l.i l.bytes ≡ map content (take l.i l.cells))
