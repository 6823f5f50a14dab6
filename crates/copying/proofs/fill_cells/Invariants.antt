use Rattle.std.proofs.Common.{◌≡◌, map, length, take}
use Rattle.joining.specs.declared.kinds.Cell.TheVariants.{Full}
use Rattle.copying.proofs.fill_cells.Given as goal

abbrev pub invariant-loop-i : goal.invariant-loop-i
invariant-loop-i l = (length l.cells ≡ length l.bytes) × (take l.i l.cells ≡ map Full (take l.i l.bytes))
