use Rattle.std.proofs.Common.{◌≡◌, ◌≤◌, length, get_or, None}
use Rattle.std.specs.List.{range_with_len, filter}
use Rattle.model.specs.Mesh.{of_class}
use Rattle.tables.proofs.rows.Rows.list.Given as goal

abbrev pub invariant-loop-frame : goal.invariant-loop-frame
invariant-loop-frame l =
    (l.frames.items ≡ filter (λ f. of_class l.class (get_or l.row-items f None)) (range_with_len 0 l.frame))
    × (length l.frames.items ≤ l.frame)
