use Rattle.std.proofs.Common.{◌≡◌}
use Rattle.model.specs.Geometry.{desktop}
use Rattle.model.specs.Calls.{best_below}
use Rattle.tables.proofs.rows.Rows.serving.Given as goal

abbrev pub invariant-loop-frame : goal.invariant-loop-frame
invariant-loop-frame l = l.best ≡ best_below desktop l.class l.row-items l.frame
