use Rattle.std.proofs.Common.{◌≡◌, ◌++◌, take, drop}
use Rattle.joining.proofs.Places.{over}
use Rattle.joining.proofs.rows.write_joined.Given as goal

-- the joins are written up to here, and the rest is as it was
abbrev pub invariant-loop-i : goal.invariant-loop-i
invariant-loop-i g l =
    l.first ≡ take l.i (over g.T.Join.joined l.initial.first l.second) ++ drop l.i l.initial.first
