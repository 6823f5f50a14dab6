use Rattle.std.proofs.Common.{◌≡◌, ◌-◌}
use Rattle.draws.specs.Shuffle.{shuffled, shuffled_from}
use Rattle.draws.proofs.order.shuffle.Given as goal

-- what is left of the shuffle, from the row as it is, is the whole
abbrev pub invariant-loop-i : goal.invariant-loop-i
invariant-loop-i g l = shuffled_from (l.i - 1) l.row l.draws.state ≡ shuffled l.initial.row l.initial.draws.state
