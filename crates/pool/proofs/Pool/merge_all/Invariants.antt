use Rattle.std.proofs.Common.{◌≡◌, ◌*◌, ◌≤◌}
use Rattle.model.specs.Geometry.{desktop}
use Rattle.model.specs.Mesh.{no_merge}
use Rattle.pool.specs.View.{state_of}
use Rattle.pool.proofs.Proposals.{left}
use Rattle.pool.proofs.Pool.merge_all.Given as goal

abbrev pub invariant-loop-pair : goal.invariant-loop-pair
invariant-loop-pair g l =
    (left desktop l.frames l.pairs l.pair-index l.done (state_of g.B.Bank.model l.self)
    ≡ left desktop l.frames l.pairs 0 no_merge (state_of g.B.Bank.model l.initial.self))
    × (l.done.merges ≤ l.pair-index) × (l.done.bytes ≤ 65536 * l.pair-index)
