use Rattle.std.proofs.Common.{◌≡◌, ℕ, ◌+◌, ◌<◌, get_or}
use Rattle.banks.specs.Memory.{woven}
use Rattle.banks.proofs.lane.LaneMemoryStore.read.Given as goal

abbrev pub invariant-loop-i : goal.invariant-loop-i
invariant-loop-i l =
    (k : ℕ) → k < l.i → get_or l.buffer k 0 ≡ woven l.self.first.now l.self.second.now (l.at + k)
