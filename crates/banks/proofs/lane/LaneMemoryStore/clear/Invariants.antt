use Rattle.std.proofs.Common.{◌≡◌, ◌-◌, length, take, replicate}
use Rattle.bank.specs.Tables.{poke}
use Rattle.banks.specs.Memory.{woven}
use Rattle.banks.proofs.lane.LaneMemoryStore.clear.Given as goal

abbrev pub invariant-loop-place : goal.invariant-loop-place
invariant-loop-place l =
    (woven l.self.first.now l.self.second.now ≡
    poke (woven l.initial.self.first.now l.initial.self.second.now) l.at (take (l.place - l.at) (replicate l.count 0))) ×
    (length l.self.first.now ≡ length l.initial.self.first.now) ×
    (length l.self.second.now ≡ length l.initial.self.second.now)
