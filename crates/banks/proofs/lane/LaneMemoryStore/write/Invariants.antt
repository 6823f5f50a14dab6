use Rattle.std.proofs.Common.{◌≡◌, length, take}
use Rattle.bank.specs.Tables.{poke}
use Rattle.banks.specs.Memory.{woven}
use Rattle.banks.proofs.lane.LaneMemoryStore.write.Given as goal

abbrev pub invariant-loop-i : goal.invariant-loop-i
invariant-loop-i l =
    (woven l.self.first.now l.self.second.now ≡
    poke (woven l.initial.self.first.now l.initial.self.second.now) l.at (take l.i l.buffer)) ×
    (length l.self.first.now ≡ length l.initial.self.first.now) ×
    (length l.self.second.now ≡ length l.initial.self.second.now)
