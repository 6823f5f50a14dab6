use Rattle.std.proofs.Common.{length, arith}
use Rattle.banks.specs.Memory.{woven}
use Rattle.banks.proofs.Rows.{peek_all}
use Rattle.banks.proofs.lane.LaneMemoryStore.read.Goals as goal

pub returns : goal.returns
returns c =
    peek_all (woven c.args.self.now.first.now c.args.self.now.second.now) c.args.at
    (length c.args.buffer.now) c.loop-i.buffer c.loop-i.auto.buffer (λ k h. c.loop-i.invariant k (omega arith))
