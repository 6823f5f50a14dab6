use Rattle.std.proofs.Common.{get_or, refl, ◌∙◌, arith}
use Rattle.banks.specs.Memory.{woven}
use Rattle.banks.proofs.Rows.{written_more}
use Rattle.banks.proofs.lane.LaneMemoryStore.write.Goals as goal

pub loop-i-preserved : goal.loop-i-preserved
loop-i-preserved c = (
  written_more (woven c.args.self.now.first.now c.args.self.now.second.now)
      (woven c.loop-i.self.first.now c.loop-i.self.second.now)
      (woven c.set.new.self.first.now c.set.new.self.second.now) c.args.at c.args.buffer.now
      c.loop-i.i (get_or c.args.buffer.now c.loop-i.i 0) c.loop-i.invariant.0 (omega arith) refl c.set.ensures.bytes,
  c.set.ensures.first ∙ c.loop-i.invariant.1,
  c.set.ensures.second ∙ c.loop-i.invariant.2,
)
