use Rattle.std.proofs.Common.{◌-◌, sym, ◌∙◌, arith}
use Rattle.banks.specs.Memory.{woven}
use Rattle.banks.proofs.Stretches.{zeros, length-zeros, get_or-zeros}
use Rattle.banks.proofs.Rows.{written_at}
use Rattle.banks.proofs.lane.LaneMemoryStore.clear.Goals as goal

pub loop-place-preserved : goal.loop-place-preserved
loop-place-preserved c =
    let long = length-zeros c.args.count in (
      written_at (woven c.args.self.now.first.now c.args.self.now.second.now)
          (woven c.loop-place.self.first.now c.loop-place.self.second.now)
          (woven c.set.new.self.first.now c.set.new.self.second.now) c.args.at (zeros c.args.count)
          c.loop-place.place 0 (omega arith) (omega arith) c.loop-place.invariant.0
          (sym (get_or-zeros c.args.count (c.loop-place.place - c.args.at))) c.set.ensures.bytes,
      c.set.ensures.first ∙ c.loop-place.invariant.1,
      c.set.ensures.second ∙ c.loop-place.invariant.2,
    )
