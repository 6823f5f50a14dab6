use Rattle.std.proofs.Common.{[]}
use Rattle.pairing.specs.Search.{turn}
use Rattle.pairing.proofs.Marks.{turn_more}
use Rattle.pairing.proofs.least.GreedyPairing.propose.Goals as goal

pub loop-place-preserved : goal.loop-place-preserved
loop-place-preserved c = turn_more turn c.args.masks.now [] c.loop-place.place c.loop-place.invariant c.take_turn.ensures
