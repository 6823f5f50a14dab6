use Rattle.std.proofs.Common.{map, vec_items, ap}
use Rattle.calls.specs.Values.{call_of}
use Rattle.playback.proofs.Walk.{left-all}
use Rattle.desk.proofs.Lists.{gathering-begins}
use Rattle.desk.proofs.calls_of.Goals as goal

pub loop-found-init : goal.loop-found-init
loop-found-init c =
    let all = c.new-found-items.ensures in
    gathering-begins (map call_of (vec_items c.new-calls.result)) _ c.args.input.now (ap (map call_of) c.new-calls.ensures.items)
    (left-all c.into_iter-found-iterator.result c.new-found-items.result c.args.input.now c.into_iter-found-iterator.ensures.into_iter_gives all.input all.at)
