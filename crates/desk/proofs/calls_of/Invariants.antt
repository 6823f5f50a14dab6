use Rattle.std.proofs.Common.{◌≡◌, ◌++◌, map, vec_items}
use Rattle.calls.specs.Values.{call_of}
use Rattle.playback.specs.Format.{called}
use Rattle.playback.specs.Found.{left_in}
use Rattle.desk.specs.Commands.{calls_in}
use Rattle.desk.proofs.Lists.{accepted}
use Rattle.desk.proofs.calls_of.Given as goal

-- the calls so far, and those of what is left, are the calls of all
abbrev pub invariant-loop-found : goal.invariant-loop-found
invariant-loop-found l =
    map call_of (vec_items l.calls) ++ map called (accepted (left_in l.found-iterator)) ≡ calls_in l.input
