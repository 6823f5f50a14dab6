use Rattle.std.proofs.Common.{◌≡◌, [], fold}
use Rattle.std.specs.List.{range_with_len}
use Rattle.pairing.specs.Search.{turn}
use Rattle.pairing.proofs.least.GreedyPairing.propose.Given as goal

abbrev pub invariant-loop-place : goal.invariant-loop-place
invariant-loop-place l = l.found ≡ record { masks = l.masks; pairs = fold (turn l.masks) [] (range_with_len 0 l.place) }
