use Rattle.std.proofs.Common.{◌≡◌, ◌/◌, [], length, fold}
use Rattle.std.specs.List.{range_with_len}
use Rattle.pairing.specs.Halves.{pass}
use Rattle.pairing.proofs.halves.SplitMesherPairing.propose.Given as goal

abbrev pub invariant-loop-shift : goal.invariant-loop-shift
invariant-loop-shift l =
    l.found ≡ record { masks = l.masks; pairs = fold (pass l.masks l.order.items (length l.masks / 2)) [] (range_with_len 0 l.shift) }
