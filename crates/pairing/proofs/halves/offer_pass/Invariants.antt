use Rattle.std.proofs.Common.{◌≡◌, ◌/◌, length, fold}
use Rattle.std.specs.List.{range_with_len}
use Rattle.pairing.specs.Halves.{shifted_turn}
use Rattle.pairing.proofs.halves.offer_pass.Given as goal

abbrev pub invariant-loop-j : goal.invariant-loop-j
invariant-loop-j l =
    let ms = l.initial.found.masks in
    l.found
    ≡ record l.initial.found { pairs = fold (shifted_turn ms l.order (length ms / 2) l.shift) l.initial.found.pairs (range_with_len 0 l.j) }
