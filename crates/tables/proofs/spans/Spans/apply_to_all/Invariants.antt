use Rattle.std.proofs.Common.{◌≡◌, ◌++◌, length, map, take, drop}
use Rattle.model.specs.State.{after}
use Rattle.tables.proofs.spans.Spans.apply_to_all.Given as goal

abbrev pub invariant-loop-span : goal.invariant-loop-span
invariant-loop-span l =
    (length l.span-items ≡ 128)
    × (l.span-items ≡ map (after l.event) (take l.span-index l.initial.span-items) ++ drop l.span-index l.initial.span-items)
