use Rattle.std.proofs.Common.{◌≡◌}
use Rattle.model.specs.Geometry.{desktop, places}
use Rattle.model.specs.Masks.{set_places}
use Rattle.model.specs.Mesh.{copies}
use Rattle.copying.proofs.Slots.{left}
use Rattle.copying.proofs.copy_slots.Given as goal

-- the slots that are left to copy, from here on
abbrev pub invariant-loop-slot : goal.invariant-loop-slot
invariant-loop-slot g l =
    copies l.size l.from l.to (left l.size l.from l.to l.mask l.slot) (g.B.Bank.model l.bank)
    ≡ copies l.size l.from l.to (set_places (places desktop) l.mask) (g.B.Bank.model l.initial.bank)
