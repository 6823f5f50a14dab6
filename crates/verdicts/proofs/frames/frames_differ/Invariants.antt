use Rattle.std.proofs.Common.{◌≡◌, ℕ, ◌<◌}
use Rattle.pool.specs.View.{state_of}
use Rattle.verdicts.specs.Held.{held}
use Rattle.verdicts.proofs.frames.frames_differ.Given as goal

-- the pools are as they were, and hold the same in the frames so far
abbrev pub invariant-loop-frame : goal.invariant-loop-frame
invariant-loop-frame g l =
    (state_of g.B.Bank.model l.one ≡ state_of g.B.Bank.model l.initial.one)
    × (state_of g.C.Bank.model l.two ≡ state_of g.C.Bank.model l.initial.two)
    × ((k : ℕ) → k < l.frame → held (g.B.Bank.model l.initial.one.bank) k ≡ held (g.C.Bank.model l.initial.two.bank) k)
