use Rattle.std.proofs.Common.{◌≡◌, ℕ, ◌<◌}
use Rattle.pool.specs.View.{state_of}
use Rattle.pool.specs.Pairings.{meaning_of}
use Rattle.verdicts.specs.Hearing.{addresses_in, reading_at}
use Rattle.verdicts.proofs.readings.reads_alike.Given as goal

-- the pools are as they were, and the labels so far read alike
abbrev pub invariant-loop-label : goal.invariant-loop-label
invariant-loop-label g l =
    (state_of g.B.Bank.model l.one ≡ state_of g.B.Bank.model l.initial.one)
    × (state_of g.C.Bank.model l.two ≡ state_of g.C.Bank.model l.initial.two)
    × ((k : ℕ) → k < l.label → reading_at (meaning_of g.P.Pairing.pairs g.P.Pairing.next) (state_of g.B.Bank.model l.initial.one) (addresses_in l.first_one) k ≡ reading_at (meaning_of g.Q.Pairing.pairs g.Q.Pairing.next) (state_of g.C.Bank.model l.initial.two) (addresses_in l.first_two) k)
