use Rattle.std.proofs.Common.{◌≡◌}
use Rattle.model.specs.Geometry.{desktop, longest}
use Rattle.laws.specs.Reading.{next_of, longest_read}
use Rattle.pool.specs.View.{state_of}
use Rattle.pool.specs.Pairings.{meaning_of}
use Rattle.verdicts.proofs.readings.longest_read.Given as goal

-- the pool is as it was, and the longest read is among those left
abbrev pub invariant-loop-count : goal.invariant-loop-count
invariant-loop-count g l =
    let answers = next_of desktop (meaning_of g.P.Pairing.pairs g.P.Pairing.next) (state_of g.B.Bank.model l.initial.pool) in
    (state_of g.B.Bank.model l.pool ≡ state_of g.B.Bank.model l.initial.pool)
    × (longest_read answers l.count l.label ≡ longest_read answers (longest desktop) l.label)
