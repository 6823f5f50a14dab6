use Rattle.std.proofs.Common.{vec_items}
use Rattle.model.specs.Geometry.{desktop}
use Rattle.pool.specs.View.{state_of}
use Rattle.pool.specs.Pairings.{meaning_of}
use Rattle.playback.specs.Found.{left_in}
use Rattle.playback.proofs.Walk.{Telling}
use Rattle.playback.proofs.run.play.Given as goal

-- the lines so far, and those of what is left, are the lines of all
abbrev pub invariant-loop-at : goal.invariant-loop-at
invariant-loop-at g l =
    Telling desktop (meaning_of g.P.Pairing.pairs g.P.Pairing.next) l.input (state_of g.B.Bank.model l.initial.pool) (vec_items l.lines)
    (left_in l.at-iterator) (state_of g.B.Bank.model l.pool)
