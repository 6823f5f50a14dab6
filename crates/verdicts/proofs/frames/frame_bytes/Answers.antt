use Rattle.std.proofs.Common.{refl}
use Rattle.verdicts.specs.Held.{zeros}
use Rattle.verdicts.proofs.Whole.{read_whole}
use Rattle.verdicts.proofs.frames.frame_bytes.Goals as goal

pub returns-clause-bytes : goal.returns-clause-bytes
unfolding zeros
returns-clause-bytes g c =
    read_whole (g.B.Bank.model c.args.pool.now.bank) c.args.frame _ c.frame.new.buffer c.frame.result refl c.frame.ensures.step
