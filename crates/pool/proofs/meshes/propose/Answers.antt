use Rattle.std.proofs.Common.{length}
use Rattle.pool.proofs.Proposals.{proposed}
use Rattle.pool.proofs.meshes.propose.Goals as goal

pub returns-clause-pairs : goal.returns-clause-pairs
returns-clause-pairs g c =
    rw c.unwrap_or-count.ensures (proposed (length c.args.masks.now) (g.P.Pairing.pairs c.args.pairing.now c.args.masks.now) c.args.buffer.now c.propose.new.buffer
    c.propose.result c.requires c.told-buffer c.propose.ensures.answer c.propose.ensures.written)
