use Rattle.std.proofs.Common.{Some}
use Rattle.banks.proofs.spares.rising.Goals as goal

pub returns : goal.returns
returns c k l = let called = (c.from_fn.ensures.items.at k (Some 0) l).2 in cc
