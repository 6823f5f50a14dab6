use Rattle.std.proofs.Common.{arith}
use Rattle.banks.specs.Memory.{place}
use Rattle.banks.proofs.Steps.{bank-fresh, counting_proper}
use Rattle.banks.proofs.frames.FrameBankBank.reset.Goals as goal

pub returns-clause-after : goal.returns-clause-after
returns-clause-after g c =
    let now = c.clear_all.ensures in
    bank-fresh (g.S.Store.frames c.args.self.now.store) (g.S.Store.frames c.clear_all.new.self.store)
    (g.S.Store.byte c.clear_all.new.self.store) c.clear_all.new.self.spares now.frames now.few
    (λ f i l h. now.zeros (place f i) (omega arith))
    (rw now.spares c.opening-self.ensures.list)
    (rw now.spares c.opening-self.ensures.none)

pub returns-clause-proper : goal.returns-clause-proper
returns-clause-proper g c =
    let n = g.S.Store.frames c.args.self.now.store in counting_proper n n 0 (omega arith)
