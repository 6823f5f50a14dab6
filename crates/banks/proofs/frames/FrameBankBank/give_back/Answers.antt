use Rattle.std.proofs.Common.{arith}
use Rattle.banks.specs.Spares.{marked, link}
use Rattle.banks.proofs.Chains.{length-chain}
use Rattle.banks.proofs.Steps.{placed_at, give_back_placed}
use Rattle.banks.proofs.frames.FrameBankBank.give_back.Goals as goal

pub returns-in_err-at-clause-few : goal.returns-in_err-at-clause-few
returns-in_err-at-clause-few g c =
    let spares = c.args.self.now.spares in
    let n = g.S.Store.frames c.args.self.now.store in
    omega (arith, c.in_err-at.ensures.few, length-chain n (marked n spares) (link spares) spares.head)

pub returns-clause-step : goal.returns-clause-step
returns-clause-step g c =
    let store = c.args.self.now.store in
    let spares = c.args.self.now.spares in
    let n = g.S.Store.frames store in
    let here = placed_at n spares c.args.frame 0 1024 c.in_ok-at.at c.in_ok-at.ensures.answer in
    let same = c.clear_frame.ensures.spares in
    give_back_placed n (g.S.Store.frames c.clear_frame.new.self.store) (g.S.Store.byte store) (g.S.Store.byte c.clear_frame.new.self.store)
    spares c.put_first.new.self c.args.frame c.in_ok-at.at here c.clear_frame.ensures.frames c.clear_frame.ensures.bytes
    ((rw same at (c.put_first.ensures.list n)) here.on) ((rw same at (c.put_first.ensures.marks n)) here.on)

pub returns-clause-few : goal.returns-clause-few
returns-clause-few g c =
    let spares = c.args.self.now.spares in
    let n = g.S.Store.frames c.args.self.now.store in
    omega (arith, c.in_ok-at.ensures.few, length-chain n (marked n spares) (link spares) spares.head)
