use Rattle.std.proofs.Common.{◌≡◌, ◌+◌, ◌-◌, length, take, drop, ap, ◌∙◌, arith}
use Rattle.banks.proofs.Stretches.{peeked, whole-within}
use Rattle.banks.proofs.flat.FlatMemoryStore.read.Goals as goal

pub returns : goal.returns
returns c =
    let size : c.args.at + length c.args.buffer.now - c.args.at ≡ length c.args.buffer.now = omega arith in
    c.copy_from_slice.ensures.after ∙
    (ap (λ k. take k (drop c.args.at c.args.self.now.memory.now)) size ∙
    peeked c.args.self.now.memory.now c.args.at (length c.args.buffer.now)
    (omega (arith, c.requires, whole-within (length c.args.self.now.memory.now))))
