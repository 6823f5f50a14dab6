use Rattle.std.proofs.Common.{◌≡◌, ◌+◌, ◌-◌, ◌≤◌, length, arith}
use Rattle.banks.proofs.Stretches.{part_bytes, whole-within}
use Rattle.banks.proofs.flat.FlatMemoryStore.write.Goals as goal

pub returns-clause-bytes : goal.returns-clause-bytes
returns-clause-bytes c =
    let xs = c.args.self.now.memory.now in
    let bs = c.args.buffer.now in
    let o = c.args.at in
    let room : o + length bs ≤ length xs = omega (arith, c.requires, whole-within (length xs)) in
    let size : o + length bs - o ≡ length bs = omega arith in
    part_bytes xs bs c.copy_from_slice.new.self o (o + length bs - o) room c.copy_from_slice.ensures.after size
