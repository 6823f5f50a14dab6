use Rattle.std.proofs.Common.{◌≡◌, ◌+◌, ◌-◌, ◌≤◌, length, take, drop, ap, ◌∙◌, arith, length-drop, length-take}
use Rattle.banks.proofs.Stretches.{zeros, length-zeros, part_bytes, whole-within}
use Rattle.banks.proofs.flat.FlatMemoryStore.clear.Goals as goal

pub returns-clause-bytes : goal.returns-clause-bytes
returns-clause-bytes c =
    let xs = c.args.self.now.memory.now in
    let n = c.args.count in
    let o = c.args.at in
    let count = length-zeros n in
    let room : o + length (zeros n) ≤ length xs = omega (arith, c.requires, whole-within (length xs)) in
    let size : o + n - o ≡ length (zeros n) = omega arith in
    let part : length (take (o + n - o) (drop o xs)) ≡ n = simp (length-take, length-drop) (omega arith) in
    let filled = c.fill.ensures.after (λ y e. e) ∙ ap zeros part in
    part_bytes xs (zeros n) c.fill.new.self o (o + n - o) room filled size
