use Rattle.std.proofs.Common.{◌∙◌, arith}
use Rattle.model.specs.Geometry.{desktop}
use Rattle.laws.specs.Reading.{next_of}
use Rattle.pool.specs.View.{state_of}
use Rattle.pool.specs.Pairings.{meaning_of}
use Rattle.verdicts.proofs.Lengths.{read_same, found, passed, none_found}
use Rattle.verdicts.proofs.readings.longest_read.Goals as goal

pub loop-count-preserved : goal.loop-count-preserved
loop-count-preserved g c =
    let meaning = meaning_of g.P.Pairing.pairs g.P.Pairing.next in
    let answers = next_of desktop meaning (state_of g.B.Bank.model c.args.pool.now) in
    let l = c.args.label in
    let n = c.loop-count.count in
    let inv = c.loop-count.invariant in
    let read = c.in_ok-read_start in
    let reads = read_same meaning l n inv.0 read.ensures.bytes in
    (c.read_start.ensures.same ∙ inv.0, passed answers l 512 n inv.1 (omega (arith, c.loop-count-test.true)) read.field-0 reads c.if-is_some.ensures)

pub returns-clause-length : goal.returns-clause-length
returns-clause-length g c =
    let answers = next_of desktop (meaning_of g.P.Pairing.pairs g.P.Pairing.next) (state_of g.B.Bank.model c.args.pool.now) in
    none_found answers c.args.label 512 c.loop-count.count c.loop-count.invariant.1 (omega (arith, c.loop-count-test.false))

pub returns-then-is_some-clause-length : goal.returns-then-is_some-clause-length
returns-then-is_some-clause-length g c =
    let meaning = meaning_of g.P.Pairing.pairs g.P.Pairing.next in
    let answers = next_of desktop meaning (state_of g.B.Bank.model c.args.pool.now) in
    let l = c.args.label in
    let n = c.loop-count.count in
    let inv = c.loop-count.invariant in
    let read = c.in_ok-read_start in
    let reads = read_same meaning l n inv.0 read.ensures.bytes in
    found answers l 512 n inv.1 (omega (arith, c.loop-count-test.true)) read.field-0 reads c.if-is_some.ensures
