use Rattle.std.proofs.Common.{sym, ap, ◌∙◌}
use Rattle.model.specs.Geometry.{desktop}
use Rattle.model.specs.State.{State}
use Rattle.laws.specs.Reading.{next_of, by_fetch, longest_read}
use Rattle.pool.specs.View.{state_of}
use Rattle.pool.specs.Pairings.{meaning_of}
use Rattle.verdicts.specs.Hearing.{bytes_of}
use Rattle.verdicts.proofs.Lengths.{read_same, heard-is}
use Rattle.verdicts.proofs.readings.hear.Goals as goal

pub returns-clause-heard : goal.returns-clause-heard
returns-clause-heard g c =
    let meaning = meaning_of g.P.Pairing.pairs g.P.Pairing.next in
    let answers = next_of desktop meaning (state_of g.B.Bank.model c.args.pool.now) in
    let l = c.args.label in
    let n = c.in_ok-length.length in
    let one = c.read_start.ensures.same in
    let two = c.longest_read.ensures.same ∙ one in
    let three = c.read_start-2.ensures.same ∙ two in
    heard-is answers l c.args.first 512 n c.in_ok-read_start.field-0 (bytes_of c.in_ok-read.read) (bytes_of c.in_ok-fetched.fetched)
    c.in_ok-read_start.ensures.bytes (sym c.if-is_none.ensures)
    (c.in_ok-length.ensures.length ∙ ap (λ (s : State g.row.P.Denot). longest_read (next_of desktop meaning s) 512 l) one)
    (read_same meaning l n two c.in_ok-read.ensures.bytes)
    (c.in_ok-fetched.ensures.bytes ∙ ap (λ (s : State g.row.P.Denot). by_fetch (next_of desktop meaning s) c.args.first n) three)
