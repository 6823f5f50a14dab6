use Rattle.std.proofs.Common.{map, ap, ◌∙◌}
use Rattle.worked.proofs.Lawful.{lawful_from}
use Rattle.pool.specs.Pairings.{meaning_of}
use Rattle.calls.specs.Values.{call_of, answered_by}
use Rattle.units.specs.Performance.{performance, AsDefined}
use Rattle.units.proofs.Promised.{kept}
use Rattle.units.proofs.start.Goals as goal

pub returns : goal.returns
returns g c =
    let meaning = meaning_of g.P.Pairing.pairs g.P.Pairing.next in
    let lawful = lawful_from g.P.Pairing.pairs g.P.Pairing.next g.met.P.Pairing.lawful in
    let opened = c.open-pool.ensures in
    let done = c.in_ok-answers.ensures in
    let whole : AsDefined (performance meaning g.B.Bank.model c.args.setup c.args.calls.now (record { pool = c.perform_all.new.pool; answers = c.in_ok-answers.answers })) =
    record {
      run = done.done ∙ ap (answered_by meaning (map call_of c.args.calls.now)) opened.opened;
      few = opened.few;
      proper = opened.proper;
      known = done.known;
    } in
    record { performed = whole; laws = kept lawful whole }
