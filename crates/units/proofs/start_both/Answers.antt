use Rattle.worked.proofs.Lawful.{lawful_from}
use Rattle.units.proofs.Promised.{agree}
use Rattle.units.proofs.start_both.Goals as goal

pub returns : goal.returns
returns g c =
    let one = lawful_from g.P.Pairing.pairs g.P.Pairing.next g.met.P.Pairing.lawful in
    let two = lawful_from g.Q.Pairing.pairs g.Q.Pairing.next g.met.Q.Pairing.lawful in
    let first = c.in_ok-first.ensures in
    let second = c.in_ok-second.ensures in
    record {
      first = first.performed;
      second = second.performed;
      first_laws = first.laws;
      second_laws = second.laws;
      both = agree one first.performed two second.performed;
    }
