use Rattle.worked.proofs.Lawful.{lawful_from}
use Rattle.worked.proofs.pairings_are_lawful.Goals as goal

pub returns : goal.returns
returns g c = lawful_from g.P.Pairing.pairs g.P.Pairing.next g.met.P.Pairing.lawful
