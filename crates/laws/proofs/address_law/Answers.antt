use Rattle.laws.proofs.Plays.{address_law}
use Rattle.laws.proofs.address_law.Goals as goal

pub returns : goal.returns
returns g c = address_law _
