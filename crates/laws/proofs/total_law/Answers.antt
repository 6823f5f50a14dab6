use Rattle.laws.proofs.Plays.{total_law}
use Rattle.laws.proofs.total_law.Goals as goal

pub returns : goal.returns
returns g c = total_law _
