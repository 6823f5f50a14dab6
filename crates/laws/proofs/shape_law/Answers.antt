use Rattle.laws.proofs.Plays.{shape_law}
use Rattle.laws.proofs.shape_law.Goals as goal

pub returns : goal.returns
returns g c = shape_law _
