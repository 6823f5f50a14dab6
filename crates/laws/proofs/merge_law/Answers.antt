use Rattle.laws.proofs.Plays.{merge_law}
use Rattle.laws.proofs.merge_law.Goals as goal

pub returns : goal.returns
returns g c = merge_law _
