use Rattle.laws.proofs.Counting.{count_law}
use Rattle.laws.proofs.count_law.Goals as goal

pub returns : goal.returns
returns g c = count_law _
