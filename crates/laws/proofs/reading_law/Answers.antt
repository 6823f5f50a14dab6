use Rattle.laws.proofs.Readings.{reading_law}
use Rattle.laws.proofs.reading_law.Goals as goal

pub returns : goal.returns
returns g c = reading_law _
