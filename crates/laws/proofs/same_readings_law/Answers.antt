use Rattle.laws.proofs.Readings.{same_readings_law}
use Rattle.laws.proofs.same_readings_law.Goals as goal

pub returns : goal.returns
returns g c = same_readings_law _ _
