use Rattle.laws.proofs.Plays.{refusal_law}
use Rattle.laws.proofs.refusal_law.Goals as goal

pub returns : goal.returns
returns g c = refusal_law _
