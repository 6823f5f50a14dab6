use Rattle.laws.proofs.Frames.{frame_law}
use Rattle.laws.proofs.frame_law.Goals as goal

pub returns : goal.returns
returns g c = frame_law _ _
