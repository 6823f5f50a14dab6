use Rattle.bank.proofs.Soundness.{regrants}
use Rattle.bank.proofs.given_back_is_next.Goals as goal

pub returns : goal.returns
returns c = regrants
