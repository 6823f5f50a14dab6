use Rattle.bank.proofs.Soundness.{refusals_keep}
use Rattle.bank.proofs.refusals_keep.Goals as goal

pub returns : goal.returns
returns c = refusals_keep
