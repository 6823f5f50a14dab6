use Rattle.bank.proofs.Soundness.{grants_zeros}
use Rattle.bank.proofs.granted_reads_zeros.Goals as goal

pub returns : goal.returns
returns c = grants_zeros
