use Rattle.bank.proofs.Soundness.{reset_sound, stays_sound}
use Rattle.bank.proofs.soundness_stays.Goals as goal

pub returns : goal.returns
returns c = record { reset = reset_sound; calls = stays_sound }
