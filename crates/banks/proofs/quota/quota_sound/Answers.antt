use Rattle.banks.proofs.Limits.{quota_sound}
use Rattle.banks.proofs.quota.quota_sound.Goals as goal

pub returns : goal.returns
returns c = quota_sound
