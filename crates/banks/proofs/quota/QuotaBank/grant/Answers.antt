use Rattle.banks.proofs.Limits.{quota_granted, quota_grant}
use Rattle.banks.proofs.quota.QuotaBank.grant.Goals as goal

pub returns-clause-step : goal.returns-clause-step
returns-clause-step g c =
    let counted = c.count_out.ensures in
    quota_granted g.B.Bank.model c.args.self.now c.count_out.new.self c.in_ok-frame.frame counted.limit counted.left
    (rw counted.below c.in_ok-frame.ensures.step)

pub returns-clause-quota : goal.returns-clause-quota
returns-clause-quota g c =
    let counted = c.count_out.ensures in
    quota_grant g.B.Bank.model c.args.self.now c.count_out.new.self c.in_ok-frame.frame counted.limit counted.left
    (rw counted.below c.in_ok-frame.ensures.step)
