use Rattle.std.proofs.Common.{rules}
use Rattle.banks.proofs.Steps.{first_list}
use Rattle.banks.proofs.spares.Spares.put_first.Goals as goal

pub returns-clause-list : goal.returns-clause-list
returns-clause-list c = λ n on. first_list n c.args.frame c.args.self.now.head c.args.self.now.links (search rules) on
