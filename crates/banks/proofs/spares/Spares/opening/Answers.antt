use Rattle.std.proofs.Common.{rules}
use Rattle.banks.proofs.Steps.{opening_list}
use Rattle.banks.proofs.spares.Spares.opening.Goals as goal

pub returns-clause-list : goal.returns-clause-list
returns-clause-list c = λ n few. opening_list n c.rising.result few (search rules) c.rising.ensures
