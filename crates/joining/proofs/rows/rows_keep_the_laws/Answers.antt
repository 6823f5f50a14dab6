use Rattle.joining.proofs.Places.{rows_commute, rows_group, rows_leave}
use Rattle.joining.proofs.rows.rows_keep_the_laws.Goals as goal

pub returns : goal.returns
returns g c = (
  rows_commute g.T.Join.joined g.met.T.Join.commuting,
  rows_group g.T.Join.joined g.met.T.Join.grouping,
  rows_leave g.T.Join.joined g.T.Join.empty g.met.T.Join.leaving,
)
