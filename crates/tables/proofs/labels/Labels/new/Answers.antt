use Rattle.std.proofs.Common.{None}
use Rattle.tables.proofs.Views.{read-replicate}
use Rattle.tables.proofs.labels.Labels.new.Goals as goal

pub returns : goal.returns
returns c = read-replicate None 256
