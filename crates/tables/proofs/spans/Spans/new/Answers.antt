use Rattle.model.specs.declared.Span.TheVariants.{Idle}
use Rattle.tables.proofs.Views.{read-replicate}
use Rattle.tables.proofs.spans.Spans.new.Goals as goal

pub returns : goal.returns
returns c = read-replicate Idle 128
