use Rattle.std.proofs.lemmas.Bool.Decides.{Decides-at}
use Rattle.verdicts.proofs.Equals.{heard_eq-Decides}
use Rattle.verdicts.proofs.readings.same_heard.Goals as goal

pub returns : goal.returns
returns c = Decides-at _ _ c.eq.ensures (heard_eq-Decides c.args.here.now c.args.there.now)
