use Rattle.std.proofs.Common.{rules, tests, is_some, ◌∙◌}
use Rattle.std.proofs.lemmas.Iterator.{YieldsList-from_slice, YieldsList-from_zip}
use Rattle.std.proofs.lemmas.Iterator.Search.{all_from_yields_List}
use Rattle.joining.proofs.Places.{rows_join}
use Rattle.joining.proofs.rows.rows_join.Goals as goal

pub returns : goal.returns
returns g c =
    all_from_yields_List (λ p. is_some (g.T.Join.joined p.0 p.1)) c.all.new.self _ c.all.result c.all.ensures.ran
    (YieldsList-from_zip (YieldsList-from_slice c.args.first.now cc) (YieldsList-from_slice c.args.second.now cc))
    (λ x b q k. search (rules, tests))
    ∙ rows_join g.T.Join.joined c.args.first.now c.args.second.now c.requires
