use Rattle.std.proofs.Common.{get_or, set, Ok, unwrap_or, ◌∙◌, arith, ap}
use Rattle.joining.proofs.Places.{over_more, over_all, answers_joined}
use Rattle.joining.proofs.rows.write_joined.Goals as goal

pub loop-i-preserved : goal.loop-i-preserved
loop-i-preserved g c =
    let here = get_or c.loop-i.first c.loop-i.i c.index-first-i.result in
    ap (set c.loop-i.first c.loop-i.i) (c.unwrap_or.ensures ∙ ap (λ o. unwrap_or o here) c.join.ensures)
    ∙ over_more g.T.Join.joined c.args.first.now c.args.second.now c.loop-i.first c.loop-i.i
    c.index-first-i.result c.index-second-i.result c.requires.same (omega arith) c.loop-i.invariant c.index-second-i.is

pub returns : goal.returns
returns g c =
    let is = over_all g.T.Join.joined c.args.first.now c.args.second.now c.loop-i.first c.loop-i.i (omega arith) c.loop-i.invariant in
    (λ i. (Ok tt, is i)) ∙ answers_joined g.T.Join.joined c.args.first.now c.args.second.now c.requires.same c.requires.joins
