use Rattle.std.proofs.Common.{◌≡◌, ◌-◌, sym, ap, ◌∙◌, subst, arith}
use Rattle.std.specs.List.Sorted.{IsPermutation}
use Rattle.draws.specs.Shuffle.{shuffled, shuffled_from}
use Rattle.draws.proofs.Turns.{shuffled_more, shuffled_same}
use Rattle.draws.proofs.order.shuffle.Goals as goal

pub loop-i-preserved : goal.loop-i-preserved
loop-i-preserved g c =
    shuffled_more (c.loop-i.i - 1) c.loop-i.row c.exchange.new.row c.loop-i.draws.state c.exchange.new.draws.state
    (omega arith) c.exchange.ensures.state c.exchange.ensures.row
    ∙ c.loop-i.invariant

pub returns : goal.returns
returns g c =
    let end : c.loop-i.i - 1 ≡ 0 = omega arith in
    let whole : (c.loop-i.row, c.loop-i.draws.state) ≡ shuffled c.args.row.now c.args.draws.now.state =
    sym (ap (λ n. shuffled_from n c.loop-i.row c.loop-i.draws.state) end) ∙ c.loop-i.invariant in
    record {
      exchanges = whole;
      same = subst (IsPermutation c.args.row.now) (sym (ap (λ p. p.0) whole)) (shuffled_same c.args.row.now c.args.draws.now.state);
    }
