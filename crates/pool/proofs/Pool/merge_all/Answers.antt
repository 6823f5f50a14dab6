use Rattle.std.proofs.Common.{◌∙◌, arith}
use Rattle.std.proofs.lemmas.Result.{err_from_is_err_and}
use Rattle.pairing.specs.declared.pairs.Pair.{Pair}
use Rattle.model.specs.Geometry.{desktop}
use Rattle.pool.proofs.Proposals.{merged-next, merged_stopped}
use Rattle.pool.proofs.Pool.merge_all.Goals as goal

none : Pair
none = record { left = 0; right = 0 }

pub loop-pair-preserved : goal.loop-pair-preserved
unfolding none
loop-pair-preserved g c =
    let inv = c.loop-pair.invariant in
    let few = c.in_ok-more.ensures.few in
    rw c.add-done.ensures (
      merged-next desktop _ _ _ none _ _ _ _ _ _ c.loop-pair-test.true
          c.frame_at.ensures c.frame_at-in-loop-pair.ensures c.in_ok-more.ensures.step
          ∙ inv.0,
      omega (arith, inv.1, few.0),
      omega (arith, inv.2, few.1),
    )

pub returns-in_err-more : goal.returns-in_err-more
unfolding none
returns-in_err-more g c =
    let p = err_from_is_err_and c.from_residual.result c.from_residual.ensures.1 in
    rw (p.1, p.2) (merged_stopped desktop _ _ _ none _ _ _ _ _ _ c.loop-pair-test.true
    c.frame_at.ensures c.frame_at-in-loop-pair.ensures c.in_err-more.ensures.step
    ∙ c.loop-pair.invariant.0)
