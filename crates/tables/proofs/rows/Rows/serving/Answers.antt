use Rattle.std.proofs.Common.{◌≡◌, get_or, length, None, sym, ap, ◌∙◌, arith}
use Rattle.model.specs.Geometry.{desktop}
use Rattle.model.specs.Calls.{better, best_below}
use Rattle.model.proofs.Places.{best_none, best_more, best_serves}
use Rattle.tables.proofs.rows.Rows.serving.Goals as goal

pub loop-frame-init : goal.loop-frame-init
loop-frame-init c = sym (best_none desktop c.args.class _)

pub loop-frame-preserved : goal.loop-frame-preserved
loop-frame-preserved c =
    let rows = c.deref-row-items.result.now in
    let frame = c.loop-frame.frame in
    c.better-best.ensures
    ∙ ap (better desktop c.args.class frame (get_or rows frame None)) c.loop-frame.invariant
    ∙ sym (best_more desktop c.args.class rows frame)

pub returns : goal.returns
returns c =
    let rows = c.args.self.now in
    let same = c.deref-row-items.ensures.0 ∙ c.self.view_is in
    let all = ap length c.deref-row-items.ensures.0 ∙ c.self.invariant in
    let end : c.loop-frame.frame ≡ 64 = omega (arith, all, c.loop-frame-test.false, c.loop-frame.auto.frame-end) in
    let found =
    c.loop-frame.invariant
    ∙ ap (best_below desktop c.args.class c.deref-row-items.result.now) end
    ∙ ap (λ xs. best_below desktop c.args.class xs 64) same in
    record {
      best = found;
      serves = λ f row e. best_serves desktop c.args.class rows 64 f row (sym found ∙ e);
    }
