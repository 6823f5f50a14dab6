use Rattle.std.proofs.Common.{◌≡◌, ℕ, ◌+◌, Bool, true, false, List, Option, length, get_or, None, ap, ◌∙◌, arith, rules}
use Rattle.std.specs.List.{range_with_len, filter}
use Rattle.model.specs.declared.Row.{Row}
use Rattle.model.specs.Mesh.{of_class, listed}
use Rattle.tables.proofs.Places.{listed_more}
use Rattle.tables.proofs.rows.Rows.list.Goals as goal
use Rattle.tables.proofs.rows.Rows.list.Goals.{then-is_of_class, else-is_of_class}

pub loop-frame-preserved : goal.loop-frame-preserved
loop-frame-preserved c =
    let test : ℕ → Bool = λ f. of_class c.args.class (get_or c.deref-row-items.result.now f None) in
    let inv = c.loop-frame.invariant in
    elim c.if-is_of_class.branch [
      | then-is_of_class w ↦ (
        listed_more test c.loop-frame.frame _ _ true inv.0 (search rules) (ap (λ v. v.items) w.frames-is ∙ w.push.ensures.items),
        let new : length c.if-is_of_class.frames.items ≡ length c.loop-frame.frames.items + 1 = ap (λ v. length v.items) w.frames-is ∙ w.push.ensures.len in
            omega (arith, new, inv.1),
      )
      | else-is_of_class w ↦ (
        listed_more test c.loop-frame.frame _ _ false inv.0 (search rules) (search rules),
        let new : length c.if-is_of_class.frames.items ≡ length c.loop-frame.frames.items = ap (λ v. length v.items) w.frames-is in
            omega (arith, new, inv.1),
      )
    ]

pub returns-clause-frames : goal.returns-clause-frames
unfolding listed
returns-clause-frames c =
    let test : List (Option Row) → ℕ → Bool = λ rows f. of_class c.args.class (get_or rows f None) in
    let same = c.deref-row-items.ensures.0 ∙ c.self.view_is in
    let all = ap length c.deref-row-items.ensures.0 ∙ c.self.invariant in
    let end : c.loop-frame.frame ≡ 64 = omega (arith, all, c.loop-frame-test.false, c.loop-frame.auto.frame-end) in
    c.loop-frame.invariant.0
    ∙ ap (λ n. filter (test c.deref-row-items.result.now) (range_with_len 0 n)) end
    ∙ ap (λ rows. filter (test rows) (range_with_len 0 64)) same
