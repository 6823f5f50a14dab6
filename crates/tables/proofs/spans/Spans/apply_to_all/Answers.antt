use Rattle.std.proofs.Common.{ℕ, List, ◌++◌, map, get_or, set, drop, ap, ◌∙◌, length-set, arith}
use Rattle.std.proofs.lemmas.List.Edits.{map_over_more}
use Rattle.std.proofs.lemmas.List.{take_all, drop_all, append-nil, get_or_default}
use Rattle.model.specs.declared.Span.{Span}
use Rattle.model.specs.declared.Span.TheVariants.{Idle}
use Rattle.model.specs.State.{after}
use Rattle.tables.proofs.Views.{read-map}
use Rattle.tables.proofs.spans.Spans.apply_to_all.Goals as goal

pub loop-span-preserved : goal.loop-span-preserved
loop-span-preserved c =
    let spans = c.loop-span.span-items in
    let i = c.loop-span.span-index in
    let inv = c.loop-span.invariant in
    let here = get_or spans i Idle in (
      length-set spans i _ ∙ inv.0,
      ap (set spans i) c.apply.ensures
          ∙ map_over_more (after c.args.event) c.args.self.now.table spans i here (omega arith) inv.1
          (get_or_default spans i Idle here (omega (arith, inv.0))),
    )

pub returns : goal.returns
returns c =
    let spans = c.args.self.now.table in
    let i = c.loop-span.span-index in
    let changed = after c.args.event in
    let reads : List Span → ℕ → Span = λ table h. get_or table h Idle in
    ap reads
    (c.loop-span.invariant.1
    ∙ ap (λ front. map changed front ++ drop i spans) (take_all i spans (omega arith))
    ∙ ap (λ rest. map changed spans ++ rest) (drop_all i spans (omega arith))
    ∙ append-nil (map changed spans))
    ∙ read-map Idle changed spans c.requires
