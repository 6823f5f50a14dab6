use Rattle.std.proofs.Common.{◌≡◌, is_some, get_or, None, rules, sym, ap, ◌∙◌}
use Rattle.std.proofs.iter.runs.Made.{chains}
use Rattle.std.specs.List.{count_by}
use Rattle.model.specs.Calls.{tally}
use Rattle.tables.proofs.Places.{tally-table}
use Rattle.tables.proofs.rows.Rows.out.Goals as goal

pub returns : goal.returns
returns c =
    let places = c.self.inside.table.items in
    let counted : c.count.result ≡ count_by is_some places = search (rules, chains) in
    counted
    ∙ sym (tally-table None is_some places 64 c.self.invariant)
    ∙ ap (λ rows. tally 64 (λ f. is_some (get_or rows f None))) c.self.view_is
