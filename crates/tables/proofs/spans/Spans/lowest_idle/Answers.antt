use Rattle.std.proofs.Common.{◌≡◌, length, arith, rules, sym, ◌∙◌}
use borrow.Author.Tests.{tests}
use Rattle.std.proofs.lemmas.Iterator.{YieldsList-from_slice}
use Rattle.std.proofs.lemmas.Iterator.Search.{position_from_yields_List}
use Rattle.model.specs.declared.Span.TheVariants.{Idle}
use Rattle.model.specs.State.{is_idle}
use Rattle.model.specs.Calls.{lowest_idle}
use Rattle.tables.proofs.Places.{first-table}
use Rattle.tables.proofs.spans.Spans.lowest_idle.Goals as goal

pub returns-clause-found : goal.returns-clause-found
unfolding lowest_idle
returns-clause-found c =
    let table = c.args.self.now.table in
    let cast : c.map.result ≡ c.position.result = search rules in
    let all : length table ≡ 128 = omega arith in
    cast
    ∙ position_from_yields_List is_idle _ _ c.position.result c.position.ensures.ran (YieldsList-from_slice table cc) (λ x b q k. search (rules, tests))
    ∙ sym (first-table Idle is_idle table 128 all)
