use Rattle.std.proofs.Common.{◌≡◌, Bool, Option, length, None, arith, rules, sym, ◌∙◌}
use borrow.Author.Tests.{tests}
use Rattle.std.proofs.lemmas.Iterator.{YieldsList-from_slice}
use Rattle.std.proofs.lemmas.Iterator.Search.{position_from_yields_List}
use Rattle.model.specs.declared.Patch.{Patch}
use Rattle.model.specs.Geometry.{desktop}
use Rattle.model.specs.Calls.{owner, holds}
use Rattle.tables.proofs.Places.{first-table}
use Rattle.tables.proofs.labels.Labels.owner.Goals as goal

pub returns : goal.returns
unfolding owner
returns c =
    let table = c.args.self.now.table in
    let held : Option Patch → Bool = holds desktop c.args.address c.args.count in
    let cast : c.map.result ≡ c.position.result = search rules in
    let all : length table ≡ 256 = omega arith in
    cast
    ∙ position_from_yields_List held _ _ c.position.result c.position.ensures.ran (YieldsList-from_slice table cc) (λ x b q k. search (rules, tests))
    ∙ sym (first-table None held table 256 all)
