use Rattle.std.proofs.Common.{◌≡◌, not, length, arith, rules, tests}
use Rattle.std.proofs.lemmas.Iterator.{YieldsList-from_slice, YieldsList-from_map}
use Rattle.std.proofs.lemmas.Iterator.Consumers.{YieldsList-at}
use Rattle.model.specs.declared.Span.TheVariants.{Idle}
use Rattle.model.specs.State.{is_idle}
use Rattle.tables.proofs.Places.{tally-fits, tally-sum}
use Rattle.tables.proofs.spans.Spans.taken.Goals as goal

pub sum-requires-clause-fits : goal.sum-requires-clause-fits
sum-requires-clause-fits c =
    tally-fits (λ span. not (is_idle span)) c.args.self.now.table
    (YieldsList-from_map _ _ (YieldsList-at c.map.ensures.source (YieldsList-from_slice _ cc)) c.map.ensures.closure (λ x r q k. search (rules, tests)))
    (omega arith)

pub returns : goal.returns
returns c =
    let all : length c.args.self.now.table ≡ 128 = omega arith in
    tally-sum (λ span. not (is_idle span)) c.args.self.now.table
    (YieldsList-from_map _ _ (YieldsList-at c.map.ensures.source (YieldsList-from_slice _ cc)) c.map.ensures.closure (λ x r q k. search (rules, tests)))
    Idle 128 c.sum.result all c.sum.ensures.ran
