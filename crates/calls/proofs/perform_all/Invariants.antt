use Rattle.std.proofs.Common.{◌≡◌, map, take, drop, vec_items}
use Rattle.model.specs.Geometry.{desktop}
use Rattle.model.specs.Runs as runs
use Rattle.pool.specs.View.{state_of}
use Rattle.pool.specs.Pairings.{meaning_of}
use Rattle.calls.specs.Values.{call_of, answer_of, answered_by}
use Rattle.calls.proofs.Lists.{behind}
use Rattle.calls.proofs.perform_all.Given as goal

abbrev pub invariant-loop-call : goal.invariant-loop-call
invariant-loop-call g l =
    let meaning = meaning_of g.P.Pairing.pairs g.P.Pairing.next in
    let view = state_of g.B.Bank.model in
    (behind meaning (map answer_of (vec_items l.answers)) (answered_by meaning (map call_of (drop l.call-index l.calls)) (view l.pool))
    ≡ answered_by meaning (map call_of l.calls) (view l.initial.pool))
    × (view l.pool ≡ (runs.run desktop meaning (take l.call-index (map call_of l.calls)) (view l.initial.pool)).1)
    × runs.KnownLabels desktop (map call_of (take l.call-index l.calls))
