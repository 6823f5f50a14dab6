use Rattle.std.proofs.Common.{◌+◌, ap, ◌∙◌, subst}
use Rattle.std.proofs.lemmas.List.{map_push}
use Rattle.std.proofs.lemmas.Result.{err_from_is_err_and}
use Rattle.model.specs.Geometry.{desktop}
use Rattle.model.specs.Runs as runs
use Rattle.pool.specs.View.{state_of}
use Rattle.pool.specs.Pairings.{meaning_of}
use Rattle.calls.specs.declared.Call.{Call}
use Rattle.calls.specs.Values.{call_of}
use Rattle.calls.proofs.Lists.{performed, ran_front, known_more}
use Rattle.calls.proofs.perform_all.Goals as goal

pub loop-call-preserved : goal.loop-call-preserved
loop-call-preserved g c =
    let meaning = meaning_of g.P.Pairing.pairs g.P.Pairing.next in
    let s = state_of g.B.Bank.model c.loop-call.pool in
    let item = c.call-item.result in
    let below = c.loop-call-test.true in
    let inv = c.loop-call.invariant in
    let is = c.in_ok-perform.ensures.done ∙ ap (λ (k : Call). runs.step desktop meaning (call_of k) s) c.call-item.is in
    rw (c.in_ok-push.ensures.items, map_push) (
      performed meaning call_of _ _ item below _ _ _ is _ _ inv.0,
      ran_front meaning call_of _ _ item below _ _ _ is _ inv.1,
      known_more call_of _ _ item below inv.2 (subst (λ (k : Call). runs.KnownLabel desktop (call_of k)) c.call-item.is c.perform.ensures.known),
    )

pub returns-in_err-push-clause-undone : goal.returns-in_err-push-clause-undone
returns-in_err-push-clause-undone g c =
    let meaning = meaning_of g.P.Pairing.pairs g.P.Pairing.next in
    let s = state_of g.B.Bank.model c.loop-call.pool in
    let is = c.in_ok-perform.ensures.done ∙ ap (λ (k : Call). runs.step desktop meaning (call_of k) s) c.call-item.is in
    let p = err_from_is_err_and c.from_residual-in_err-push.result c.from_residual-in_err-push.ensures.1 in
    rw p.1 (c.loop-call.call-index + 1, ran_front meaning call_of _ _ c.call-item.result c.loop-call-test.true _ _ _ is _ c.loop-call.invariant.1)
