use Rattle.std.proofs.Common.{◌+◌, ◌≤◌, ◌∷◌, length, drop, Err, sym, ap, ◌∙◌, arith, rules}
use Rattle.std.proofs.lemmas.List.{take_rest}
use Rattle.std.proofs.lemmas.Bool.{eqb-true, eqb-false}
use Rattle.playback.specs.Format.{operands, decoded}
use Rattle.playback.specs.Found.{left_in}
use Rattle.playback.proofs.Walk.{found-none, found-command, found-fault}
use Rattle.playback.proofs.list.CommandsIterator.next.Goals as goal

pub returns-in_err-rest-clause-steps : goal.returns-in_err-rest-clause-steps
returns-in_err-rest-clause-steps c =
    let it = c.args.self.now in
    let none = found-none it.at it.input.now (let e : length it.input.now ≤ it.at = grind (arith, c.in_err-rest.ensures.lookup) in e) in
    rw c.from_residual.ensures (none, none)

pub returns-then-is_empty-clause-steps : goal.returns-then-is_empty-clause-steps
returns-then-is_empty-clause-steps c =
    let it = c.args.self.now in
    let none = found-none it.at it.input.now (omega (arith, c.in_ok-rest.ensures.lookup.0.3, eqb-true (length c.in_ok-rest.rest.now) 0 (sym c.if-is_empty.ensures))) in
    (none, none)

pub returns-in-Ok-clause-steps : goal.returns-in-Ok-clause-steps
returns-in-Ok-clause-steps c =
    let it = c.args.self.now in
    let here = c.in_ok-rest.ensures.lookup.0.2 ∙ take_rest it.input.now it.at in
    found-command it.at it.input.now c.in-Ok.decoded.rest.now c.in-Ok.decoded.command
    (ap decoded (sym here) ∙ c.in-Ok.ensures.0) (c.in-Ok.ensures.1 ∙ ap (drop (1 + operands c.in-Ok.decoded.command)) here)

pub returns-in-Ok-clause-goes : goal.returns-in-Ok-clause-goes
returns-in-Ok-clause-goes c =
    let steps = ap length (returns-in-Ok-clause-steps c) in
    record { on = λ finite. (search rules, search rules, omega (arith, steps)); keeps = search rules; rests = λ finite. search rules }

pub returns-in-Err-clause-steps : goal.returns-in-Err-clause-steps
returns-in-Err-clause-steps c =
    let it = c.args.self.now in
    let lookup = c.in_ok-rest.ensures.lookup.0 in
    found-fault it.at it.input.now c.in-Err.refusal
    (omega (arith, lookup.3, eqb-false (length c.in_ok-rest.rest.now) 0 (sym c.if-is_empty.ensures)))
    (ap decoded (sym (lookup.2 ∙ take_rest it.input.now it.at)) ∙ c.in-Err.ensures)
    ∙ ap (λ left. (it.at, Err c.in-Err.refusal) ∷ left_in left) (sym c.end.ensures)

pub returns-in-Err-clause-goes : goal.returns-in-Err-clause-goes
returns-in-Err-clause-goes c =
    let steps = ap length (returns-in-Err-clause-steps c) in
    record { on = λ finite. (search rules, search rules, omega (arith, steps)); keeps = search rules; rests = λ finite. search rules }
