use Rattle.std.proofs.Common.{ℕ, ◌+◌, List, Ok, Err, sym, ap, ◌∙◌}
use Rattle.std.proofs.lemmas.Result.{err_from_is_err_and}
use Rattle.model.specs.Mesh.{copies}
use Rattle.copying.proofs.Slots.{left, all_left, copies-next, copies_passed, none_left}
use Rattle.copying.proofs.copy_slots.Goals as goal
use Rattle.copying.proofs.copy_slots.Goals.{then-is_occupied+in_ok-copy_slot, else-is_occupied}

pub loop-slot-init : goal.loop-slot-init
loop-slot-init g c =
    let a = c.args in
    ap (λ ps. copies a.size a.from a.to ps (g.B.Bank.model a.bank.now)) (all_left a.size a.from a.to a.mask)

pub loop-slot-preserved : goal.loop-slot-preserved
loop-slot-preserved g c =
    let a = c.args in
    let inv = c.loop-slot.invariant in
    let slot = c.loop-slot.slot in
    let model = g.B.Bank.model in
    let rest : ℕ → List ℕ = left a.size a.from a.to a.mask in
    let below = c.loop-slot-test.true in
    elim c.if-is_occupied.branch [
      | then-is_occupied+in_ok-copy_slot w ↦ ap (λ b. copies a.size a.from a.to (rest (slot + 1)) (model b)) w.bank-is
          ∙ copies-next a.size a.from a.to a.mask slot (model c.loop-slot.bank) (model w.copy_slot.new.bank) (Ok tt) below (sym w.if-is_occupied.ensures) w.in_ok-copy_slot.ensures
          ∙ inv
      | else-is_occupied w ↦ ap (λ b. copies a.size a.from a.to (rest (slot + 1)) (model b)) w.bank-is
          ∙ copies_passed a.size a.from a.to a.mask slot (model c.loop-slot.bank) below (sym w.if-is_occupied.ensures)
          ∙ inv
    ]

pub returns-clause-step : goal.returns-clause-step
returns-clause-step g c =
    let a = c.args in
    let end = none_left a.size a.from a.to a.mask c.loop-slot.slot c.loop-slot-test.false in
    ap (λ ps. copies a.size a.from a.to ps (g.B.Bank.model c.loop-slot.bank)) (sym end) ∙ c.loop-slot.invariant

pub returns-in_err-copy_slot-clause-step : goal.returns-in_err-copy_slot-clause-step
returns-in_err-copy_slot-clause-step g c =
    let a = c.args in
    let model = g.B.Bank.model in
    let p = err_from_is_err_and c.from_residual.result c.from_residual.ensures.1 in
    rw (p.1, p.2)
    (copies-next a.size a.from a.to a.mask c.loop-slot.slot (model c.loop-slot.bank) (model c.copy_slot.new.bank) (Err c.in_err-copy_slot.field-0.0) c.loop-slot-test.true (sym c.if-is_occupied.ensures) c.in_err-copy_slot.ensures
    ∙ c.loop-slot.invariant)
