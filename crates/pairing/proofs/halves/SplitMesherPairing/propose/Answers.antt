use Rattle.std.proofs.Common.{◌/◌, [], length, sym, ap, ◌∙◌, subst}
use Rattle.pairing.specs.Halves.{pass, Order}
use Rattle.pairing.specs.Split.{order_of_shuffle}
use Rattle.pairing.proofs.Marks.{turn_more}
use Rattle.pairing.proofs.halves.SplitMesherPairing.propose.Goals as goal

pub offer_pass-requires : goal.offer_pass-requires
offer_pass-requires c =
    let n = length c.args.masks.now in
    let order = c.shuffled_places-order.result.items in
    let proper = subst (Order n) (sym c.shuffled_places-order.ensures.order) (order_of_shuffle n _) in
    subst (Order (length c.loop-shift.found.masks)) (sym c.deref.ensures.0)
    (subst (λ f. Order (length f.masks) order) (sym c.loop-shift.invariant) proper)

pub loop-shift-preserved : goal.loop-shift-preserved
loop-shift-preserved c =
    let found = c.loop-shift.found in
    turn_more (λ ms ps shift. pass ms c.shuffled_places-order.result.items (length ms / 2) ps shift)
    c.args.masks.now [] c.loop-shift.shift c.loop-shift.invariant
    (c.offer_pass.ensures
    ∙ ap (λ order. record found { pairs = pass found.masks order (length found.masks / 2) found.pairs c.loop-shift.shift }) c.deref.ensures.0)
