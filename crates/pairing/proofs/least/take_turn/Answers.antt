use Rattle.std.proofs.Common.{sym, ◌∙◌}
use Rattle.std.proofs.lemmas.Bool.{not-true}
use Rattle.pairing.specs.Pairs.{paired}
use Rattle.pairing.specs.Turns.{least_fair}
use Rattle.pairing.proofs.least.take_turn.Goals as goal

pub add-requires : goal.add-requires
add-requires c =
    let f = least_fair c.args.found.now.masks c.args.found.now.pairs c.args.place c.in-Some.other c.requires
    (sym c.least_partner.ensures ∙ c.in-Some.is) in
    record { fair = f.0; free = (not-true (paired c.args.place c.args.found.now.pairs) (sym c.if-is_free.ensures), f.1) }
