use Rattle.std.proofs.Common.{rules, tests, ◌+◌, ◌-◌, length, sym, ap, ◌∙◌, refl}
use Rattle.std.specs.List.{find, range_with_len}
use Rattle.std.proofs.lemmas.Iterator.{YieldsList-from_range}
use Rattle.std.proofs.lemmas.Iterator.Adapters.{option_map_id}
use Rattle.std.proofs.lemmas.Iterator.Search.{find_from_yields_List}
use Rattle.pairing.specs.Pairs.{takes}
use Rattle.pairing.proofs.proposal.Proposal.least_partner.Goals as goal

pub returns : goal.returns
returns c =
    let test = takes c.args.self.now.masks c.args.self.now.pairs c.args.place in
    sym (option_map_id c.find.result)
    ∙ find_from_yields_List test c.find.new.self _ c.find.result c.find.ensures.ran
    (YieldsList-from_range (c.args.place + 1) (length c.self.inside.masks.now) (length c.self.inside.masks.now - (c.args.place + 1)) (cc) refl)
    (λ x b q k. search (rules, tests))
    ∙ ap (λ f. find test (range_with_len (c.args.place + 1) (length f.masks - (c.args.place + 1)))) c.self.view_is
