use Rattle.std.proofs.Common.{ℕ, Bool, not, unwrap_or, refl, sym, ap, ◌∙◌, rules}
use borrow.Author.Tests.{tests}
use Rattle.std.proofs.lemmas.Iterator.{YieldsList-from_range}
use Rattle.std.proofs.lemmas.Iterator.Adapters.{option_map_id}
use Rattle.std.proofs.lemmas.Iterator.Consumers.{YieldsList-from_filter, nth_from_yields_List}
use Rattle.std.proofs.lemmas.Option.{unwrap_or-slice_get}
use Rattle.std.specs.List.{filter, range_with_len}
use Rattle.model.specs.Geometry.{slot_size}
use Rattle.model.specs.Masks.{bit, free_place, free_places}
use Rattle.tables.proofs.masks.free_slot.Goals as goal

pub returns-clause-slot : goal.returns-clause-slot
unfolding slot_size free_place free_places
returns-clause-slot c =
    let free : ℕ → Bool = λ s. not (bit c.args.mask s) in
    c.unwrap_or.ensures
    ∙ ap (λ o. unwrap_or o 0)
    (sym (option_map_id c.nth.result)
    ∙ nth_from_yields_List c.nth.result _ c.args.below c.nth.ensures.ran
    (YieldsList-from_filter _ free (YieldsList-from_range 0 64 64 c.filter.ensures.source refl) c.filter.ensures.closure (λ x b q k. search (rules, tests))))
    ∙ unwrap_or-slice_get (filter free (range_with_len 0 64)) c.args.below 0
