use Rattle.std.proofs.Common.{length, replicate, sym, ap, ◌∙◌}
use Rattle.std.proofs.lemmas.List.{length-replicate}
use Rattle.joining.specs.declared.kinds.Cell.TheVariants.{Empty}
use Rattle.copying.proofs.Slots.{front_of}
use Rattle.copying.proofs.copy_slot.Goals as goal

pub copy_through-requires-clause-destination : goal.copy_through-requires-clause-destination
copy_through-requires-clause-destination g c =
    let n = c.args.size in
    front_of n Empty c.requires ∙ ap (λ k. replicate k Empty) (sym (ap length (front_of n 0 c.requires) ∙ length-replicate n 0))
