use Rattle.std.proofs.Common.{[], ◌∷◌, ◌++◌, sym, ap, subst, ◌∙◌}
use Rattle.pairing.specs.Found.{Sound}
use Rattle.pairing.proofs.Marks.{sound_more}
use Rattle.pairing.proofs.proposal.Proposal.add.Goals as goal

pub invariant_of-self : goal.invariant_of-self
invariant_of-self c =
    let before = c.self.inside.pairs.items in
    let pushed = c.push.ensures.items ∙ ap (λ pair. before ++ pair ∷ []) c.pair_of.ensures in
    subst (Sound c.self.inside.masks.now c.push.new.self.items) (sym c.mark.ensures)
    (sound_more c.self.view_is c.self.invariant c.requires.fair c.requires.free c.push.new.self.items pushed)
