use Rattle.std.proofs.Common.{length, sym, ◌∙◌}
use Rattle.pairing.proofs.Marks.{accepted_few, sound_none}
use Rattle.pairing.proofs.proposal.Proposal.new.Goals as goal

pub invariant_of-result : goal.invariant_of-result
invariant_of-result c =
    let few = accepted_few (length c.args.masks.now) c.args.room (sym c.is_accepted.ensures ∙ c.if-is_accepted.true) in
    sound_none c.args.masks.now c.new.result.items few c.new.ensures
