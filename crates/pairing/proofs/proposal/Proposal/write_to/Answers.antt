use Rattle.pairing.proofs.Marks.{pairs_fit}
use Rattle.pairing.proofs.proposal.Proposal.write_to.Goals as goal

pub slice_bounds-copy_from_slice-end : goal.slice_bounds-copy_from_slice-end
slice_bounds-copy_from_slice-end c =
    (pairs_fit c.self.view_is c.self.invariant c.len-count.result c.args.buffer.now c.len-count.ensures.value c.requires).0
