use Rattle.std.proofs.Common.{refl}
use Rattle.model.proofs.Slots.{serves-free}
use Rattle.pool.proofs.Pool.new.Goals as goal

pub take_slot-requires : goal.take_slot-requires
take_slot-requires g c =
    serves-free c.class_of.result c.in-Some.row (c.in-Some.ensures.serves c.in-Some.frame c.in-Some.row refl)
