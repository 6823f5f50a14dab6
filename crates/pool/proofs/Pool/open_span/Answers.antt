use Rattle.model.proofs.Slots.{fresh-serves}
use Rattle.pool.proofs.Pool.open_span.Goals as goal

pub take_slot-requires : goal.take_slot-requires
take_slot-requires g c = fresh-serves c.class_of.result c.in_ok-home.home
