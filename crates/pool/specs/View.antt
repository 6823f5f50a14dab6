-- What a pool is, as its definition speaks of it, once it is known what its bank means.
use Rattle.bank.specs.Model.{BankState}
use Rattle.model.specs.State.{State}
use Rattle.tables.specs.Views.{labels_of, spans_of, rows_of}
use Rattle.pool.specs.declared.Pool.{Pool}

abbrev pub state_of : {B P : Type 0} → (B → BankState) → Pool B P → State P
state_of model p =
    record {
      labels = labels_of p.labels;
      spans = spans_of p.spans;
      rows = rows_of p.rows;
      draw = p.draws.state;
      pairing = p.pairing;
      bank = model p.bank;
    }
