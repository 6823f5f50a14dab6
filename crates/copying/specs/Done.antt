-- An answer without its number.
use Rattle.std.specs.Prelude.{Ok, Err, Result}

abbrev pub done_of : {A E : Type 0} → Result A E → Result (Unit {0}) E
done_of (Ok a) = Ok tt
done_of (Err e) = Err e
