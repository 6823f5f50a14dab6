use Rattle.std.proofs.Common.{◌≡◌, map}
use Rattle.std.specs.Slice.Iter.{iter_rest}
use Rattle.std.specs.Iterator.Adapters.{zip_first, zip_second}
use Rattle.laws.specs.Book.{addresses_after, first_address}
use Rattle.calls.specs.Values.{call_of, answer_of}
use Rattle.verdicts.specs.Hearing.{addresses_in}
use Rattle.model.specs.Runs.{told}
use Rattle.verdicts.proofs.addresses.first_addresses.Given as goal

-- what is left of the history, from the addresses so far, makes the first addresses of all of it
abbrev pub invariant-loop-call : goal.invariant-loop-call
invariant-loop-call l =
    addresses_after (told (map call_of (iter_rest (zip_first l.call-iterator))) (map answer_of (iter_rest (zip_second l.call-iterator)))) (addresses_in l.firsts)
    ≡ first_address (told (map call_of l.calls) (map answer_of l.answers))
