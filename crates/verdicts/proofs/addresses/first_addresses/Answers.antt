use Rattle.std.proofs.Common.{◌≡◌, None, rules}
use Rattle.std.specs.Slice.Iter.{iter_rest}
use Rattle.std.specs.Iterator.Adapters.{zip_first, zip_second}
use Rattle.tables.proofs.Views.{read-replicate}
use Rattle.calls.specs.Values.{call_of, answer_of}
use Rattle.verdicts.proofs.Telling.{all_left, none_left}
use Rattle.verdicts.proofs.addresses.first_addresses.Goals as goal

pub loop-call-init : goal.loop-call-init
loop-call-init c =
    let pairs = c.into_iter-call-iterator.result in
    let calls : iter_rest (zip_first pairs) ≡ c.args.calls.now = search rules in
    let answers : iter_rest (zip_second pairs) ≡ c.args.answers.now = search rules in
    all_left call_of answer_of pairs _ _ _ calls answers (read-replicate None 256)

pub returns : goal.returns
returns c =
    none_left call_of answer_of _ c.next.new.self _ _ _ c.in-None.is c.next.ensures.steps c.loop-call.invariant
