-- What a unit was started with, the calls that it was given, its answers and what it is now, as one value; and the promises
-- of units, said of it.
use Rattle.std.specs.Prelude.{List, map, vec_items}
use Rattle.bank.specs.Model.{BankState}
use Rattle.model.specs.State.{State}
use Rattle.model.specs.Mesh.{Meaning}
use Rattle.model.specs.Runs.{Answer, History, told}
use Rattle.laws.specs.Reading.{Reading}
use Rattle.pool.specs.View.{state_of}
use Rattle.calls.specs.declared.Call.{Call}
use Rattle.calls.specs.Values.{call_of, answer_of}
use Rattle.units.specs.declared.Setup.{Setup}
use Rattle.units.specs.declared.Unit.{Unit as Started}
use Rattle.units.specs.Performed.{Performed}
use Rattle.units.specs.Promises.{Start, start_with, heard, Kept, Agree}

-- a start with its calls, the answers to them, and the pool as it is now
pub record Performance (C : Type 0) : Type 0 where
  pub start : Start C
  pub answers : List Answer
  pub now : State C

-- the performance of a unit, once it is known what its pairing and its bank mean
abbrev pub performance : {B P : Type 0} → Meaning P → (B → BankState) → Setup B P → List Call → Started B P → Performance P
performance meaning model setup calls u =
    record {
      start = start_with meaning (model setup.bank) setup.pairing setup.seed (map call_of calls);
      answers = map answer_of (vec_items u.answers);
      now = state_of model u.pool;
    }

module _ {C : Type 0} (p : Performance C) where
  -- the calls, each with its answer
  abbrev pub history_of : History
  history_of = told p.start.calls p.answers

  -- what is read of the unit, label for label
  abbrev pub heard_in : Reading
  heard_in = heard p.start.meaning history_of p.now

  -- the answers and the pool are exactly as defined
  abbrev pub AsDefined : Type 0
  AsDefined = Performed p.start.meaning p.start.bank p.start.condition p.start.seed p.start.calls p.answers p.now

  -- the laws of one unit hold
  abbrev pub KeepsLaws : Type 0
  KeepsLaws = Kept p.start.meaning history_of p.now

-- the laws of two units hold
abbrev pub KeepLawsOfTwo : {C D : Type 0} → Performance C → Performance D → Type 0
KeepLawsOfTwo p q = Agree p.start (history_of p) p.now q.start (history_of q) q.now
