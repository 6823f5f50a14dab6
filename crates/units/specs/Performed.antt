-- A unit that was started and given a list of calls.
use Rattle.std.specs.Prelude.{◌≡◌, ℕ, ◌≤◌, List}
use Rattle.bank.specs.Model.{BankState, most_frames}
use Rattle.bank.specs.Sound.{Proper}
use Rattle.model.specs.Geometry.{desktop}
use Rattle.model.specs.State.{State, opened}
use Rattle.model.specs.Mesh.{Meaning}
use Rattle.model.specs.Runs.{Call, Answer, KnownLabels}
use Rattle.calls.specs.Values.{answered_by}

-- a pool was opened over a bank and a pairing, with a seed; it was given the calls, answered the answers, and is s now
pub record Performed {C : Type 0} (meaning : Meaning C) (bank : BankState) (condition : C) (seed : ℕ) (calls : List Call) (answers : List Answer) (s : State C) : Type 0 where
  pub run : (answers, s) ≡ answered_by meaning calls (opened desktop bank condition seed)
  pub few : bank.size ≤ most_frames
  pub proper : Proper bank.size bank.opening
  pub known : KnownLabels desktop calls
