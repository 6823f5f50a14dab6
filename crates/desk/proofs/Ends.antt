-- What playing leaves is what the calls that the bytes ask for leave.
use Rattle.std.proofs.Common.{◌≡◌, ℕ, zero, suc, ◌+◌, ◌<◌, List, [], ◌∷◌, map, get_or, Ok, Err, Result, refl}
use Rattle.refusal.specs.declared.Refusal.{Refusal}
use Rattle.model.specs.Geometry.{Geometry, desktop}
use Rattle.model.specs.State.{State}
use Rattle.model.specs.Mesh.{Meaning}
use Rattle.model.specs.Runs as runs
use Rattle.playback.specs.declared.command.Command.{Command}
use Rattle.playback.specs.declared.line.Line.{Line}
use Rattle.playback.specs.Format.{operands, decoded, called}
use Rattle.playback.specs.Playing.{commanded, plays}
use Rattle.playback.proofs.Walk.{decoded-known}
use Rattle.desk.specs.Commands.{commanding, commands}

module _ {C : Type 0} (g : Geometry) (meaning : Meaning C) where
  -- after one command, or at a fault
  ends_so : (rest : ℕ → State C → List Line × State C) (later : ℕ → List Command) → ((k : ℕ) (t : State C) → (rest k t).1 ≡ (runs.run g meaning (map called (later k)) t).1) → (at : ℕ) (d : Result Command Refusal) (s : State C) → (commanded g meaning rest at d s).1 ≡ (runs.run g meaning (map called (commanding later d)) s).1
  ends_so rest later same at (Err e) s = refl
  ends_so rest later same at (Ok command) s = same (operands command) (runs.step g meaning (called command) s).1

  pub plays-end : (k at : ℕ) (bytes : List ℕ) (s : State C) → (plays g meaning k at bytes s).1 ≡ (runs.run g meaning (map called (commands k bytes)) s).1
  unfolding plays commands
  plays-end k at [] s = refl
  plays-end (suc k) at (byte ∷ bytes) s = plays-end k (at + 1) bytes s
  plays-end zero at (byte ∷ bytes) s =
      ends_so (λ k t. plays g meaning k (at + 1) bytes t) (λ k. commands k bytes) (λ k t. plays-end k (at + 1) bytes t) at (decoded (byte ∷ bytes)) s

known_so : (later : ℕ → List Command) → ((k : ℕ) → runs.KnownLabels desktop (map called (later k))) → (d : Result Command Refusal) → ((c : Command) → d ≡ Ok c → runs.KnownLabel desktop (called c)) → runs.KnownLabels desktop (map called (commanding later d))
known_so later rest (Err e) here = tt
known_so later rest (Ok command) here = (here command refl, rest (operands command))

-- the labels of the calls are single bytes
pub calls-known : (k : ℕ) (bytes : List ℕ) → ((i : ℕ) → get_or bytes i 0 < 256) → runs.KnownLabels desktop (map called (commands k bytes))
unfolding commands
calls-known k [] small = tt
calls-known (suc k) (byte ∷ bytes) small = calls-known k bytes (λ i. small (suc i))
calls-known zero (byte ∷ bytes) small =
    known_so (λ k. commands k bytes) (λ k. calls-known k bytes (λ i. small (suc i))) (decoded (byte ∷ bytes))
    (λ c is. decoded-known (byte ∷ bytes) c small is)
