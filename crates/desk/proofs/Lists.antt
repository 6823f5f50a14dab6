-- The calls that a list of command bytes asks for, gathered from what stands in it.
use Rattle.std.proofs.Common.{◌≡◌, ℕ, zero, suc, ◌+◌, List, [], ◌∷◌, ◌++◌, map, Ok, Err, Result, sym, refl, ap, ◌∙◌}
use Rattle.refusal.specs.declared.Refusal.{Refusal}
use Rattle.model.specs.Runs as runs
use Rattle.playback.specs.declared.command.Command.{Command}
use Rattle.playback.specs.Format.{operands, decoded, called}
use Rattle.playback.specs.Found.{placed, found}
use Rattle.desk.specs.Commands.{commanding, commands, calls_in}

-- the commands among what stands in a list
abbrev pub with_command : Result Command Refusal → List Command → List Command
with_command (Err e) rest = rest
with_command (Ok command) rest = command ∷ rest

abbrev pub accepted : List (ℕ × Result Command Refusal) → List Command
accepted [] = []
accepted (item ∷ items) = with_command item.1 (accepted items)

accepted_so : (rest : ℕ → List Command) (later : ℕ → List (ℕ × Result Command Refusal)) → ((k : ℕ) → rest k ≡ accepted (later k)) → (at : ℕ) (d : Result Command Refusal) → commanding rest d ≡ accepted (placed later at d)
accepted_so rest later same at (Err e) = refl
accepted_so rest later same at (Ok command) = ap (λ commands. command ∷ commands) (same (operands command))

commands-accepted : (k at : ℕ) (bytes : List ℕ) → commands k bytes ≡ accepted (found k at bytes)
unfolding commands found
commands-accepted k at [] = refl
commands-accepted (suc k) at (byte ∷ bytes) = commands-accepted k (at + 1) bytes
commands-accepted zero at (byte ∷ bytes) =
    accepted_so (λ k. commands k bytes) (λ k. found k (at + 1) bytes) (λ k. commands-accepted k (at + 1) bytes) at (decoded (byte ∷ bytes))

-- before the first call is gathered
pub gathering-begins : (calls : List runs.Call) (left : List (ℕ × Result Command Refusal)) (bytes : List ℕ) → calls ≡ [] → left ≡ found 0 0 bytes → calls ++ map called (accepted left) ≡ calls_in bytes
gathering-begins calls left bytes none whole =
    ap (λ cs. cs ++ map called (accepted left)) none ∙ ap (λ items. map called (accepted items)) whole
    ∙ ap (map called) (sym (commands-accepted 0 0 bytes))
