-- What stands in a list of command bytes, each with the byte place where it begins.
use Rattle.std.specs.Prelude.{ℕ, zero, suc, ◌+◌, List, [], ◌∷◌, drop, Ok, Err, Result}
use Rattle.refusal.specs.declared.Refusal.{Refusal}
use Rattle.playback.specs.declared.command.Command.{Command}
use Rattle.playback.specs.declared.list.Commands.{Commands}
use Rattle.playback.specs.Format.{operands, decoded}

-- a command, and what stands after its operand bytes; a fault ends the list
abbrev pub placed : (ℕ → List (ℕ × Result Command Refusal)) → ℕ → Result Command Refusal → List (ℕ × Result Command Refusal)
placed rest at (Err e) = (at, Err e) ∷ []
placed rest at (Ok command) = (at, Ok command) ∷ rest (operands command)

-- what stands in the bytes from the place `at` on, of which the first `left` belong to a command before them
unfoldable pub found : ℕ → ℕ → List ℕ → List (ℕ × Result Command Refusal)
found left at [] = []
found (suc left) at (byte ∷ bytes) = found left (at + 1) bytes
found zero at (byte ∷ bytes) = placed (λ left. found left (at + 1) bytes) at (decoded (byte ∷ bytes))

-- what is left in a list of which some was taken
abbrev pub left_in : Commands → List (ℕ × Result Command Refusal)
left_in commands = found 0 commands.at (drop commands.at commands.input.now)
