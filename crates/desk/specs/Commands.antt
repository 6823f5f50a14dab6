-- The commands of a list of command bytes, and the calls that they ask for.
use Rattle.std.specs.Prelude.{ℕ, zero, suc, List, [], ◌∷◌, map, Ok, Err, Result}
use Rattle.refusal.specs.declared.Refusal.{Refusal}
use Rattle.model.specs.Runs.{Call}
use Rattle.playback.specs.declared.command.Command.{Command}
use Rattle.playback.specs.Format.{operands, decoded, called}

-- a command, and those after its operand bytes; a fault ends the list
abbrev pub commanding : (ℕ → List Command) → Result Command Refusal → List Command
commanding rest (Err e) = []
commanding rest (Ok command) = command ∷ rest (operands command)

-- the commands of the bytes, of which the first `left` belong to a command before them
unfoldable pub commands : ℕ → List ℕ → List Command
commands left [] = []
commands (suc left) (byte ∷ bytes) = commands left bytes
commands zero (byte ∷ bytes) = commanding (λ left. commands left bytes) (decoded (byte ∷ bytes))

-- the calls that a list of command bytes asks for, in order
abbrev pub calls_in : List ℕ → List Call
calls_in bytes = map called (commands 0 bytes)
