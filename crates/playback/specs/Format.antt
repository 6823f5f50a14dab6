-- The command format: one letter, and then operands of fixed widths, high byte first.
use Rattle.std.specs.Prelude.{◌≡◌, ℕ, ◌+◌, ◌*◌, cond, List, [], ◌∷◌, length, drop, replicate, Ok, Err, Result, ◌==◌, nat_le, slice_index}
use Rattle.refusal.specs.declared.Refusal.{Refusal}
use Rattle.refusal.specs.declared.Refusal.TheVariants.{Command as UnknownLetter, Cut}
use Rattle.playback.specs.declared.command.Command.{Command}
use Rattle.playback.specs.declared.command.Command.TheVariants.{New, Write, Read, Fetch, Place, Delete, Mesh, Count}
use Rattle.playback.specs.declared.command.Decoded.{Decoded}
use Rattle.model.specs.Runs as runs

-- a number of two bytes
abbrev pub two_bytes : ℕ → ℕ → ℕ
two_bytes high low = high * 256 + low

-- a number of three bytes
abbrev pub three_bytes : ℕ → ℕ → ℕ → ℕ
three_bytes high middle low = high * 65536 + middle * 256 + low

-- how many operand bytes follow a command's letter
abbrev pub operands : Command → ℕ
operands (New label length) = 3
operands (Write label offset count value) = 6
operands (Read label offset) = 3
operands (Fetch address) = 3
operands (Place label) = 1
operands (Delete label) = 1
operands (Mesh class) = 1
operands Count = 0

-- a command, if its operands are all there
abbrev pub whole : List ℕ → Command → Result Command Refusal
whole bytes command = cond (nat_le (operands command) (length bytes)) (Ok command) (Err Cut)

-- each letter's command with its operands, the first of the bytes
abbrev pub new_command : List ℕ → Command
new_command bytes = New (slice_index bytes 0) (two_bytes (slice_index bytes 1) (slice_index bytes 2))

abbrev pub write_command : List ℕ → Command
write_command bytes =
    Write (slice_index bytes 0) (two_bytes (slice_index bytes 1) (slice_index bytes 2)) (two_bytes (slice_index bytes 3) (slice_index bytes 4)) (slice_index bytes 5)

abbrev pub read_command : List ℕ → Command
read_command bytes = Read (slice_index bytes 0) (two_bytes (slice_index bytes 1) (slice_index bytes 2))

abbrev pub fetch_command : List ℕ → Command
fetch_command bytes = Fetch (three_bytes (slice_index bytes 0) (slice_index bytes 1) (slice_index bytes 2))

abbrev pub place_command : List ℕ → Command
place_command bytes = Place (slice_index bytes 0)

abbrev pub delete_command : List ℕ → Command
delete_command bytes = Delete (slice_index bytes 0)

abbrev pub mesh_command : List ℕ → Command
mesh_command bytes = Mesh (slice_index bytes 0)

-- the command of a letter: N, W, R, F, P, D, M or C
abbrev pub lettered : ℕ → List ℕ → Result Command Refusal
lettered letter bytes =
    cond (letter == 78) (whole bytes (new_command bytes))
    (cond (letter == 87) (whole bytes (write_command bytes))
    (cond (letter == 82) (whole bytes (read_command bytes))
    (cond (letter == 70) (whole bytes (fetch_command bytes))
    (cond (letter == 80) (whole bytes (place_command bytes))
    (cond (letter == 68) (whole bytes (delete_command bytes))
    (cond (letter == 77) (whole bytes (mesh_command bytes))
    (cond (letter == 67) (Ok Count) (Err UnknownLetter))))))))

-- the command that a list begins with
abbrev pub decoded : List ℕ → Result Command Refusal
decoded [] = Err UnknownLetter
decoded (letter ∷ bytes) = lettered letter bytes

-- r is the answer a, with the bytes of the list after the command, of which k stand before its operands
abbrev pub Decodes : ℕ → List ℕ → Result Command Refusal → Result Decoded Refusal → Type 0
Decodes k bytes a (Ok d) = (a ≡ Ok d.command) × (d.rest.now ≡ drop (k + operands d.command) bytes)
Decodes k bytes a (Err e) = a ≡ Err e

-- the call that a command asks for; W writes copies of its value, and R and F ask for one byte
abbrev pub called : Command → runs.Call
called (New label length) = runs.New label length
called (Write label offset count value) = runs.Write label offset (replicate count value)
called (Read label offset) = runs.Read label offset 1
called (Fetch address) = runs.Fetch address 1
called (Place label) = runs.Place label
called (Delete label) = runs.Delete label
called (Mesh class) = runs.Mesh class
called Count = runs.Count

-- the code of a command's letter
abbrev pub letter_of : Command → ℕ
letter_of (New label length) = 78
letter_of (Write label offset count value) = 87
letter_of (Read label offset) = 82
letter_of (Fetch address) = 70
letter_of (Place label) = 80
letter_of (Delete label) = 68
letter_of (Mesh class) = 77
letter_of Count = 67
