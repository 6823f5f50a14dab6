-- What playing a list of command bytes answers, line by line, and leaves.
use Rattle.std.specs.Prelude.{ℕ, zero, suc, ◌+◌, List, [], ◌∷◌, Ok, Err, Result, slice_index}
use Rattle.refusal.specs.declared.Refusal.{Refusal}
use Rattle.refusal.specs.declared.Refusal.TheVariants.{Size, Class, Address as AddressPast, Command as UnknownLetter, Cut, Edge, Row, Clash, Taken, Absent, Past, Spans, Frames, Stray, NotOut}
use Rattle.model.specs.Geometry.{Geometry}
use Rattle.model.specs.State.{State}
use Rattle.model.specs.Mesh.{Meaning}
use Rattle.model.specs.Calls.{count}
use Rattle.model.specs.Runs as runs
use Rattle.playback.specs.declared.command.Command.{Command}
use Rattle.playback.specs.declared.line.Layer.{Layer}
use Rattle.playback.specs.declared.line.Layer.TheVariants.{Playback, Pool, Bank}
use Rattle.playback.specs.declared.line.Outcome.{Outcome}
use Rattle.playback.specs.declared.line.Outcome.TheVariants.{Made, Written, Byte, Address, Freed, Merged, Counted, Refused}
use Rattle.playback.specs.declared.line.Line.{Line}
use Rattle.playback.specs.Format.{operands, decoded, called, letter_of}

-- the layer that finds a refusal: playback the faults of the command list, the bank that no frame is spare, and the
-- pool every other one that can be met here
abbrev pub layer_of : Refusal → Layer
layer_of Size = Pool
layer_of Class = Pool
layer_of AddressPast = Pool
layer_of UnknownLetter = Playback
layer_of Cut = Playback
layer_of Edge = Pool
layer_of Row = Pool
layer_of Clash = Pool
layer_of Taken = Pool
layer_of Absent = Pool
layer_of Past = Pool
layer_of Spans = Pool
layer_of Frames = Bank
layer_of Stray = Pool
layer_of NotOut = Pool

-- a refusal of the command at the byte place `at`
abbrev pub fault_of : ℕ → Refusal → Outcome
fault_of at e = Refused (record { at = at; layer = layer_of e; refusal = e })

-- what a line tells of an answer; of a read the byte
abbrev pub outcome_of : ℕ → runs.Answer → Outcome
outcome_of at (runs.to_new (Ok made)) = Made made
outcome_of at (runs.to_new (Err e)) = fault_of at e
outcome_of at (runs.to_write (Ok n)) = Written n
outcome_of at (runs.to_write (Err e)) = fault_of at e
outcome_of at (runs.to_read (Ok bytes)) = Byte (slice_index bytes 0)
outcome_of at (runs.to_read (Err e)) = fault_of at e
outcome_of at (runs.to_fetch (Ok bytes)) = Byte (slice_index bytes 0)
outcome_of at (runs.to_fetch (Err e)) = fault_of at e
outcome_of at (runs.to_place (Ok address)) = Address address
outcome_of at (runs.to_place (Err e)) = fault_of at e
outcome_of at (runs.to_delete (Ok emptied)) = Freed emptied
outcome_of at (runs.to_delete (Err e)) = fault_of at e
outcome_of at (runs.to_mesh (Ok meshed)) = Merged meshed
outcome_of at (runs.to_mesh (Err e)) = fault_of at e
outcome_of at (runs.to_count counts) = Counted counts

-- how many frames are out
abbrev pub frames_out : {C : Type 0} → Geometry → State C → ℕ
frames_out g s = (count g s).frames

-- the line of a command that was performed: its answer, and the frames out afterwards
abbrev pub told : {C : Type 0} → Geometry → ℕ → Command → runs.Answer × State C → Line
told g at command done =
    record {
      at = at;
      letter = letter_of command;
      outcome = outcome_of at done.0;
      frames = frames_out g done.1;
    }

-- the line, and the pool afterwards
abbrev pub told_with : {C : Type 0} → Geometry → ℕ → Command → runs.Answer × State C → Line × State C
told_with g at command done = (told g at command done, done.1)

-- the line of a fault in the command list itself; its letter is a question mark
abbrev pub broken : {C : Type 0} → Geometry → ℕ → Refusal → State C → Line
broken g at e s = record { at = at; letter = 63; outcome = fault_of at e; frames = frames_out g s }

-- one line more in front
abbrev pub before : {C : Type 0} → Line → List Line × State C → List Line × State C
before line rest = (line ∷ rest.0, rest.1)

-- a command that begins at the byte place `at`; `rest` plays on after so many operand bytes
abbrev pub commanded : {C : Type 0} → Geometry → Meaning C → (ℕ → State C → List Line × State C) → ℕ → Result Command Refusal → State C → List Line × State C
commanded g meaning rest at (Err e) s = (broken g at e s ∷ [], s)
commanded g meaning rest at (Ok command) s =
    let done = runs.step g meaning (called command) s in
    before (told g at command done) (rest (operands command) done.1)

-- the bytes are played from the place `at` on, of which the first `operands` belong to a command that was performed
unfoldable pub plays : {C : Type 0} → Geometry → Meaning C → ℕ → ℕ → List ℕ → State C → List Line × State C
plays g meaning left at [] s = ([], s)
plays g meaning (suc left) at (byte ∷ bytes) s = plays g meaning left (at + 1) bytes s
plays g meaning zero at (byte ∷ bytes) s =
    commanded g meaning (λ left t. plays g meaning left (at + 1) bytes t) at (decoded (byte ∷ bytes)) s

-- a whole list of command bytes
abbrev pub played : {C : Type 0} → Geometry → Meaning C → List ℕ → State C → List Line × State C
played g meaning bytes s = plays g meaning 0 0 bytes s
