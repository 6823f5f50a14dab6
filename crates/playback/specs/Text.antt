-- How lines are written.
use Rattle.std.specs.Prelude.{ℕ, cond, List, ◌++◌, codes, decimal}
use Rattle.std.proofs.Math.Utf8.{encode}
use Rattle.refusal.specs.declared.Refusal.{Refusal}
use Rattle.refusal.specs.declared.Refusal.TheVariants.{Size, Class, Address as AddressPast, Command as UnknownLetter, Cut, Edge, Row, Clash, Taken, Absent, Past, Spans, Frames, Stray, NotOut}
use Rattle.playback.specs.declared.line.Layer.{Layer}
use Rattle.playback.specs.declared.line.Layer.TheVariants.{Playback, Pool, Bank}
use Rattle.playback.specs.declared.line.Outcome.{Outcome}
use Rattle.playback.specs.declared.line.Outcome.TheVariants.{Made, Written, Byte, Address, Freed, Merged, Counted, Refused}
use Rattle.playback.specs.declared.line.Line.{Line}

-- the number of a refusal
abbrev pub number_of : Refusal → ℕ
number_of Size = 1
number_of Class = 2
number_of AddressPast = 3
number_of UnknownLetter = 4
number_of Cut = 5
number_of Edge = 6
number_of Row = 7
number_of Clash = 8
number_of Taken = 9
number_of Absent = 10
number_of Past = 11
number_of Spans = 12
number_of Frames = 13
number_of Stray = 14
number_of NotOut = 15

-- the number of a layer
abbrev pub layer_number : Layer → ℕ
layer_number Playback = 0
layer_number Pool = 1
layer_number Bank = 2

-- an answer: numbers in decimal, parted by slashes; a refusal: an exclamation mark, its layer, a dot and its number
abbrev pub outcome_text : Outcome → List ℕ
outcome_text (Made made) = decimal made.address ++ (codes "/" ++ decimal (cond made.opened 1 0))
outcome_text (Written n) = decimal n
outcome_text (Byte b) = decimal b
outcome_text (Address a) = decimal a
outcome_text (Freed emptied) = decimal (cond emptied 1 0)
outcome_text (Merged meshed) = decimal meshed.merges ++ (codes "/" ++ decimal meshed.bytes)
outcome_text (Counted counts) =
    decimal counts.frames ++ (codes "/" ++ (decimal counts.spans ++ (codes "/" ++ decimal counts.labels)))
outcome_text (Refused fault) =
    codes "!" ++ (decimal (layer_number fault.layer) ++ (codes "." ++ decimal (number_of fault.refusal)))

-- a line: byte place, letter, answer and frames out, parted by spaces
abbrev pub line_text : Line → List ℕ
line_text line =
    decimal line.at ++ (codes " " ++ (encode line.letter ++ (codes " " ++ (outcome_text line.outcome ++ (codes " " ++ decimal line.frames)))))
