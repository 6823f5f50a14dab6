-- How a listing is written: the header, and a line for each command.
use Rattle.std.specs.Prelude.{ℕ, List, ◌++◌, codes}
use Rattle.std.specs.List.{flat_map}
use Rattle.playback.specs.declared.line.Line.{Line}
use Rattle.playback.specs.Text.{line_text}

-- a line, and the newline that ends it
abbrev pub ended : Line → List ℕ
ended line = line_text line ++ codes "\n"

unfoldable pub transcript : List Line → List ℕ
transcript lines = codes "at cmd answer frames\n" ++ flat_map ended lines
