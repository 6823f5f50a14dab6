use Rattle.std.proofs.Common.{◌≡◌, take, string_bytes}
use Rattle.desk.specs.Transcript.{transcript}
use Rattle.desk.proofs.transcript.Given as goal

abbrev pub invariant-loop-line : goal.invariant-loop-line
invariant-loop-line l = string_bytes l.text ≡ transcript (take l.line-index l.lines)
