-- What is heard of a label, as a value of the code and as the laws have it.
use Rattle.std.specs.Prelude.{ℕ, List, Some, None, vec_items, Option, Vec, slice_index_or}
use Rattle.std.specs.declared.alloc.Global.{Global}
use Rattle.verdicts.specs.declared.readings.Heard.{Heard}
use Rattle.model.specs.Geometry.{desktop, longest}
use Rattle.model.specs.State.{State}
use Rattle.model.specs.Mesh.{Meaning}
use Rattle.laws.specs.Book.{Addresses}
use Rattle.laws.specs.Reading as reading

-- bytes that were answered, or none
abbrev pub bytes_of : Option (Vec ℕ Global) → Option (List ℕ)
bytes_of None = None
bytes_of (Some bytes) = Some (vec_items bytes)

abbrev pub parts_of : Heard → reading.Heard
parts_of heard = record { length = heard.length; read = bytes_of heard.read; fetched = bytes_of heard.fetched }

abbrev pub heard_of : Option Heard → Option reading.Heard
heard_of None = None
heard_of (Some heard) = Some (parts_of heard)

-- first addresses as a list has them, label for label
abbrev pub addresses_in : List (Option ℕ) → Addresses
addresses_in firsts l = slice_index_or firsts l None

-- the reading of a pool of the desktop unit
abbrev pub reading_at : {C : Type 0} → Meaning C → State C → Addresses → reading.Reading
reading_at meaning s first = reading.reading_of (reading.next_of desktop meaning s) first (longest desktop)
