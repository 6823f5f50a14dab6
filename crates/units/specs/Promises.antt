-- The laws of a pool, of units that were given lists of calls: by the calls that they were given, the answers that they
-- gave, and what they would answer next.
use Rattle.std.specs.Prelude.{◌≡◌, ℕ, ◌+◌, ◌<◌, ◌≤◌, List, map}
use Rattle.bank.specs.Model.{BankState}
use Rattle.model.specs.Geometry.{desktop, longest}
use Rattle.model.specs.State.{State}
use Rattle.model.specs.Mesh.{Meaning}
use Rattle.model.specs.Runs.{Call, Count, History}
use Rattle.laws.specs.Likeness.{ProposeAlike, blank}
use Rattle.laws.specs.Book.{book_of, first_address}
use Rattle.laws.specs.Reading.{Reading, next_of, reading_of, AsBooked}
use Rattle.laws.specs.Counts.{opened_in, merges_in, emptied_in, summed, frames_in, spans_of_book}

-- what is read of a unit: label for label, what it would answer next to reads, and to fetches at first addresses
abbrev pub heard : {C : Type 0} → Meaning C → History → State C → Reading
heard meaning history s = reading_of (next_of desktop meaning s) (first_address history) (longest desktop)

-- The laws of one unit.
pub record Kept {C : Type 0} (meaning : Meaning C) (history : History) (s : State C) : Type 0 where
  -- what it reads is exactly what its patch book says
  pub reads_as_booked : AsBooked (next_of desktop meaning s) (first_address history) (longest desktop) (book_of history)
  -- frames out, merges and frames emptied are as many as spans opened
  pub balanced :
      frames_in (next_of desktop meaning s Count) + summed merges_in history + summed emptied_in history ≡ summed opened_in history
  -- frames out are no more than the spans in which a label of the book has its first address
  pub bounded : frames_in (next_of desktop meaning s Count) ≤ spans_of_book desktop (book_of history) (first_address history)

-- two banks hold equal bytes in each of the first n frames
abbrev pub SameFrames : ℕ → BankState → BankState → Type 0
SameFrames n one two = (f i : ℕ) → f < n → i < desktop.frame → one.bytes f i ≡ two.bytes f i

-- two units read alike, and have books that agree
abbrev pub ReadAlike : {C D : Type 0} → Meaning C → History → State C → Meaning D → History → State D → Type 0
ReadAlike one h s two k t = (l : ℕ) → heard one h s l ≡ heard two k t l

abbrev pub BooksAgree : History → History → Type 0
BooksAgree h k = (l : ℕ) → book_of h l ≡ book_of k l

-- How a unit was started, and the calls that it was given.
pub record Start (C : Type 0) : Type 0 where
  pub meaning : Meaning C
  pub bank : BankState
  pub condition : C
  pub seed : ℕ
  pub calls : List Call

abbrev pub start_with : {C : Type 0} → Meaning C → BankState → C → ℕ → List Call → Start C
start_with meaning bank condition seed calls =
    record { meaning = meaning; bank = bank; condition = condition; seed = seed; calls = calls }

-- two units were started alike, and given lists alike in all but the bytes written: the same seed, the same number of
-- frames and opening list, one pairing in one condition, and the same calls in order, with equal labels, offsets,
-- lengths, addresses and classes
pub record StartedAlike {C D : Type 0} (one : Start C) (two : Start D) : Type 0 where
  pub seeds : one.seed ≡ two.seed
  pub sizes : one.bank.size ≡ two.bank.size
  pub openings : one.bank.opening ≡ two.bank.opening
  pub pairings : ProposeAlike one.meaning one.condition two.meaning two.condition
  pub calls : map blank one.calls ≡ map blank two.calls

-- The laws of two units: the first is s and has the history h, the second is t and has the history k.
pub record Agree {C D : Type 0} (one : Start C) (h : History) (s : State C) (two : Start D) (k : History) (t : State D) : Type 0 where
  -- they read alike exactly when their books agree
  pub books_from_readings : ReadAlike one.meaning h s two.meaning k t → BooksAgree h k
  pub readings_from_books : BooksAgree h k → ReadAlike one.meaning h s two.meaning k t
  -- started alike, they hold equal bytes in every frame exactly when they read alike
  pub readings_from_frames : StartedAlike one two → SameFrames one.bank.size s.bank t.bank → ReadAlike one.meaning h s two.meaning k t
  pub frames_from_readings : StartedAlike one two → ReadAlike one.meaning h s two.meaning k t → SameFrames one.bank.size s.bank t.bank
