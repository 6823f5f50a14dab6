-- A reading: what a pool would answer next, label for label.
use Rattle.std.specs.Prelude.{◌≡◌, ℕ, zero, suc, ◌≤◌, Bool, true, cond, List, length, is_some, Some, None, Ok, Err, Option}
use Rattle.model.specs.Geometry.{Geometry}
use Rattle.model.specs.State.{State}
use Rattle.model.specs.Mesh.{Meaning}
use Rattle.model.specs.Runs.{Call, Read, Fetch, Answer, to_new, to_write, to_read, to_fetch, to_place, to_delete, to_mesh, to_count, step}
use Rattle.laws.specs.Book.{Book, Addresses}

-- what would be answered to each call, if it came next
abbrev pub Next : Type 0
Next = Call → Answer

abbrev pub next_of : {C : Type 0} → Geometry → Meaning C → State C → Next
next_of g meaning s c = (step g meaning c s).0

-- the bytes that an accepted read or fetch answered
abbrev pub bytes_in : Answer → Option (List ℕ)
bytes_in (to_new r) = None
bytes_in (to_write r) = None
bytes_in (to_read (Ok bytes)) = Some bytes
bytes_in (to_read (Err e)) = None
bytes_in (to_fetch (Ok bytes)) = Some bytes
bytes_in (to_fetch (Err e)) = None
bytes_in (to_place r) = None
bytes_in (to_delete r) = None
bytes_in (to_mesh r) = None
bytes_in (to_count n) = None

-- what a read of n bytes at offset 0 would give, and a fetch of n bytes at the first address
abbrev pub by_read : Next → ℕ → ℕ → Option (List ℕ)
by_read answers l n = bytes_in (answers (Read l 0 n))

abbrev pub by_fetch : Next → Option ℕ → ℕ → Option (List ℕ)
by_fetch answers None n = None
by_fetch answers (Some a) n = bytes_in (answers (Fetch a n))

-- the largest number up to n that passes a test, and 0 where none does
abbrev pub largest : (ℕ → Bool) → ℕ → ℕ
largest test zero = 0
largest test (suc n) = cond (test (suc n)) (suc n) (largest test n)

-- the length of the longest accepted read of a label at offset 0, of those up to a limit
unfoldable pub longest_read : Next → ℕ → ℕ → ℕ
longest_read answers limit l = largest (λ n. is_some (by_read answers l n)) limit

-- what is heard of a label that is accepted: the length of the longest accepted read at offset 0, its bytes, and the
-- bytes of a fetch as long at the first address
pub record Heard : Type 0 where
  pub length : ℕ
  pub read : Option (List ℕ)
  pub fetched : Option (List ℕ)

abbrev pub Reading : Type 0
Reading = ℕ → Option Heard

-- the reading of a pool, by what it would answer next. A label is accepted when a read of no bytes at offset 0 is.
abbrev pub reading_of : Next → Addresses → ℕ → Reading
reading_of answers first limit l =
    let n = longest_read answers limit l in
    cond (is_some (by_read answers l 0)) (Some (record { length = n; read = by_read answers l n; fetched = by_fetch answers (first l) n })) None

-- what a book says would be heard of a label
abbrev pub as_heard : Option (List ℕ) → Option Heard
as_heard None = None
as_heard (Some string) = Some (record { length = length string; read = Some string; fetched = Some string })

-- A reading is as the book says: exactly the book's labels are accepted, each with its string's length and, by read and
-- by fetch at the first address, its string's bytes. And no read past the limit is accepted, so that the longest read
-- up to the limit is the longest of all.
pub record AsBooked (answers : Next) (first : Addresses) (limit : ℕ) (book : Book) : Type 0 where
  pub heard : (l : ℕ) → reading_of answers first limit l ≡ as_heard (book l)
  pub limited : (l n : ℕ) → is_some (by_read answers l n) ≡ true → n ≤ limit
