-- What the answers of a history add up to, and what mesh answers of itself.
use Rattle.std.specs.Prelude.{◌≡◌, ℕ, zero, suc, ◌+◌, ◌*◌, ◌/◌, ◌≤◌, Bool, true, false, cond, ◌&&◌, ◌||◌, [], ◌∷◌, length, is_some, Some, None, Ok, Err, Option, Result, ◌==◌}
use Rattle.refusal.specs.declared.Refusal.{Refusal}
use Rattle.refusal.specs.declared.Refusal.TheVariants.{Size, Class, Address, Command, Cut, Edge, Row as RowRefusal, Clash, Taken, Absent, Past, Spans, Frames, Stray, NotOut}
use Rattle.model.specs.declared.Row.{Row}
use Rattle.model.specs.declared.Meshed.{Meshed}
use Rattle.model.specs.Geometry.{Geometry, slot_size}
use Rattle.model.specs.State.{State}
use Rattle.model.specs.Calls.{occupied}
use Rattle.model.specs.Mesh.{Meaning, listed, masks_of}
use Rattle.model.specs.Runs.{Call, New, Write, Read, Fetch, Place, Delete, Mesh, Count, Answer, to_new, to_write, to_read, to_fetch, to_place, to_delete, to_mesh, to_count, History}
use Rattle.laws.specs.Book.{Book, Addresses}

-- whether a span was opened by a call, how many merges it made, whether it emptied a frame: each by its answer alone
abbrev pub opened_in : Answer → ℕ
opened_in (to_new (Ok made)) = cond made.opened 1 0
opened_in (to_new (Err e)) = 0
opened_in (to_write r) = 0
opened_in (to_read r) = 0
opened_in (to_fetch r) = 0
opened_in (to_place r) = 0
opened_in (to_delete r) = 0
opened_in (to_mesh r) = 0
opened_in (to_count n) = 0

abbrev pub merges_in : Answer → ℕ
merges_in (to_new r) = 0
merges_in (to_write r) = 0
merges_in (to_read r) = 0
merges_in (to_fetch r) = 0
merges_in (to_place r) = 0
merges_in (to_delete r) = 0
merges_in (to_mesh (Ok m)) = m.merges
merges_in (to_mesh (Err e)) = 0
merges_in (to_count n) = 0

abbrev pub emptied_in : Answer → ℕ
emptied_in (to_new r) = 0
emptied_in (to_write r) = 0
emptied_in (to_read r) = 0
emptied_in (to_fetch r) = 0
emptied_in (to_place r) = 0
emptied_in (to_delete (Ok emptied)) = cond emptied 1 0
emptied_in (to_delete (Err e)) = 0
emptied_in (to_mesh r) = 0
emptied_in (to_count n) = 0

-- a number of each answer, summed over a history
abbrev pub summed : (Answer → ℕ) → History → ℕ
summed number [] = 0
summed number ((c, a) ∷ history) = number a + summed number history

-- the first number that count answers
abbrev pub frames_in : Answer → ℕ
frames_in (to_new r) = 0
frames_in (to_write r) = 0
frames_in (to_read r) = 0
frames_in (to_fetch r) = 0
frames_in (to_place r) = 0
frames_in (to_delete r) = 0
frames_in (to_mesh r) = 0
frames_in (to_count n) = n.frames

-- the sum of the first n of some numbers
abbrev pub total : ℕ → (ℕ → ℕ) → ℕ
total zero number = 0
total (suc n) number = total n number + number n

-- whether one of the first n passes a test
abbrev pub some_below : ℕ → (ℕ → Bool) → Bool
some_below zero test = false
some_below (suc n) test = test n || some_below n test

-- whether an address lies in the span h
abbrev pub in_span : Geometry → Option ℕ → ℕ → Bool
in_span g None h = false
in_span g (Some a) h = a / g.frame == h

-- the number of different spans in which a label of the book has its first address
abbrev pub spans_of_book : Geometry → Book → Addresses → ℕ
spans_of_book g book first = total g.spans (λ h. cond (some_below g.labels (λ l. is_some (book l) && in_span g (first l) h)) 1 0)

-- a number of the row of a frame that had one and has it no more
abbrev pub lost_at : (Row → ℕ) → Option Row → Option Row → ℕ
lost_at number None now = 0
lost_at number (Some row) None = number row
lost_at number (Some row) (Some now) = 0

abbrev pub lost : Geometry → (Row → ℕ) → (ℕ → Option Row) → (ℕ → Option Row) → ℕ
lost g number before now = total g.frames (λ f. lost_at number (before f) (now f))

-- What mesh answers is what it did: a merge for each frame that was out and is not any more, and for each of those its
-- occupied slots times the size of a slot. Each merge copies at most half a frame, and so all of them together.
pub record ToldTruly (g : Geometry) (before now : ℕ → Option Row) (m : Meshed) : Type 0 where
  pub merges : m.merges ≡ lost g (λ row. 1) before now
  pub bytes : m.bytes ≡ lost g (λ row. slot_size g row.class * occupied g row) before now
  pub half_each : (f : ℕ) (row : Row) → before f ≡ Some row → now f ≡ None → slot_size g row.class * occupied g row + slot_size g row.class * occupied g row ≤ g.frame
  pub half_in_all : m.bytes + m.bytes ≤ g.frame * m.merges

-- how many pairs the pairing proposes to a call
abbrev pub proposed : {C : Type 0} → Geometry → Meaning C → Call → State C → ℕ
proposed g meaning (New l n) s = 0
proposed g meaning (Write l o bytes) s = 0
proposed g meaning (Read l o n) s = 0
proposed g meaning (Fetch a n) s = 0
proposed g meaning (Place l) s = 0
proposed g meaning (Delete l) s = 0
proposed g meaning (Mesh class) s = length (meaning.pairs s.pairing (masks_of s.rows (listed g class s.rows)))
proposed g meaning Count s = 0

-- whether a refusal is one of a bank or of a joining that the definitions of the calls pass up only to be total: a
-- stretch past the end of a frame, rows of unequal length, cells that clash, a frame that is not out
abbrev pub inner : Refusal → Bool
inner Size = false
inner Class = false
inner Address = false
inner Command = false
inner Cut = false
inner Edge = true
inner RowRefusal = true
inner Clash = true
inner Taken = false
inner Absent = false
inner Past = false
inner Spans = false
inner Frames = false
inner Stray = false
inner NotOut = true

abbrev pub inner_of : {A : Type 0} → Result A Refusal → Bool
inner_of (Ok a) = false
inner_of (Err e) = inner e

abbrev pub inner_in : Answer → Bool
inner_in (to_new r) = inner_of r
inner_in (to_write r) = inner_of r
inner_in (to_read r) = inner_of r
inner_in (to_fetch r) = inner_of r
inner_in (to_place r) = inner_of r
inner_in (to_delete r) = inner_of r
inner_in (to_mesh r) = inner_of r
inner_in (to_count n) = false

-- whether a call deletes the label l
abbrev pub deletes : ℕ → Call → Bool
deletes l (New k n) = false
deletes l (Write k o bytes) = false
deletes l (Read k o n) = false
deletes l (Fetch a n) = false
deletes l (Place k) = false
deletes l (Delete k) = l == k
deletes l (Mesh class) = false
deletes l Count = false
