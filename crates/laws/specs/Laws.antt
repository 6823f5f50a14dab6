-- The laws of a pool, over every list of calls.
use Rattle.std.specs.Prelude.{◌≡◌, ℕ, ◌+◌, ◌<◌, ◌≤◌, true, false, List, map, Some, Ok}
use Rattle.bank.specs.Model.{BankState, frame_bytes}
use Rattle.bank.specs.Sound.{Proper}
use Rattle.model.specs.declared.Meshed.{Meshed}
use Rattle.model.specs.Geometry.{Geometry, longest}
use Rattle.model.specs.State.{State, opened}
use Rattle.model.specs.Mesh.{Meaning}
use Rattle.model.specs.Runs.{Call, Place, Mesh, Count, to_place, to_mesh, History, accepted, step, run, KnownLabel, KnownLabels, Lawful}
use Rattle.laws.specs.Likeness.{ProposeAlike, blank}
use Rattle.laws.specs.Book.{Book, Addresses, book_of, first_address}
use Rattle.laws.specs.Reading.{Next, next_of, Reading, reading_of, AsBooked}
use Rattle.laws.specs.Shape.{Owns, Shaped, row_table}
use Rattle.laws.specs.Counts.{opened_in, merges_in, emptied_in, summed, frames_in, spans_of_book, ToldTruly, proposed, inner_in, deletes}

-- A play: a pool is opened over a bank and a pairing, with a seed, and then given a list of calls. The bank's frames are
-- at least as long as the pool's and no more than it has rows for, and its opening list has no frame twice; the pairing
-- is lawful, and may be in any condition; the calls name labels that the pool has. C is the type of the pairing's
-- condition.
pub record Play (C : Type 0) (g : Geometry) : Type 0 where
  pub meaning : Meaning C
  pub bank : BankState
  pub condition : C
  pub seed : ℕ
  pub calls : List Call
  pub frames_fit : g.frame ≤ frame_bytes
  pub few_frames : bank.size ≤ g.frames
  pub proper : Proper bank.size bank.opening
  pub lawful : Lawful meaning
  pub known : KnownLabels g calls

module _ {C : Type 0} {g : Geometry} (play : Play C g) where
  abbrev pub start : State C
  start = opened g play.bank play.condition play.seed

  -- each call with its answer, and the pool at the end
  abbrev pub history : History
  history = (run g play.meaning play.calls start).0

  abbrev pub end : State C
  end = (run g play.meaning play.calls start).1

  -- what would be answered next, and the pool after one more call
  abbrev pub next : Next
  next = next_of g play.meaning end

  abbrev pub after : Call → State C
  after c = (step g play.meaning c end).1

  -- the book of the history, and the reading of the pool at the end
  abbrev pub book : Book
  book = book_of history

  abbrev pub first : Addresses
  first = first_address history

  abbrev pub reading : Reading
  reading = reading_of next first (longest g)

-- After every list of calls the reading is as the book says.
abbrev pub ReadingLaw : (C : Type 0) → Type 0
ReadingLaw C = (g : Geometry) (play : Play C g) → AsBooked (next play) (first play) (longest g) (book play)

-- Two pools, over any banks, pairings and seeds, after any lists of calls, give equal readings exactly when their books
-- are equal.
abbrev pub SameReadingsLaw : (C D : Type 0) → Type 0
SameReadingsLaw C D =
    (g : Geometry) (one : Play C g) (two : Play D g)
    → (((l : ℕ) → reading one l ≡ reading two l) → (l : ℕ) → book one l ≡ book two l)
    × (((l : ℕ) → book one l ≡ book two l) → (l : ℕ) → reading one l ≡ reading two l)

-- Two plays are alike in all but the bytes written: the same seed, the same number of frames and opening list, one pairing
-- in one condition, and the same calls in order, with equal labels, offsets, lengths, addresses and classes.
pub record Alike {C D : Type 0} {g : Geometry} (one : Play C g) (two : Play D g) : Type 0 where
  pub seeds : one.seed ≡ two.seed
  pub sizes : one.bank.size ≡ two.bank.size
  pub openings : one.bank.opening ≡ two.bank.opening
  pub pairings : ProposeAlike one.meaning one.condition two.meaning two.condition
  pub calls : map blank one.calls ≡ map blank two.calls

-- Two such pools hold equal bytes in every frame exactly when their readings are equal.
abbrev pub FrameLaw : (C D : Type 0) → Type 0
FrameLaw C D =
    (g : Geometry) (one : Play C g) (two : Play D g)
    → Alike one two
    → (((f i : ℕ) → f < one.bank.size → i < g.frame → (end one).bank.bytes f i ≡ (end two).bank.bytes f i)
    → (l : ℕ) → reading one l ≡ reading two l)
    × (((l : ℕ) → reading one l ≡ reading two l)
    → (f i : ℕ) → f < one.bank.size → i < g.frame → (end one).bank.bytes f i ≡ (end two).bank.bytes f i)

-- After every list of calls the pool's tables and its bank fit together, and no two live patches share a byte.
abbrev pub ShapeLaw : (C : Type 0) → Type 0
ShapeLaw C =
    (g : Geometry) (play : Play C g)
    → Shaped g (end play)
    × ((l k f i : ℕ) → Owns g (end play).labels (end play).spans l f i → Owns g (end play).labels (end play).spans k f i → l ≡ k)

-- After every list of calls the address of a live patch is its label's first address, and it keeps that through every call
-- but its own delete.
abbrev pub AddressLaw : (C : Type 0) → Type 0
AddressLaw C =
    (g : Geometry) (play : Play C g) (l a : ℕ)
    → next play (Place l) ≡ to_place (Ok a)
    → (first play l ≡ Some a)
    × ((c : Call) → KnownLabel g c → deletes l c ≡ false → next_of g play.meaning (after play c) (Place l) ≡ to_place (Ok a))

-- After every list of calls the ways that the definitions of the calls have only to be total are not taken: no answer is a
-- refusal that a bank or a joining has inside, and mesh passes over no pair that was proposed.
abbrev pub TotalLaw : (C : Type 0) → Type 0
TotalLaw C =
    (g : Geometry) (play : Play C g) (c : Call)
    → KnownLabel g c
    → (inner_in (next play c) ≡ false) × (accepted (next play c) ≡ true → merges_in (next play c) ≡ proposed g play.meaning c (end play))

-- A refused call leaves the whole pool as it was.
abbrev pub RefusalLaw : (C : Type 0) → Type 0
RefusalLaw C = (g : Geometry) (play : Play C g) (c : Call) → KnownLabel g c → accepted (next play c) ≡ false → after play c ≡ end play

-- What mesh answers is what it did.
abbrev pub MergeLaw : (C : Type 0) → Type 0
MergeLaw C =
    (g : Geometry) (play : Play C g) (class : ℕ) (m : Meshed)
    → next play (Mesh class) ≡ to_mesh (Ok m)
    → ToldTruly g (row_table (end play).rows) (row_table (after play (Mesh class)).rows) m

-- Frames out, merges and frames emptied are as many as spans opened, each summed from the answers given; and frames out
-- are no more than the different spans in which a label of the book has its first address.
abbrev pub CountLaw : (C : Type 0) → Type 0
CountLaw C =
    (g : Geometry) (play : Play C g)
    → (frames_in (next play Count) + summed merges_in (history play) + summed emptied_in (history play) ≡ summed opened_in (history play))
    × (frames_in (next play Count) ≤ spans_of_book g (book play) (first play))
