-- The patch book: what a player who keeps the history, and sees nothing else, knows of the patches.
use Rattle.std.specs.Prelude.{ℕ, ◌+◌, Bool, cond, List, [], ◌∷◌, ◌++◌, length, take, drop, replicate, Some, None, Ok, Err, Option}
use Rattle.bank.specs.Tables.{put}
use Rattle.model.specs.Runs.{Call, New, Write, Read, Fetch, Place, Delete, Mesh, Count, Answer, to_new, to_write, to_read, to_fetch, to_place, to_delete, to_mesh, to_count, History, accepted}

-- the bytes of each label that is in the book
abbrev pub Book : Type 0
Book = ℕ → Option (List ℕ)

-- a string with bytes put over those from the offset o on
abbrev pub over : ℕ → List ℕ → List ℕ → List ℕ
over o bytes old = take o old ++ (bytes ++ drop (o + length bytes) old)

abbrev pub over_entry : ℕ → List ℕ → Option (List ℕ) → Option (List ℕ)
over_entry o bytes None = None
over_entry o bytes (Some old) = Some (over o bytes old)

-- the book after a call that was accepted, or refused
abbrev pub entered : Call → Bool → Book → Book
entered (New l n) ok book = cond ok (put book l (Some (replicate n 0))) book
entered (Write l o bytes) ok book = cond ok (put book l (over_entry o bytes (book l))) book
entered (Read l o n) ok book = book
entered (Fetch a n) ok book = book
entered (Place l) ok book = book
entered (Delete l) ok book = cond ok (put book l None) book
entered (Mesh class) ok book = book
entered Count ok book = book

abbrev pub book_after : History → Book → Book
book_after [] book = book
book_after ((c, a) ∷ history) book = book_after history (entered c (accepted a) book)

-- the book of a history
abbrev pub book_of : History → Book
book_of history = book_after history (λ l. None)

-- the address that an accepted new answered
abbrev pub address_in : Answer → Option ℕ
address_in (to_new (Ok made)) = Some made.address
address_in (to_new (Err e)) = None
address_in (to_write r) = None
address_in (to_read r) = None
address_in (to_fetch r) = None
address_in (to_place r) = None
address_in (to_delete r) = None
address_in (to_mesh r) = None
address_in (to_count n) = None

-- the first addresses
abbrev pub Addresses : Type 0
Addresses = ℕ → Option ℕ

abbrev pub noted : ℕ → Option ℕ → Addresses → Addresses
noted l None first = first
noted l (Some a) first = put first l (Some a)

abbrev pub addressed : Call → Option ℕ → Addresses → Addresses
addressed (New l n) a first = noted l a first
addressed (Write l o bytes) a first = first
addressed (Read l o n) a first = first
addressed (Fetch x n) a first = first
addressed (Place l) a first = first
addressed (Delete l) a first = first
addressed (Mesh class) a first = first
addressed Count a first = first

abbrev pub addresses_after : History → Addresses → Addresses
addresses_after [] first = first
addresses_after ((c, a) ∷ history) first = addresses_after history (addressed c (address_in a) first)

-- the first address of each label: the one that its latest accepted new answered
abbrev pub first_address : History → Addresses
first_address history = addresses_after history (λ l. None)
