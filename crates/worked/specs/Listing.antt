-- The worked examples, in one theorem: draws, joinings, the shuffle, pairs, class boundaries, a list of calls with its
-- answers and its book, a stray fetch, and a quota.
use Rattle.std.specs.Prelude.{◌≡◌, ℕ, Bool, true, false, List, [], ◌∷◌, ◌++◌, map, take, replicate, Some, None, Ok, Err}
use Rattle.refusal.specs.declared.Refusal.TheVariants.{Size, Absent, Frames, Stray}
use Rattle.bank.specs.Model.{BankState}
use Rattle.banks.specs.Frames.{fresh}
use Rattle.banks.specs.Quota.{limited}
use Rattle.draws.specs.Draws.{begun, drawn}
use Rattle.pairing.specs.Worked as pairings
use Rattle.pairing.specs.Search.{greedy_pairs}
use Rattle.model.specs.Geometry.{desktop, class_of}
use Rattle.model.specs.State.{State, opened}
use Rattle.model.specs.Mesh.{Meaning}
use Rattle.model.specs.Runs.{Call, New, Write, Read, Fetch, Delete, Mesh, Count, Answer, to_new, to_write, to_read, to_fetch, to_delete, to_mesh, to_count, History, run, step}
use Rattle.laws.specs.Book.{book_of}
use Rattle.pool.specs.Pairings.{meaning_of}

-- Greedy keeps nothing
abbrev pub greedy : Meaning (Unit {0})
greedy = meaning_of (λ c masks. greedy_pairs masks) (λ c masks. c)

-- a list of calls to a pool just opened at the desktop unit, with Greedy and seed 1
abbrev pub played : BankState → List Call → History × State (Unit {0})
played bank calls = run desktop greedy calls (opened desktop bank tt 1)

abbrev pub answers : BankState → List Call → List Answer
answers bank calls = map (λ e. e.1) (played bank calls).0

abbrev pub made : ℕ → Bool → Answer
made address opened = to_new (Ok (record { address = address; opened = opened }))

abbrev pub listing : List Call
listing =
    New 1 512
    ∷ New 2 512
    ∷ New 3 512
    ∷ Write 3 0 (replicate 4 33)
    ∷ Delete 1
    ∷ Mesh 5
    ∷ Fetch 1536 1
    ∷ New 4 512
    ∷ Read 4 0 1
    ∷ Count
    ∷ Read 1 0 1
    ∷ []

pub record Worked : Type 0 where
  -- the draws, and the joinings, the shuffle and the pairs
  pub draws : drawn 4 (begun 1) ≡ 270369 ∷ 67634689 ∷ 2647435461 ∷ 307599695 ∷ []
  pub pairings : pairings.Worked
  -- class boundaries
  pub smallest : class_of desktop 1 ≡ 0
  pub last_of_0 : class_of desktop 16 ≡ 0
  pub first_of_1 : class_of desktop 17 ≡ 1
  pub largest : class_of desktop 512 ≡ 5
  pub bad_lengths : answers (fresh 8) (New 1 0 ∷ New 1 513 ∷ []) ≡ to_new (Err Size) ∷ to_new (Err Size) ∷ []
  -- the listing, on a bank of 8 frames
  pub listed :
      answers (fresh 8) listing
      ≡ made 512 true
      ∷ made 0 false
      ∷ made 1536 true
      ∷ to_write (Ok 4)
      ∷ to_delete (Ok false)
      ∷ to_mesh (Ok (record { merges = 1; bytes = 512 }))
      ∷ to_fetch (Ok (33 ∷ []))
      ∷ made 2560 true
      ∷ to_read (Ok (0 ∷ []))
      ∷ to_count (record { frames = 2; spans = 3; labels = 3 })
      ∷ to_read (Err Absent)
      ∷ []
  -- its book at the end
  pub book_1 : book_of (played (fresh 8) listing).0 1 ≡ None
  pub book_2 : book_of (played (fresh 8) listing).0 2 ≡ Some (replicate 512 0)
  pub book_3 : book_of (played (fresh 8) listing).0 3 ≡ Some (replicate 4 33 ++ replicate 508 0)
  pub book_4 : book_of (played (fresh 8) listing).0 4 ≡ Some (replicate 512 0)
  pub book_5 : book_of (played (fresh 8) listing).0 5 ≡ None
  -- after its fetch no live patch holds the address 512, though the slot there is occupied by way of another span
  pub stray : (step desktop greedy (Fetch 512 1) (played (fresh 8) (take 7 listing)).1).0 ≡ to_fetch (Err Stray)
  -- under a quota of one frame over two, the second span to open is refused
  pub quota :
      answers (limited 1 1 (fresh 2)) (New 1 512 ∷ New 2 512 ∷ New 3 512 ∷ []) ≡ made 512 true ∷ made 0 false ∷ to_new (Err Frames) ∷ []
