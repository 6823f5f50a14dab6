-- What a bank is, and what each of its calls answers and leaves.
use Rattle.std.specs.Prelude.{ℕ, ◌+◌, Bool, true, false, cond, List, [], ◌∷◌, length, Ok, Err, Result, nat_le}
use Rattle.refusal.specs.declared.Refusal.{Refusal}
use Rattle.refusal.specs.declared.Refusal.TheVariants.{Frames, Edge, NotOut}
use Rattle.bank.specs.Tables.{put, peek, poke}

-- A frame is the unit of memory that a bank hands out, and has this many bytes.
abbrev pub frame_bytes : ℕ
frame_bytes = 1024

-- A bank has at most this many frames.
abbrev pub most_frames : ℕ
most_frames = 64

-- A bank is a store of frames. It means five things and no others.
pub record BankState : Type 0 where
  -- how many frames there are; a frame's number is below this
  pub size : ℕ
  -- the spare list right after a reset
  pub opening : List ℕ
  -- the frames that may be granted, in the order in which they will be
  pub spare : List ℕ
  -- which frames are out, granted and not given back since
  pub out : ℕ → Bool
  -- the byte at each offset of each frame
  pub bytes : ℕ → ℕ → ℕ

-- reset: all frames are cleared, none is out, and the spare list is the opening list
abbrev pub reset : BankState → BankState
reset m = record { size = m.size; opening = m.opening; spare = m.opening; out = λ f. false; bytes = λ f i. 0 }

-- grant: the first spare frame is out, and is the answer; with none spare, FRAMES
abbrev pub granting : List ℕ → BankState → Result ℕ Refusal × BankState
granting [] m = (Err Frames, m)
granting (f ∷ rest) m =
    (Ok f, record { size = m.size; opening = m.opening; spare = rest; out = put m.out f true; bytes = m.bytes })

abbrev pub grant : BankState → Result ℕ Refusal × BankState
grant m = granting m.spare m

-- give back: the frame is no more out, holds zeros, and is the first spare one
abbrev pub returned : ℕ → BankState → BankState
returned f m =
    record {
      size = m.size;
      opening = m.opening;
      spare = f ∷ m.spare;
      out = put m.out f false;
      bytes = put m.bytes f (λ i. 0);
    }

abbrev pub give_back : ℕ → BankState → Result (Unit {0}) Refusal × BankState
give_back f m = cond (m.out f) (Ok tt, returned f m) (Err NotOut, m)

-- read: what the buffer holds afterwards
abbrev pub read : ℕ → ℕ → List ℕ → BankState → Result (Unit {0}) Refusal × List ℕ
read f o buffer m =
    cond (nat_le (o + length buffer) frame_bytes)
    (cond (m.out f) (Ok tt, peek (m.bytes f) o (length buffer)) (Err NotOut, buffer))
    (Err Edge, buffer)

-- write: the buffer lies over the frame's bytes from the offset on
abbrev pub written : ℕ → ℕ → List ℕ → BankState → BankState
written f o buffer m =
    record {
      size = m.size;
      opening = m.opening;
      spare = m.spare;
      out = m.out;
      bytes = put m.bytes f (poke (m.bytes f) o buffer);
    }

abbrev pub write : ℕ → ℕ → List ℕ → BankState → Result (Unit {0}) Refusal × BankState
write f o buffer m =
    cond (nat_le (o + length buffer) frame_bytes)
    (cond (m.out f) (Ok tt, written f o buffer m) (Err NotOut, m))
    (Err Edge, m)
