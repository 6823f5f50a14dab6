-- What the record of spare frames means.
use Rattle.std.specs.Prelude.{ℕ, Bool, true, ◌&&◌, List, [], ◌∷◌, Some, Ok, Err, Result, is_none, unwrap_or, nat_lt, slice_index_or}
use Rattle.refusal.specs.declared.Refusal.{Refusal}
use Rattle.refusal.specs.declared.Refusal.TheVariants.{Frames}
use Rattle.bank.specs.Tables.{put}
use Rattle.banks.specs.declared.spares.Spares.{Spares}
use Rattle.banks.specs.Chain.{chain}

-- which of n frames are out: those with no link
abbrev pub marked : ℕ → Spares → ℕ → Bool
marked n s f = nat_lt f n && is_none (slice_index_or s.links f (Some 0))

-- the link of each frame; that of a frame that is out is never followed
abbrev pub link : Spares → ℕ → ℕ
link s f = unwrap_or (slice_index_or s.links f (Some 0)) 0

-- the spare ones of n frames, in the order in which they are granted
abbrev pub listed : ℕ → Spares → List ℕ
listed n s = chain n (marked n s) (link s) s.head

-- taking the first spare frame: the answer, the frames that are left, and which frames are out then
abbrev pub taken : List ℕ → (ℕ → Bool) → Result ℕ Refusal × List ℕ × (ℕ → Bool)
taken [] out = (Err Frames, [], out)
taken (f ∷ rest) out = (Ok f, rest, put out f true)
