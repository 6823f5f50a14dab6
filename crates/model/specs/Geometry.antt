-- The sizes of a pool, and what follows from them: classes of slots, and addresses.
use Rattle.std.specs.Prelude.{◌≡◌, ℕ, suc, ◌+◌, ◌*◌, ◌/◌, Bool, true, cond, ◌&&◌, List, [], ◌∷◌, nat_le, nat_lt, slice_index_or, refl}
use Rattle.model.specs.declared.Patch.{Patch}

-- the numbers rise, from above a on
abbrev pub rises : ℕ → List ℕ → Bool
rises a [] = true
rises a (x ∷ xs) = nat_lt a x && rises x xs

-- the last of the numbers, or a where there is none
abbrev pub last_of : ℕ → List ℕ → ℕ
last_of a [] = a
last_of a (x ∷ xs) = last_of x xs

-- The numbers that the rules leave open. Every rule and every law holds at each geometry; the desktop unit has one.
pub record Geometry : Type 0 where
  -- the bytes of a frame, and of a span
  pub frame : ℕ
  -- the bytes of a slot of each class; classes are counted from 0
  pub sizes : List ℕ
  -- at most so many frames, so many spans, so many labels
  pub frames : ℕ
  pub spans : ℕ
  pub labels : ℕ
  -- slot sizes rise from class to class, and the largest is no larger than a frame
  pub rising : rises 0 sizes ≡ true
  pub within : nat_le (last_of 0 sizes) frame ≡ true

-- the desktop unit
abbrev pub desktop : Geometry
desktop =
    record {
      frame = 1024;
      sizes = 16 ∷ 32 ∷ 64 ∷ 128 ∷ 256 ∷ 512 ∷ [];
      frames = 64;
      spans = 128;
      labels = 256;
      rising = refl;
      within = refl;
    }

-- the least class whose slot holds n bytes, and the number of classes where none does
abbrev pub least_class : List ℕ → ℕ → ℕ
least_class [] n = 0
least_class (size ∷ sizes) n = cond (nat_le n size) 0 (suc (least_class sizes n))

unfoldable pub class_of : Geometry → ℕ → ℕ
class_of g n = least_class g.sizes n

-- the bytes of a slot of the class c; past the last class, of a whole frame
unfoldable pub slot_size : Geometry → ℕ → ℕ
slot_size g c = slice_index_or g.sizes c g.frame

-- how many slots of the class c a frame has
abbrev pub slots : Geometry → ℕ → ℕ
slots g c = g.frame / slot_size g c

-- the longest patch
abbrev pub longest : Geometry → ℕ
longest g = last_of 0 g.sizes

-- a mask has a place for each slot of the smallest class
abbrev pub places : Geometry → ℕ
places g = slots g 0

-- the offset, in its frame, of a slot of the class that n bytes take
abbrev pub slot_offset : Geometry → ℕ → ℕ → ℕ
slot_offset g n slot = slot_size g (class_of g n) * slot

-- the address of a patch: spans lie end to end, each as long as a frame
abbrev pub address_of : Geometry → Patch → ℕ
address_of g p = g.frame * p.span + slot_offset g p.length p.slot
