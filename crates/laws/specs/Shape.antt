-- What holds of a pool in every run.
use Rattle.std.specs.Prelude.{◌≡◌, ℕ, ◌+◌, ◌^◌, ◌<◌, ◌≤◌, true, false, List, length, is_some, Some, None, Option, ◌≢◌, slice_index_or}
use mathlib.Core.List.{Memᴰ}
use Rattle.bank.specs.Model.{BankState}
use Rattle.bank.specs.Sound.{Proper}
use Rattle.model.specs.declared.Patch.{Patch}
use Rattle.model.specs.declared.Row.{Row}
use Rattle.model.specs.declared.Span.{Span}
use Rattle.model.specs.declared.Span.TheVariants.{Home}
use Rattle.model.specs.Geometry.{Geometry, class_of, slots, slot_offset, longest}
use Rattle.model.specs.Masks.{bit}
use Rattle.model.specs.State.{State, frame_of}

-- the patch p stands in the frame f, by the page map
abbrev pub Stands : (ℕ → Span) → Patch → ℕ → Type 0
Stands spans p f = frame_of (spans p.span) ≡ Some f

-- the byte i of the frame f belongs to the live label l
pub record Owns (g : Geometry) (labels : ℕ → Option Patch) (spans : ℕ → Span) (l f i : ℕ) : Type 0 where
  pub patch : Patch
  pub live : labels l ≡ Some patch
  pub stands : Stands spans patch f
  pub from : slot_offset g patch.length patch.slot ≤ i
  pub below : i < slot_offset g patch.length patch.slot + patch.length

-- where a live patch stands: a frame that has a row, of the class of the patch's length, with the patch's slot occupied
pub record Placed (g : Geometry) (spans : ℕ → Span) (rows : ℕ → Option Row) (p : Patch) : Type 0 where
  pub frame : ℕ
  pub row : Row
  pub stands : Stands spans p frame
  pub has_row : rows frame ≡ Some row
  pub fits : row.class ≡ class_of g p.length
  pub slot_below : p.slot < slots g row.class
  pub occupied : bit row.mask p.slot ≡ true

-- the live label that a slot of a frame belongs to
pub record Owner (labels : ℕ → Option Patch) (spans : ℕ → Span) (f slot : ℕ) : Type 0 where
  pub label : ℕ
  pub patch : Patch
  pub live : labels label ≡ Some patch
  pub stands : Stands spans patch f
  pub at_slot : patch.slot ≡ slot

-- the tables of a pool and its bank fit together
pub record Shape (g : Geometry) (labels : ℕ → Option Patch) (spans : ℕ → Span) (rows : ℕ → Option Row) (bank : BankState) : Type 0 where
  -- only labels that the pool has are live
  pub named : (l : ℕ) (p : Patch) → labels l ≡ Some p → l < g.labels
  pub sized : (l : ℕ) (p : Patch) → labels l ≡ Some p → (1 ≤ p.length) × (p.length ≤ longest g)
  pub placed : (l : ℕ) (p : Patch) → labels l ≡ Some p → Placed g spans rows p
  -- no two live patches have one slot of one frame
  pub apart : (l k f : ℕ) (p q : Patch) → labels l ≡ Some p → labels k ≡ Some q → Stands spans p f → Stands spans q f → p.slot ≡ q.slot → l ≡ k
  -- every set mask bit has an owner
  pub owner : (f slot : ℕ) (row : Row) → rows f ≡ Some row → bit row.mask slot ≡ true → Owner labels spans f slot
  pub classed : (f : ℕ) (row : Row) → rows f ≡ Some row → row.class < length g.sizes
  pub masked : (f : ℕ) (row : Row) → rows f ≡ Some row → row.mask < 2 ^ slots g row.class
  pub homed : (f : ℕ) (row : Row) → rows f ≡ Some row → (row.home < g.spans) × (spans row.home ≡ Home f)
  -- a span that is not idle is one that the pool has, and its frame is out
  pub mapped : (h f : ℕ) → frame_of (spans h) ≡ Some f → (h < g.spans) × (bank.out f ≡ true)
  -- exactly the frames that are out have rows
  pub out_rows : (f : ℕ) → is_some (rows f) ≡ bank.out f
  -- the bank is sound
  pub few : bank.size ≤ g.frames
  pub out_below : (f : ℕ) → bank.out f ≡ true → f < bank.size
  pub spare_proper : Proper bank.size bank.spare
  pub spare_in : (f : ℕ) → Memᴰ f bank.spare → bank.out f ≡ false
  -- a byte that no live patch owns is zero: in a free slot, past a patch's length, in a frame that is not out
  pub clear : (f i : ℕ) → ((l : ℕ) → Owns g labels spans l f i → ⊥) → bank.bytes f i ≡ 0

abbrev pub row_table : List (Option Row) → ℕ → Option Row
row_table rows f = slice_index_or rows f None

-- no frame that is out is empty
abbrev pub NoRowEmpty : (ℕ → Option Row) → Type 0
NoRowEmpty rows = (f : ℕ) (row : Row) → rows f ≡ Some row → row.mask ≢ 0

pub record Shaped {C : Type 0} (g : Geometry) (s : State C) : Type 0 where
  pub shape : Shape g s.labels s.spans (row_table s.rows) s.bank
  pub long : length s.rows ≡ g.frames
  pub no_row_empty : NoRowEmpty (row_table s.rows)
