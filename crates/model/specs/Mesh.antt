-- What mesh answers and leaves.
use Rattle.std.specs.Prelude.{ℕ, ◌+◌, ◌*◌, Bool, false, cond, ◌&&◌, ◌||◌, List, [], ◌∷◌, map, length, replicate, Some, None, Ok, Err, Option, Result, ◌==◌, bit_or, nat_lt, slice_index, slice_index_or, slice_set}
use Rattle.std.specs.List.{range_with_len, filter}
use Rattle.refusal.specs.declared.Refusal.{Refusal}
use Rattle.refusal.specs.declared.Refusal.TheVariants.{Class}
use Rattle.bank.specs.Model as bank
use Rattle.bank.specs.Model.{BankState}
use Rattle.joining.specs.declared.kinds.Cell.{Cell}
use Rattle.joining.specs.declared.kinds.Cell.TheVariants.{Empty as EmptyCell, Full}
use Rattle.joining.specs.Kinds.{cell_joined, masks_join}
use Rattle.joining.specs.Rows.{rows_joined}
use Rattle.model.specs.declared.Row.{Row}
use Rattle.model.specs.declared.Event.TheVariants.{Merge}
use Rattle.model.specs.declared.Meshed.{Meshed}
use Rattle.model.specs.Geometry.{Geometry, slot_size, places}
use Rattle.model.specs.Masks.{set_places}
use Rattle.model.specs.State.{State, with_bank}
use Rattle.model.specs.Calls.{occupied, spans_after}

-- What a pairing means: from its condition and the masks alone, the pairs of places that it proposes, and its next
-- condition.
pub record Meaning (C : Type 0) : Type 0 where
  pub pairs : C → List ℕ → List (ℕ × ℕ)
  pub next : C → List ℕ → C

-- whether there is a row, of the class
abbrev pub of_class : ℕ → Option Row → Bool
of_class class None = false
of_class class (Some row) = row.class == class

abbrev pub mask_of : Option Row → ℕ
mask_of None = 0
mask_of (Some row) = row.mask

-- the frames out of a class, in rising number
unfoldable pub listed : Geometry → ℕ → List (Option Row) → List ℕ
listed g class rows = filter (λ f. of_class class (slice_index_or rows f None)) (range_with_len 0 g.frames)

-- their masks
abbrev pub masks_of : List (Option Row) → List ℕ → List ℕ
masks_of rows frames = map (λ f. mask_of (slice_index_or rows f None)) frames

-- the byte of a full cell
abbrev pub content : Cell → ℕ
content EmptyCell = 0
content (Full b) = b

-- a slot's bytes go to the destination h: the destination's slot is free, so its cells are empty; the source's is
-- occupied, so its cells are full, whatever their bytes; and what is written is the joined row
abbrev pub joined_into : ℕ → ℕ → Result (Unit {0}) Refusal × List Cell → BankState → Result (Unit {0}) Refusal × BankState
joined_into h o (Err e, cells) m = (Err e, m)
joined_into h o (Ok u, cells) m = bank.write h o (map content cells) m

abbrev pub cells_read : ℕ → ℕ → Result (Unit {0}) Refusal × List ℕ → BankState → Result (Unit {0}) Refusal × BankState
cells_read h o (Err e, bytes) m = (Err e, m)
cells_read h o (Ok u, bytes) m =
    joined_into h o (rows_joined cell_joined (replicate (length bytes) EmptyCell) (map Full bytes)) m

-- the slot at the offset o, of the given size, is copied from the frame f to the frame h
abbrev pub copied : ℕ → ℕ → ℕ → ℕ → BankState → Result (Unit {0}) Refusal × BankState
copied size f h o m = cells_read h o (bank.read f o (replicate size 0) m) m

-- slots are copied one after the other
abbrev pub copied_then : (BankState → Result (Unit {0}) Refusal × BankState) → Result (Unit {0}) Refusal × BankState → Result (Unit {0}) Refusal × BankState
copied_then rest (Err e, m) = (Err e, m)
copied_then rest (Ok u, m) = rest m

abbrev pub copies : ℕ → ℕ → ℕ → List ℕ → BankState → Result (Unit {0}) Refusal × BankState
copies size f h [] m = (Ok tt, m)
copies size f h (slot ∷ slots) m = copied_then (copies size f h slots) (copied size f h (size * slot) m)

-- whether the frame f is the destination of a merge with the frame h: it has more occupied slots, and of equals the
-- lower number
abbrev pub receives : Geometry → ℕ → Row → ℕ → Row → Bool
receives g f row h other =
    nat_lt (occupied g other) (occupied g row) || (occupied g other == occupied g row && nat_lt f h)

abbrev pub no_merge : Meshed
no_merge = record { merges = 0; bytes = 0 }

abbrev pub both : Meshed → Meshed → Meshed
both a b = record { merges = a.merges + b.merges; bytes = a.bytes + b.bytes }

module _ {C : Type 0} (g : Geometry) where
  -- the source is given back, and its home and aliases are aliases of the destination
  abbrev pub laid : ℕ → Row → ℕ → Row → Result (Unit {0}) Refusal × BankState → State C → Result Meshed Refusal × State C
  laid f source h destination (Err e, m) s = (Err e, with_bank m s)
  laid f source h destination (Ok u, m) s = (
    Ok (record { merges = 1; bytes = slot_size g source.class * occupied g source }),
    record {
      labels = s.labels;
      spans = spans_after (Merge f h) s.spans;
      rows = slice_set (slice_set s.rows h (Some (record {
        class = destination.class;
        mask = bit_or destination.mask source.mask;
        home = destination.home;
      }))) f None;
      draw = s.draw;
      pairing = s.pairing;
      bank = m;
    },
  )

  -- the source's occupied slots were copied
  abbrev pub moved : ℕ → Row → ℕ → Row → Result (Unit {0}) Refusal × BankState → State C → Result Meshed Refusal × State C
  moved f source h destination (Err e, m) s = (Err e, with_bank m s)
  moved f source h destination (Ok u, m) s = laid f source h destination (bank.give_back f m) s

  -- the frame f is laid onto the frame h. (No lawful pairing proposes two frames whose masks do not join, and such a
  -- pair is passed over.)
  abbrev pub merge_into : ℕ → Row → ℕ → Row → State C → Result Meshed Refusal × State C
  merge_into f source h destination s =
      cond (masks_join destination.mask source.mask)
      (moved f source h destination (copies (slot_size g source.class) f h (set_places (places g) source.mask) s.bank) s)
      (Ok no_merge, s)

  -- two frames are merged. (No lawful pairing proposes a frame that has no row any more.)
  abbrev pub merge : ℕ → ℕ → Option Row → Option Row → State C → Result Meshed Refusal × State C
  merge f h None other s = (Ok no_merge, s)
  merge f h (Some row) None s = (Ok no_merge, s)
  merge f h (Some row) (Some other) s =
      cond (receives g f row h other) (merge_into h other f row s) (merge_into f row h other s)

  -- the pairs of frames are merged in their order
  abbrev pub merged_then : (Meshed → State C → Result Meshed Refusal × State C) → Meshed → Result Meshed Refusal × State C → Result Meshed Refusal × State C
  merged_then rest done (Err e, s) = (Err e, s)
  merged_then rest done (Ok more, s) = rest (both done more) s

  abbrev pub merged : List ℕ → List (ℕ × ℕ) → Meshed → State C → Result Meshed Refusal × State C
  merged frames [] done s = (Ok done, s)
  merged frames ((i, j) ∷ pairs) done s =
      merged_then (merged frames pairs) done
      (merge (slice_index frames i) (slice_index frames j) (slice_index_or s.rows (slice_index frames i) None) (slice_index_or s.rows (slice_index frames j) None) s)

  -- the frames of the class are listed, and the pairing has proposed pairs of places in that list
  abbrev pub meshing : Meaning C → List ℕ → State C → Result Meshed Refusal × State C
  meshing meaning frames s =
      let masks = masks_of s.rows frames in
      merged frames (meaning.pairs s.pairing masks) no_merge (record {
        labels = s.labels;
        spans = s.spans;
        rows = s.rows;
        draw = s.draw;
        pairing = meaning.next s.pairing masks;
        bank = s.bank;
      })

  -- mesh: how many merges were made, and how many bytes they copied
  abbrev pub mesh : Meaning C → ℕ → State C → Result Meshed Refusal × State C
  mesh meaning class s =
      cond (nat_lt class (length g.sizes)) (meshing meaning (listed g class s.rows) s) (Err Class, s)
