-- Pairs of places in a list of masks: when they are lawful, and what a proposal answers and leaves.
use Rattle.std.specs.Prelude.{◌≡◌, ℕ, ◌/◌, ◌<◌, Bool, true, false, cond, not, ◌&&◌, ◌||◌, List, [], ◌∷◌, ◌++◌, length, drop, Some, None, Option, ◌==◌, ◌≢◌, nat_le, slice_index}
use Rattle.std.specs.List.{AllByRecursion}
use Rattle.joining.specs.Kinds.{masks_join}
use Rattle.pairing.specs.declared.pairs.Pair.{Pair}

-- a place stands in one of the pairs
abbrev pub paired : ℕ → List Pair → Bool
paired k [] = false
paired k (p ∷ ps) = (k == p.left || k == p.right) || paired k ps

-- the two masks join
abbrev pub joins : List ℕ → ℕ → ℕ → Bool
joins ms i j = masks_join (slice_index ms i) (slice_index ms j)

-- both places of a pair are places of masks and differ, and their masks join
pub record Fair (ms : List ℕ) (p : Pair) : Type 0 where
  pub left_below : p.left < length ms
  pub right_below : p.right < length ms
  pub differ : p.left ≢ p.right
  pub join : joins ms p.left p.right ≡ true

-- no place stands in two pairs
abbrev pub Apart : List Pair → Type 0
Apart [] = Unit {0}
Apart (p ∷ ps) = (paired p.left ps ≡ false) × (paired p.right ps ≡ false) × Apart ps

-- the law of every pairing
pub record Lawful (ms : List ℕ) (ps : List Pair) : Type 0 where
  pub fair : AllByRecursion (Fair ms) ps
  pub apart : Apart ps

-- one pair more
abbrev pub with_pair : List Pair → ℕ → ℕ → List Pair
with_pair ps i j = ps ++ record { left = i; right = j } ∷ []

-- i may take j, after the pairs ps: j is unpaired, and their masks join
abbrev pub takes : List ℕ → List Pair → ℕ → ℕ → Bool
takes ms ps i j = not (paired j ps) && joins ms i j

-- i with what it takes, or as it was where it takes nothing
abbrev pub taken : List Pair → ℕ → Option ℕ → List Pair
taken ps i None = ps
taken ps i (Some j) = with_pair ps i j

-- two places are offered: they are a pair if both are unpaired and their masks join
abbrev pub offered : List ℕ → List Pair → ℕ → ℕ → List Pair
offered ms ps i j = cond (not (paired i ps) && takes ms ps i j) (with_pair ps i j) ps

-- a pairing takes at most this many masks
abbrev pub most_masks : ℕ
most_masks = 64

-- n masks and a buffer for b pairs: not too many masks, and room for half as many pairs
abbrev pub accepted : ℕ → ℕ → Bool
accepted n b = nat_le n most_masks && nat_le (n / 2) b

-- the pairs from the buffer's start, and its remainder as it was
abbrev pub written_over : List Pair → List Pair → List Pair
written_over ps buffer = ps ++ drop (length ps) buffer
