-- The two kinds of elements: words of slot bits, and cells.
use Rattle.std.specs.Prelude.{ℕ, Bool, cond, Some, None, Option, ◌==◌, bit_and, bit_or}
use Rattle.joining.specs.declared.kinds.Word.{Word}
use Rattle.joining.specs.declared.kinds.Cell.{Cell}
use Rattle.joining.specs.declared.kinds.Cell.TheVariants.{Empty, Full}

-- no bit is set in both
abbrev pub masks_join : ℕ → ℕ → Bool
masks_join a b = bit_and a b == 0

-- the bits of either
abbrev pub word_joined : Word → Word → Option Word
word_joined a b = cond (masks_join a.bits b.bits) (Some (record { bits = bit_or a.bits b.bits })) None

-- a word with no bit set is empty
abbrev pub empty_word : Word
empty_word = record { bits = 0 }

-- at least one is empty, and the result is the other
abbrev pub cell_joined : Cell → Cell → Option Cell
cell_joined Empty b = Some b
cell_joined (Full x) Empty = Some (Full x)
cell_joined (Full x) (Full y) = None

abbrev pub empty_cell : Cell
empty_cell = Empty
