-- What a proposal in the making holds.
use Rattle.std.specs.Prelude.{◌≡◌, ℕ, ◌<◌, ◌≤◌, Bool, false, List, length, slice_index_or}
use Rattle.pairing.specs.declared.pairs.Pair.{Pair}
use Rattle.pairing.specs.Pairs.{paired, Lawful}

-- the masks that are to be paired, and the pairs found so far
pub record Found : Type 0 where
  pub masks : List ℕ
  pub pairs : List Pair

-- there are at most 64 masks, and the pairs are lawful; of 64 places, those that stand in a pair are marked
pub record Sound (ms : List ℕ) (ps : List Pair) (marks : List Bool) : Type 0 where
  pub few : length ms ≤ 64
  pub lawful : Lawful ms ps
  pub places : length marks ≡ 64
  pub marked : (k : ℕ) → k < 64 → slice_index_or marks k false ≡ paired k ps
