-- Worked examples of joining, of the shuffle and of both pairings.
use Rattle.std.specs.Prelude.{◌≡◌, ℕ, List, [], ◌∷◌, Ok, Err, Result}
use Rattle.refusal.specs.declared.Refusal.{Refusal}
use Rattle.refusal.specs.declared.Refusal.TheVariants.{Clash}
use Rattle.joining.specs.declared.kinds.Word.{Word}
use Rattle.joining.specs.declared.kinds.Cell.{Cell}
use Rattle.joining.specs.declared.kinds.Cell.TheVariants.{Empty, Full}
use Rattle.joining.specs.Kinds.{word_joined, cell_joined}
use Rattle.joining.specs.Rows.{rows_joined}
use Rattle.draws.specs.Draws.{begun}
use Rattle.draws.specs.Shuffle.{shuffled}
use Rattle.pairing.specs.declared.pairs.Pair.{Pair}
use Rattle.pairing.specs.declared.halves.SplitMesher.{SplitMesher}
use Rattle.pairing.specs.Search.{greedy_pairs}
use Rattle.pairing.specs.Halves.{split_pairs}

-- a row of one word
abbrev word : ℕ → List Word
word n = record { bits = n } ∷ []

-- what a joining of two rows answers, and the first row afterwards
abbrev Joined : Type 0 → Type 0
Joined X = Result (Unit {0}) Refusal × List X

abbrev pair : ℕ → ℕ → Pair
pair i j = record { left = i; right = j }

abbrev masks : List ℕ
masks = 1 ∷ 2 ∷ 1 ∷ 2 ∷ []

-- SplitMesher as a seed begins it
abbrev split_mesher : ℕ → ℕ → SplitMesher
split_mesher seed t = record { draws = record { state = begun seed }; tries = t }

pub record Worked : Type 0 where
  pub words_join : ◌≡◌ {A = Joined Word} (rows_joined word_joined (word 5) (word 10)) (Ok tt, word 15)
  pub words_clash : ◌≡◌ {A = Joined Word} (rows_joined word_joined (word 5) (word 4)) (Err Clash, word 5)
  -- a cell full with 0 is full
  pub cells_join : ◌≡◌ {A = Joined Cell} (rows_joined cell_joined (Full 0 ∷ []) (Empty ∷ [])) (Ok tt, Full 0 ∷ [])
  pub cells_clash : ◌≡◌ {A = Joined Cell} (rows_joined cell_joined (Full 0 ∷ []) (Full 0 ∷ [])) (Err Clash, Full 0 ∷ [])
  pub shuffle : (shuffled {X = ℕ} (0 ∷ 1 ∷ 2 ∷ 3 ∷ []) (begun 1)).0 ≡ 0 ∷ 2 ∷ 3 ∷ 1 ∷ []
  pub greedy : greedy_pairs masks ≡ pair 0 1 ∷ pair 2 3 ∷ []
  pub split : split_pairs (split_mesher 1 1) masks ≡ pair 0 3 ∷ pair 2 1 ∷ []
