-- A pairing as the definition of a pool has it.
use Rattle.std.specs.Prelude.{ℕ, ◌≤◌, List, map, Ok, Err, Result}
use Rattle.pairing.specs.declared.pairs.Pair.{Pair}
use Rattle.refusal.specs.declared.Refusal.{Refusal}
use Rattle.model.specs.declared.Meshed.{Meshed}
use Rattle.model.specs.Mesh.{Meaning}

-- the two places of a pair
abbrev pub places_of : Pair → ℕ × ℕ
places_of p = (p.left, p.right)

-- what a pairing means, from what it proposes and its next condition
abbrev pub meaning_of : {C : Type 0} → (C → List ℕ → List Pair) → (C → List ℕ → C) → Meaning C
meaning_of pairs next = record { pairs = λ c masks. map places_of (pairs c masks); next = next }

-- a merge is one at most, and copies at most what 64 slots of 1,024 bytes hold: sums of them fit their numbers
abbrev pub Few : Result Meshed Refusal → Type 0
Few (Ok meshed) = (meshed.merges ≤ 1) × (meshed.bytes ≤ 65536)
Few (Err e) = Unit {0}
