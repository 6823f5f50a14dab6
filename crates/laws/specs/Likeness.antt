-- What it is for two plays to be alike in all but the bytes written.
use Rattle.std.specs.Prelude.{◌≡◌, ℕ, List, [], ◌∷◌, length, replicate}
use Rattle.model.specs.Mesh.{Meaning}
use Rattle.model.specs.Runs.{Call, New, Write, Read, Fetch, Place, Delete, Mesh, Count}

-- the condition of a pairing after lists of masks were handed to it
abbrev pub conditioned : {C : Type 0} → Meaning C → C → List (List ℕ) → C
conditioned meaning c [] = c
conditioned meaning c (masks ∷ seen) = conditioned meaning (meaning.next c masks) seen

-- two pairings, each in a condition, are one pairing in one condition, as far as what they propose can tell
abbrev pub ProposeAlike : {C D : Type 0} → Meaning C → C → Meaning D → D → Type 0
ProposeAlike one c two d =
    (seen : List (List ℕ)) (masks : List ℕ) → one.pairs (conditioned one c seen) masks ≡ two.pairs (conditioned two d seen) masks

-- a call with zeros for the bytes that it writes
abbrev pub blank : Call → Call
blank (New l n) = New l n
blank (Write l o bytes) = Write l o (replicate (length bytes) 0)
blank (Read l o n) = Read l o n
blank (Fetch a n) = Fetch a n
blank (Place l) = Place l
blank (Delete l) = Delete l
blank (Mesh class) = Mesh class
blank Count = Count
