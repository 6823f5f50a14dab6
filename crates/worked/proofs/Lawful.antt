-- A pairing that keeps its law keeps the law that a pool asks of it.
use Rattle.std.proofs.Common.{◌≡◌, ℕ, false, ◌||◌, eqb, List, [], ◌∷◌, map}
use Rattle.std.specs.List.{AllByRecursion}
use Rattle.std.proofs.lemmas.Bool.{eqb-false, or_parts}
use Rattle.pairing.specs.declared.pairs.Pair.{Pair}
use Rattle.pairing.specs.Pairs as pairs
use Rattle.pairing.specs.Pairs.{paired}
use Rattle.model.specs.Runs.{Unpaired, Fair, Lawful}
use Rattle.pool.specs.Pairings.{places_of, meaning_of}

unpaired_from : (k : ℕ) (ps : List Pair) → paired k ps ≡ false → Unpaired k (map places_of ps)
unpaired_from k [] free = tt
unpaired_from k (p ∷ ps) free =
    let parts = or_parts (eqb k p.left || eqb k p.right) (paired k ps) free in
    let here = or_parts (eqb k p.left) (eqb k p.right) parts.0 in
    (eqb-false k p.left here.0, eqb-false k p.right here.1, unpaired_from k ps parts.1)

fair_each : (ms : List ℕ) (ps : List Pair) → AllByRecursion (pairs.Fair ms) ps → pairs.Apart ps → Fair ms (map places_of ps)
fair_each ms [] fair apart = tt
fair_each ms (p ∷ ps) fair apart =
    (fair.0.left_below, fair.0.right_below, fair.0.differ, fair.0.join, unpaired_from p.left ps apart.0, unpaired_from p.right ps apart.1, fair_each ms ps fair.1 apart.2)

pub fair-from : (ms : List ℕ) (ps : List Pair) → pairs.Lawful ms ps → Fair ms (map places_of ps)
fair-from ms ps lawful = fair_each ms ps lawful.fair lawful.apart

pub lawful_from : {C : Type 0} (proposed : C → List ℕ → List Pair) (next : C → List ℕ → C) → ((c : C) (ms : List ℕ) → pairs.Lawful ms (proposed c ms)) → Lawful (meaning_of proposed next)
lawful_from proposed next lawful c ms = fair-from ms (proposed c ms) (lawful c ms)
