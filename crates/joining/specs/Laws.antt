-- What a joining keeps. A joining gives the join of two elements, or None where they clash.
use Rattle.std.specs.Prelude.{◌≡◌, Some, Option}

-- if a joins b, then b joins a with the same result
abbrev pub Commutes : {X : Type 0} → (X → X → Option X) → Type 0
Commutes {X} join = (a b r : X) → join a b ≡ Some r → join b a ≡ Some r

-- if a joins b, and the result joins c, then b joins c, a joins that result, and both ways agree
abbrev pub Groups : {X : Type 0} → (X → X → Option X) → Type 0
Groups {X} join =
    (a b c ab abc : X) → join a b ≡ Some ab → join ab c ≡ Some abc → (bc : X) × (join b c ≡ Some bc) × (join a bc ≡ Some abc)

-- an empty element joins every element and leaves it as it is
abbrev pub Leaves : {X : Type 0} → (X → X → Option X) → X → Type 0
Leaves {X} join none = (a : X) → join none a ≡ Some a
