-- The joining of rows, over any joining of elements.
use Rattle.std.specs.Prelude.{◌≡◌, cond, List, [], ◌∷◌, length, replicate, Some, None, Ok, Err, Option, Result, ◌==◌}
use Rattle.refusal.specs.declared.Refusal.{Refusal}
use Rattle.refusal.specs.declared.Refusal.TheVariants.{Row, Clash}
use Rattle.joining.specs.Laws.{Commutes, Groups}

-- an element and what follows it, where there are both
abbrev pub before : {X : Type 0} → Option X → Option (List X) → Option (List X)
before (Some x) (Some xs) = Some (x ∷ xs)
before (Some x) None = None
before None xs = None

-- two rows of one length join where they join at every place
abbrev pub rows : {X : Type 0} → (X → X → Option X) → List X → List X → Option (List X)
rows join [] [] = Some []
rows join [] (y ∷ ys) = None
rows join (x ∷ xs) [] = None
rows join (x ∷ xs) (y ∷ ys) = before (join x y) (rows join xs ys)

-- the answer, and what the first row holds afterwards
abbrev pub joined_or_clash : {X : Type 0} → Option (List X) → List X → Result (Unit {0}) Refusal × List X
joined_or_clash (Some row) first = (Ok tt, row)
joined_or_clash None first = (Err Clash, first)

abbrev pub rows_joined : {X : Type 0} → (X → X → Option X) → List X → List X → Result (Unit {0}) Refusal × List X
rows_joined join first second =
    cond (length first == length second) (joined_or_clash (rows join first second) first) (Err Row, first)

-- rows keep the laws of a joining, and a row of empty elements is the empty row of its length
abbrev pub RowsKeepLaws : {X : Type 0} → (X → X → Option X) → X → Type 0
RowsKeepLaws {X} join none =
    Commutes (rows join) × Groups (rows join) × ((xs : List X) → rows join (replicate (length xs) none) xs ≡ Some xs)
