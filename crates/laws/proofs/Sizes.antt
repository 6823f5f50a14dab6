-- Sizes of slots: they are at least 1, at most a frame, and rise; a slot ends within its frame.
use Rattle.std.proofs.Common.{◌≡◌, ℕ, zero, suc, ◌+◌, ◌-◌, ◌*◌, ◌/◌, ◌<◌, ◌≤◌, Bool, true, false, cond, ltb, leb, List, [], ◌∷◌, length, get_or, sym, refl, ap, ◌∙◌, mul_comm, mul-suc, div-mul-le_self, arith}
use Rattle.std.proofs.lemmas.Bool.{leb-true, leb-false, ltb-true, and_parts}
use Rattle.std.proofs.lemmas.Nat.{div-mul-add, le-div, mul-le}
use Rattle.model.specs.Geometry.{Geometry, rises, last_of, least_class, class_of, slot_size, slots, longest, places}

rises_up : (a : ℕ) (xs : List ℕ) (k d : ℕ) → rises a xs ≡ true → k < length xs → a < get_or xs k d
rises_up a [] k d up h = absurd (omega arith)
rises_up a (x ∷ xs) zero d up h = ltb-true a x (and_parts (ltb a x) (rises x xs) up).0
rises_up a (x ∷ xs) (suc k) d up h =
    let p = and_parts (ltb a x) (rises x xs) up in
    omega (arith, ltb-true a x p.0, rises_up x xs k d p.1 (omega arith))

last_most : (a : ℕ) (xs : List ℕ) (k d : ℕ) → rises a xs ≡ true → k < length xs → (get_or xs k d ≤ last_of a xs) × (a ≤ last_of a xs)
last_most a [] k d up h = absurd (omega arith)
last_most a (x ∷ []) zero d up h = (omega arith, omega (arith, ltb-true a x (and_parts (ltb a x) true up).0))
last_most a (x ∷ []) (suc k) d up h = absurd (omega arith)
last_most a (x ∷ y ∷ ys) zero d up h =
    let p = and_parts (ltb a x) (rises x (y ∷ ys)) up in
    let rest = last_most x (y ∷ ys) 0 d p.1 (omega arith) in
    (rest.1, omega (arith, ltb-true a x p.0, rest.1))
last_most a (x ∷ y ∷ ys) (suc k) d up h =
    let p = and_parts (ltb a x) (rises x (y ∷ ys)) up in
    let rest = last_most x (y ∷ ys) k d p.1 (omega arith) in
    (rest.0, omega (arith, ltb-true a x p.0, rest.1))

first_least : (a : ℕ) (xs : List ℕ) (k d e : ℕ) → rises a xs ≡ true → k < length xs → get_or xs 0 e ≤ get_or xs k d
first_least a [] k d e up h = absurd (omega arith)
first_least a (x ∷ xs) zero d e up h = omega arith
first_least a (x ∷ xs) (suc k) d e up h =
    omega (arith, rises_up x xs k d (and_parts (ltb a x) (rises x xs) up).1 (omega arith))

least_below : (a : ℕ) (xs : List ℕ) (n d : ℕ) → a < n → n ≤ last_of a xs → (least_class xs n < length xs) × (n ≤ get_or xs (least_class xs n) d)
least_below a [] n d low high = absurd (omega arith)
least_below a (x ∷ xs) n d low high = by_test (leb n x) refl (λ above. least_below x xs n d above high)
  where
    by_test : (t : Bool) → leb n x ≡ t
        → (x < n → (least_class xs n < length xs) × (n ≤ get_or xs (least_class xs n) d))
        → (cond t 0 (suc (least_class xs n)) < suc (length xs)) × (n ≤ get_or (x ∷ xs) (cond t 0 (suc (least_class xs n))) d)
    by_test true e rest = (omega arith, leb-true n x e)
    by_test false e rest = let r = rest (leb-false n x e) in (omega (arith, r.0), r.1)

module _ (g : Geometry) where
  pub class_below : (n : ℕ) → 1 ≤ n → n ≤ longest g → class_of g n < length g.sizes
  unfolding class_of
  class_below n low high = (least_below 0 g.sizes n 0 low high).0

  pub class_holds : (n : ℕ) → 1 ≤ n → n ≤ longest g → n ≤ slot_size g (class_of g n)
  unfolding class_of slot_size
  class_holds n low high = (least_below 0 g.sizes n g.frame low high).1

  module _ (c : ℕ) (is_class : c < length g.sizes) where
    pub slot_size_pos : 0 < slot_size g c
    unfolding slot_size
    slot_size_pos = rises_up 0 g.sizes c g.frame g.rising is_class

    pub slot_size_le : slot_size g c ≤ g.frame
    unfolding slot_size
    slot_size_le = omega (arith, (last_most 0 g.sizes c g.frame g.rising is_class).0, leb-true (longest g) g.frame g.within)

    pub slots_pos : 0 < slots g c
    slots_pos = le-div 1 g.frame (slot_size g c) slot_size_pos (omega (arith, slot_size_le))

    first-size_le : slot_size g 0 ≤ slot_size g c
    unfolding slot_size
    first-size_le = first_least 0 g.sizes c g.frame g.frame g.rising is_class

    first-size_pos : 0 < slot_size g 0
    unfolding slot_size
    first-size_pos = rises_up 0 g.sizes 0 g.frame g.rising (omega (arith, is_class))

    -- a mask has a place for each slot
    pub slots_le_places : slots g c ≤ places g
    slots_le_places =
        le-div (slots g c) g.frame (slot_size g 0) first-size_pos
        (omega (arith, div-mul-le_self g.frame (slot_size g c), mul-le (slots g c) (slot_size g 0) (slots g c) (slot_size g c) (omega arith) first-size_le))

    pub slots_fill : slot_size g c * slots g c ≤ g.frame
    slots_fill = omega (arith, div-mul-le_self g.frame (slot_size g c), mul_comm (slot_size g c) (slots g c))

    -- a slot ends within the frame
    pub slot_ends : (slot : ℕ) → slot < slots g c → slot_size g c * slot + slot_size g c ≤ g.frame
    slot_ends slot h =
        omega (arith, slots_fill, mul-le (slot_size g c) (suc slot) (slot_size g c) (slots g c) (omega arith) h, mul_suc' (slot_size g c) slot)
      where
        mul_suc' : (a b : ℕ) → a * suc b ≡ a * b + a
        mul_suc' a b = mul-suc a b

-- an offset lies in one slot
pub same_slot : (size j k i : ℕ) → size * j ≤ i → i < size * j + size → size * k ≤ i → i < size * k + size → j ≡ k
same_slot size j k i jl jh kl kh =
    sym (div-mul-add j size (i - size * j) (omega arith))
    ∙ ap (λ n. n / size) (let e : j * size + (i - size * j) ≡ k * size + (i - size * k) = omega (arith, mul_comm j size, mul_comm k size) in e)
    ∙ div-mul-add k size (i - size * k) (omega arith)
