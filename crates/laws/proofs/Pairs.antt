-- The frames of a class and the pairs proposed of them: which frames are still to be merged, and that they are as they
-- were when they were listed.
use Rattle.std.proofs.Common.{◌≡◌, ℕ, zero, suc, ◌+◌, ◌<◌, ◌≤◌, Bool, true, false, cond, List, [], ◌∷◌, length, get_or, Some, None, filter, Option, sym, refl, ap, ◌∙◌, arith}
use lib.Bits.{bit_and}
use Rattle.std.specs.List.{range_with_len, AllByRecursion}
use Rattle.std.proofs.lemmas.Bool.{eqb-true}
use Rattle.std.proofs.lemmas.List.{length-map, get_or-map}
use Rattle.std.proofs.ByRecursion.{all_kept_by, kept_by_passes, All-get_or}
use Rattle.bank.specs.Tables.{put}
use Rattle.model.specs.declared.Row.{Row}
use Rattle.model.specs.Geometry.{Geometry}
use Rattle.model.specs.Mesh.{listed, masks_of, mask_of, of_class}
use Rattle.model.specs.Runs.{Unpaired, Fair}
use Rattle.laws.specs.Shape.{row_table}
use Rattle.laws.proofs.Masks.{counting_within}
use Rattle.laws.proofs.Tables.{put_other}

-- what passes a test, of numbers that rise, has no number twice
kept_apart : (test : ℕ → Bool) (a n i j : ℕ) → i < length (filter test (range_with_len a n)) → j < length (filter test (range_with_len a n))
    → get_or (filter test (range_with_len a n)) i 0 ≡ get_or (filter test (range_with_len a n)) j 0
    → i ≡ j
kept_apart test a zero i j hi hj e = absurd (omega arith)
kept_apart test a (suc n) i j hi hj e =
    by_test (test a) (filter test (range_with_len (a + 1) n))
    (all_kept_by test (λ k. (a + 1 ≤ k) × (k < a + 1 + n)) (range_with_len (a + 1) n) (counting_within (a + 1) n))
    (λ i j hi hj e. kept_apart test (a + 1) n i j hi hj e) i j hi hj e
  where
    by_head : (rest : List ℕ) → AllByRecursion (λ k. (a + 1 ≤ k) × (k < a + 1 + n)) rest
        → ((i j : ℕ) → i < length rest → j < length rest → get_or rest i 0 ≡ get_or rest j 0 → i ≡ j)
        → (i j : ℕ) → i < suc (length rest) → j < suc (length rest) → get_or (a ∷ rest) i 0 ≡ get_or (a ∷ rest) j 0
        → i ≡ j
    by_head rest above ih zero zero hi hj e = refl
    by_head rest above ih zero (suc j) hi hj e = absurd (omega (arith, e, All-get_or (λ k. (a + 1 ≤ k) × (k < a + 1 + n)) rest j 0 (omega arith) above))
    by_head rest above ih (suc i) zero hi hj e = absurd (omega (arith, e, All-get_or (λ k. (a + 1 ≤ k) × (k < a + 1 + n)) rest i 0 (omega arith) above))
    by_head rest above ih (suc i) (suc j) hi hj e = ap suc (ih i j (omega arith) (omega arith) e)

    by_test : (t : Bool) (rest : List ℕ) → AllByRecursion (λ k. (a + 1 ≤ k) × (k < a + 1 + n)) rest
        → ((i j : ℕ) → i < length rest → j < length rest → get_or rest i 0 ≡ get_or rest j 0 → i ≡ j)
        → (i j : ℕ) → i < length (cond t (a ∷ rest) rest) → j < length (cond t (a ∷ rest) rest) → get_or (cond t (a ∷ rest) rest) i 0 ≡ get_or (cond t (a ∷ rest) rest) j 0
        → i ≡ j
    by_test true rest above ih i j hi hj e = by_head rest above ih i j hi hj e
    by_test false rest above ih i j hi hj e = ih i j hi hj e

pub listed-apart : (g : Geometry) (class : ℕ) (rows : List (Option Row)) (i j : ℕ) → i < length (listed g class rows) → j < length (listed g class rows)
    → get_or (listed g class rows) i 0 ≡ get_or (listed g class rows) j 0
    → i ≡ j
unfolding listed
listed-apart g class rows = kept_apart (λ f. of_class class (get_or rows f None)) 0 g.frames

classed : (class : ℕ) (o : Option Row) → of_class class o ≡ true → (row : Row) × (o ≡ Some row) × (row.class ≡ class)
classed class None e = absurd (let z : ◌≡◌ {A = ℕ} 0 1 = cc in omega arith)
classed class (Some row) e = (row, refl, eqb-true row.class class e)

pub listed-row : (g : Geometry) (class : ℕ) (rows : List (Option Row)) (i : ℕ) → i < length (listed g class rows)
    → (row : Row) × (row_table rows (get_or (listed g class rows) i 0) ≡ Some row) × (row.class ≡ class)
unfolding listed
listed-row g class rows i h =
    classed class (get_or rows (get_or (listed g class rows) i 0) None)
    (All-get_or (λ f. of_class class (get_or rows f None) ≡ true) (listed g class rows) i 0 h (kept_by_passes (λ f. of_class class (get_or rows f None)) (range_with_len 0 g.frames)))

-- two frames that can be merged
pub record PairReady (rows : ℕ → Option Row) (class f h : ℕ) : Type 0 where
  pub first : Row
  pub second : Row
  pub has_first : rows f ≡ Some first
  pub has_second : rows h ≡ Some second
  pub first_class : first.class ≡ class
  pub second_class : second.class ≡ class
  pub apart : f ≡ h → ⊥
  pub joins : bit_and first.mask second.mask ≡ 0

-- the frame k is in none of the pairs
abbrev pub ClearOf : ℕ → List ℕ → List (ℕ × ℕ) → Type 0
ClearOf k frames [] = Unit {0}
ClearOf k frames ((i, j) ∷ pairs) = (get_or frames i 0 ≡ k → ⊥) × (get_or frames j 0 ≡ k → ⊥) × ClearOf k frames pairs

abbrev pub Ready : (ℕ → Option Row) → List ℕ → ℕ → List (ℕ × ℕ) → Type 0
Ready rows frames class [] = Unit {0}
Ready rows frames class ((i, j) ∷ pairs) =
    PairReady rows class (get_or frames i 0) (get_or frames j 0)
    × ClearOf (get_or frames i 0) frames pairs
    × ClearOf (get_or frames j 0) frames pairs
    × Ready rows frames class pairs

-- the rows of the frames of the pairs are as they were
abbrev pub Agree : (ℕ → Option Row) → (ℕ → Option Row) → List ℕ → List (ℕ × ℕ) → Type 0
Agree before now frames [] = Unit {0}
Agree before now frames ((i, j) ∷ pairs) =
    (now (get_or frames i 0) ≡ before (get_or frames i 0)) × (now (get_or frames j 0) ≡ before (get_or frames j 0)) × Agree before now frames pairs

pub agree_same : (rows : ℕ → Option Row) (frames : List ℕ) (pairs : List (ℕ × ℕ)) → Agree rows rows frames pairs
agree_same rows frames [] = tt
agree_same rows frames ((i, j) ∷ pairs) = (refl, refl, agree_same rows frames pairs)

-- a change at a frame that is in none of the pairs
pub agree_put : (before now : ℕ → Option Row) (frames : List ℕ) (pairs : List (ℕ × ℕ)) (k : ℕ) (v : Option Row) → ClearOf k frames pairs
    → Agree before now frames pairs
    → Agree before (put now k v) frames pairs
agree_put before now frames [] k v clear agree = tt
agree_put before now frames ((i, j) ∷ pairs) k v clear agree =
    (put_other now k v (get_or frames i 0) clear.0 ∙ agree.0, put_other now k v (get_or frames j 0) clear.1 ∙ agree.1, agree_put before now frames pairs k v clear.2 agree.2)

module _ (g : Geometry) (class : ℕ) (rows : List (Option Row)) where
  long : length (masks_of rows (listed g class rows)) ≡ length (listed g class rows)
  long = length-map (listed g class rows) (λ f. mask_of (get_or rows f None))

  clear-from : (k : ℕ) (pairs : List (ℕ × ℕ)) → k < length (listed g class rows) → Fair (masks_of rows (listed g class rows)) pairs → Unpaired k pairs
      → ClearOf (get_or (listed g class rows) k 0) (listed g class rows) pairs
  clear-from k [] below fair free = tt
  clear-from k ((i, j) ∷ pairs) below fair free = (
    λ e. free.0 (sym (listed-apart g class rows i k (omega (arith, fair.0, long)) below e)),
    λ e. free.1 (sym (listed-apart g class rows j k (omega (arith, fair.1, long)) below e)),
    clear-from k pairs below fair.6 free.2,
  )

  mask_at : (i : ℕ) (row : Row) → i < length (listed g class rows) → row_table rows (get_or (listed g class rows) i 0) ≡ Some row → get_or (masks_of rows (listed g class rows)) i 0 ≡ row.mask
  mask_at i row below has =
      get_or-map (λ f. mask_of (get_or rows f None)) (listed g class rows) i 0 0 below ∙ ap mask_of has

  -- what a lawful pairing proposes can be merged
  pub ready_from : (pairs : List (ℕ × ℕ)) → Fair (masks_of rows (listed g class rows)) pairs → Ready (row_table rows) (listed g class rows) class pairs
  ready_from [] fair = tt
  ready_from ((i, j) ∷ pairs) fair =
      let in_i : i < length (listed g class rows) = omega (arith, fair.0, long) in
      let in_j : j < length (listed g class rows) = omega (arith, fair.1, long) in
      let a = listed-row g class rows i in_i in
      let b = listed-row g class rows j in_j in (
        record {
          first = a.0;
          second = b.0;
          has_first = a.1;
          has_second = b.1;
          first_class = a.2;
          second_class = b.2;
          apart = λ e. fair.2 (listed-apart g class rows i j in_i in_j e);
          joins =
              sym (ap (λ x. bit_and x b.0.mask) (mask_at i a.0 in_i a.1))
              ∙ sym (ap (λ x. bit_and (get_or (masks_of rows (listed g class rows)) i 0) x) (mask_at j b.0 in_j b.1))
              ∙ eqb-true (bit_and (get_or (masks_of rows (listed g class rows)) i 0) (get_or (masks_of rows (listed g class rows)) j 0)) 0 fair.3;
        },
        clear-from i pairs in_i fair.6 fair.4,
        clear-from j pairs in_j fair.6 fair.5,
        ready_from pairs fair.6,
      )
