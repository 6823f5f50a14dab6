-- What the definitions that go over the numbers of places say of a whole table.
use Rattle.std.proofs.Common.{◌≡◌, ℕ, zero, suc, ◌+◌, ◌^◌, ◌<◌, ◌≤◌, Bool, true, false, cond, List, [], ◌∷◌, ◌++◌, map, fold, length, get_or, take, Some, Option, sym, refl, ap, ◌∙◌, subst, add-one, add-zero, arith}
use Rattle.std.specs.Bool.{⊤}
use Rattle.std.specs.Iterator.{Drains}
use Rattle.std.specs.Iterator.Runs.{EachRunFrom}
use Rattle.std.specs.List.{range_with_len, filter, count_by, position, position_from}
use Rattle.std.proofs.lemmas.List.{take_all}
use Rattle.std.proofs.lemmas.List.Filters.{length-filter_more}
use Rattle.std.proofs.lemmas.List.Sums.{length-filter, count_by-le-length}
use Rattle.std.proofs.lemmas.Iterator.{YieldsList}
use Rattle.std.proofs.lemmas.Iterator.Adapters.{position_from-zero}
use Rattle.std.proofs.lemmas.Iterator.Consumers.{sum_by_from_yields_List, fits_by_from_yields_list}
use Rattle.model.specs.Calls.{tally, first_of}
use Rattle.model.proofs.Places.{tally_more, tally-none, kept_more}

tally_front : {A : Type 0} (d : A) (test : A → Bool) (xs : List A) (n : ℕ) → n ≤ length xs → tally n (λ k. test (get_or xs k d)) ≡ length (filter test (take n xs))
tally_front d test xs zero within = tally-none (λ k. test (get_or xs k d))
tally_front d test xs (suc n) within =
    let passes : ℕ → Bool = λ k. test (get_or xs k d) in
    let below : n < length xs = omega arith in
    let P : ℕ → Type 0 = λ m. tally m passes ≡ length (filter test (take m xs)) in
    subst P (add-one n)
    (tally_more n passes
    ∙ ap (λ t. t + cond (passes n) 1 0) (tally_front d test xs n (omega arith))
    ∙ sym (length-filter_more test xs n d below))

-- how many places of a table pass
pub tally-table : {A : Type 0} (d : A) (test : A → Bool) (xs : List A) (n : ℕ) → length xs ≡ n → tally n (λ k. test (get_or xs k d)) ≡ count_by test xs
tally-table d test xs n all =
    tally_front d test xs n (omega arith)
    ∙ ap (λ ys. length (filter test ys)) (take_all n xs (omega arith))
    ∙ length-filter test xs

-- a chain that gives 1 for each place that passes, and 0 for each other: its sum fits a number of 32 bits, and is how many pass
module _ {S A : Type 0} {steps : S → Option ℕ → S → Type 0} {s : S} (test : A → Bool) (xs : List A)
    (road : YieldsList steps (λ x. x) s (map (λ x. cond (test x) 1 0) xs)) where
  pub tally-fits : length xs < 2 ^ 32 → EachRunFrom steps s (λ p. fold (λ a x. a + x) 0 p.items < 2 ^ 32)
  tally-fits few =
      let most = count_by-le-length test xs in
      fits_by_from_yields_list (λ x. cond (test x) 1 0) xs s (2 ^ 32) road (omega (arith, most, few))

  pub tally-sum : (d : A) (n r : ℕ) → length xs ≡ n → ((ys : List ℕ) × (⊤ → Drains steps s ys) × (r ≡ fold (λ a x. a + x) 0 ys))
      → r ≡ tally n (λ k. test (get_or xs k d))
  tally-sum d n r all ran = sum_by_from_yields_List (λ x. cond (test x) 1 0) xs s r ran road ∙ sym (tally-table d test xs n all)

first_of-cond : (b : Bool) (n : ℕ) (rest : List ℕ) → first_of (cond b (n ∷ rest) rest) ≡ cond b (Some n) (first_of rest)
first_of-cond true n rest = refl
first_of-cond false n rest = refl

first_from : {A : Type 0} (d : A) (test : A → Bool) (passes : ℕ → Bool) (a : ℕ) (xs : List A) → ((k : ℕ) → k < length xs → passes (a + k) ≡ test (get_or xs k d)) → first_of (filter passes (range_with_len a (length xs))) ≡ position_from test a xs
first_from d test passes a [] same = refl
first_from d test passes a (x ∷ xs) same =
    let here : passes a ≡ test x = ap passes (sym (add-zero a)) ∙ same 0 (omega arith) in
    let rest = filter passes (range_with_len (a + 1) (length xs)) in
    first_of-cond (passes a) a rest
    ∙ ap (λ b. cond b (Some a) (first_of rest)) here
    ∙ ap (cond (test x) (Some a))
    (first_from d test passes (a + 1) xs (λ k below. ap passes (let e : a + 1 + k ≡ a + suc k = omega arith in e) ∙ same (suc k) (omega arith)))

-- the first place that passes
pub first-table : {A : Type 0} (d : A) (test : A → Bool) (xs : List A) (n : ℕ) → length xs ≡ n → first_of (filter (λ k. test (get_or xs k d)) (range_with_len 0 n)) ≡ position test xs
first-table d test xs n all =
    let passes : ℕ → Bool = λ k. test (get_or xs k d) in
    ap (λ m. first_of (filter passes (range_with_len 0 m))) (sym all)
    ∙ first_from d test passes 0 xs (λ k below. ap passes (let e : 0 + k ≡ k = omega arith in e))
    ∙ sym (position_from-zero test xs)

-- a loop that lists the places that pass has come one further
pub listed_more : (test : ℕ → Bool) (n : ℕ) (row next : List ℕ) (passes : Bool) → row ≡ filter test (range_with_len 0 n) → test n ≡ passes → next ≡ row ++ cond passes (n ∷ []) [] → next ≡ filter test (range_with_len 0 (n + 1))
listed_more test n row next passes so_far here step =
    step
    ∙ ap (λ front. front ++ cond passes (n ∷ []) []) so_far
    ∙ sym (kept_more test n ∙ ap (λ t. filter test (range_with_len 0 n) ++ cond t (n ∷ []) []) here)
