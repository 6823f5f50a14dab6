-- Folds and searches over the numbers from a place on.
use Rattle.std.specs.Prelude.{◌≡◌, ℕ, zero, suc, ◌+◌, ◌-◌, ◌<◌, ◌≤◌, Bool, true, false, List, [], ◌∷◌, ◌++◌, Some, None, fold}
use Rattle.std.proofs.Common.{sym, ap, ◌∙◌, arith, ⊎_elim}
use Rattle.std.specs.List.{find, range_with_len, AllByRecursion}
use Rattle.std.proofs.lemmas.List.{map-id}
use Rattle.std.proofs.lemmas.List.Sums.{fold_push}
use Rattle.std.proofs.lemmas.List.FromFn.{map-range_with_len_more, length-range_with_len, get_or-range_with_len}
use Rattle.std.proofs.ByRecursion.{All-from_get_or}
use Rattle.std.proofs.lemmas.Bool.{cond-true, cond-false, cases_Bool, cases_eq}

pub counting_push : (n : ℕ) → range_with_len 0 (n + 1) ≡ range_with_len 0 n ++ n ∷ []
counting_push n =
    sym (map-id (range_with_len 0 (n + 1))) ∙ map-range_with_len_more (λ x. x) 0 n n (omega arith) ∙ ap (λ l. l ++ n ∷ []) (map-id (range_with_len 0 n))

pub counting_below : (n : ℕ) → AllByRecursion (λ k. k < n) (range_with_len 0 n)
counting_below n =
    All-from_get_or (λ k. k < n) (range_with_len 0 n) 0
    (λ i h. let l : i < n = omega (arith, length-range_with_len 0 n, h) in omega (arith, get_or-range_with_len 0 n i 0 l))

-- one turn more
pub folded_counting_more : {B : Type 0} (f : B → ℕ → B) (a : B) (n : ℕ)
    → fold f a (range_with_len 0 (n + 1)) ≡ f (fold f a (range_with_len 0 n)) n
folded_counting_more f a n = ap (fold f a) (counting_push n) ∙ fold_push f a (range_with_len 0 n) n

-- what every turn keeps, the fold keeps
pub folded_keeps : {A B : Type 0} (P : B → Type 0) (Q : A → Type 0) (f : B → A → B) → ((b : B) (x : A) → Q x → P b → P (f b x))
    → (xs : List A) (a : B) → AllByRecursion Q xs → P a → P (fold f a xs)
folded_keeps P Q f step [] a all p = p
folded_keeps P Q f step (x ∷ xs) a all p = folded_keeps P Q f step xs (f a x) all.1 (step a x all.0 p)

-- the numbers from k up to n begin with k
pub counting_first : (k n : ℕ) → k < n → range_with_len k (n - k) ≡ k ∷ range_with_len (k + 1) (n - (k + 1))
counting_first k n h = let more : n - k ≡ suc (n - (k + 1)) = omega arith in ap (range_with_len k) more

module _ (t : ℕ → Bool) where
  -- what the first number that passes is, and that none before it does
  pub find_some : (m k j : ℕ) → find t (range_with_len k m) ≡ Some j
      → (k ≤ j) × (j < k + m) × (t j ≡ true) × ((q : ℕ) → k ≤ q → q < j → t q ≡ false)
  find_some zero k j e = absurd (let z : ◌≡◌ {A = ℕ} 0 1 = cc in omega arith)
  find_some (suc m) k j e =
      ⊎_elim
      (λ passes.
      let same : k ≡ j = let f = cond-true (t k) (Some k) (find t (range_with_len (k + 1) m)) passes in cc in
      (omega arith, omega arith, ap t (sym same) ∙ passes, λ q low high. absurd (omega arith)))
      (λ fails.
      let r = find_some m (k + 1) j (sym (cond-false (t k) (Some k) (find t (range_with_len (k + 1) m)) fails) ∙ e) in (
        omega (arith, r.0),
        omega (arith, r.1),
        r.2,
        λ q low high. ⊎_elim (λ same. ap t same ∙ fails) (λ other. r.3 q (omega (arith, other)) high) (cases_eq q k),
      ))
      (cases_Bool (t k))

  pub find_none : (m k : ℕ) → find t (range_with_len k m) ≡ None → (q : ℕ) → k ≤ q → q < k + m → t q ≡ false
  find_none zero k e q low high = absurd (omega arith)
  find_none (suc m) k e q low high =
      ⊎_elim
      (λ passes.
      let f = cond-true (t k) (Some k) (find t (range_with_len (k + 1) m)) passes in
      absurd (let z : ◌≡◌ {A = ℕ} 0 1 = cc in omega arith))
      (λ fails.
      let g = sym (cond-false (t k) (Some k) (find t (range_with_len (k + 1) m)) fails) ∙ e in
      ⊎_elim (λ same. ap t same ∙ fails) (λ other. find_none m (k + 1) g q (omega (arith, other)) (omega arith)) (cases_eq q k))
      (cases_Bool (t k))

  -- one turn of a search
  pub find_here : (k n : ℕ) → k < n → t k ≡ true → find t (range_with_len k (n - k)) ≡ Some k
  find_here k n h passes =
      ap (find t) (counting_first k n h) ∙ cond-true (t k) (Some k) (find t (range_with_len (k + 1) (n - (k + 1)))) passes

  pub find_later : (k n : ℕ) → k < n → t k ≡ false
      → find t (range_with_len k (n - k)) ≡ find t (range_with_len (k + 1) (n - (k + 1)))
  find_later k n h fails =
      ap (find t) (counting_first k n h) ∙ cond-false (t k) (Some k) (find t (range_with_len (k + 1) (n - (k + 1)))) fails

  pub find_end : (k n : ℕ) → n ≤ k → find t (range_with_len k (n - k)) ≡ None
  find_end k n h = let none : n - k ≡ 0 = omega arith in ap (λ m. find t (range_with_len k m)) none
