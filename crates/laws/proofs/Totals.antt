-- Sums over the first places, and counts as such sums.
use Rattle.std.proofs.Common.{◌≡◌, ℕ, zero, suc, ◌+◌, ◌<◌, Bool, cond, ◌⊎◌, is_some, Option, sym, refl, ap, ◌∙◌, ap₂, inl, inr, arith}
use Rattle.std.proofs.lemmas.Bool.{cases_eq}
use Rattle.bank.specs.Tables.{put}
use Rattle.model.specs.declared.Row.{Row}
use Rattle.model.specs.Calls.{tally}
use Rattle.model.proofs.Places.{tally_more, tally-none}
use Rattle.laws.specs.Counts.{total}
use Rattle.laws.proofs.Tables.{put_same, put_other}

pub total_same : (n : ℕ) (a b : ℕ → ℕ) → ((k : ℕ) → k < n → a k ≡ b k) → total n a ≡ total n b
total_same zero a b same = refl
total_same (suc n) a b same = ap₂ ◌+◌ (total_same n a b (λ k h. same k (omega arith))) (same n (omega arith))

-- a change at one place
pub total_change : (n : ℕ) (a b : ℕ → ℕ) (f : ℕ) → f < n → ((q : ℕ) → (q ≡ f → ⊥) → a q ≡ b q) → total n a + b f ≡ total n b + a f
total_change zero a b f below same = absurd (omega arith)
total_change (suc n) a b f below same = by_place (cases_eq f n) (λ h. total_change n a b f h same)
  where
    by_place : (f ≡ n) ⊎ (f ≡ n → ⊥) → (f < n → total n a + b f ≡ total n b + a f) → total n a + a n + b f ≡ total n b + b n + a f
    by_place (inl last) rest =
        let front : total n a ≡ total n b = total_same n a b (λ k h. same k (λ e. omega (arith, e, h, last))) in
        let at_a : a f ≡ a n = ap a last in
        let at_b : b f ≡ b n = ap b last in
        omega arith
    by_place (inr earlier) rest =
        let at_n : a n ≡ b n = same n (λ e. earlier (sym e)) in
        omega (arith, rest (omega (arith, earlier)))

-- how many pass a test, as a sum
pub tally-total : (n : ℕ) (test : ℕ → Bool) → tally n test ≡ total n (λ k. cond (test k) 1 0)
tally-total zero test = tally-none test
tally-total (suc n) test =
    ap (λ k. tally k test) (let e : suc n ≡ n + 1 = omega arith in e) ∙ tally_more n test ∙ ap (λ k. k + cond (test n) 1 0) (tally-total n test)

-- how many of the first n frames have a row
abbrev pub one_if : Bool → ℕ
one_if b = cond b 1 0

abbrev pub rows_out : ℕ → (ℕ → Option Row) → ℕ
rows_out n rows = total n (λ f. one_if (is_some (rows f)))

pub rows_out-put : (n : ℕ) (rows : ℕ → Option Row) (f : ℕ) (v : Option Row) → f < n
    → rows_out n (put rows f v) + one_if (is_some (rows f)) ≡ rows_out n rows + one_if (is_some v)
rows_out-put n rows f v below =
    total_change n (λ q. one_if (is_some (put rows f v q))) (λ q. one_if (is_some (rows q))) f below
    (λ q apart. ap (λ (o : Option Row). one_if (is_some o)) (put_other rows f v q apart))
    ∙ ap (λ (o : Option Row). rows_out n rows + one_if (is_some o)) (put_same rows f v)
