-- The first n places, those of them that pass a test, and the steps of a loop over them.
use Rattle.std.proofs.Common.{◌≡◌, ℕ, zero, suc, ◌+◌, ◌-◌, ◌<◌, ◌≤◌, Bool, true, false, cond, ◌&&◌, ltb, List, [], ◌∷◌, ◌++◌, length, get_or, Some, None, fold, Option, unwrap_or, sym, refl, ap, ◌∙◌, add-zero, add-one, arith, length-append}
use Rattle.std.proofs.lemmas.Bool.{and_parts}
use Rattle.std.specs.List.{range_with_len, filter}
use Rattle.std.proofs.lemmas.List.Elements.{filter-append}
use Rattle.std.proofs.lemmas.List.Sums.{fold_push}
use Rattle.model.specs.declared.Row.{Row}
use Rattle.model.specs.Geometry.{Geometry}
use Rattle.model.specs.Calls.{occupied, serves, tally, better, best_below}

-- one place more at the end
pub counting_more : (a n : ℕ) → range_with_len a (suc n) ≡ range_with_len a n ++ ((a + n) ∷ [])
counting_more a zero = ap (λ k. k ∷ []) (sym (add-zero a))
counting_more a (suc n) =
    ap (λ rest. a ∷ rest) (counting_more (a + 1) n ∙ ap (λ k. range_with_len (a + 1) n ++ (k ∷ [])) (omega arith))

counting_push : (n : ℕ) → range_with_len 0 (n + 1) ≡ range_with_len 0 n ++ (n ∷ [])
counting_push n =
    ap (range_with_len 0) (add-one n) ∙ counting_more 0 n ∙ ap (λ k. range_with_len 0 n ++ (k ∷ [])) (omega arith)

-- a loop that lists the places that pass
pub kept_more : (test : ℕ → Bool) (n : ℕ) → filter test (range_with_len 0 (n + 1)) ≡ filter test (range_with_len 0 n) ++ cond (test n) (n ∷ []) []
kept_more test n = ap (filter test) (counting_push n) ∙ filter-append test (range_with_len 0 n) (n ∷ [])

one_or_none : (t : Bool) (n : ℕ) → length (cond t (n ∷ []) []) ≡ cond t 1 0
one_or_none true n = refl
one_or_none false n = refl

-- a loop that counts the places that pass
pub tally_more : (n : ℕ) (test : ℕ → Bool) → tally (n + 1) test ≡ tally n test + cond (test n) 1 0
unfolding tally
tally_more n test =
    ap length (kept_more test n)
    ∙ length-append (filter test (range_with_len 0 n)) (filter test (n ∷ []))
    ∙ ap (λ k. length (filter test (range_with_len 0 n)) + k) (one_or_none (test n) n)

pub tally-none : (test : ℕ → Bool) → tally 0 test ≡ 0
unfolding tally
tally-none test = refl

-- a loop that keeps the best frame so far
pub best_more : (g : Geometry) (class : ℕ) (rows : List (Option Row)) (n : ℕ) → best_below g class rows (n + 1) ≡ better g class n (get_or rows n None) (best_below g class rows n)
unfolding best_below
best_more g class rows n =
    let beat = λ (held : Option (ℕ × Row)) (f : ℕ). better g class f (get_or rows f None) held in
    ap (λ ps. fold beat None ps) (counting_push n) ∙ fold_push beat None (range_with_len 0 n) n

pub best_none : (g : Geometry) (class : ℕ) (rows : List (Option Row)) → best_below g class rows 0 ≡ None
unfolding best_below
best_none g class rows = refl

-- the places that pass, from i on and below n
unfoldable pub passing : (ℕ → Bool) → ℕ → ℕ → List ℕ
passing test n i = filter test (range_with_len i (n - i))

pub passing_all : (test : ℕ → Bool) (n : ℕ) → passing test n 0 ≡ filter test (range_with_len 0 n)
unfolding passing
passing_all test n = ap (λ k. filter test (range_with_len 0 k)) (omega arith)

passing_step : (test : ℕ → Bool) (n i : ℕ) → i < n → passing test n i ≡ cond (test i) (i ∷ passing test n (i + 1)) (passing test n (i + 1))
unfolding passing
passing_step test n i below =
    ap (λ k. filter test (range_with_len i k)) (let e : n - i ≡ suc (n - (i + 1)) = omega arith in e)

pub passing_yes : (test : ℕ → Bool) (n i : ℕ) → i < n → test i ≡ true → passing test n i ≡ i ∷ passing test n (i + 1)
passing_yes test n i below passes =
    passing_step test n i below ∙ ap (λ b. cond b (i ∷ passing test n (i + 1)) (passing test n (i + 1))) passes

pub passing_no : (test : ℕ → Bool) (n i : ℕ) → i < n → test i ≡ false → passing test n i ≡ passing test n (i + 1)
passing_no test n i below fails =
    passing_step test n i below ∙ ap (λ b. cond b (i ∷ passing test n (i + 1)) (passing test n (i + 1))) fails

pub passing-end : (test : ℕ → Bool) (n i : ℕ) → n ≤ i → passing test n i ≡ []
unfolding passing
passing-end test n i past = ap (λ k. filter test (range_with_len i k)) (let e : n - i ≡ 0 = omega arith in e)

-- the best frame serves
chosen : (t : Bool) (a b : Option (ℕ × Row)) (P : Row → Type 0) → (t ≡ true → (h : ℕ) (best : Row) → a ≡ Some (h, best) → P best) → (t ≡ false → (h : ℕ) (best : Row) → b ≡ Some (h, best) → P best) → (h : ℕ) (best : Row) → cond t a b ≡ Some (h, best) → P best
chosen true a b P taken left = taken refl
chosen false a b P taken left = left refl

same_row : (f h : ℕ) (row best : Row) → ◌≡◌ {A = Option (ℕ × Row)} (Some (f, row)) (Some (h, best)) → row ≡ best
same_row f h row best e = ap (λ (o : Option (ℕ × Row)). (unwrap_or {T = ℕ × Row} o (f, row)).1) e

better-serves : (g : Geometry) (class f : ℕ) (row : Option Row) (held : Option (ℕ × Row)) → ((h : ℕ) (best : Row) → held ≡ Some (h, best) → serves g class best ≡ true) → (h : ℕ) (best : Row) → better g class f row held ≡ Some (h, best) → serves g class best ≡ true
better-serves g class f None held so_far = so_far
better-serves g class f (Some row) None so_far =
    chosen (serves g class row) (Some (f, row)) None (λ best. serves g class best ≡ true)
    (λ taken h best e. ap (serves g class) (sym (same_row f h row best e)) ∙ taken) (λ left. so_far)
better-serves g class f (Some row) (Some (k, other)) so_far =
    chosen (serves g class row && ltb (occupied g other) (occupied g row)) (Some (f, row)) (Some (k, other)) (λ best. serves g class best ≡ true)
    (λ taken h best e. ap (serves g class) (sym (same_row f h row best e)) ∙ (and_parts (serves g class row) (ltb (occupied g other) (occupied g row)) taken).0)
    (λ left. so_far)

pub best_serves : (g : Geometry) (class : ℕ) (rows : List (Option Row)) (n h : ℕ) (best : Row) → best_below g class rows n ≡ Some (h, best) → serves g class best ≡ true
best_serves g class rows zero h best found =
    let z : ◌≡◌ {A = ℕ} 0 1 = cc (found, best_none g class rows) in let never : ⊥ = omega arith in absurd never
best_serves g class rows (suc n) h best found =
    better-serves g class n (get_or rows n None) (best_below g class rows n) (best_serves g class rows n) h best
    (sym (best_more g class rows n) ∙ ap (best_below g class rows) (add-one n) ∙ found)
