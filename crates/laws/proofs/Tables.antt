-- Tables that change at one place, and stretches of a row of bytes.
use Rattle.std.proofs.Common.{◌≡◌, ℕ, ◌+◌, ◌-◌, ◌<◌, ◌≤◌, true, eqb, ◌⊎◌, List, ◌++◌, length, get_or, take, drop, set, replicate, is_some as option_is_some, Some, None, Option, sym, refl, ap, ◌∙◌, subst, inl, inr, arith}
use mathlib.Core.Path.{fun_ext}
use Rattle.std.proofs.lemmas.Bool.{eq-eqb, ne_eqb, cases_eq, cases_lt, cond-true, cond-false}
use Rattle.std.proofs.lemmas.Bool.Decides.{nat_tests}
use Rattle.std.proofs.lemmas.List.{get_or_default, get_or-set_same, get_or-set_other, same_lists, length-append, length-take, length-drop, length-replicate, get_or-replicate, get_or_append_left, get_or-append_right, get_or-take, get_or-drop}
use Rattle.std.proofs.lemmas.List.FromFn.{length-map-range_with_len, get_or-map-range_with_len}
use Rattle.bank.specs.Tables.{put, peek, poke}
use Rattle.model.specs.declared.Row.{Row}
use Rattle.laws.specs.Book.{over}
use Rattle.laws.specs.Shape.{row_table}

pub put_same : {A : Type 0} (f : ℕ → A) (k : ℕ) (v : A) → put f k v k ≡ v
put_same f k v = cond-true (eqb k k) v (f k) (eq-eqb k k refl)

pub put_other : {A : Type 0} (f : ℕ → A) (k : ℕ) (v : A) (q : ℕ) → (q ≡ k → ⊥) → put f k v q ≡ f q
put_other f k v q apart = cond-false (eqb q k) v (f q) (ne_eqb q k apart)

-- what holds at the place that was changed, and at every other, holds at all
pub put_all : {A : Type 0} (P : ℕ → A → Type 0) (f : ℕ → A) (k : ℕ) (v : A)
    → P k v
    → ((q : ℕ) → (q ≡ k → ⊥) → P q (f q))
    → (q : ℕ) → P q (put f k v q)
put_all {A} P f k v here there q = by_place (cases_eq q k)
  where
    by_place : (q ≡ k) ⊎ (q ≡ k → ⊥) → P q (put f k v q)
    by_place (inl same) = subst (λ z. P z (put f k v z)) (sym same) (subst (P k) (sym (put_same f k v)) here)
    by_place (inr apart) = subst (P q) (sym (put_other f k v q apart)) (there q apart)

pub some_same : {A : Type 0} {x y : A} → Some x ≡ Some y → x ≡ y
some_same {A} {x} {y} e = cc

pub none_some : {A : Type 0} {x : A} → None ≡ Some x → ⊥
none_some {A} {x} e = let z : ◌≡◌ {A = ℕ} 0 1 = cc in omega arith

-- the same for the entries of a table of options
pub put_some : {A : Type 0} (P : ℕ → A → Type 0) (f : ℕ → Option A) (k : ℕ) (a : A)
    → P k a
    → ((q : ℕ) → (q ≡ k → ⊥) → (x : A) → f q ≡ Some x → P q x)
    → (q : ℕ) (x : A) → put f k (Some a) q ≡ Some x → P q x
put_some {A} P f k a here there =
    put_all (λ q o. (x : A) → o ≡ Some x → P q x) f k (Some a) (λ x e. subst (P k) (some_same e) here) there

pub put-none : {A : Type 0} (P : ℕ → A → Type 0) (f : ℕ → Option A) (k : ℕ)
    → ((q : ℕ) → (q ≡ k → ⊥) → (x : A) → f q ≡ Some x → P q x)
    → (q : ℕ) (x : A) → put f k None q ≡ Some x → P q x
put-none {A} P f k there =
    put_all (λ q o. (x : A) → o ≡ Some x → P q x) f k None (λ x e. absurd (none_some e)) there

pub put-put : {A : Type 0} (f : ℕ → A) (k : ℕ) (v w : A) → put (put f k v) k w ≡ put f k w
put-put f k v w = fun_ext (λ q. grind (arith, nat_tests))

-- the rows' list, changed at one place, is their table changed there
pub set_table : (rows : List (Option Row)) (f : ℕ) (v : Option Row) → f < length rows → row_table (set rows f v) ≡ put (row_table rows) f v
set_table rows f v below =
    fun_ext (λ q. sym (put_all (λ q x. x ≡ get_or (set rows f v) q None) (row_table rows) f v (sym (get_or-set_same rows f v None below)) (λ q apart. sym (get_or-set_other rows f q v None apart)) q))

pub is_some : {A : Type 0} (o : Option A) → option_is_some o ≡ true → (x : A) × (o ≡ Some x)
is_some None e = absurd (let z : ◌≡◌ {A = ℕ} 0 1 = cc in omega arith)
is_some (Some x) e = (x, refl)

pub some_is : {A : Type 0} {o : Option A} {x : A} → o ≡ Some x → option_is_some o ≡ true
some_is e = ap option_is_some e

-- stretches
pub length-peek : (row : ℕ → ℕ) (o n : ℕ) → length (peek row o n) ≡ n
unfolding peek
length-peek row o n = length-map-range_with_len row o n

pub get_or-peek : (row : ℕ → ℕ) (o n i d : ℕ) → i < n → get_or (peek row o n) i d ≡ row (o + i)
unfolding peek
get_or-peek row o n i d h = get_or-map-range_with_len row o n i (o + i) d h refl

pub peek_same : (a b : ℕ → ℕ) (o n : ℕ) → ((i : ℕ) → o ≤ i → i < o + n → a i ≡ b i) → peek a o n ≡ peek b o n
peek_same a b o n same =
    same_lists (peek a o n) (peek b o n) (length-peek a o n ∙ sym (length-peek b o n))
    (λ k d h.
    let below : k < n = omega (arith, length-peek a o n) in
    get_or-peek a o n k d below ∙ same (o + k) (omega arith) (omega arith) ∙ sym (get_or-peek b o n k d below))

pub peek-zeros : (a : ℕ → ℕ) (o n : ℕ) → ((i : ℕ) → o ≤ i → i < o + n → a i ≡ 0) → peek a o n ≡ replicate n 0
peek-zeros a o n zeros =
    same_lists (peek a o n) (replicate n 0) (length-peek a o n ∙ sym (length-replicate n 0))
    (λ k d h.
    let below : k < n = omega (arith, length-peek a o n) in
    get_or-peek a o n k d below ∙ zeros (o + k) (omega arith) (omega arith) ∙ sym (get_or-replicate n k 0 d below))

pub poke_in : (row : ℕ → ℕ) (o : ℕ) (bs : List ℕ) (i : ℕ) → o ≤ i → i < o + length bs → poke row o bs i ≡ get_or bs (i - o) 0
poke_in row o bs i from below = grind (arith, nat_tests)

pub poke-out : (row : ℕ → ℕ) (o : ℕ) (bs : List ℕ) (i : ℕ) → (o ≤ i → i < o + length bs → ⊥) → poke row o bs i ≡ row i
poke-out row o bs i outside = grind (arith, nat_tests)

-- bytes poked into a stretch lie over its bytes
pub peek-poke : (row : ℕ → ℕ) (base n o : ℕ) (bs : List ℕ) → o + length bs ≤ n → peek (poke row (base + o) bs) base n ≡ over o bs (peek row base n)
peek-poke row base n o bs fits =
    let new = poke row (base + o) bs in
    let old = peek row base n in
    let long : length old ≡ n = length-peek row base n in
    let front : length (take o old) ≡ o = omega (arith, length-take o old) in
    let back : length (drop (o + length bs) old) ≡ n - (o + length bs) = omega (arith, length-drop (o + length bs) old) in
    let whole : length (over o bs old) ≡ n =
    omega (arith, length-append (take o old) (bs ++ drop (o + length bs) old), length-append bs (drop (o + length bs) old)) in
    same_lists (peek new base n) (over o bs old) (length-peek new base n ∙ sym whole)
    (λ k d h.
    let below : k < n = omega (arith, length-peek new base n) in
    get_or-peek new base n k d below ∙ at k d below front)
  where
    old' : List ℕ
    old' = peek row base n

    new' : ℕ → ℕ
    new' = poke row (base + o) bs

    tail_at : (k d : ℕ) → k < n → o ≤ k → (k - o < length bs) ⊎ (length bs ≤ k - o) → new' (base + k) ≡ get_or (bs ++ drop (o + length bs) old') (k - o) d
    tail_at k d below past (inl within) =
        poke_in row (base + o) bs (base + k) (omega arith) (omega arith)
        ∙ ap (λ j. get_or bs j 0) (let e : base + k - (base + o) ≡ k - o = omega arith in e)
        ∙ get_or_default bs (k - o) 0 d within
        ∙ sym (get_or_append_left bs (drop (o + length bs) old') d (k - o) within)
    tail_at k d below past (inr beyond) =
        poke-out row (base + o) bs (base + k) (λ a b. omega arith)
        ∙ sym (get_or-peek row base n k d below)
        ∙ ap (λ j. get_or old' j d) (let e : k ≡ o + length bs + (k - o - length bs) = omega arith in e)
        ∙ sym (get_or-drop (o + length bs) old' (k - o - length bs) d)
        ∙ sym (get_or-append_right bs (drop (o + length bs) old') (length bs) (k - o) d refl beyond)

    by_place : (k d : ℕ) → k < n → length (take o old') ≡ o → (k < o) ⊎ (o ≤ k) → new' (base + k) ≡ get_or (over o bs old') k d
    by_place k d below front (inl early) =
        poke-out row (base + o) bs (base + k) (λ a b. omega arith)
        ∙ sym (get_or-peek row base n k d below)
        ∙ sym (get_or-take o old' k d early)
        ∙ sym (get_or_append_left (take o old') (bs ++ drop (o + length bs) old') d k (omega arith))
    by_place k d below front (inr late) =
        tail_at k d below late (cases_lt (k - o) (length bs))
        ∙ sym (get_or-append_right (take o old') (bs ++ drop (o + length bs) old') o k d front late)

    at : (k d : ℕ) → k < n → length (take o old') ≡ o → new' (base + k) ≡ get_or (over o bs old') k d
    at k d below front = by_place k d below front (cases_lt k o)
