-- A row that is read and written byte by byte.
use Rattle.std.proofs.Common.{◌≡◌, ℕ, ◌+◌, ◌-◌, ◌<◌, ◌≤◌, List, map, length, get_or, take, sym, refl, ap, ◌∙◌, ⊎_elim, arith}
use mathlib.Core.Path.{fun_ext}
use Rattle.std.specs.List.{range_with_len}
use Rattle.std.proofs.lemmas.List.{length-take-le, get_or-take, get_or_default, same_lists}
use Rattle.std.proofs.lemmas.List.FromFn.{length-map-range_with_len, get_or-map-range_with_len}
use Rattle.std.proofs.lemmas.Bool.{cases_eq, cases_lt}
use Rattle.bank.specs.Tables.{put, peek, poke}
use Rattle.bank.proofs.Puts.{put_at, put_other}
use Rattle.banks.proofs.Stretches.{poke-within, poke-before, poke-after}

-- a stretch that is written byte by byte
pub poke_more : (row : ℕ → ℕ) (o : ℕ) (bs : List ℕ) (i : ℕ) → i < length bs → poke row o (take (i + 1) bs) ≡ put (poke row o (take i bs)) (o + i) (get_or bs i 0)
poke_more row o bs i l =
    let short : length (take i bs) ≡ i = length-take-le i bs (omega arith) in
    let long : length (take (i + 1) bs) ≡ i + 1 = length-take-le (i + 1) bs (omega arith) in
    fun_ext (λ q. ⊎_elim
    (λ (same : q ≡ o + i).
    let at : q - o ≡ i = omega arith in
    poke-within row o (take (i + 1) bs) q (omega arith) (omega arith) ∙
    (get_or-take (i + 1) bs (q - o) 0 (omega arith) ∙
    (ap (λ k. get_or bs k 0) at ∙ sym (put_at (poke row o (take i bs)) (o + i) (get_or bs i 0) q same))))
    (λ (differ : q ≡ o + i → ⊥).
    let before = put_other (poke row o (take i bs)) (o + i) (get_or bs i 0) q differ in
    ⊎_elim
    (λ (b : q < o). poke-before row o (take (i + 1) bs) q b ∙ sym (before ∙ poke-before row o (take i bs) q b))
    (λ (a : o ≤ q). ⊎_elim
    (λ (b : q < o + i).
    poke-within row o (take (i + 1) bs) q a (omega arith) ∙
    (get_or-take (i + 1) bs (q - o) 0 (omega arith) ∙
    sym (before ∙ (poke-within row o (take i bs) q a (omega arith) ∙ get_or-take i bs (q - o) 0 (omega arith)))))
    (λ (b : o + i ≤ q).
    poke-after row o (take (i + 1) bs) q (omega arith) ∙ sym (before ∙ poke-after row o (take i bs) q (omega arith)))
    (cases_lt q (o + i)))
    (cases_lt q o))
    (cases_eq q (o + i)))

-- a list that holds a row's bytes is a stretch of it
pub peek_all : (row : ℕ → ℕ) (o n : ℕ) (xs : List ℕ) → length xs ≡ n → ((k : ℕ) → k < n → get_or xs k 0 ≡ row (o + k)) → xs ≡ peek row o n
unfolding peek
peek_all row o n xs e h =
    same_lists xs (map row (range_with_len o n)) (e ∙ sym (length-map-range_with_len row o n))
    (λ k d l.
    let low : k < n = omega arith in
    get_or_default xs k d 0 l ∙ (h k low ∙ sym (get_or-map-range_with_len row o n k (o + k) d low refl)))

-- one byte more of a stretch that is written byte by byte
pub written_more : (row before after : ℕ → ℕ) (o : ℕ) (bs : List ℕ) (i v : ℕ) → before ≡ poke row o (take i bs) → i < length bs → v ≡ get_or bs i 0 → after ≡ put before (o + i) v → after ≡ poke row o (take (i + 1) bs)
written_more row before after o bs i v e l is step =
    step ∙ (ap (λ r. put r (o + i) v) e ∙ (ap (put (poke row o (take i bs)) (o + i)) is ∙ sym (poke_more row o bs i l)))

-- the same, by the place that is written
pub written_at : (row before after : ℕ → ℕ) (o : ℕ) (bs : List ℕ) (p v : ℕ) → o ≤ p → p < o + length bs → before ≡ poke row o (take (p - o) bs) → v ≡ get_or bs (p - o) 0 → after ≡ put before p v → after ≡ poke row o (take (p + 1 - o) bs)
written_at row before after o bs p v low high e is step =
    let here : p ≡ o + (p - o) = omega arith in
    let more : p - o + 1 ≡ p + 1 - o = omega arith in
    written_more row before after o bs (p - o) v e (omega arith) is (step ∙ ap (λ k. put before k v) here) ∙
    ap (λ k. poke row o (take k bs)) more
