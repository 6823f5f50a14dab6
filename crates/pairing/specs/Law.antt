-- What keeps pairs lawful, and how many lawful pairs there can be.
use Rattle.std.specs.Prelude.{◌≡◌, ℕ, zero, suc, ◌+◌, ◌*◌, ◌<◌, ◌≤◌, Bool, true, false, cond, not, ◌&&◌, ◌||◌, List, [], ◌∷◌, ◌++◌, length, replicate, sum_by, count_by, ◌==◌, ◌≢◌, slice_index_or, slice_set, refl}
use Rattle.std.proofs.Common.{sym, ap, ◌∙◌, arith}
use Rattle.std.specs.List.{AllByRecursion}
use Rattle.std.proofs.lemmas.List.{length_push, length-set, length-replicate, get_or-set_other, get_or-replicate}
use Rattle.std.proofs.ByRecursion.{All-push}
use Rattle.std.proofs.lemmas.List.Sums.{sum_by-set, count_by-le-length}
use Rattle.std.proofs.lemmas.Bool.{cond_both, and_parts, not-true, or_parts, eqb-false}
use Rattle.std.proofs.lemmas.Bool.Decides.{nat_tests}
use Rattle.pairing.specs.declared.pairs.Pair.{Pair}
use Rattle.pairing.specs.Pairs.{paired, joins, takes, Fair, Apart, Lawful, with_pair, offered}

-- a place stands in the pairs and one more
pub paired_push : (k : ℕ) (ps : List Pair) (p : Pair) → paired k (ps ++ p ∷ []) ≡ (paired k ps || (k == p.left || k == p.right))
paired_push k [] p = grind (arith, nat_tests)
paired_push k (q ∷ qs) p = let e = paired_push k qs p in grind (arith, nat_tests)

-- a pair of places that stand in none stands apart from all
apart_push : (ps : List Pair) (p : Pair) → Apart ps → paired p.left ps ≡ false → paired p.right ps ≡ false → Apart (ps ++ p ∷ [])
apart_push [] p apart l r = (refl, refl, tt)
apart_push (q ∷ qs) p apart l r =
    let el = paired_push q.left qs p in
    let er = paired_push q.right qs p in
    (grind (arith, nat_tests), grind (arith, nat_tests), apart_push qs p apart.2 (grind (arith, nat_tests)) (grind (arith, nat_tests)))

pub lawful_none : (ms : List ℕ) → Lawful ms []
lawful_none ms = record { fair = tt; apart = tt }

-- two free places whose masks join are one pair more
pub lawful_more : (ms : List ℕ) (ps : List Pair) (i j : ℕ) → Lawful ms ps → Fair ms (record { left = i; right = j })
    → paired i ps ≡ false → paired j ps ≡ false → Lawful ms (with_pair ps i j)
lawful_more ms ps i j law fair fi fj =
    record {
      fair = All-push (Fair ms) ps (record { left = i; right = j }) law.fair fair;
      apart = apart_push ps (record { left = i; right = j }) law.apart fi fj;
    }

-- a free place takes one that it may take
pub taken_lawful : (ms : List ℕ) (ps : List Pair) (i j : ℕ) → Lawful ms ps → i < length ms → j < length ms → (i ≢ j)
    → not (paired i ps) ≡ true → takes ms ps i j ≡ true → Lawful ms (with_pair ps i j)
taken_lawful ms ps i j law il jl ne free may =
    let b = and_parts (not (paired j ps)) (joins ms i j) may in
    lawful_more ms ps i j law (record { left_below = il; right_below = jl; differ = ne; join = b.1 }) (not-true (paired i ps) free)
    (not-true (paired j ps) b.0)

-- an offer keeps the law
pub offered_lawful : (ms : List ℕ) (ps : List Pair) (i j : ℕ) → Lawful ms ps → i < length ms → j < length ms → (i ≢ j)
    → Lawful ms (offered ms ps i j)
offered_lawful ms ps i j law il jl ne =
    cond_both (not (paired i ps) && takes ms ps i j) (with_pair ps i j) ps (Lawful ms)
    (λ e. let a = and_parts (not (paired i ps)) (takes ms ps i j) e in taken_lawful ms ps i j law il jl ne a.0 a.1) (λ e. law)

-- the places that stand in the pairs, marked in a row of n
mark_all : ℕ → List Pair → List Bool
mark_all n [] = replicate n false
mark_all n (p ∷ ps) = slice_set (slice_set (mark_all n ps) p.left true) p.right true

length_mark_all : (n : ℕ) (ps : List Pair) → length (mark_all n ps) ≡ n
unfolding mark_all
length_mark_all n [] = length-replicate n false
length_mark_all n (p ∷ ps) =
    length-set (slice_set (mark_all n ps) p.left true) p.right true ∙ length-set (mark_all n ps) p.left true ∙ length_mark_all n ps

unmarked : (n : ℕ) (ps : List Pair) (k : ℕ) → k < n → paired k ps ≡ false → slice_index_or (mark_all n ps) k false ≡ false
unfolding mark_all
unmarked n [] k h e = get_or-replicate n k false false h
unmarked n (p ∷ ps) k h e =
    let o = or_parts (k == p.left || k == p.right) (paired k ps) e in
    let q = or_parts (k == p.left) (k == p.right) o.0 in
    get_or-set_other (slice_set (mark_all n ps) p.left true) p.right k true false (eqb-false k p.right q.1)
    ∙ get_or-set_other (mark_all n ps) p.left k true false (eqb-false k p.left q.0)
    ∙ unmarked n ps k h o.1

-- each pair marks two places more
marked_count : (ms : List ℕ) (ps : List Pair) → AllByRecursion (Fair ms) ps → Apart ps
    → count_by (λ b. b) (mark_all (length ms) ps) ≡ length ps * 2
unfolding mark_all
marked_count ms [] fair apart = none (length ms)
  where
    none : (n : ℕ) → count_by (λ b. b) (replicate n false) ≡ 0
    none zero = refl
    none (suc n) = none n
marked_count ms (p ∷ ps) fair apart =
    let n : ℕ = length ms in
    let before : List Bool = mark_all n ps in
    let long : length before ≡ n = length_mark_all n ps in
    let f : Bool → ℕ = λ b. cond b 1 0 in
    let one : sum_by f (slice_set before p.left true) + f (slice_index_or before p.left false) ≡ sum_by f before + 1 =
    sum_by-set f before p.left true false (omega (arith, long, fair.0.left_below)) in
    let clear_left : f (slice_index_or before p.left false) ≡ 0 = ap f (unmarked n ps p.left fair.0.left_below apart.0) in
    let two : sum_by f (slice_set (slice_set before p.left true) p.right true) + f (slice_index_or (slice_set before p.left true) p.right false)
    ≡ sum_by f (slice_set before p.left true) + 1 =
    sum_by-set f (slice_set before p.left true) p.right true false (omega (arith, long, length-set before p.left true, fair.0.right_below)) in
    let clear_right : f (slice_index_or (slice_set before p.left true) p.right false) ≡ 0 =
    ap f (get_or-set_other before p.left p.right true false (λ e. fair.0.differ (sym e))
    ∙ unmarked n ps p.right fair.0.right_below apart.1) in
    let rest = marked_count ms ps fair.1 apart.2 in
    omega (arith, one, clear_left, two, clear_right, rest)

-- there are at most half as many pairs as masks
pub pairs_few : (ms : List ℕ) (ps : List Pair) → Lawful ms ps → length ps * 2 ≤ length ms
pairs_few ms ps law =
    omega (arith, marked_count ms ps law.fair law.apart, count_by-le-length (λ b. b) (mark_all (length ms) ps), length_mark_all (length ms) ps)

-- so 64 masks leave room for one pair more where two places are free and join
pub pairs_room : (ms : List ℕ) (ps : List Pair) (i j : ℕ) → Lawful ms (with_pair ps i j) → length ms ≤ 64 → length ps < 32
pairs_room ms ps i j law few =
    omega (arith, pairs_few ms (with_pair ps i j) law, length_push ps (record { left = i; right = j }))
