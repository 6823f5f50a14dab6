-- Greedy's turns: each takes the least, and keeps the law.
use Rattle.std.specs.Prelude.{◌≡◌, ℕ, ◌+◌, ◌-◌, ◌<◌, true, false, not, ◌⊎◌, List, [], length, Some, None, Option, ◌≢◌, refl}
use Rattle.std.proofs.Common.{ap, ◌∙◌, inl, inr, arith}
use Rattle.std.specs.List.{range_with_len}
use Rattle.std.proofs.lemmas.Bool.{cond_both, cond-false, and_parts, and_from, not-true, not_from_false, both_ways}
use Rattle.pairing.specs.declared.pairs.Pair.{Pair}
use Rattle.pairing.specs.Pairs.{paired, joins, takes, taken, Fair, Lawful, with_pair}
use Rattle.pairing.specs.Search.{least_from, turn, greedy_pairs, TakesTheLeast}
use Rattle.pairing.specs.Folds.{find_some, find_none, folded_keeps, counting_below}
use Rattle.pairing.specs.Law.{lawful_none, lawful_more}

-- a place and the least that it may take are fair, and that is unpaired
pub least_fair : (ms : List ℕ) (ps : List Pair) (i j : ℕ) → i < length ms → least_from ms ps i (i + 1) ≡ Some j
    → Fair ms (record { left = i; right = j }) × (paired j ps ≡ false)
least_fair ms ps i j h e =
    let f = find_some (takes ms ps i) (length ms - (i + 1)) (i + 1) j e in
    let b = and_parts (not (paired j ps)) (joins ms i j) f.2 in
    (record { left_below = h; right_below = omega (arith, f.1); differ = λ same. omega (arith, f.0, same); join = b.1 }, not-true (paired j ps) b.0)

-- what a free place takes keeps the law
pub least_lawful : (ms : List ℕ) (ps : List Pair) (i : ℕ) → Lawful ms ps → i < length ms → not (paired i ps) ≡ true
    → Lawful ms (taken ps i (least_from ms ps i (i + 1)))
least_lawful ms ps i law h free = chosen (least_from ms ps i (i + 1)) refl
  where
    chosen : (o : Option ℕ) → least_from ms ps i (i + 1) ≡ o → Lawful ms (taken ps i o)
    chosen None e = law
    chosen (Some j) e = let f = least_fair ms ps i j h e in lawful_more ms ps i j law f.0 (not-true (paired i ps) free) f.1

pub turn_lawful : (ms : List ℕ) (ps : List Pair) (i : ℕ) → Lawful ms ps → i < length ms → Lawful ms (turn ms ps i)
turn_lawful ms ps i law h =
    cond_both (paired i ps) ps (taken ps i (least_from ms ps i (i + 1))) (Lawful ms) (λ e. law)
    (λ e. least_lawful ms ps i law h (not_from_false (paired i ps) e))

pub greedy_lawful : (ms : List ℕ) → Lawful ms (greedy_pairs ms)
greedy_lawful ms =
    folded_keeps (Lawful ms) (λ i. i < length ms) (turn ms) (λ ps i h law. turn_lawful ms ps i law h) (range_with_len 0 (length ms)) []
    (counting_below (length ms)) (lawful_none ms)

pub takes_the_least : TakesTheLeast
takes_the_least ms ps i free = chosen (least_from ms ps i (i + 1)) refl
  where
    not_taken : (q : ℕ) → takes ms ps i q ≡ false → paired q ps ≡ false → joins ms i q ≢ true
    not_taken q no_take unpaired join =
        both_ways (takes ms ps i q) no_take (and_from (not (paired q ps)) (joins ms i q) (not_from_false (paired q ps) unpaired) join)

    is : (o : Option ℕ) → least_from ms ps i (i + 1) ≡ o → turn ms ps i ≡ taken ps i o
    is o e = cond-false (paired i ps) ps (taken ps i (least_from ms ps i (i + 1))) free ∙ ap (taken ps i) e

    chosen : (o : Option ℕ) → least_from ms ps i (i + 1) ≡ o
        → ((j : ℕ) × (i < j) × (j < length ms) × (paired j ps ≡ false) × (joins ms i j ≡ true)
        × ((q : ℕ) → i < q → q < j → paired q ps ≡ false → joins ms i q ≢ true) × (turn ms ps i ≡ with_pair ps i j))
        ⊎ (((q : ℕ) → i < q → q < length ms → paired q ps ≡ false → joins ms i q ≢ true) × (turn ms ps i ≡ ps))
    chosen None e =
        inr ((λ q low high. not_taken q (find_none (takes ms ps i) (length ms - (i + 1)) (i + 1) e q (omega arith) (omega arith))), is None e)
    chosen (Some j) e =
        let f = find_some (takes ms ps i) (length ms - (i + 1)) (i + 1) j e in
        let p = and_parts (not (paired j ps)) (joins ms i j) f.2 in
        inl (
          j,
          omega (arith, f.0),
          omega (arith, f.1),
          not-true (paired j ps) p.0,
          p.1,
          (λ q low high. not_taken q (f.3 q (omega arith) high)),
          is (Some j) e,
        )
