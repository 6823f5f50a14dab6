-- SplitMesher's order and passes: what they keep.
use Rattle.std.specs.Prelude.{◌≡◌, ℕ, ◌+◌, ◌/◌, ◌%◌, ◌<◌, List, [], length, ◌≢◌, slice_index, ◌-◌, ◌≤◌, cond, ◌∷◌, ◌++◌, take, ◌==◌, refl}
use Rattle.std.proofs.Common.{false, eqb, get_or, sym, ◌∙◌, ⊎_elim, arith, ap, subst}
use Rattle.std.specs.List.{All, IsDistinct, range_with_len, swap}
use Rattle.std.specs.List.Sorted.{IsPermutation}
use Rattle.std.proofs.lemmas.List.Elements.{All-get_or, All-from_get_or}
use Rattle.std.proofs.lemmas.List.Sorted.{length_permutation, All-permutation}
use Rattle.std.proofs.lemmas.Map.Keys.{IsDistinct-from_apart, IsDistinct-IsPermutation, apart_from_distinct}
use Rattle.std.proofs.lemmas.List.FromFn.{length-range_with_len, get_or-range_with_len, fill_by_all}
use Rattle.std.proofs.lemmas.Nat.{mod_below}
use Rattle.std.proofs.lemmas.Bool.{cases_order, eqb-false, cases_eq}
use Rattle.std.proofs.lemmas.Bool.Decides.{nat_tests}
use Rattle.draws.proofs.Turns.{shuffled_same}
use Rattle.pairing.specs.declared.pairs.Pair.{Pair}
use Rattle.pairing.specs.declared.halves.SplitMesher.{SplitMesher}
use Rattle.pairing.specs.Pairs.{Lawful}
use Rattle.pairing.specs.Halves.{Order, shifted_turn, pass, passes, shuffled_places, split_pairs}
use Rattle.pairing.specs.Folds.{folded_keeps, counting_below}
use Rattle.pairing.specs.Law.{lawful_none, offered_lawful}
use Rattle.std.proofs.lemmas.List.Edits.{Swapped, swapped_from_swap, length-swap}
use Rattle.std.proofs.lemmas.List.{length-take-le, get_or-take, map-id, take_at}
use Rattle.draws.specs.Shuffle.{shuffled}

-- where the entry at k comes from, when the entries at a and b are exchanged
source : ℕ → ℕ → ℕ → ℕ
source a b k = cond (k == a) b (cond (k == b) a k)

source_below : (n a b k : ℕ) → a < n → b < n → k < n → source a b k < n
unfolding source
source_below n a b k ha hb hk = grind (arith, nat_tests)

source_apart : (a b i j : ℕ) → i ≢ j → source a b i ≢ source a b j
unfolding source
source_apart a b i j ne e = grind (arith, nat_tests)

at_source : (f g : ℕ → ℕ) (a b k : ℕ) → Swapped f g a b → g k ≡ f (source a b k)
unfolding source
at_source f g a b k s =
    ⊎_elim
    (λ e. ap g e ∙ s.0 ∙ ap f (let h : b ≡ source a b k = grind (arith, nat_tests) in h))
    (λ ne.
    ⊎_elim (λ e. ap g e ∙ s.1 ∙ ap f (let h : a ≡ source a b k = grind (arith, nat_tests) in h))
    (λ ne'. s.2 k ne ne' ∙ ap f (let h : k ≡ source a b k = grind (arith, nat_tests) in h)) (cases_eq k b))
    (cases_eq k a)

order_exchanged : (n : ℕ) (l : List ℕ) (a b : ℕ) → a < length l → b < length l → Order n l → Order n (swap l a b)
order_exchanged n [] a b ha hb o = absurd (omega arith)
order_exchanged n (x ∷ xs) a b ha hb o =
    let l : List ℕ = x ∷ xs in
    let l' : List ℕ = swap l a b in
    let s = swapped_from_swap l l' a b 0 ha hb refl in
    let an : a < n = omega (arith, o.long, ha) in
    let bn : b < n = omega (arith, o.long, hb) in
    record {
      long = length-swap l a b ∙ o.long;
      below = λ k h.
          let e = at_source (λ i. slice_index l i) (λ i. slice_index l' i) a b k s in
          omega (arith, e, o.below (source a b k) (source_below n a b k an bn h));
      apart = λ i j hi hj ne same.
          let ei = at_source (λ k. slice_index l k) (λ k. slice_index l' k) a b i s in
          let ej = at_source (λ k. slice_index l k) (λ k. slice_index l' k) a b j s in
          o.apart (source a b i) (source a b j) (source_below n a b i an bn hi) (source_below n a b j an bn hj)
          (source_apart a b i j ne) (sym ei ∙ same ∙ ej);
    }

order_counting : (n : ℕ) → Order n (range_with_len 0 n)
order_counting n =
    record {
      long = length-range_with_len 0 n;
      below = λ k h. omega (arith, get_or-range_with_len 0 n k 0 h);
      apart = λ i j hi hj ne same. ne (omega (arith, get_or-range_with_len 0 n i 0 hi, get_or-range_with_len 0 n j 0 hj, same));
    }

-- a row that has each number below n once is an order
pub order_shuffled : (n : ℕ) (row : List ℕ) → IsPermutation (range_with_len 0 n) row → Order n row
order_shuffled n row same =
    let counting : List ℕ = range_with_len 0 n in
    let long : length row ≡ n = length_permutation counting row same ∙ length-range_with_len 0 n in
    let all : All (λ k. k < n) row =
    All-permutation (λ k. k < n) counting row same
    (All-from_get_or (λ k. k < n) counting 0
    (λ i h. omega (arith, length-range_with_len 0 n, h, get_or-range_with_len 0 n i 0 (omega (arith, length-range_with_len 0 n, h))))) in
    let distinct : IsDistinct eqb row =
    IsDistinct-IsPermutation eqb (λ x y. grind (arith, nat_tests)) counting row same
    (IsDistinct-from_apart eqb counting
    (λ i j d h hj. rising i j d h (omega (arith, length-range_with_len 0 n, hj)))) in
    record {
      long = long;
      below = λ k h. All-get_or (λ q. q < n) row k 0 (omega (arith, long, h)) all;
      apart = λ i j hi hj ne e.
          ⊎_elim ne
          (⊎_elim (λ h. differ distinct i j h (omega (arith, long, hj)) e) (λ h. differ distinct j i h (omega (arith, long, hi)) (sym e)))
          (cases_order i j);
    }
  where
    rising : (i j d : ℕ) → i < j → j < n → eqb (get_or (range_with_len 0 n) i d) (get_or (range_with_len 0 n) j d) ≡ false
    rising i j d h hj =
        let ei = get_or-range_with_len 0 n i d (omega arith) in
        let ej = get_or-range_with_len 0 n j d hj in
        grind (arith, nat_tests)

    differ : IsDistinct eqb row → (i j : ℕ) → i < j → j < length row → get_or row i 0 ≢ get_or row j 0
    differ distinct i j h hj = eqb-false (get_or row i 0) (get_or row j 0) (apart_from_distinct eqb row i j 0 distinct h hj)

pub order_of_shuffle : (n state : ℕ) → Order n (shuffled_places n state).0
order_of_shuffle n state = order_shuffled n (shuffled_places n state).0 (shuffled_same (range_with_len 0 n) state)

-- the two places that a turn offers are places of masks, and differ
pub record Offer (ms order : List ℕ) (j k : ℕ) : Type 0 where
  pub left_below : slice_index order j < length ms
  pub right_below : slice_index order k < length ms
  pub differ : slice_index order j ≢ slice_index order k

pub offer_places : (ms order : List ℕ) (shift j : ℕ) → Order (length ms) order → j < length ms / 2
    → Offer ms order j (length ms / 2 + (j + shift) % (length ms / 2))
offer_places ms order shift j o h =
    let half : ℕ = length ms / 2 in
    let r : (j + shift) % half < half = mod_below (j + shift) half (omega arith) in
    let hj : j < length ms = omega arith in
    let hk : half + (j + shift) % half < length ms = omega (arith, r) in
    record {
      left_below = o.below j hj;
      right_below = o.below (half + (j + shift) % half) hk;
      differ = o.apart j (half + (j + shift) % half) hj hk (λ e. omega (arith, e, h));
    }

pub turn_lawful : (ms order : List ℕ) (shift : ℕ) → Order (length ms) order → (ps : List Pair) (j : ℕ) → j < length ms / 2
    → Lawful ms ps → Lawful ms (shifted_turn ms order (length ms / 2) shift ps j)
turn_lawful ms order shift o ps j h law =
    let p = offer_places ms order shift j o h in
    offered_lawful ms ps (slice_index order j) (slice_index order (length ms / 2 + (j + shift) % (length ms / 2))) law p.left_below p.right_below p.differ

pub pass_lawful : (ms order : List ℕ) (shift : ℕ) → Order (length ms) order → (ps : List Pair) → Lawful ms ps
    → Lawful ms (pass ms order (length ms / 2) ps shift)
pass_lawful ms order shift o ps law =
    folded_keeps (Lawful ms) (λ j. j < length ms / 2) (shifted_turn ms order (length ms / 2) shift) (turn_lawful ms order shift o)
    (range_with_len 0 (length ms / 2)) ps (counting_below (length ms / 2)) law

pub passes_lawful : (ms order : List ℕ) (t : ℕ) → Order (length ms) order → Lawful ms (passes ms order t)
passes_lawful ms order t o =
    folded_keeps (Lawful ms) (λ shift. shift < t) (pass ms order (length ms / 2)) (λ ps shift _ law. pass_lawful ms order shift o ps law)
    (range_with_len 0 t) [] (counting_below t) (lawful_none ms)

pub split_lawful : (s : SplitMesher) (ms : List ℕ) → Lawful ms (split_pairs s ms)
split_lawful s ms =
    passes_lawful ms (shuffled_places (length ms) s.draws.state).0 s.tries (order_of_shuffle (length ms) s.draws.state)

-- the front of the rising places, shuffled in place
pub front_shuffled : (n s : ℕ) (places row rest : List ℕ) (s' : ℕ) → length places ≡ 64 → ((k : ℕ) → k < 64 → slice_index places k ≡ k) → n ≤ 64
    → (row, s') ≡ shuffled (take (n - 0) places) s → IsPermutation (take (n - 0) places) row
    → (take n (row ++ rest) ≡ (shuffled_places n s).0) × Order n (take n (row ++ rest)) × (s' ≡ (shuffled_places n s).1)
front_shuffled n s places row rest s' long rising few whole same =
    let zero : n - 0 ≡ n = omega arith in
    let front : take (n - 0) places ≡ range_with_len 0 n =
    ap (λ m. take m places) zero
    ∙ fill_by_all (λ k. k) (take n places) n 0 (length-take-le n places (omega (arith, long)))
    (λ k h. get_or-take n places k 0 h ∙ rising k (omega (arith, h)))
    ∙ map-id (range_with_len 0 n) in
    let is : (row, s') ≡ shuffled_places n s = whole ∙ ap (λ l. shuffled l s) front in
    let order : Order n row = order_shuffled n row (subst (λ l. IsPermutation l row) front same) in
    let cut : take n (row ++ rest) ≡ row = take_at row rest n order.long in
    (cut ∙ ap (λ p. p.0) is, subst (Order n) (sym cut) order, ap (λ p. p.1) is)
