-- What a turn of SplitMesher reads of the two halves of an order.
use Rattle.std.proofs.Common.{◌≡◌, ℕ, ◌+◌, ◌/◌, ◌%◌, ◌<◌, List, length, get_or, take, drop, ◌≢◌, sym, ap, ◌∙◌, arith}
use Rattle.std.proofs.lemmas.List.{length-take-le, get_or-take, get_or-drop}
use Rattle.std.proofs.lemmas.Nat.{mod_below}
use Rattle.pairing.specs.Halves.{Order}

module _ {n : ℕ} {order left right : List ℕ} (o : Order n order) (front : left ≡ take (length order / 2) order)
    (back : right ≡ drop (length order / 2) order) where
  pub length-left : length left ≡ n / 2
  length-left = ap length front ∙ length-take-le (length order / 2) order (omega arith) ∙ ap (λ m. m / 2) o.long

  -- the places a and b that are read at j and t, in the order
  pub offers : (t : ℕ) {j a b : ℕ} → j < length left → a ≡ get_or left j 0 → b ≡ get_or right (t % length left) 0
      → (a ≡ get_or order j 0) × (b ≡ get_or order (n / 2 + t % (n / 2)) 0)
  offers t {j} h first second =
      let half : length order / 2 ≡ n / 2 = ap (λ m. m / 2) o.long in (
        first ∙ ap (λ l. get_or l j 0) front ∙ get_or-take (length order / 2) order j 0 (omega (arith, length-left, half)),
        second
            ∙ ap (λ l. get_or l (t % length left) 0) back
            ∙ get_or-drop (length order / 2) order (t % length left) 0
            ∙ ap (λ m. get_or order (m + t % length left) 0) half
            ∙ ap (λ m. get_or order (n / 2 + t % m) 0) length-left,
      )

  -- they are two places of n masks
  pub may_offer : (t : ℕ) {j a b m : ℕ} → j < length left → a ≡ get_or left j 0 → b ≡ get_or right (t % length left) 0 → m ≡ n
      → (a < m) × (b < m) × (a ≢ b)
  may_offer t {j} h first second same =
      let at = offers t h first second in
      let below : t % (n / 2) < n / 2 = mod_below t (n / 2) (omega (arith, length-left, h)) in
      let hj : j < n = omega (arith, length-left, h) in
      let hk : n / 2 + t % (n / 2) < n = omega (arith, below) in (
        omega (arith, at.0, same, o.below j hj),
        omega (arith, at.1, same, o.below (n / 2 + t % (n / 2)) hk),
        λ e. o.apart j (n / 2 + t % (n / 2)) hj hk (λ k. omega (arith, k, h, length-left)) (sym at.0 ∙ e ∙ at.1),
      )
