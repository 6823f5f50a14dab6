-- The longest accepted read, looked for from the longest down, and what is heard by it.
use Rattle.std.proofs.Common.{◌≡◌, ℕ, zero, suc, ◌-◌, ◌<◌, Bool, true, false, cond, List, is_some, Some, None, Option, Vec, sym, refl, ap, ◌∙◌, arith}
use Rattle.std.specs.declared.alloc.Global.{Global}
use Rattle.model.specs.Geometry.{desktop}
use Rattle.model.specs.State.{State}
use Rattle.model.specs.Mesh.{Meaning}
use Rattle.laws.specs.Reading.{Next, next_of, Heard, by_read, by_fetch, longest_read, reading_of}
use Rattle.verdicts.specs.Hearing.{bytes_of}

-- what is read of a pool that is as it was is what was read of it
pub read_same : {C : Type 0} (meaning : Meaning C) (l n : ℕ) {s t : State C} {read : Option (List ℕ)} → s ≡ t → read ≡ by_read (next_of desktop meaning s) l n → read ≡ by_read (next_of desktop meaning t) l n
read_same meaning l n same is = is ∙ ap (λ s. by_read (next_of desktop meaning s) l n) same

module _ (answers : Next) (l : ℕ) where
  longest-none : longest_read answers 0 l ≡ 0
  unfolding longest_read
  longest-none = refl

  longest_here : (n : ℕ) → 0 < n → is_some (by_read answers l n) ≡ true → longest_read answers n l ≡ n
  unfolding longest_read
  longest_here zero some is = absurd (omega arith)
  longest_here (suc n) some is = ap (λ b. cond b (suc n) (longest_read answers n l)) is

  longest-below : (n : ℕ) → 0 < n → is_some (by_read answers l n) ≡ false → longest_read answers n l ≡ longest_read answers (n - 1) l
  unfolding longest_read
  longest-below zero some not = absurd (omega arith)
  longest-below (suc n) some not = ap (λ b. cond b (suc n) (longest_read answers n l)) not ∙ ap (λ m. longest_read answers m l) (let e : n ≡ suc n - 1 = omega arith in e)

  some_bytes : (bytes : Option (Vec ℕ Global)) → is_some (bytes_of bytes) ≡ is_some bytes
  some_bytes None = refl
  some_bytes (Some v) = refl

  -- whether a read is accepted, as the code tests it
  tested : (n : ℕ) (bytes : Option (Vec ℕ Global)) (b : Bool) → bytes_of bytes ≡ by_read answers l n → b ≡ is_some bytes → is_some (by_read answers l n) ≡ b
  tested n bytes b read test = ap is_some (sym read) ∙ (some_bytes bytes ∙ sym test)

  module _ (limit n : ℕ) (so_far : longest_read answers n l ≡ longest_read answers limit l) where
    pub found : 0 < n → (bytes : Option (Vec ℕ Global)) → bytes_of bytes ≡ by_read answers l n → true ≡ is_some bytes → n ≡ longest_read answers limit l
    found some bytes read test = sym (longest_here n some (tested n bytes true read test)) ∙ so_far

    pub passed : 0 < n → (bytes : Option (Vec ℕ Global)) → bytes_of bytes ≡ by_read answers l n → false ≡ is_some bytes → longest_read answers (n - 1) l ≡ longest_read answers limit l
    passed some bytes read test = sym (longest-below n some (tested n bytes false read test)) ∙ so_far

    pub none_found : n ≡ 0 → 0 ≡ longest_read answers limit l
    none_found none = sym longest-none ∙ (ap (λ m. longest_read answers m l) (sym none) ∙ so_far)

  -- what is heard of a label that is accepted
  pub heard-is : (first : Option ℕ) (limit n : ℕ) (accepted : Option (Vec ℕ Global)) (read fetched : Option (List ℕ)) → bytes_of accepted ≡ by_read answers l 0 → true ≡ is_some accepted → n ≡ longest_read answers limit l → read ≡ by_read answers l n → fetched ≡ by_fetch answers first n → Some (record { length = n; read = read; fetched = fetched }) ≡ reading_of answers (λ _. first) limit l
  heard-is first limit n accepted read fetched asked is long reads fetches =
      let heard : ℕ → Option (List ℕ) → Option (List ℕ) → Option Heard = λ n read fetched. Some (record { length = n; read = read; fetched = fetched }) in
      let whole : ℕ → Option Heard = λ n. heard n (by_read answers l n) (by_fetch answers first n) in
      let end = longest_read answers limit l in
      ap (λ r. heard n r fetched) reads ∙ (ap (λ f. heard n (by_read answers l n) f) fetches ∙ (ap whole long ∙ sym (ap (λ b. cond b (whole end) None) (tested 0 accepted true asked is))))
