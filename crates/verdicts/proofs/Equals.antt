-- What the derived comparison of what was heard decides.
use Rattle.std.proofs.Common.{◌≡◌, ℕ, Bool, Some, None, Option, Vec, vec_items, Decides, nat_eq, ap, refl}
use Rattle.std.specs.declared.alloc.Global.{Global}
use Rattle.std.specs.Option.{option_eq}
use Rattle.std.specs.Cmp.Lexicographic.{pointwise}
use Rattle.std.proofs.lemmas.Bool.Decides.{Decides-eqb, Decides-and, Decides-like}
use Rattle.std.proofs.lemmas.Slice.Eq.{slice_eq-Decides}
use Rattle.verdicts.specs.declared.readings.Heard.{Heard}
use Rattle.verdicts.specs.contracts.readings.HeardPartialEq.TheImpl.{eq-value}
use Rattle.verdicts.specs.Hearing.{bytes_of, parts_of, heard_of}

-- where a comparison decides on what things are, the comparison of options decides on options of them
module _ {A B : Type 0} (v : A → B) (w : Option A → Option B) (none : w None ≡ None) (some : (x : A) → w (Some x) ≡ Some (v x)) (E : A → A → Bool) (decides : (x y : A) → Decides (E x y) (v x ≡ v y)) where
  pub option_eq-Decides : (one two : Option A) → Decides (option_eq E one two) (w one ≡ w two)
  option_eq-Decides None None = (λ _. refl, λ _. refl)
  option_eq-Decides None (Some y) = (λ is. cc, λ is. let e = some y in cc)
  option_eq-Decides (Some x) None = (λ is. cc, λ is. let e = some x in cc)
  option_eq-Decides (Some x) (Some y) =
      let e = some x in
      let e' = some y in
      let d = decides x y in
      (λ is. let same : v x ≡ v y = d.0 is in cc, λ is. let same : v x ≡ v y = cc in d.1 same)

abbrev bytes_eq : Vec ℕ Global → Vec ℕ Global → Bool
bytes_eq one two = pointwise nat_eq (vec_items one) (vec_items two)

bytes_eq-Decides : (one two : Option (Vec ℕ Global)) → Decides (option_eq bytes_eq one two) (bytes_of one ≡ bytes_of two)
bytes_eq-Decides =
    option_eq-Decides vec_items bytes_of refl (λ _. refl) bytes_eq (λ x y. slice_eq-Decides Decides-eqb (vec_items x) (vec_items y) (bytes_eq x y) refl)

parts_eq-Decides : (one two : Heard) → Decides (eq-value.it one two) (parts_of one ≡ parts_of two)
parts_eq-Decides one two =
    Decides-like _
    (λ same. let lengths = same.0 in let reads = same.1.0 in let fetches = same.1.1 in cc)
    (λ same. (ap (λ h. h.length) same, (ap (λ h. h.read) same, ap (λ h. h.fetched) same)))
    (Decides-and _ _ (Decides-eqb one.length two.length) (Decides-and _ _ (bytes_eq-Decides one.read two.read) (bytes_eq-Decides one.fetched two.fetched)))

-- the derived `==` decides whether the same was heard
pub heard_eq-Decides : (one two : Option Heard) → Decides (option_eq eq-value.it one two) (heard_of one ≡ heard_of two)
heard_eq-Decides = option_eq-Decides parts_of heard_of refl (λ _. refl) eq-value.it parts_eq-Decides
