-- A table as a function from places: where every element is the same, and where every element is changed.
use Rattle.std.proofs.Common.{◌≡◌, ℕ, List, map, get_or, replicate, sym, ap, ◌∙◌, ⊎_elim}
use Rattle.std.proofs.Math.ListN.{get_or-map}
use mathlib.Core.Path.{fun_ext}
use Rattle.std.proofs.lemmas.List.{get_or-replicate, get_or_past, length-replicate}
use Rattle.std.proofs.lemmas.Bool.{cases_lt}

module _ {A : Type 0} (d : A) where
  pub read-replicate : (n : ℕ) → ◌≡◌ {A = ℕ → A} (λ q. get_or (replicate n d) q d) (λ q. d)
  read-replicate n =
      fun_ext (λ q.
      ⊎_elim (λ below. get_or-replicate n q d d below)
      (λ past. get_or_past (replicate n d) q d (rw length-replicate past))
      (cases_lt q n))

  pub read-map : (f : A → A) (xs : List A) → f d ≡ d → ◌≡◌ {A = ℕ → A} (λ q. get_or (map f xs) q d) (λ q. f (get_or xs q d))
  read-map f xs stays = fun_ext (λ q. ap (get_or (map f xs) q) (sym stays) ∙ get_or-map f xs q d)
