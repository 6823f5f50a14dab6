-- The first addresses of a history, from its beginning to its end.
use Rattle.std.proofs.Common.{◌≡◌, None, Option, List, [], ◌∷◌, map, sym, subst, Bor, inl, inr, refl, ap, ◌∙◌}
use Rattle.std.specs.Prelude.{◌⊎◌}
use Rattle.std.specs.declared.iter.Zip.{Zip}
use Rattle.std.specs.declared.slice.Iter.{Iter}
use Rattle.std.specs.Slice.Iter.{iter_rest}
use Rattle.std.specs.Iterator.Adapters.{zip_first, zip_second}
use Rattle.std.proofs.iter.Yields.{fronts}
use Rattle.std.proofs.lemmas.Iterator.{zips}
use Rattle.std.proofs.lemmas.List.{nil_from_length}
use Rattle.model.specs.Runs as runs
use Rattle.model.specs.Runs.{told}
use Rattle.laws.specs.Book.{Addresses, addresses_after, first_address}

told_none : (calls : List runs.Call) → told calls [] ≡ []
told_none [] = refl
told_none (c ∷ calls) = refl

module _ {K A : Type 0} (call_of : K → runs.Call) (answer_of : A → runs.Answer) where
  -- the addresses after what is left of the calls and of the answers
  abbrev pub left : Zip (Iter K) (Iter A) → Addresses → Addresses
  left s first = addresses_after (told (map call_of (iter_rest (zip_first s))) (map answer_of (iter_rest (zip_second s)))) first

  -- all calls are left, and all answers
  pub all_left : (s : Zip (Iter K) (Iter A)) (calls : List K) (answers : List A) (first : Addresses) → iter_rest (zip_first s) ≡ calls → iter_rest (zip_second s) ≡ answers → first ≡ (λ l. None) → left s first ≡ first_address (told (map call_of calls) (map answer_of answers))
  all_left s calls answers first given answered none = cc

  -- no call is left, or no answer
  pub none_left : (s t : Zip (Iter K) (Iter A)) (r : Option (Bor K × Bor A)) (first all : Addresses) → r ≡ None → zips fronts fronts s r t → left s first ≡ all → first ≡ all
  none_left s t r first all is steps so_far = by (subst (λ o. zips fronts fronts s o t) is steps)
    where
      by : ((u : Iter K) × fronts (zip_first s) None u) ⊎ ((u : Iter A) × fronts (zip_second s) None u) → first ≡ all
      by (inl a) = ap (λ ks. addresses_after (told (map call_of ks) (map answer_of (iter_rest (zip_second s)))) first) (sym (nil_from_length _ a.1.0)) ∙ so_far
      by (inr b) =
          ap (λ h. addresses_after h first) (sym (told_none (map call_of (iter_rest (zip_first s)))))
          ∙ (ap (λ xs. addresses_after (told (map call_of (iter_rest (zip_first s))) (map answer_of xs)) first) (sym (nil_from_length _ b.1.0)) ∙ so_far)
