-- A slot that is copied, and the loop that copies slots.
use Rattle.std.proofs.Common.{◌≡◌, ℕ, ◌+◌, ◌*◌, ◌<◌, ◌≤◌, true, false, List, [], Result, take, replicate, sym, ap, ◌∙◌}
use Rattle.std.proofs.lemmas.List.{take-replicate}
use Rattle.refusal.specs.declared.Refusal.{Refusal}
use Rattle.bank.specs.Model.{BankState}
use Rattle.model.specs.Geometry.{desktop, slot_size, places}
use Rattle.model.specs.Masks.{bit, set_places}
use Rattle.model.specs.Mesh.{copied, copied_then, copies}
use Rattle.model.proofs.Places.{passing, passing_all, passing_yes, passing_no, passing-end}

-- the front of a row of one element
pub front_of : {A : Type 0} (n : ℕ) (x : A) → n ≤ 1024 → take n (replicate 1024 x) ≡ replicate n x
front_of n x within = take-replicate n 1024 x within

-- the loop that copies the slots of a mask
module _ (size f h mask : ℕ) where
  abbrev pub left : ℕ → List ℕ
  left slot = passing (λ s. bit mask s) 64 slot

  pub all_left : left 0 ≡ set_places (places desktop) mask
  unfolding set_places slot_size
  all_left = passing_all (λ s. bit mask s) 64

  pub copies-next : (slot : ℕ) (m n : BankState) (r : Result (Unit {0}) Refusal) → slot < 64 → bit mask slot ≡ true → (r, n) ≡ copied size f h (size * slot) m → copied_then (copies size f h (left (slot + 1))) (r, n) ≡ copies size f h (left slot) m
  copies-next slot m n r below set done =
      sym (ap (λ ps. copies size f h ps m) (passing_yes (λ s. bit mask s) 64 slot below set)
      ∙ ap (copied_then (copies size f h (left (slot + 1)))) (sym done))

  pub copies_passed : (slot : ℕ) (m : BankState) → slot < 64 → bit mask slot ≡ false → copies size f h (left (slot + 1)) m ≡ copies size f h (left slot) m
  copies_passed slot m below clear = sym (ap (λ ps. copies size f h ps m) (passing_no (λ s. bit mask s) 64 slot below clear))

  pub none_left : (slot : ℕ) → 64 ≤ slot → left slot ≡ []
  none_left slot past = passing-end (λ s. bit mask s) 64 slot past
