-- A table with one place changed.
use Rattle.std.proofs.Common.{◌≡◌, ℕ, eqb, refl}
use Rattle.std.proofs.lemmas.Bool.{cond-true, cond-false, eq-eqb, ne_eqb}
use Rattle.bank.specs.Tables.{put}

-- a changed table at the place of the change, and elsewhere
pub put_same : {A : Type 0} (f : ℕ → A) (k : ℕ) (v : A) → put f k v k ≡ v
put_same f k v = cond-true (eqb k k) v (f k) (eq-eqb k k refl)

pub put_other : {A : Type 0} (f : ℕ → A) (k : ℕ) (v : A) (q : ℕ) → (q ≡ k → ⊥) → put f k v q ≡ f q
put_other f k v q differ = cond-false (eqb q k) v (f q) (ne_eqb q k differ)

pub put_at : {A : Type 0} (f : ℕ → A) (k : ℕ) (v : A) (q : ℕ) → q ≡ k → put f k v q ≡ v
put_at f k v q same = cond-true (eqb q k) v (f q) (eq-eqb q k same)
