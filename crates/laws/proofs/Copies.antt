-- What the copies of a merge come to.
use Rattle.std.proofs.Common.{◌≡◌, ℕ, ◌+◌, ◌-◌, ◌*◌, ◌<◌, ◌≤◌, true, eqb, leb, ◌⊎◌, List, [], ◌∷◌, map, length, replicate, Some, Ok, sym, refl, ap, ◌∙◌, subst, inl, inr, arith}
use mathlib.Core.List.Memᴰ
use mathlib.Core.List.{Memᴰ}
use Rattle.std.specs.List.{AllByRecursion}
use Rattle.std.proofs.lemmas.Bool.{eq-eqb, le-leb, cases_lt, cond-true}
use Rattle.std.proofs.lemmas.List.{length-replicate, length-map}
use Rattle.bank.specs.Tables.{put, peek, poke}
use Rattle.bank.specs.Model as bank
use Rattle.bank.specs.Model.{BankState, frame_bytes}
use Rattle.joining.specs.declared.kinds.Cell.TheVariants.{Empty as EmptyCell, Full}
use Rattle.joining.specs.Kinds.{cell_joined}
use Rattle.joining.specs.Rows.{rows, rows_joined, joined_or_clash}
use Rattle.joining.proofs.Places.{rows_leave}
use Rattle.model.specs.Mesh.{content, joined_into, cells_read, copied, copied_then, copies}
use Rattle.laws.proofs.Tables.{put_same, put_other, length-peek, get_or-peek, poke_in, poke-out}

-- the same bank with other bytes
abbrev pub with_bytes : (ℕ → ℕ → ℕ) → BankState → BankState
with_bytes bytes m = record { size = m.size; opening = m.opening; spare = m.spare; out = m.out; bytes = bytes }

-- a bank's write and read that are not refused
pub write-is : (f o : ℕ) (buffer : List ℕ) (m : BankState) → o + length buffer ≤ frame_bytes → m.out f ≡ true → bank.write f o buffer m ≡ (Ok tt, bank.written f o buffer m)
write-is f o buffer m within out =
    cond-true (leb (o + length buffer) frame_bytes) _ _ (le-leb (o + length buffer) frame_bytes within) ∙ cond-true (m.out f) _ _ out

pub read_is : (f o : ℕ) (buffer : List ℕ) (m : BankState) → o + length buffer ≤ frame_bytes → m.out f ≡ true
    → bank.read f o buffer m ≡ (Ok tt, peek (m.bytes f) o (length buffer))
read_is f o buffer m within out =
    cond-true (leb (o + length buffer) frame_bytes) _ _ (le-leb (o + length buffer) frame_bytes within) ∙ cond-true (m.out f) _ _ out

content_full : (bytes : List ℕ) → map content (map Full bytes) ≡ bytes
content_full [] = refl
content_full (b ∷ bytes) = ap (λ r. b ∷ r) (content_full bytes)

-- empty cells join full ones, whatever their bytes
cells_join : (bytes : List ℕ) → rows_joined cell_joined (replicate (length bytes) EmptyCell) (map Full bytes) ≡ (Ok tt, map Full bytes)
cells_join bytes =
    let same : length (map Full bytes) ≡ length bytes = length-map bytes Full in
    let joins : rows cell_joined (replicate (length bytes) EmptyCell) (map Full bytes) ≡ Some (map Full bytes) =
    subst (λ n. rows cell_joined (replicate n EmptyCell) (map Full bytes) ≡ Some (map Full bytes)) same
    (rows_leave cell_joined EmptyCell (λ a. refl) (map Full bytes)) in
    cond-true (eqb (length (replicate (length bytes) EmptyCell)) (length (map Full bytes))) _ _
    (eq-eqb (length (replicate (length bytes) EmptyCell)) (length (map Full bytes)) (length-replicate (length bytes) EmptyCell ∙ sym same))
    ∙ ap (λ o. joined_or_clash o (replicate (length bytes) EmptyCell)) joins

-- one slot copied
copied_is : (size f h o : ℕ) (m : BankState) → o + size ≤ frame_bytes → m.out f ≡ true → m.out h ≡ true
    → copied size f h o m ≡ (Ok tt, with_bytes (put m.bytes h (poke (m.bytes h) o (peek (m.bytes f) o size))) m)
copied_is size f h o m within out-f out-h =
    let long : length {A = ℕ} (replicate size 0) ≡ size = length-replicate {A = ℕ} size 0 in
    let bytes = peek (m.bytes f) o size in
    let reads : bank.read f o (replicate size 0) m ≡ (Ok tt, bytes) =
    read_is f o (replicate size 0) m (omega arith) out-f ∙ ap (λ n. (Ok tt, peek (m.bytes f) o n)) long in
    ap (λ r. cells_read h o r m) reads
    ∙ ap (λ r. joined_into h o r m) (cells_join bytes)
    ∙ ap (λ bs. bank.write h o bs m) (content_full bytes)
    ∙ write-is h o bytes m (omega (arith, length-peek (m.bytes f) o size)) out-h

-- the bytes after slots were copied from the frame f to the frame h
pub copied-bytes : ℕ → ℕ → ℕ → List ℕ → (ℕ → ℕ → ℕ) → ℕ → ℕ → ℕ
copied-bytes size f h [] b = b
copied-bytes size f h (s ∷ ss) b = copied-bytes size f h ss (put b h (poke (b h) (size * s) (peek (b f) (size * s) size)))

pub copies_are : (size f h : ℕ) (ss : List ℕ) (m : BankState) → AllByRecursion (λ s. size * s + size ≤ frame_bytes) ss → m.out f ≡ true → m.out h ≡ true
    → copies size f h ss m ≡ (Ok tt, with_bytes (copied-bytes size f h ss m.bytes) m)
unfolding copied-bytes
copies_are size f h [] m within out-f out-h = refl
copies_are size f h (s ∷ ss) m within out-f out-h =
    ap (copied_then (copies size f h ss)) (copied_is size f h (size * s) m within.0 out-f out-h)
    ∙ copies_are size f h ss (with_bytes (put m.bytes h (poke (m.bytes h) (size * s) (peek (m.bytes f) (size * s) size))) m) within.1 out-f out-h

-- no frame but h changes
pub copied_other : (size f h : ℕ) (ss : List ℕ) (b : ℕ → ℕ → ℕ) (q : ℕ) → (q ≡ h → ⊥) → copied-bytes size f h ss b q ≡ b q
unfolding copied-bytes
copied_other size f h [] b q apart = refl
copied_other size f h (s ∷ ss) b q apart =
    let row = poke (b h) (size * s) (peek (b f) (size * s) size) in
    copied_other size f h ss (put b h row) q apart ∙ put_other b h row q apart

module _ (size f h i : ℕ) (apart : f ≡ h → ⊥) where
  -- one slot copied: the byte i of h is that of f, or as it was
  within_slot : (s : ℕ) (b : ℕ → ℕ → ℕ) → size * s ≤ i → i < size * s + size → poke (b h) (size * s) (peek (b f) (size * s) size) i ≡ b f i
  within_slot s b from below =
      let long = length-peek (b f) (size * s) size in
      poke_in (b h) (size * s) (peek (b f) (size * s) size) i from (omega arith)
      ∙ get_or-peek (b f) (size * s) size (i - size * s) 0 (omega arith)
      ∙ ap (b f) (omega arith)

  outside_slot : (s : ℕ) (b : ℕ → ℕ → ℕ) → (size * s ≤ i → i < size * s + size → ⊥) → poke (b h) (size * s) (peek (b f) (size * s) size) i ≡ b h i
  outside_slot s b out =
      poke-out (b h) (size * s) (peek (b f) (size * s) size) i (λ from below. out from (omega (arith, below, length-peek (b f) (size * s) size)))

  next_f : (s : ℕ) (b : ℕ → ℕ → ℕ) → put b h (poke (b h) (size * s) (peek (b f) (size * s) size)) f i ≡ b f i
  next_f s b = ap (λ r. r i) (put_other b h (poke (b h) (size * s) (peek (b f) (size * s) size)) f apart)

  next_h : (s : ℕ) (b : ℕ → ℕ → ℕ) → put b h (poke (b h) (size * s) (peek (b f) (size * s) size)) h i ≡ poke (b h) (size * s) (peek (b f) (size * s) size) i
  next_h s b = ap (λ r. r i) (put_same b h (poke (b h) (size * s) (peek (b f) (size * s) size)))

  -- a byte that is like the source's stays so
  alike_step : (s : ℕ) (b : ℕ → ℕ → ℕ) → b h i ≡ b f i → (i < size * s) ⊎ (size * s ≤ i) → (i < size * s + size) ⊎ (size * s + size ≤ i)
      → poke (b h) (size * s) (peek (b f) (size * s) size) i ≡ b f i
  alike_step s b like (inl early) within = outside_slot s b (λ from below. omega arith) ∙ like
  alike_step s b like (inr from) (inl below) = within_slot s b from below
  alike_step s b like (inr from) (inr past) = outside_slot s b (λ from below. omega arith) ∙ like

  pub alike_stays : (ss : List ℕ) (b : ℕ → ℕ → ℕ) → b h i ≡ b f i → copied-bytes size f h ss b h i ≡ b f i
  unfolding copied-bytes
  alike_stays [] b like = like
  alike_stays (s ∷ ss) b like =
      alike_stays ss (put b h (poke (b h) (size * s) (peek (b f) (size * s) size)))
      (next_h s b ∙ alike_step s b like (cases_lt i (size * s)) (cases_lt i (size * s + size)) ∙ sym (next_f s b))
      ∙ next_f s b

  -- in a slot that was copied, the byte is the source's
  pub copied_in : (ss : List ℕ) (b : ℕ → ℕ → ℕ) (s : ℕ) → Memᴰ s ss → size * s ≤ i → i < size * s + size → copied-bytes size f h ss b h i ≡ b f i
  unfolding copied-bytes
  copied_in [] b s mem from below = absurd (Memᴰ.not-nil mem)
  copied_in (x ∷ ss) b s mem from below =
      by_place (Memᴰ.cases_cons mem) (λ later. copied_in ss (put b h (poke (b h) (size * x) (peek (b f) (size * x) size))) s later from below)
    where
      by_place : (s ≡ x) ⊎ Memᴰ s ss
          → (Memᴰ s ss → copied-bytes size f h ss (put b h (poke (b h) (size * x) (peek (b f) (size * x) size))) h i ≡ put b h (poke (b h) (size * x) (peek (b f) (size * x) size)) f i)
          → copied-bytes size f h ss (put b h (poke (b h) (size * x) (peek (b f) (size * x) size))) h i ≡ b f i
      by_place (inl same) rest =
          alike_stays ss (put b h (poke (b h) (size * x) (peek (b f) (size * x) size)))
          (next_h x b ∙ within_slot x b (subst (λ z. size * z ≤ i) same from) (subst (λ z. i < size * z + size) same below) ∙ sym (next_f x b))
          ∙ next_f x b
      by_place (inr later) rest = rest later ∙ next_f x b

  -- elsewhere it is as it was
  pub copied-out : (ss : List ℕ) (b : ℕ → ℕ → ℕ) → ((s : ℕ) → Memᴰ s ss → size * s ≤ i → i < size * s + size → ⊥) → copied-bytes size f h ss b h i ≡ b h i
  unfolding copied-bytes
  copied-out [] b none = refl
  copied-out (x ∷ ss) b none =
      copied-out ss (put b h (poke (b h) (size * x) (peek (b f) (size * x) size))) (λ s mem. none s (Memᴰ.tail mem))
      ∙ next_h x b
      ∙ outside_slot x b (none x (Memᴰ.head refl))
