-- Frames out: what the answers add up to, and how many spans the book has.
use Rattle.std.proofs.Common.{◌≡◌, ℕ, zero, suc, ◌+◌, ◌*◌, ◌/◌, ◌<◌, ◌≤◌, Bool, true, false, ◌&&◌, ◌||◌, ◌⊎◌, replicate, is_some as option_is_some, Some, None, sym, refl, ap, ◌∙◌, subst, inl, inr, mul_comm, arith}
use Rattle.std.proofs.lemmas.Bool.{eq-eqb, and_from, or_left, or_right, cases_eq}
use Rattle.std.proofs.lemmas.Nat.{div-mul-add}
use Rattle.bank.specs.Tables.{put}
use Rattle.model.specs.declared.Patch.{Patch}
use Rattle.model.specs.Geometry.{Geometry, slot_offset, address_of}
use Rattle.model.specs.State.{State, frame_of}
use Rattle.model.specs.Runs.{Count}
use Rattle.laws.specs.Book.{Addresses}
use Rattle.laws.specs.Shape.{Shaped, row_table}
use Rattle.laws.specs.Counts.{total, some_below, in_span, spans_of_book, frames_in}
use Rattle.laws.specs.Laws.{end, next, first, CountLaw}
use Rattle.laws.proofs.Masks.{some_bit}
use Rattle.laws.proofs.Tables.{put_same, put_other, some_same, is_some}
use Rattle.laws.proofs.Totals.{total_change, tally-total, one_if, rows_out}
use Rattle.laws.proofs.Facts.{patch-within}
use Rattle.laws.proofs.Contents.{content}
use Rattle.laws.proofs.Good.{contents_of, Noted}
use Rattle.laws.proofs.Plays.{none_rows, played_well, noted_well}

-- Where each of the first n that passes has one of the first k that passes, and no two have the same one, there are at
-- most as many.
pigeons : (R : ℕ → ℕ → Type 0) → ((f e h : ℕ) → R f h → R e h → f ≡ e) → (n k : ℕ) (p q : ℕ → Bool)
    → ((f : ℕ) → f < n → p f ≡ true → (h : ℕ) × (h < k) × (q h ≡ true) × R f h)
    → total n (λ f. one_if (p f)) ≤ total k (λ h. one_if (q h))
pigeons R one zero k p q hole = omega arith
pigeons R one (suc n) k p q hole =
    by_test (p n) refl (λ q' hole'. pigeons R one n k p q' hole')
  where
    by_test : (t : Bool) → p n ≡ t
        → ((q' : ℕ → Bool) → ((f : ℕ) → f < n → p f ≡ true → (h : ℕ) × (h < k) × (q' h ≡ true) × R f h) → total n (λ f. one_if (p f)) ≤ total k (λ h. one_if (q' h)))
        → total n (λ f. one_if (p f)) + one_if (p n) ≤ total k (λ h. one_if (q h))
    by_test false e rest = omega (arith, ap one_if e, rest q (λ f below. hole f (omega (arith, below))))
    by_test true e rest =
        let mine = hole n (omega arith) e in
        let h = mine.0 in
        let q' = put q h false in
        let change = total_change k (λ x. one_if (q' x)) (λ x. one_if (q x)) h mine.1 (λ x apart. ap one_if (put_other q h false x apart)) in
        let fewer = rest q' (λ f below passes.
        let theirs = hole f (omega (arith, below)) passes in
        (theirs.0, theirs.1, put_other q h false theirs.0 (λ same. omega (arith, below, one f n h (subst (R f) same theirs.3) mine.3)) ∙ theirs.2, theirs.3)) in
        omega (arith, ap one_if e, change, fewer, ap one_if (put_same q h false), ap one_if mine.2)

some_below_at : (n : ℕ) (test : ℕ → Bool) (k : ℕ) → k < n → test k ≡ true → some_below n test ≡ true
some_below_at zero test k below passes = absurd (omega arith)
some_below_at (suc n) test k below passes = by_place (cases_eq k n) (λ h. some_below_at n test k h passes)
  where
    by_place : (k ≡ n) ⊎ (k ≡ n → ⊥) → (k < n → some_below n test ≡ true) → (test n || some_below n test) ≡ true
    by_place (inl last) rest = or_left (test n) (some_below n test) (subst (λ z. test z ≡ true) last passes)
    by_place (inr earlier) rest = or_right (test n) (some_below n test) (rest (omega (arith, below, earlier)))

-- each frame out has a live patch, and so a span of the book that is its own
bound : {C : Type 0} {g : Geometry} (s : State C) (first : Addresses) → Shaped g s → Noted g first s.labels
    → rows_out g.frames (row_table s.rows) ≤ spans_of_book g (contents_of g s) first
bound {C} {g} s first shaped noted =
    pigeons (λ f h. frame_of (s.spans h) ≡ Some f) (λ f e h a b. some_same (sym a ∙ b)) g.frames g.spans
    (λ f. option_is_some (row_table s.rows f)) (λ h. some_below g.labels (λ l. option_is_some (contents_of g s l) && in_span g (first l) h))
    (λ f below out.
    let row = is_some (row_table s.rows f) out in
    let set = some_bit row.0.mask (shaped.no_row_empty f row.0 row.1) in
    let o = shaped.shape.owner f set.0 row.0 row.1 set.1 in (
      o.patch.span,
      (shaped.shape.mapped o.patch.span f o.stands).0,
      some_below_at g.labels (λ l. option_is_some (contents_of g s l) && in_span g (first l) o.patch.span) o.label (shaped.shape.named o.label o.patch o.live)
          (and_from (option_is_some (contents_of g s o.label)) (in_span g (first o.label) o.patch.span)
          (ap (λ p. option_is_some (content g s.spans s.bank.bytes p)) o.live)
          (ap (λ a. in_span g a o.patch.span) (noted o.label o.patch o.live) ∙ at_span o.label o.patch o.live)),
      o.stands,
    ))
  where
    at_span : (l : ℕ) (p : Patch) → s.labels l ≡ Some p → in_span g (Some (address_of g p)) p.span ≡ true
    at_span l p live =
        let within = patch-within shaped.shape l p live in
        let some = (shaped.shape.sized l p live).0 in
        eq-eqb (address_of g p / g.frame) p.span
        (ap (λ a. a / g.frame) (let e : address_of g p ≡ p.span * g.frame + slot_offset g p.length p.slot = omega (arith, mul_comm g.frame p.span) in e)
        ∙ div-mul-add p.span g.frame (slot_offset g p.length p.slot) (omega (arith, within, some)))

none_out : (n k : ℕ) → rows_out k (row_table (replicate n None)) ≡ 0
none_out n k = ap (rows_out k) (none_rows n) ∙ zeros k
  where
    zeros : (k : ℕ) → rows_out k (λ f. None) ≡ 0
    zeros zero = refl
    zeros (suc k) = omega (arith, zeros k)

pub count_law : (C : Type 0) → CountLaw C
count_law C g play =
    let ran = played_well play in
    let counted : frames_in (next play Count) ≡ rows_out g.frames (row_table (end play).rows) =
    tally-total g.frames (λ f. option_is_some (row_table (end play).rows f)) in (
      omega (arith, counted, ran.balanced, none_out g.frames g.frames),
      subst (λ b. frames_in (next play Count) ≤ spans_of_book g b (first play)) ran.contents
          (omega (arith, counted, bound (end play) (first play) ran.shaped (noted_well play))),
    )
