-- All that the laws ask of one call.
use Rattle.std.proofs.Common.{◌≡◌, ℕ, ◌+◌, false, Some, Option, sym, refl, ap, subst, arith}
use Rattle.model.specs.declared.Patch.{Patch}
use Rattle.model.specs.Geometry.{Geometry, address_of}
use Rattle.model.specs.State.{State}
use Rattle.model.specs.Runs.{Call, Answer, accepted}
use Rattle.laws.specs.Book.{Book, Addresses, entered, addressed, address_in}
use Rattle.laws.specs.Shape.{Shaped, row_table}
use Rattle.laws.specs.Counts.{opened_in, merges_in, emptied_in, inner_in, deletes}
use Rattle.laws.proofs.Totals.{rows_out}
use Rattle.laws.proofs.Contents.{content}

-- the bytes of each live label
abbrev pub contents_of : {C : Type 0} → Geometry → State C → Book
contents_of g s l = content g s.spans s.bank.bytes (s.labels l)

-- each live label's address is noted
abbrev pub Noted : Geometry → Addresses → (ℕ → Option Patch) → Type 0
Noted g first labels = (l : ℕ) (p : Patch) → labels l ≡ Some p → first l ≡ Some (address_of g p)

pub record Good {C : Type 0} (g : Geometry) (c : Call) (s : State C) (a : Answer) (t : State C) : Type 0 where
  pub shaped : Shaped g t
  pub contents : (l : ℕ) → contents_of g t l ≡ entered c (accepted a) (contents_of g s) l
  pub noted : (first : Addresses) → Noted g first s.labels → Noted g (addressed c (address_in a) first) t.labels
  pub kept : (l : ℕ) (p : Patch) → s.labels l ≡ Some p → deletes l c ≡ false → t.labels l ≡ Some p
  pub refused : accepted a ≡ false → t ≡ s
  pub expected : inner_in a ≡ false
  pub size : t.bank.size ≡ s.bank.size
  pub balanced :
      rows_out g.frames (row_table t.rows) + merges_in a + emptied_in a ≡ rows_out g.frames (row_table s.rows) + opened_in a

-- a call that changes nothing
pub nothing_done : {C : Type 0} {g : Geometry} (c : Call) (s : State C) (a : Answer) → Shaped g s
    → ((book : Book) → entered c (accepted a) book ≡ book)
    → ((first : Addresses) → addressed c (address_in a) first ≡ first)
    → inner_in a ≡ false
    → merges_in a ≡ 0
    → emptied_in a ≡ 0
    → opened_in a ≡ 0
    → Good g c s a s
nothing_done {C} {g} c s a shaped book first plain merges emptied opened =
    record {
      shaped = shaped;
      contents = λ l. ap (λ (b : Book). b l) (sym (book (contents_of g s)));
      noted = λ f h. subst (λ x. Noted g x s.labels) (sym (first f)) h;
      kept = λ l p live other. live;
      refused = λ no'. refl;
      expected = plain;
      size = refl;
      balanced = omega (arith, merges, emptied, opened);
    }
