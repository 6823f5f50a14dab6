-- What follows from the shape of a pool.
use Rattle.std.proofs.Common.{◌≡◌, ℕ, ◌+◌, ◌*◌, ◌<◌, ◌≤◌, true, Some, Option, sym, ap, ◌∙◌, subst, arith}
use Rattle.bank.specs.Model.{BankState}
use Rattle.model.specs.declared.Patch.{Patch}
use Rattle.model.specs.declared.Row.{Row}
use Rattle.model.specs.declared.Span.{Span}
use Rattle.model.specs.Geometry.{Geometry, class_of, slot_size, slots, slot_offset}
use Rattle.model.specs.Masks.{bit}
use Rattle.laws.specs.Shape.{Stands, Owns, Shape}
use Rattle.laws.proofs.Sizes.{class_below, class_holds, slot_ends, same_slot}
use Rattle.laws.proofs.Tables.{some_same, some_is}

-- the whole slot of a patch includes the byte i
abbrev pub InSlot : Geometry → Patch → ℕ → Type 0
InSlot g p i = (slot_offset g p.length p.slot ≤ i) × (i < slot_offset g p.length p.slot + slot_size g (class_of g p.length))

module _ {g : Geometry} {L : ℕ → Option Patch} {S : ℕ → Span} {R : ℕ → Option Row} {m : BankState} (sh : Shape g L S R m) where
  -- a live patch and the row of its frame
  pub placed_at : (l f : ℕ) (p : Patch) (row : Row) → L l ≡ Some p → Stands S p f → R f ≡ Some row
      → (row.class ≡ class_of g p.length) × (p.slot < slots g row.class) × (bit row.mask p.slot ≡ true)
  placed_at l f p row live stands has =
      let w = sh.placed l p live in
      let same_frame : w.frame ≡ f = some_same (sym w.stands ∙ stands) in
      let same_row : w.row ≡ row = some_same (sym w.has_row ∙ ap R same_frame ∙ has) in
      subst (λ (r : Row). (r.class ≡ class_of g p.length) × (p.slot < slots g r.class) × (bit r.mask p.slot ≡ true)) same_row
      (w.fits, w.slot_below, w.occupied)

  pub out_of_row : (f : ℕ) (row : Row) → R f ≡ Some row → m.out f ≡ true
  out_of_row f row has = sym (sh.out_rows f) ∙ some_is has

  pub frame_below : (f : ℕ) (row : Row) → R f ≡ Some row → f < g.frames
  frame_below f row has = omega (arith, sh.out_below f (out_of_row f row has), sh.few)

  -- a live patch lies in its slot, and its slot in its frame
  pub patch-within : (l : ℕ) (p : Patch) → L l ≡ Some p
      → (p.length ≤ slot_size g (class_of g p.length))
      × (slot_offset g p.length p.slot + slot_size g (class_of g p.length) ≤ g.frame)
  patch-within l p live =
      let size = sh.sized l p live in
      let w = sh.placed l p live in
      (class_holds g p.length size.0 size.1, slot_ends g (class_of g p.length) (class_below g p.length size.0 size.1) p.slot (subst (λ c. p.slot < slots g c) w.fits w.slot_below))

  -- two live patches of a frame have one class
  pub same_class : (l k f : ℕ) (p q : Patch) → L l ≡ Some p → L k ≡ Some q → Stands S p f → Stands S q f → class_of g p.length ≡ class_of g q.length
  same_class l k f p q lp kq sp sq =
      let w = sh.placed l p lp in
      let same_frame : w.frame ≡ f = some_same (sym w.stands ∙ sp) in
      sym w.fits ∙ (placed_at k w.frame q w.row kq (sq ∙ ap (λ z. Some z) (sym same_frame)) w.has_row).0

  -- a byte lies in the slot of one live patch at most
  pub same_owner : (l k f i : ℕ) (p q : Patch) → L l ≡ Some p → L k ≡ Some q → Stands S p f → Stands S q f → InSlot g p i → InSlot g q i → l ≡ k
  same_owner l k f i p q lp kq sp sq ip iq =
      let c = same_class l k f p q lp kq sp sq in
      let iq' = subst (λ (c : ℕ). (slot_size g c * q.slot ≤ i) × (i < slot_size g c * q.slot + slot_size g c)) (sym c) iq in
      sh.apart l k f p q lp kq sp sq (same_slot (slot_size g (class_of g p.length)) p.slot q.slot i ip.0 ip.1 iq'.0 iq'.1)

  pub owns_in_slot : (l f i : ℕ) (o : Owns g L S l f i) → InSlot g o.patch i
  owns_in_slot l f i o = (o.from, omega (arith, o.below, (patch-within l o.patch o.live).0))

  -- no two live patches share a byte
  pub owners_same : (l k f i : ℕ) → Owns g L S l f i → Owns g L S k f i → l ≡ k
  owners_same l k f i o u =
      same_owner l k f i o.patch u.patch o.live u.live o.stands u.stands (owns_in_slot l f i o) (owns_in_slot k f i u)
