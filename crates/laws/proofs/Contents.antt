-- The bytes of each live label, and what each change of a pool makes of them.
use Rattle.std.proofs.Common.{◌≡◌, ℕ, ◌+◌, ◌*◌, ◌<◌, ◌≤◌, true, false, ◌⊎◌, List, [], length, replicate, Some, None, Option, sym, refl, ap, ◌∙◌, subst, inl, inr, arith}
use lib.Bits.{bit_and}
use Rattle.std.proofs.lemmas.Bool.{both_ways, cases_eq}
use Rattle.std.proofs.lemmas.List.{length-replicate}
use Rattle.bank.specs.Tables.{put, peek, poke}
use Rattle.bank.specs.Model.{BankState}
use Rattle.model.specs.declared.Patch.{Patch}
use Rattle.model.specs.declared.Row.{Row}
use Rattle.model.specs.declared.Span.{Span}
use Rattle.model.specs.declared.Span.TheVariants.{Idle, Home}
use Rattle.model.specs.declared.Event.TheVariants.{Empty, Merge}
use Rattle.model.specs.Geometry.{Geometry, class_of, slot_size, slot_offset, longest, places}
use Rattle.model.specs.Masks.{bit, set_places}
use Rattle.model.specs.State.{frame_of}
use Rattle.model.specs.Calls.{spans_after}
use Rattle.laws.specs.Book.{over_entry}
use Rattle.laws.specs.Shape.{Stands, Owns, Shape}
use Rattle.laws.proofs.Sizes.{class_holds, same_slot}
use Rattle.laws.proofs.Tables.{put_same, put_other, put_all, none_some, peek_same, peek-zeros, peek-poke, poke-out}
use Rattle.laws.proofs.Facts.{placed_at, patch-within, same_owner, owns_in_slot}
use Rattle.laws.proofs.Cleared as cleared
use Rattle.laws.proofs.Copies.{copied-bytes, copied_other}
use Rattle.laws.proofs.Merged as merged

-- the bytes of a patch in its frame
abbrev pub string_in : Geometry → (ℕ → ℕ → ℕ) → Patch → Option ℕ → List ℕ
string_in g bytes p None = []
string_in g bytes p (Some f) = peek (bytes f) (slot_offset g p.length p.slot) p.length

abbrev pub content : Geometry → (ℕ → Span) → (ℕ → ℕ → ℕ) → Option Patch → Option (List ℕ)
content g S bytes None = None
content g S bytes (Some p) = Some (string_in g bytes p (frame_of (S p.span)))

pub content_at : (g : Geometry) (S : ℕ → Span) (bytes : ℕ → ℕ → ℕ) (f : ℕ) (o : Option Patch) (p : Patch) → o ≡ Some p → Stands S p f
    → content g S bytes o ≡ Some (peek (bytes f) (slot_offset g p.length p.slot) p.length)
content_at g S bytes f o p live stands = ap (content g S bytes) live ∙ ap (λ q. Some (string_in g bytes p q)) stands

-- where a patch stands, with the same bytes as before
pub record Kept (g : Geometry) (T : ℕ → Span) (before : ℕ → ℕ) (bytes : ℕ → ℕ → ℕ) (p : Patch) : Type 0 where
  pub frame : ℕ
  pub stands : Stands T p frame
  pub same : (i : ℕ) → slot_offset g p.length p.slot ≤ i → i < slot_offset g p.length p.slot + p.length → bytes frame i ≡ before i

module _ {g : Geometry} {L : ℕ → Option Patch} {S : ℕ → Span} {R : ℕ → Option Row} {m : BankState} (sh : Shape g L S R m) where
  content_kept : (T : ℕ → Span) (bytes : ℕ → ℕ → ℕ) (l : ℕ)
      → ((p : Patch) (f : ℕ) → L l ≡ Some p → Stands S p f → Kept g T (m.bytes f) bytes p)
      → content g T bytes (L l) ≡ content g S m.bytes (L l)
  content_kept T bytes l kept = by_label (L l) refl
    where
      by_label : (o : Option Patch) → L l ≡ o → content g T bytes o ≡ content g S m.bytes o
      by_label None e = refl
      by_label (Some p) e =
          let w = sh.placed l p e in
          let k = kept p w.frame e w.stands in
          content_at g T bytes k.frame (Some p) p refl k.stands
          ∙ ap (λ s. Some s) (peek_same (bytes k.frame) (m.bytes w.frame) (slot_offset g p.length p.slot) p.length k.same)
          ∙ sym (content_at g S m.bytes w.frame (Some p) p refl w.stands)

  -- a span opened
  pub open_contents : (h f : ℕ) → S h ≡ Idle → (l : ℕ) → content g (put S h (Home f)) m.bytes (L l) ≡ content g S m.bytes (L l)
  open_contents h f idle l =
      content_kept (put S h (Home f)) m.bytes l
      (λ p q live stands.
      record {
        frame = q;
        stands = ap frame_of (put_other S h (Home f) p.span (λ same. none_some (sym (ap frame_of (ap S same ∙ idle)) ∙ stands))) ∙ stands;
        same = λ i from below. refl;
      })

  -- a slot taken: its bytes are zeros
  pub new_contents : (l n f slot : ℕ) (row : Row) → 1 ≤ n → n ≤ longest g → R f ≡ Some row → row.class ≡ class_of g n → bit row.mask slot ≡ false
      → (q : ℕ)
      → content g S m.bytes (put L l (Some (record { span = row.home; slot = slot; length = n })) q)
      ≡ put (λ k. content g S m.bytes (L k)) l (Some (replicate n 0)) q
  new_contents l n f slot row low high has fits free =
      put_all (λ q o. content g S m.bytes o ≡ put (λ k. content g S m.bytes (L k)) l (Some (replicate n 0)) q) L l (Some taker)
      (content_at g S m.bytes f (Some taker) taker refl (ap frame_of (sh.homed f row has).1)
      ∙ ap (λ s. Some s) (peek-zeros (m.bytes f) (slot_offset g n slot) n (λ i from below. sh.clear f i (unowned i from below)))
      ∙ sym (put_same (λ k. content g S m.bytes (L k)) l (Some (replicate n 0))))
      (λ q apart. sym (put_other (λ k. content g S m.bytes (L k)) l (Some (replicate n 0)) q apart))
    where
      taker : Patch
      taker = record { span = row.home; slot = slot; length = n }

      unowned : (i : ℕ) → slot_offset g n slot ≤ i → i < slot_offset g n slot + n → (k : ℕ) → Owns g L S k f i → ⊥
      unowned i from below k o =
          let w = placed_at sh k f o.patch row o.live o.stands has in
          let class : class_of g n ≡ class_of g o.patch.length = sym fits ∙ w.0 in
          let in_slot = owns_in_slot sh k f i o in
          let same : slot ≡ o.patch.slot =
          same_slot (slot_size g (class_of g n)) slot o.patch.slot i from (omega (arith, below, class_holds g n low high))
          (subst (λ c. slot_size g c * o.patch.slot ≤ i) (sym class) in_slot.0)
          (subst (λ c. i < slot_size g c * o.patch.slot + slot_size g c) (sym class) in_slot.1) in
          both_ways (bit row.mask slot) free (subst (λ z. bit row.mask z ≡ true) (sym same) w.2)

  -- bytes that lie in the slot of one patch are in no other's
  pub elsewhere : (l f start : ℕ) (p : Patch) (bs : List ℕ) → L l ≡ Some p → Stands S p f
      → slot_offset g p.length p.slot ≤ start
      → start + length bs ≤ slot_offset g p.length p.slot + slot_size g (class_of g p.length)
      → (k : ℕ) → (k ≡ l → ⊥)
      → content g S (put m.bytes f (poke (m.bytes f) start bs)) (L k) ≡ content g S m.bytes (L k)
  elsewhere l f start p bs live stands from within k other =
      content_kept S (put m.bytes f (poke (m.bytes f) start bs)) k
      (λ q h kq kst.
      record {
        frame = h;
        stands = kst;
        same = λ i low high.
            put_all (λ h row. Stands S q h → row i ≡ m.bytes h i) m.bytes f (poke (m.bytes f) start bs)
            (λ kst.
            poke-out (m.bytes f) start bs i
            (λ a b. other (same_owner sh k l f i q p kq live kst stands (low, omega (arith, high, (patch-within sh k q kq).0)) (omega (arith, a, from), omega (arith, b, within)))))
            (λ h apart kst. refl) h kst;
      })

  -- bytes written over those of a patch
  pub write_contents : (l f o : ℕ) (p : Patch) (bs : List ℕ) → L l ≡ Some p → Stands S p f → o + length bs ≤ p.length
      → (q : ℕ)
      → content g S (put m.bytes f (poke (m.bytes f) (slot_offset g p.length p.slot + o) bs)) (L q)
      ≡ put (λ k. content g S m.bytes (L k)) l (over_entry o bs (content g S m.bytes (L l))) q
  write_contents l f o p bs live stands fits q = by_label (cases_eq q l)
    where
      start : ℕ
      start = slot_offset g p.length p.slot

      after : ℕ → ℕ → ℕ
      after = put m.bytes f (poke (m.bytes f) (slot_offset g p.length p.slot + o) bs)

      old : ℕ → Option (List ℕ)
      old = λ k. content g S m.bytes (L k)

      here : content g S after (L l) ≡ over_entry o bs (old l)
      here =
          content_at g S after f (L l) p live stands
          ∙ ap (λ row. Some (peek row start p.length)) (put_same m.bytes f (poke (m.bytes f) (start + o) bs))
          ∙ ap (λ s. Some s) (peek-poke (m.bytes f) start p.length o bs fits)
          ∙ sym (ap (over_entry o bs) (content_at g S m.bytes f (L l) p live stands))

      by_label : (q ≡ l) ⊎ (q ≡ l → ⊥) → content g S after (L q) ≡ put old l (over_entry o bs (old l)) q
      by_label (inl same) = ap (λ k. content g S after (L k)) same ∙ here ∙ sym (ap (put old l (over_entry o bs (old l))) same ∙ put_same old l (over_entry o bs (old l)))
      by_label (inr apart) =
          elsewhere l f (start + o) p bs live stands (omega arith) (omega (arith, fits, (patch-within sh l p live).0)) q apart
          ∙ sym (put_other old l (over_entry o bs (old l)) q apart)

  -- a slot given up
  pub leave_contents : (l f : ℕ) (p : Patch) → L l ≡ Some p → Stands S p f
      → (q : ℕ)
      → content g S (put m.bytes f (poke (m.bytes f) (slot_offset g p.length p.slot) (replicate (slot_size g (class_of g p.length)) 0))) (put L l None q)
      ≡ put (λ k. content g S m.bytes (L k)) l None q
  leave_contents l f p live stands =
      put_all (λ q o. content g S after o ≡ put (λ k. content g S m.bytes (L k)) l None q) L l None
      (sym (put_same (λ k. content g S m.bytes (L k)) l None))
      (λ q apart.
      elsewhere l f start p (replicate size 0) live stands (omega arith) (omega (arith, length-replicate {A = ℕ} size 0)) q apart
      ∙ sym (put_other (λ k. content g S m.bytes (L k)) l None q apart))
    where
      start : ℕ
      start = slot_offset g p.length p.slot

      size : ℕ
      size = slot_size g (class_of g p.length)

      after : ℕ → ℕ → ℕ
      after = put m.bytes f (poke (m.bytes f) start (replicate size 0))

  -- a frame emptied
  pub empty_contents : (f : ℕ) (row : Row) → R f ≡ Some row → row.mask ≡ 0 → (l : ℕ)
      → content g (spans_after (Empty f) S) (put m.bytes f (λ i. 0)) (L l) ≡ content g S m.bytes (L l)
  empty_contents f row has none l =
      content_kept (spans_after (Empty f) S) (put m.bytes f (λ i. 0)) l
      (λ p q live stands.
      record {
        frame = q;
        stands = cleared.stays sh f row has none l p q live stands;
        same = λ i from below. ap (λ r. r i) (put_other m.bytes f (λ i. 0) q (cleared.stands_elsewhere sh f row has none l p q live stands));
      })

  -- a frame laid onto another
  pub merge_contents : (f h : ℕ) (source destination : Row) → R f ≡ Some source → R h ≡ Some destination → (f ≡ h → ⊥)
      → source.class ≡ destination.class
      → bit_and destination.mask source.mask ≡ 0
      → (l : ℕ)
      → content g (spans_after (Merge f h) S)
      (put (copied-bytes (slot_size g source.class) f h (set_places (places g) source.mask) m.bytes) f (λ i. 0)) (L l)
      ≡ content g S m.bytes (L l)
  merge_contents f h source destination has_f has_h apart alike joins l =
      content_kept (spans_after (Merge f h) S) (put moved f (λ i. 0)) l (λ p q live stands. where_now p q live stands (cases_eq q f) (cases_eq q h))
    where
      moved : ℕ → ℕ → ℕ
      moved = copied-bytes (slot_size g source.class) f h (set_places (places g) source.mask) m.bytes

      short : (p : Patch) (i : ℕ) → L l ≡ Some p → i < slot_offset g p.length p.slot + p.length
          → i < slot_offset g p.length p.slot + slot_size g (class_of g p.length)
      short p i live below = omega (arith, below, (patch-within sh l p live).0)

      where_now : (p : Patch) (q : ℕ) → L l ≡ Some p → Stands S p q → (q ≡ f) ⊎ (q ≡ f → ⊥) → (q ≡ h) ⊎ (q ≡ h → ⊥)
          → Kept g (spans_after (Merge f h) S) (m.bytes q) (put moved f (λ i. 0)) p
      where_now p q live stands (inl at_f) other =
          let in_f : Stands S p f = stands ∙ ap (λ z. Some z) at_f in
          record {
            frame = h;
            stands = merged.moves sh f h source destination has_f has_h apart alike joins p in_f;
            same = λ i from below.
                ap (λ r. r i) (put_other moved f (λ i. 0) h (λ e. apart (sym e)))
                ∙ merged.moved_in sh f h source destination has_f has_h apart alike joins l p i live in_f from (short p i live below)
                ∙ ap (λ z. m.bytes z i) (sym at_f);
          }
      where_now p q live stands (inr not_f) (inl at-h) =
          let in_h : Stands S p h = stands ∙ ap (λ z. Some z) at-h in
          record {
            frame = h;
            stands = merged.stays sh f h source destination has_f has_h apart alike joins p h in_h (λ e. apart (sym e));
            same = λ i from below.
                ap (λ r. r i) (put_other moved f (λ i. 0) h (λ e. apart (sym e)))
                ∙ merged.kept_in sh f h source destination has_f has_h apart alike joins l p i live in_h from (short p i live below)
                ∙ ap (λ z. m.bytes z i) (sym at-h);
          }
      where_now p q live stands (inr not_f) (inr not-h) =
          record {
            frame = q;
            stands = merged.stays sh f h source destination has_f has_h apart alike joins p q stands not_f;
            same = λ i from below.
                ap (λ r. r i) (put_other moved f (λ i. 0) q not_f)
                ∙ ap (λ r. r i) (copied_other (slot_size g source.class) f h (set_places (places g) source.mask) m.bytes q not-h);
          }
