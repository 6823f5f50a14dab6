-- Bytes written, a slot given up, a frame emptied: the shape stays.
use Rattle.std.proofs.Common.{◌≡◌, ℕ, ◌+◌, ◌-◌, ◌^◌, ◌<◌, ◌≤◌, true, false, not, eqb, ◌⊎◌, List, ◌∷◌, length, replicate, is_some, Some, None, Option, sym, refl, ap, ◌∙◌, subst, inl, inr, arith}
use mathlib.Core.List.Memᴰ
use mathlib.Core.List.{Memᴰ}
use Rattle.std.proofs.lemmas.Bool.{eqb-false, eq-eqb, ne_eqb, both_ways, and_parts, and_from, not-true, not_from_false, cases_eq, cases_lt, cond-true, cond-false}
use Rattle.std.proofs.lemmas.List.{length-replicate, get_or-replicate}
use Rattle.bank.specs.Tables.{put, poke}
use Rattle.bank.specs.Model.{BankState, written, returned}
use Rattle.model.specs.declared.Patch.{Patch}
use Rattle.model.specs.declared.Row.{Row}
use Rattle.model.specs.declared.Span.{Span}
use Rattle.model.specs.declared.Span.TheVariants.{Idle, Home, Alias}
use Rattle.model.specs.declared.Event.TheVariants.{Empty}
use Rattle.model.specs.Geometry.{Geometry, class_of, slot_size, slots, slot_offset, longest}
use Rattle.model.specs.Masks.{bit}
use Rattle.model.specs.State.{frame_of, after}
use Rattle.model.specs.Calls.{leaving, spans_after}
use Rattle.laws.specs.Shape.{Stands, Owns, Placed, Owner, Shape}
use Rattle.laws.proofs.Masks.{without_slot-bit, without_slot_le, bit_nonzero}
use Rattle.laws.proofs.Tables.{put_same, put_other, put_all, put_some, put-none, some_same, none_some, poke_in, poke-out}
use Rattle.laws.proofs.Facts.{placed_at, out_of_row, patch-within}
use Rattle.laws.proofs.Taken.{owner_stays}

-- only the bytes changed, and those that no live patch owns are zero
pub bytes_changed : {g : Geometry} {L : ℕ → Option Patch} {S : ℕ → Span} {R : ℕ → Option Row} {m : BankState} → Shape g L S R m
    → (bytes : ℕ → ℕ → ℕ)
    → ((f i : ℕ) → ((l : ℕ) → Owns g L S l f i → ⊥) → bytes f i ≡ 0)
    → Shape g L S R (record { size = m.size; opening = m.opening; spare = m.spare; out = m.out; bytes = bytes })
bytes_changed sh bytes clear =
    record {
      named = sh.named;
      sized = sh.sized;
      placed = sh.placed;
      apart = sh.apart;
      owner = sh.owner;
      classed = sh.classed;
      masked = sh.masked;
      homed = sh.homed;
      mapped = sh.mapped;
      out_rows = sh.out_rows;
      few = sh.few;
      out_below = sh.out_below;
      spare_proper = sh.spare_proper;
      spare_in = sh.spare_in;
      clear = clear;
    }

-- a span's frame after the frame f was emptied
pub empty_frame : (f q : ℕ) (s : Span) → frame_of s ≡ Some q → (q ≡ f → ⊥) → after (Empty f) s ≡ s
empty_frame f q Idle e apart = refl
empty_frame f q (Home h) e apart = cond-false (eqb h f) Idle (Home h) (ne_eqb h f (λ same. apart (sym (some_same e) ∙ same)))
empty_frame f q (Alias h) e apart = cond-false (eqb h f) Idle (Alias h) (ne_eqb h f (λ same. apart (sym (some_same e) ∙ same)))

pub empty_was : (f q : ℕ) (s : Span) → frame_of (after (Empty f) s) ≡ Some q → (frame_of s ≡ Some q) × (q ≡ f → ⊥)
empty_was f q Idle e = absurd (none_some e)
empty_was f q (Home h) e = by_place (cases_eq h f)
  where
    by_place : (h ≡ f) ⊎ (h ≡ f → ⊥) → (Some h ≡ Some q) × (q ≡ f → ⊥)
    by_place (inl same) = absurd (none_some (sym (ap frame_of (cond-true (eqb h f) Idle (Home h) (eq-eqb h f same))) ∙ e))
    by_place (inr apart) =
        let h_q : Some h ≡ Some q = sym (ap frame_of (cond-false (eqb h f) Idle (Home h) (ne_eqb h f apart))) ∙ e in
        (h_q, λ same. apart (some_same h_q ∙ same))
empty_was f q (Alias h) e = by_place (cases_eq h f)
  where
    by_place : (h ≡ f) ⊎ (h ≡ f → ⊥) → (Some h ≡ Some q) × (q ≡ f → ⊥)
    by_place (inl same) = absurd (none_some (sym (ap frame_of (cond-true (eqb h f) Idle (Alias h) (eq-eqb h f same))) ∙ e))
    by_place (inr apart) =
        let h_q : Some h ≡ Some q = sym (ap frame_of (cond-false (eqb h f) Idle (Alias h) (ne_eqb h f apart))) ∙ e in
        (h_q, λ same. apart (some_same h_q ∙ same))

module _ {g : Geometry} {L : ℕ → Option Patch} {S : ℕ → Span} {R : ℕ → Option Row} {m : BankState} (sh : Shape g L S R m) where
  -- bytes are written within a live patch
  pub patch-written : (l f o : ℕ) (p : Patch) (bs : List ℕ) → L l ≡ Some p → Stands S p f → o + length bs ≤ p.length
      → Shape g L S R (written f (slot_offset g p.length p.slot + o) bs m)
  patch-written l f o p bs live stands fits =
      bytes_changed sh (put m.bytes f (poke (m.bytes f) (slot_offset g p.length p.slot + o) bs))
      (λ q i. put_all (λ q row. ((k : ℕ) → Owns g L S k q i → ⊥) → row i ≡ 0) m.bytes f (poke (m.bytes f) (slot_offset g p.length p.slot + o) bs)
      (λ none.
      poke-out (m.bytes f) (slot_offset g p.length p.slot + o) bs i
      (λ from below. none l (record { patch = p; live = live; stands = stands; from = omega (arith, from); below = omega (arith, below, fits) }))
      ∙ sh.clear f i none)
      (λ q apart. sh.clear q i) q)

  -- a live patch's slot is cleared, its label is not live any more, and its row has the slot no more
  module _ (l f : ℕ) (p : Patch) (row : Row) (live : L l ≡ Some p) (stands : Stands S p f) (has : R f ≡ Some row) where
    size : ℕ
    size = slot_size g (class_of g p.length)

    start : ℕ
    start = slot_offset g p.length p.slot

    pub slot_left : Shape g (put L l None) S (put R f (Some (leaving row p.slot)))
        (written f (slot_offset g p.length p.slot) (replicate (slot_size g (class_of g p.length)) 0) m)
    unfolding size start
    slot_left =
        record {
          named = put-none (λ k p. k < g.labels) L l (λ k apart. sh.named k);
          sized = put-none (λ k p. (1 ≤ p.length) × (p.length ≤ longest g)) L l (λ k apart. sh.sized k);
          placed =
              put-none (λ k q. Placed g S (put R f (Some (leaving row p.slot))) q) L l
              (λ k apart q kq. still_placed k apart q kq (sh.placed k q kq) (cases_eq (sh.placed k q kq).frame f));
          apart = λ k j q p₁ p₂ kp jp.
              put-none (λ k p₁. Stands S p₁ q → Stands S p₂ q → p₁.slot ≡ p₂.slot → k ≡ j) L l
              (λ k apart p₁ kp.
              put-none (λ j p₂. Stands S p₁ q → Stands S p₂ q → p₁.slot ≡ p₂.slot → k ≡ j) L l
              (λ j apart' p₂ jp. sh.apart k j q p₁ p₂ kp jp) j p₂ jp) k p₁ kp;
          owner = λ q s row' has'.
              put_some (λ q row'. bit row'.mask s ≡ true → Owner (put L l None) S q s) R f (leaving row p.slot)
              (λ e.
              let parts = and_parts (bit row.mask s) (not (eqb s p.slot)) (sym (without_slot-bit row.mask p.slot s) ∙ e) in
              let elsewhere = eqb-false s p.slot (not-true (eqb s p.slot) parts.1) in
              other_owner f s (sh.owner f s row has parts.0)
              (λ o same. elsewhere (sym o.at_slot ∙ ap (λ (x : Patch). x.slot) (some_same (sym o.live ∙ ap L same ∙ live)))))
              (λ q apart row' has' e.
              other_owner q s (sh.owner q s row' has' e)
              (λ o same.
              let is : o.patch ≡ p = some_same (sym o.live ∙ ap L same ∙ live) in
              apart (some_same (sym o.stands ∙ ap (λ (x : Patch). frame_of (S x.span)) is ∙ stands)))) q row' has';
          classed =
              put_some (λ q row'. row'.class < length g.sizes) R f (leaving row p.slot) (sh.classed f row has) (λ q apart. sh.classed q);
          masked =
              put_some (λ q row'. row'.mask < 2 ^ slots g row'.class) R f (leaving row p.slot)
              (omega (arith, without_slot_le row.mask p.slot, sh.masked f row has))
              (λ q apart. sh.masked q);
          homed =
              put_some (λ q row'. (row'.home < g.spans) × (S row'.home ≡ Home q)) R f (leaving row p.slot) (sh.homed f row has)
              (λ q apart. sh.homed q);
          mapped = sh.mapped;
          out_rows =
              put_all (λ q o. is_some o ≡ m.out q) R f (Some (leaving row p.slot)) (sym (out_of_row sh f row has)) (λ q apart. sh.out_rows q);
          few = sh.few;
          out_below = sh.out_below;
          spare_proper = sh.spare_proper;
          spare_in = sh.spare_in;
          clear = λ q i.
              put_all (λ q bytes. ((k : ℕ) → Owns g (put L l None) S k q i → ⊥) → bytes i ≡ 0) m.bytes f (poke (m.bytes f) start (replicate size 0))
              (λ none. wiped i none (cases_lt i start) (cases_lt i (start + size)))
              (λ q apart none.
              sh.clear q i (λ k o.
              still_owned k q i none o (λ same.
              let is : o.patch ≡ p = some_same (sym o.live ∙ ap L same ∙ live) in
              apart (some_same (sym o.stands ∙ ap (λ (x : Patch). frame_of (S x.span)) is ∙ stands))))) q;
        }
      where
        still_placed : (k : ℕ) → (k ≡ l → ⊥) → (q : Patch) → L k ≡ Some q → (w : Placed g S R q) → (w.frame ≡ f) ⊎ (w.frame ≡ f → ⊥)
            → Placed g S (put R f (Some (leaving row p.slot))) q
        still_placed k other q kq w (inl same) =
            let in_f : Stands S q f = w.stands ∙ ap (λ z. Some z) same in
            let was = placed_at sh k f q row kq in_f has in
            let elsewhere : q.slot ≡ p.slot → ⊥ = λ at. other (sh.apart k l f q p kq live in_f stands at) in
            record {
              frame = f;
              row = leaving row p.slot;
              stands = in_f;
              has_row = put_same R f (Some (leaving row p.slot));
              fits = was.0;
              slot_below = was.1;
              occupied =
                  without_slot-bit row.mask p.slot q.slot
                  ∙ and_from (bit row.mask q.slot) (not (eqb q.slot p.slot)) was.2 (not_from_false (eqb q.slot p.slot) (ne_eqb q.slot p.slot elsewhere));
            }
        still_placed k other q kq w (inr apart) =
            record {
              frame = w.frame;
              row = w.row;
              stands = w.stands;
              has_row = put_other R f (Some (leaving row p.slot)) w.frame apart ∙ w.has_row;
              fits = w.fits;
              slot_below = w.slot_below;
              occupied = w.occupied;
            }

        other_owner : (q s : ℕ) (o : Owner L S q s) → ((o : Owner L S q s) → o.label ≡ l → ⊥) → Owner (put L l None) S q s
        other_owner q s o other =
            record {
              label = o.label;
              patch = o.patch;
              live = put_other L l None o.label (other o) ∙ o.live;
              stands = o.stands;
              at_slot = o.at_slot;
            }

        still_owned : (k q i : ℕ) → ((k : ℕ) → Owns g (put L l None) S k q i → ⊥) → (o : Owns g L S k q i) → (k ≡ l → ⊥) → ⊥
        still_owned k q i none o other =
            none k (record { patch = o.patch; live = put_other L l None k other ∙ o.live; stands = o.stands; from = o.from; below = o.below })

        outside : (i : ℕ) → ((k : ℕ) → Owns g (put L l None) S k f i → ⊥) → (start ≤ i → i < start + size → ⊥) → poke (m.bytes f) start (replicate size 0) i ≡ 0
        outside i none out =
            poke-out (m.bytes f) start (replicate size 0) i (λ from below. out from (omega (arith, below, length-replicate {A = ℕ} size 0)))
            ∙ sh.clear f i (λ k o.
            still_owned k f i none o (λ same.
            let is : o.patch ≡ p = some_same (sym o.live ∙ ap L same ∙ live) in
            let from : start ≤ i = subst (λ (x : Patch). slot_offset g x.length x.slot ≤ i) is o.from in
            let below : i < start + p.length = subst (λ (x : Patch). i < slot_offset g x.length x.slot + x.length) is o.below in
            out from (omega (arith, below, (patch-within sh l p live).0))))

        wiped : (i : ℕ) → ((k : ℕ) → Owns g (put L l None) S k f i → ⊥) → (i < start) ⊎ (start ≤ i) → (i < start + size) ⊎ (start + size ≤ i)
            → poke (m.bytes f) start (replicate size 0) i ≡ 0
        wiped i none (inl early) within = outside i none (λ from below. omega arith)
        wiped i none (inr from) (inl below) =
            poke_in (m.bytes f) start (replicate size 0) i from (omega (arith, length-replicate {A = ℕ} size 0))
            ∙ get_or-replicate size (i - start) 0 0 (omega arith)
        wiped i none (inr from) (inr past) = outside i none (λ from below. omega arith)

  -- a frame whose row has no slot occupied is given back, and its spans are idle
  module _ (f : ℕ) (row : Row) (has : R f ≡ Some row) (none-set : row.mask ≡ 0) where
    pub stands_elsewhere : (l : ℕ) (p : Patch) (q : ℕ) → L l ≡ Some p → Stands S p q → q ≡ f → ⊥
    stands_elsewhere l p q live stands same =
        bit_nonzero row.mask p.slot (placed_at sh l f p row live (stands ∙ ap (λ z. Some z) same) has).2 none-set

    pub stays : (l : ℕ) (p : Patch) (q : ℕ) → L l ≡ Some p → Stands S p q → Stands (spans_after (Empty f) S) p q
    stays l p q live stands = ap frame_of (empty_frame f q (S p.span) stands (stands_elsewhere l p q live stands)) ∙ stands

    pub frame-emptied : Shape g L (spans_after (Empty f) S) (put R f None) (returned f m)
    frame-emptied =
        record {
          named = sh.named;
          sized = sh.sized;
          placed = λ l p live.
              let w = sh.placed l p live in
              record {
                frame = w.frame;
                row = w.row;
                stands = stays l p w.frame live w.stands;
                has_row = put_other R f None w.frame (stands_elsewhere l p w.frame live w.stands) ∙ w.has_row;
                fits = w.fits;
                slot_below = w.slot_below;
                occupied = w.occupied;
              };
          apart = λ l k q p p' lp kp sp sp'.
              sh.apart l k q p p' lp kp (empty_was f q (S p.span) sp).0 (empty_was f q (S p'.span) sp').0;
          owner = λ q s.
              put-none (λ q row'. bit row'.mask s ≡ true → Owner L (spans_after (Empty f) S) q s) R f
              (λ q apart row' has' e.
              owner_stays q s (λ l p live. live) (λ p stands. ap frame_of (empty_frame f q (S p.span) stands apart) ∙ stands) (sh.owner q s row' has' e)) q;
          classed = put-none (λ q row'. row'.class < length g.sizes) R f (λ q apart. sh.classed q);
          masked = put-none (λ q row'. row'.mask < 2 ^ slots g row'.class) R f (λ q apart. sh.masked q);
          homed =
              put-none (λ q row'. (row'.home < g.spans) × (after (Empty f) (S row'.home) ≡ Home q)) R f
              (λ q apart row' has'.
              let old = sh.homed q row' has' in
              (old.0, empty_frame f q (S row'.home) (ap frame_of old.1) apart ∙ old.1));
          mapped = λ h q e.
              let was = empty_was f q (S h) e in
              let old = sh.mapped h q was.0 in
              (old.0, put_other m.out f false q was.1 ∙ old.1);
          out_rows =
              put_all (λ q o. is_some o ≡ put m.out f false q) R f None (sym (put_same m.out f false))
              (λ q apart. sh.out_rows q ∙ sym (put_other m.out f false q apart));
          few = sh.few;
          out_below = put_all (λ q b. b ≡ true → q < m.size) m.out f false (λ e. absurd (both_ways false refl e)) (λ q apart. sh.out_below q);
          spare_proper =
              (sh.out_below f (out_of_row sh f row has), λ mem. both_ways (m.out f) (sh.spare_in f mem) (out_of_row sh f row has), sh.spare_proper);
          spare_in = λ q mem.
              put_all (λ q b. Memᴰ q (f ∷ m.spare) → b ≡ false) m.out f false (λ mem. refl)
              (λ q apart mem. in_rest q apart (Memᴰ.cases_cons mem)) q mem;
          clear = λ q i.
              put_all (λ q bytes. ((k : ℕ) → Owns g L (spans_after (Empty f) S) k q i → ⊥) → bytes i ≡ 0) m.bytes f (λ i. 0)
              (λ none. refl)
              (λ q apart none.
              sh.clear q i (λ k o.
              none k (record { patch = o.patch; live = o.live; stands = stays k o.patch q o.live o.stands; from = o.from; below = o.below }))) q;
        }
      where
        in_rest : (q : ℕ) → (q ≡ f → ⊥) → (q ≡ f) ⊎ Memᴰ q m.spare → m.out q ≡ false
        in_rest q apart (inl same) = absurd (apart same)
        in_rest q apart (inr mem) = sh.spare_in q mem
