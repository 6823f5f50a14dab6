-- A pool just opened, a span opened, a slot taken: the shape stays.
use Rattle.std.proofs.Common.{◌≡◌, ℕ, ◌^◌, ◌<◌, ◌≤◌, true, false, eqb, ◌⊎◌, List, ◌∷◌, length, is_some, Some, None, Option, sym, refl, ap, ◌∙◌, subst, inl, inr}
use mathlib.Core.List.{Memᴰ}
use Rattle.std.proofs.lemmas.Bool.{eqb-true, eq-eqb, both_ways, or_cases, or_left, or_right, cases_eq}
use Rattle.std.proofs.lemmas.Nat.{pow_pos}
use Rattle.bank.specs.Tables.{put}
use Rattle.bank.specs.Model.{BankState, reset}
use Rattle.bank.specs.Sound.{Proper}
use Rattle.model.specs.declared.Patch.{Patch}
use Rattle.model.specs.declared.Row.{Row}
use Rattle.model.specs.declared.Span.{Span}
use Rattle.model.specs.declared.Span.TheVariants.{Idle, Home}
use Rattle.model.specs.Geometry.{Geometry, class_of, slots, longest}
use Rattle.model.specs.Masks.{bit}
use Rattle.model.specs.State.{frame_of}
use Rattle.model.specs.Calls.{taking}
use Rattle.laws.specs.Shape.{Stands, Placed, Owner, Shape}
use Rattle.laws.proofs.Masks.{bit_zero, with_slot-bit, with_slot-below}
use Rattle.laws.proofs.Tables.{put_same, put_other, put_all, put_some, some_same, none_some}
use Rattle.laws.proofs.Facts.{placed_at, out_of_row}

-- a pool as it is opened
pub opened-shape : (g : Geometry) (bank : BankState) → bank.size ≤ g.frames → Proper bank.size bank.opening
    → Shape g (λ l. None) (λ h. Idle) (λ f. None) (reset bank)
opened-shape g bank few proper =
    record {
      named = λ l p e. absurd (none_some e);
      sized = λ l p e. absurd (none_some e);
      placed = λ l p e. absurd (none_some e);
      apart = λ l k f p q e. absurd (none_some e);
      owner = λ f slot row e. absurd (none_some e);
      classed = λ f row e. absurd (none_some e);
      masked = λ f row e. absurd (none_some e);
      homed = λ f row e. absurd (none_some e);
      mapped = λ h f e. absurd (none_some e);
      out_rows = λ f. refl;
      few = few;
      out_below = λ f e. absurd (both_ways false refl e);
      spare_proper = proper;
      spare_in = λ f e. refl;
      clear = λ f i none. refl;
    }

-- an owner stays an owner where its label stays and its span's frame stays
pub owner_stays : {L M : ℕ → Option Patch} {S T : ℕ → Span} (f slot : ℕ) → ((l : ℕ) (p : Patch) → L l ≡ Some p → M l ≡ Some p)
    → ((p : Patch) → Stands S p f → Stands T p f)
    → Owner L S f slot
    → Owner M T f slot
owner_stays f slot labels spans o =
    record {
      label = o.label;
      patch = o.patch;
      live = labels o.label o.patch o.live;
      stands = spans o.patch o.stands;
      at_slot = o.at_slot;
    }

module _ {g : Geometry} {L : ℕ → Option Patch} {S : ℕ → Span} {R : ℕ → Option Row} {m : BankState} (sh : Shape g L S R m) where
  -- an idle span becomes home of a frame that was spare, whose row has no slot occupied yet
  module _ (h f class : ℕ) (rest : List ℕ) (idle : S h ≡ Idle) (is_span : h < g.spans) (is_class : class < length g.sizes) (spare : m.spare ≡ f ∷ rest) where
    new_row : Row
    new_row = record { class = class; mask = 0; home = h }

    in_spare : Memᴰ f m.spare
    in_spare = subst (λ xs. Memᴰ f xs) (sym spare) (Memᴰ.head refl)

    was_in : m.out f ≡ false
    was_in = sh.spare_in f in_spare

    no_row : (row : Row) → R f ≡ Some row → ⊥
    no_row row has = both_ways (m.out f) was_in (out_of_row sh f row has)

    parts : (f < m.size) × (Memᴰ f rest → ⊥) × Proper m.size rest
    parts = subst (λ xs. Proper m.size xs) spare sh.spare_proper

    -- a span that was not idle keeps its frame, which is another
    pub keeps : (k q : ℕ) → frame_of (S k) ≡ Some q → frame_of (put S h (Home f) k) ≡ Some q
    keeps k q e = ap frame_of (put_other S h (Home f) k (λ same. none_some (sym (ap frame_of (ap S same ∙ idle)) ∙ e))) ∙ e

    -- a span's frame is the new one, at the span opened, or as it was
    now_of : (k q : ℕ) → frame_of (put S h (Home f) k) ≡ Some q → ((k ≡ h) × (q ≡ f)) ⊎ (frame_of (S k) ≡ Some q)
    now_of k q =
        put_all (λ k s. frame_of s ≡ Some q → ((k ≡ h) × (q ≡ f)) ⊎ (frame_of (S k) ≡ Some q)) S h (Home f)
        (λ e. inl (refl, sym (some_same e))) (λ k apart e. inr e) k

    not_new : (q : ℕ) (row : Row) → R q ≡ Some row → q ≡ f → ⊥
    not_new q row has same = no_row row (ap R (sym same) ∙ has)

    was_standing : (l : ℕ) (p : Patch) (q : ℕ) → L l ≡ Some p → Stands (put S h (Home f)) p q → Stands S p q
    was_standing l p q live stands = by_case (now_of p.span q stands)
      where
        by_case : ((p.span ≡ h) × (q ≡ f)) ⊎ (frame_of (S p.span) ≡ Some q) → Stands S p q
        by_case (inl same) = absurd (none_some (sym (ap frame_of (ap S same.0 ∙ idle)) ∙ (sh.placed l p live).stands))
        by_case (inr old) = old

    pub span_opened : Shape g L (put S h (Home f)) (put R f (Some (record { class = class; mask = 0; home = h })))
        (record { size = m.size; opening = m.opening; spare = rest; out = put m.out f true; bytes = m.bytes })
    unfolding new_row
    span_opened =
        record {
          named = sh.named;
          sized = sh.sized;
          placed = λ l p live.
              let w = sh.placed l p live in
              record {
                frame = w.frame;
                row = w.row;
                stands = keeps p.span w.frame w.stands;
                has_row = put_other R f (Some new_row) w.frame (not_new w.frame w.row w.has_row) ∙ w.has_row;
                fits = w.fits;
                slot_below = w.slot_below;
                occupied = w.occupied;
              };
          apart = λ l k q p p' lp kp sp sp' same.
              sh.apart l k q p p' lp kp (was_standing l p q lp sp) (was_standing k p' q kp sp') same;
          owner = λ q slot row has.
              put_some (λ q row. bit row.mask slot ≡ true → Owner L (put S h (Home f)) q slot) R f new_row
              (λ e. absurd (both_ways (bit 0 slot) (bit_zero slot) e))
              (λ q apart row has e. owner_stays q slot (λ l p live. live) (λ p. keeps p.span q) (sh.owner q slot row has e)) q row has;
          classed = put_some (λ q row. row.class < length g.sizes) R f new_row is_class (λ q apart. sh.classed q);
          masked =
              put_some (λ q row. row.mask < 2 ^ slots g row.class) R f new_row (pow_pos (slots g class)) (λ q apart. sh.masked q);
          homed =
              put_some (λ q row. (row.home < g.spans) × (put S h (Home f) row.home ≡ Home q)) R f new_row
              (is_span, put_same S h (Home f))
              (λ q apart row has.
              let old = sh.homed q row has in
              (old.0, put_other S h (Home f) row.home (λ same. none_some (sym (ap frame_of (ap S same ∙ idle)) ∙ ap frame_of old.1)) ∙ old.1));
          mapped = λ k q e. was_mapped k q (now_of k q e);
          out_rows =
              put_all (λ q o. is_some o ≡ put m.out f true q) R f (Some new_row) (sym (put_same m.out f true))
              (λ q apart. sh.out_rows q ∙ sym (put_other m.out f true q apart));
          few = sh.few;
          out_below = put_all (λ q b. b ≡ true → q < m.size) m.out f true (λ e. parts.0) (λ q apart. sh.out_below q);
          spare_proper = parts.2;
          spare_in = λ q mem.
              put_other m.out f true q (λ same. parts.1 (subst (λ z. Memᴰ z rest) same mem))
              ∙ sh.spare_in q (subst (λ xs. Memᴰ q xs) (sym spare) (Memᴰ.tail mem));
          clear = λ q i none.
              sh.clear q i (λ l o.
              none l (record { patch = o.patch; live = o.live; stands = keeps o.patch.span q o.stands; from = o.from; below = o.below }));
        }
      where
        was_mapped : (k q : ℕ) → ((k ≡ h) × (q ≡ f)) ⊎ (frame_of (S k) ≡ Some q) → (k < g.spans) × (put m.out f true q ≡ true)
        was_mapped k q (inl same) = (subst (λ z. z < g.spans) (sym same.0) is_span, ap (put m.out f true) same.1 ∙ put_same m.out f true)
        was_mapped k q (inr old) =
            let w = sh.mapped k q old in
            (w.0, put_all (λ q b. m.out q ≡ true → b ≡ true) m.out f true (λ e. refl) (λ q apart e. e) q w.1)

  -- a free slot of a row is taken by a label that was not live
  module _ (l n f slot : ℕ) (row : Row) (fresh : L l ≡ None) (is-label : l < g.labels) (low : 1 ≤ n) (high : n ≤ longest g)
      (has : R f ≡ Some row) (fits : row.class ≡ class_of g n) (below : slot < slots g row.class) (free : bit row.mask slot ≡ false) where
    taker : Patch
    taker = record { span = row.home; slot = slot; length = n }

    taker_stands : frame_of (S row.home) ≡ Some f
    taker_stands = ap frame_of (sh.homed f row has).1

    label_kept : (k : ℕ) (p : Patch) → L k ≡ Some p → put L l (Some taker) k ≡ Some p
    label_kept k p live = put_other L l (Some taker) k (λ same. none_some (sym fresh ∙ ap L (sym same) ∙ live)) ∙ live

    -- a slot of a live patch is not the free one
    taken_by_none : (k : ℕ) (p : Patch) (q : ℕ) → L k ≡ Some p → Stands S p q → q ≡ f → p.slot ≡ slot → ⊥
    taken_by_none k p q live stands same at =
        both_ways (bit row.mask slot) free (subst (λ z. bit row.mask z ≡ true) at (placed_at sh k f p row live (stands ∙ ap (λ z. Some z) same) has).2)

    pub slot_taken : Shape g (put L l (Some (record { span = row.home; slot = slot; length = n }))) S (put R f (Some (taking row slot))) m
    unfolding taker
    slot_taken =
        record {
          named = put_some (λ k p. k < g.labels) L l taker is-label (λ k apart. sh.named k);
          sized = put_some (λ k p. (1 ≤ p.length) × (p.length ≤ longest g)) L l taker (low, high) (λ k apart. sh.sized k);
          placed =
              put_some (λ k p. Placed g S (put R f (Some (taking row slot))) p) L l taker
              (record {
                frame = f;
                row = taking row slot;
                stands = taker_stands;
                has_row = put_same R f (Some (taking row slot));
                fits = fits;
                slot_below = below;
                occupied = with_slot-bit row.mask slot slot ∙ or_right (bit row.mask slot) (eqb slot slot) (eq-eqb slot slot refl);
              })
              (λ k apart p live. still_placed p (sh.placed k p live) (cases_eq (sh.placed k p live).frame f));
          apart = λ k j q p p' kp jp.
              put_some (λ k p. Stands S p q → Stands S p' q → p.slot ≡ p'.slot → k ≡ j) L l taker
              (put_some (λ j p'. Stands S taker q → Stands S p' q → slot ≡ p'.slot → l ≡ j) L l taker
              (λ s s' same. refl)
              (λ j apart p' jp s s' same. absurd (taken_by_none j p' q jp s' (some_same (sym s ∙ taker_stands)) (sym same))) j p' jp)
              (λ k apart p kp.
              put_some (λ j p'. Stands S p q → Stands S p' q → p.slot ≡ p'.slot → k ≡ j) L l taker
              (λ s s' same. absurd (taken_by_none k p q kp s (some_same (sym s' ∙ taker_stands)) same))
              (λ j apart' p' jp. sh.apart k j q p p' kp jp) j p' jp) k p kp;
          owner = λ q s row' has'.
              put_some (λ q row'. bit row'.mask s ≡ true → Owner (put L l (Some taker)) S q s) R f (taking row slot)
              (λ e. new-owner s (or_cases (bit row.mask s) (eqb s slot) (sym (with_slot-bit row.mask slot s) ∙ e)))
              (λ q apart row' has' e. owner_stays q s label_kept (λ p stands. stands) (sh.owner q s row' has' e)) q row' has';
          classed = put_some (λ q row'. row'.class < length g.sizes) R f (taking row slot) (sh.classed f row has) (λ q apart. sh.classed q);
          masked =
              put_some (λ q row'. row'.mask < 2 ^ slots g row'.class) R f (taking row slot)
              (with_slot-below row.mask slot (slots g row.class) (sh.masked f row has) below)
              (λ q apart. sh.masked q);
          homed =
              put_some (λ q row'. (row'.home < g.spans) × (S row'.home ≡ Home q)) R f (taking row slot) (sh.homed f row has)
              (λ q apart. sh.homed q);
          mapped = sh.mapped;
          out_rows =
              put_all (λ q o. is_some o ≡ m.out q) R f (Some (taking row slot)) (sym (out_of_row sh f row has)) (λ q apart. sh.out_rows q);
          few = sh.few;
          out_below = sh.out_below;
          spare_proper = sh.spare_proper;
          spare_in = sh.spare_in;
          clear = λ q i none.
              sh.clear q i (λ k o.
              none k (record { patch = o.patch; live = label_kept k o.patch o.live; stands = o.stands; from = o.from; below = o.below }));
        }
      where
        still_placed : (p : Patch) (w : Placed g S R p) → (w.frame ≡ f) ⊎ (w.frame ≡ f → ⊥) → Placed g S (put R f (Some (taking row slot))) p
        still_placed p w (inl same) =
            let same_row : w.row ≡ row = some_same (sym w.has_row ∙ ap R same ∙ has) in
            let was = subst (λ (r : Row). (r.class ≡ class_of g p.length) × (p.slot < slots g r.class) × (bit r.mask p.slot ≡ true)) same_row (w.fits, w.slot_below, w.occupied) in
            record {
              frame = f;
              row = taking row slot;
              stands = w.stands ∙ ap (λ z. Some z) same;
              has_row = put_same R f (Some (taking row slot));
              fits = was.0;
              slot_below = was.1;
              occupied = with_slot-bit row.mask slot p.slot ∙ or_left (bit row.mask p.slot) (eqb p.slot slot) was.2;
            }
        still_placed p w (inr apart) =
            record {
              frame = w.frame;
              row = w.row;
              stands = w.stands;
              has_row = put_other R f (Some (taking row slot)) w.frame apart ∙ w.has_row;
              fits = w.fits;
              slot_below = w.slot_below;
              occupied = w.occupied;
            }

        new-owner : (s : ℕ) → (bit row.mask s ≡ true) ⊎ (eqb s slot ≡ true) → Owner (put L l (Some taker)) S f s
        new-owner s (inl old) = owner_stays f s label_kept (λ p stands. stands) (sh.owner f s row has old)
        new-owner s (inr here) =
            record {
              label = l;
              patch = taker;
              live = put_same L l (Some taker);
              stands = taker_stands;
              at_slot = sym (eqb-true s slot here);
            }
