-- A frame laid onto another: the shape stays.
use Rattle.std.proofs.Common.{◌≡◌, ℕ, ◌+◌, ◌*◌, ◌^◌, ◌<◌, ◌≤◌, true, false, eqb, ◌⊎◌, List, [], ◌∷◌, length, is_some, Some, None, Option, sym, refl, ap, ◌∙◌, subst, inl, inr, arith}
use mathlib.Core.List.Memᴰ
use mathlib.Core.List.{Memᴰ}
use lib.Bits.{bit_and, bit_or, or_lt}
use Rattle.std.specs.List.{AllByRecursion}
use Rattle.std.proofs.lemmas.Bool.{eq-eqb, ne_eqb, both_ways, or_cases, or_left, or_right, cases_eq, cond-true, cond-false}
use Rattle.bank.specs.Tables.{put}
use Rattle.bank.specs.Model.{BankState, returned}
use Rattle.model.specs.declared.Patch.{Patch}
use Rattle.model.specs.declared.Row.{Row}
use Rattle.model.specs.declared.Span.{Span}
use Rattle.model.specs.declared.Span.TheVariants.{Idle, Home, Alias}
use Rattle.model.specs.declared.Event.TheVariants.{Merge}
use Rattle.model.specs.Geometry.{Geometry, class_of, slot_size, slots, slot_offset, places}
use Rattle.model.specs.Masks.{bit, set_places}
use Rattle.model.specs.State.{frame_of, after}
use Rattle.model.specs.Calls.{spans_after}
use Rattle.laws.specs.Shape.{Stands, Owns, Placed, Owner, Shape}
use Rattle.laws.proofs.Masks.{bit-bit_or, bits_apart, bit_below, set_places-set, set_places_member}
use Rattle.laws.proofs.Sizes.{slots_le_places, slot_ends, same_slot}
use Rattle.laws.proofs.Tables.{put_same, put_other, put_all, put_some, put-none, some_same, none_some}
use Rattle.laws.proofs.Facts.{placed_at, out_of_row}
use Rattle.laws.proofs.Taken.{owner_stays}
use Rattle.laws.proofs.Copies.{with_bytes, copied-bytes, copied_other, copied_in, copied-out, alike_stays}

-- a span's frame after the frame f was laid onto the frame h
pub merged_here : (f h : ℕ) (s : Span) → frame_of s ≡ Some f → frame_of (after (Merge f h) s) ≡ Some h
merged_here f h Idle e = absurd (none_some e)
merged_here f h (Home q) e = ap frame_of (cond-true (eqb q f) (Alias h) (Home q) (eq-eqb q f (some_same e)))
merged_here f h (Alias q) e = ap frame_of (cond-true (eqb q f) (Alias h) (Alias q) (eq-eqb q f (some_same e)))

pub merged_there : (f h q : ℕ) (s : Span) → frame_of s ≡ Some q → (q ≡ f → ⊥) → after (Merge f h) s ≡ s
merged_there f h q Idle e apart = refl
merged_there f h q (Home k) e apart = cond-false (eqb k f) (Alias h) (Home k) (ne_eqb k f (λ same. apart (sym (some_same e) ∙ same)))
merged_there f h q (Alias k) e apart = cond-false (eqb k f) (Alias h) (Alias k) (ne_eqb k f (λ same. apart (sym (some_same e) ∙ same)))

was_framed : (f h k q : ℕ) (s : Span) → frame_of s ≡ Some k → frame_of (after (Merge f h) s) ≡ Some q → (k ≡ f) ⊎ (k ≡ f → ⊥)
    → ((frame_of s ≡ Some f) × (q ≡ h)) ⊎ ((frame_of s ≡ Some q) × (q ≡ f → ⊥))
was_framed f h k q s is e (inl same) =
    let at_f : frame_of s ≡ Some f = is ∙ ap (λ z. Some z) same in
    inl (at_f, some_same (sym e ∙ merged_here f h s at_f))
was_framed f h k q s is e (inr apart) =
    let k_q : k ≡ q = some_same (sym is ∙ ap frame_of (sym (merged_there f h k s is apart)) ∙ e) in
    inr (is ∙ ap (λ z. Some z) k_q, λ same. apart (k_q ∙ same))

pub merged_was : (f h q : ℕ) (s : Span) → frame_of (after (Merge f h) s) ≡ Some q
    → ((frame_of s ≡ Some f) × (q ≡ h)) ⊎ ((frame_of s ≡ Some q) × (q ≡ f → ⊥))
merged_was f h q Idle e = absurd (none_some e)
merged_was f h q (Home k) e = was_framed f h k q (Home k) refl e (cases_eq k f)
merged_was f h q (Alias k) e = was_framed f h k q (Alias k) refl e (cases_eq k f)

-- the row of a destination, with the source's slots
abbrev pub joined_row : Row → Row → Row
joined_row destination source =
    record { class = destination.class; mask = bit_or destination.mask source.mask; home = destination.home }

module _ {g : Geometry} {L : ℕ → Option Patch} {S : ℕ → Span} {R : ℕ → Option Row} {m : BankState} (sh : Shape g L S R m)
    (f h : ℕ) (source destination : Row) (has_f : R f ≡ Some source) (has_h : R h ≡ Some destination) (apart_fh : f ≡ h → ⊥)
    (alike : source.class ≡ destination.class) (joins : bit_and destination.mask source.mask ≡ 0) where
  T : ℕ → Span
  T = spans_after (Merge f h) S

  joined : Row
  joined = joined_row destination source

  size : ℕ
  size = slot_size g source.class

  moved : ℕ → ℕ → ℕ
  moved = copied-bytes size f h (set_places (places g) source.mask) m.bytes

  -- a live patch stays where it is, or moves from f to h
  pub moves : (p : Patch) → Stands S p f → Stands (spans_after (Merge f h) S) p h
  moves p stands = merged_here f h (S p.span) stands

  pub stays : (p : Patch) (q : ℕ) → Stands S p q → (q ≡ f → ⊥) → Stands (spans_after (Merge f h) S) p q
  stays p q stands apart = ap frame_of (merged_there f h q (S p.span) stands apart) ∙ stands

  -- the slots of the source lie in the frame
  pub source-slots : (s : ℕ) → bit source.mask s ≡ true → slot_size g source.class * s + slot_size g source.class ≤ g.frame
  source-slots s set =
      slot_ends g source.class (sh.classed f source has_f) s (bit_below source.mask (slots g source.class) s (sh.masked f source has_f) set)

  source_member : (s : ℕ) → bit source.mask s ≡ true → Memᴰ s (set_places (places g) source.mask)
  source_member s set =
      set_places_member (places g) source.mask s
      (omega (arith, bit_below source.mask (slots g source.class) s (sh.masked f source has_f) set, slots_le_places g source.class (sh.classed f source has_f)))
      set

  -- the bytes of a patch's slot that was in f are now those of h
  pub moved_in : (l : ℕ) (p : Patch) (i : ℕ) → L l ≡ Some p → Stands S p f
      → slot_offset g p.length p.slot ≤ i
      → i < slot_offset g p.length p.slot + slot_size g (class_of g p.length)
      → copied-bytes (slot_size g source.class) f h (set_places (places g) source.mask) m.bytes h i ≡ m.bytes f i
  moved_in l p i live stands from below =
      let w = placed_at sh l f p source live stands has_f in
      copied_in (slot_size g source.class) f h i apart_fh (set_places (places g) source.mask) m.bytes p.slot (source_member p.slot w.2)
      (subst (λ c. slot_size g c * p.slot ≤ i) (sym w.0) from)
      (subst (λ c. i < slot_size g c * p.slot + slot_size g c) (sym w.0) below)

  set_in_source : (s : ℕ) → Memᴰ s (set_places (places g) source.mask) → bit source.mask s ≡ true
  set_in_source s mem = all_member (λ s. bit source.mask s ≡ true) (set_places (places g) source.mask) s (set_places-set (places g) source.mask) mem
    where
      all_member : (P : ℕ → Type 0) (xs : List ℕ) (x : ℕ) → AllByRecursion P xs → Memᴰ x xs → P x
      all_member P [] x all mem = absurd (Memᴰ.not-nil mem)
      all_member P (y ∷ ys) x all mem = by_place (Memᴰ.cases_cons mem) (λ later. all_member P ys x all.1 later)
        where
          by_place : (x ≡ y) ⊎ Memᴰ x ys → (Memᴰ x ys → P x) → P x
          by_place (inl same) rest = subst P (sym same) all.0
          by_place (inr later) rest = rest later

  -- the bytes of a slot of h are as they were
  pub kept_in : (l : ℕ) (p : Patch) (i : ℕ) → L l ≡ Some p → Stands S p h
      → slot_offset g p.length p.slot ≤ i
      → i < slot_offset g p.length p.slot + slot_size g (class_of g p.length)
      → copied-bytes (slot_size g source.class) f h (set_places (places g) source.mask) m.bytes h i ≡ m.bytes h i
  kept_in l p i live stands from below =
      let w = placed_at sh l h p destination live stands has_h in
      let class : source.class ≡ class_of g p.length = alike ∙ w.0 in
      copied-out (slot_size g source.class) f h i apart_fh (set_places (places g) source.mask) m.bytes
      (λ s mem from' below'.
      let same : s ≡ p.slot =
      same_slot (slot_size g source.class) s p.slot i from' below' (subst (λ c. slot_size g c * p.slot ≤ i) (sym class) from) (subst (λ c. i < slot_size g c * p.slot + slot_size g c) (sym class) below) in
      bits_apart destination.mask source.mask p.slot joins w.2 (subst (λ z. bit source.mask z ≡ true) same (set_in_source s mem)))

  pub frame-merged : Shape g L (spans_after (Merge f h) S) (put (put R h (Some (joined_row destination source))) f None)
      (returned f (with_bytes (copied-bytes (slot_size g source.class) f h (set_places (places g) source.mask) m.bytes) m))
  unfolding T joined size moved
  frame-merged =
      record {
        named = sh.named;
        sized = sh.sized;
        placed = λ l p live. still_placed l p live (sh.placed l p live) (cases_eq (sh.placed l p live).frame f) (cases_eq (sh.placed l p live).frame h);
        apart = λ l k q p p' lp kp sp sp' same.
            still_apart l k q p p' lp kp (merged_was f h q (S p.span) sp) (merged_was f h q (S p'.span) sp') same;
        owner = λ q s.
            rows_all (λ q row. bit row.mask s ≡ true → Owner L T q s)
            (λ e. joined_owner s (or_cases (bit destination.mask s) (bit source.mask s) (sym (bit-bit_or destination.mask source.mask s) ∙ e)))
            (λ q apart-f apart-h row has e. owner_stays q s (λ l p live. live) (λ p stands. stays p q stands apart-f) (sh.owner q s row has e)) q;
        classed = rows_all (λ q row. row.class < length g.sizes) (sh.classed h destination has_h) (λ q apart-f apart-h. sh.classed q);
        masked =
            rows_all (λ q row. row.mask < 2 ^ slots g row.class)
            (or_lt (slots g destination.class) destination.mask source.mask (sh.masked h destination has_h) (subst (λ c. source.mask < 2 ^ slots g c) alike (sh.masked f source has_f)))
            (λ q apart-f apart-h. sh.masked q);
        homed =
            rows_all (λ q row. (row.home < g.spans) × (T row.home ≡ Home q)) (still_home h destination has_h (λ e. apart_fh (sym e)))
            (λ q apart-f apart-h row has. still_home q row has apart-f);
        mapped = λ k q e. still_mapped k q (merged_was f h q (S k) e);
        out_rows =
            put_all (λ q o. is_some o ≡ put m.out f false q) (put R h (Some joined)) f None (sym (put_same m.out f false))
            (λ q apart. still_out q ∙ sym (put_other m.out f false q apart));
        few = sh.few;
        out_below = put_all (λ q b. b ≡ true → q < m.size) m.out f false (λ e. absurd (both_ways false refl e)) (λ q apart. sh.out_below q);
        spare_proper =
            (sh.out_below f (out_of_row sh f source has_f), λ mem. both_ways (m.out f) (sh.spare_in f mem) (out_of_row sh f source has_f), sh.spare_proper);
        spare_in = λ q mem.
            put_all (λ q b. Memᴰ q (f ∷ m.spare) → b ≡ false) m.out f false (λ mem. refl)
            (λ q apart mem. in_rest q apart (Memᴰ.cases_cons mem)) q mem;
        clear = λ q i.
            put_all (λ q bytes. ((k : ℕ) → Owns g L T k q i → ⊥) → bytes i ≡ 0) moved f (λ i. 0) (λ none. refl)
            (λ q apart none. still_clear q i apart none (cases_eq q h)) q;
      }
    where
      rows_all : (P : ℕ → Row → Type 0) → P h joined
          → ((q : ℕ) → (q ≡ f → ⊥) → (q ≡ h → ⊥) → (row : Row) → R q ≡ Some row → P q row)
          → (q : ℕ) (row : Row) → put (put R h (Some joined)) f None q ≡ Some row → P q row
      rows_all P at-h there =
          put-none P (put R h (Some joined)) f
          (λ q apart-f row has.
          put_some (λ q row. (q ≡ f → ⊥) → P q row) R h joined (λ apart. at-h) (λ q apart-h row has apart. there q apart apart-h row has) q row has apart-f)

      still_placed : (l : ℕ) (p : Patch) → L l ≡ Some p → (w : Placed g S R p) → (w.frame ≡ f) ⊎ (w.frame ≡ f → ⊥) → (w.frame ≡ h) ⊎ (w.frame ≡ h → ⊥)
          → Placed g T (put (put R h (Some joined)) f None) p
      still_placed l p live w (inl at_f) other =
          let in_f : Stands S p f = w.stands ∙ ap (λ z. Some z) at_f in
          let was = placed_at sh l f p source live in_f has_f in
          record {
            frame = h;
            row = joined;
            stands = moves p in_f;
            has_row = put_other (put R h (Some joined)) f None h (λ e. apart_fh (sym e)) ∙ put_same R h (Some joined);
            fits = sym alike ∙ was.0;
            slot_below = subst (λ c. p.slot < slots g c) alike was.1;
            occupied = bit-bit_or destination.mask source.mask p.slot ∙ or_right (bit destination.mask p.slot) (bit source.mask p.slot) was.2;
          }
      still_placed l p live w (inr apart-f) (inl at-h) =
          let in_h : Stands S p h = w.stands ∙ ap (λ z. Some z) at-h in
          let was = placed_at sh l h p destination live in_h has_h in
          record {
            frame = h;
            row = joined;
            stands = stays p h in_h (λ e. apart_fh (sym e));
            has_row = put_other (put R h (Some joined)) f None h (λ e. apart_fh (sym e)) ∙ put_same R h (Some joined);
            fits = was.0;
            slot_below = was.1;
            occupied = bit-bit_or destination.mask source.mask p.slot ∙ or_left (bit destination.mask p.slot) (bit source.mask p.slot) was.2;
          }
      still_placed l p live w (inr apart-f) (inr apart-h) =
          record {
            frame = w.frame;
            row = w.row;
            stands = stays p w.frame w.stands apart-f;
            has_row = put_other (put R h (Some joined)) f None w.frame apart-f ∙ put_other R h (Some joined) w.frame apart-h ∙ w.has_row;
            fits = w.fits;
            slot_below = w.slot_below;
            occupied = w.occupied;
          }

      -- a patch of the source and one of the destination have different slots
      never : (l k : ℕ) (p p' : Patch) → L l ≡ Some p → L k ≡ Some p' → Stands S p f → Stands S p' h → p.slot ≡ p'.slot → ⊥
      never l k p p' lp kp sp sp' same =
          bits_apart destination.mask source.mask p.slot joins
          (subst (λ z. bit destination.mask z ≡ true) (sym same) (placed_at sh k h p' destination kp sp' has_h).2)
          (placed_at sh l f p source lp sp has_f).2

      still_apart : (l k q : ℕ) (p p' : Patch) → L l ≡ Some p → L k ≡ Some p'
          → (Stands S p f × (q ≡ h)) ⊎ (Stands S p q × (q ≡ f → ⊥))
          → (Stands S p' f × (q ≡ h)) ⊎ (Stands S p' q × (q ≡ f → ⊥))
          → p.slot ≡ p'.slot → l ≡ k
      still_apart l k q p p' lp kp (inl a) (inl b) same = sh.apart l k f p p' lp kp a.0 b.0 same
      still_apart l k q p p' lp kp (inl a) (inr b) same = absurd (never l k p p' lp kp a.0 (b.0 ∙ ap (λ z. Some z) a.1) same)
      still_apart l k q p p' lp kp (inr a) (inl b) same = absurd (never k l p' p kp lp b.0 (a.0 ∙ ap (λ z. Some z) b.1) (sym same))
      still_apart l k q p p' lp kp (inr a) (inr b) same = sh.apart l k q p p' lp kp a.0 b.0 same

      joined_owner : (s : ℕ) → (bit destination.mask s ≡ true) ⊎ (bit source.mask s ≡ true) → Owner L T h s
      joined_owner s (inl e) = owner_stays h s (λ l p live. live) (λ p stands. stays p h stands (λ e. apart_fh (sym e))) (sh.owner h s destination has_h e)
      joined_owner s (inr e) =
          let o = sh.owner f s source has_f e in
          record {
            label = o.label;
            patch = o.patch;
            live = o.live;
            stands = moves o.patch o.stands;
            at_slot = o.at_slot;
          }

      still_home : (q : ℕ) (row : Row) → R q ≡ Some row → (q ≡ f → ⊥) → (row.home < g.spans) × (T row.home ≡ Home q)
      still_home q row has apart =
          let old = sh.homed q row has in
          (old.0, merged_there f h q (S row.home) (ap frame_of old.1) apart ∙ old.1)

      still_mapped : (k q : ℕ) → ((frame_of (S k) ≡ Some f) × (q ≡ h)) ⊎ ((frame_of (S k) ≡ Some q) × (q ≡ f → ⊥)) → (k < g.spans) × (put m.out f false q ≡ true)
      still_mapped k q (inl a) =
          ((sh.mapped k f a.0).0, ap (put m.out f false) a.1 ∙ put_other m.out f false h (λ e. apart_fh (sym e)) ∙ out_of_row sh h destination has_h)
      still_mapped k q (inr b) =
          let old = sh.mapped k q b.0 in
          (old.0, put_other m.out f false q b.1 ∙ old.1)

      still_out : (q : ℕ) → is_some (put R h (Some joined) q) ≡ m.out q
      still_out =
          put_all (λ q o. is_some o ≡ m.out q) R h (Some joined) (sym (out_of_row sh h destination has_h)) (λ q apart. sh.out_rows q)

      in_rest : (q : ℕ) → (q ≡ f → ⊥) → (q ≡ f) ⊎ Memᴰ q m.spare → m.out q ≡ false
      in_rest q apart (inl same) = absurd (apart same)
      in_rest q apart (inr mem) = sh.spare_in q mem

      stays_owned : (q i : ℕ) → (q ≡ f → ⊥) → ((k : ℕ) → Owns g L T k q i → ⊥) → m.bytes q i ≡ 0
      stays_owned q i apart none =
          sh.clear q i (λ k o.
          none k (record { patch = o.patch; live = o.live; stands = stays o.patch q o.stands apart; from = o.from; below = o.below }))

      moves_owned : (i : ℕ) → ((k : ℕ) → Owns g L T k h i → ⊥) → m.bytes f i ≡ 0
      moves_owned i none =
          sh.clear f i (λ k o.
          none k (record { patch = o.patch; live = o.live; stands = moves o.patch o.stands; from = o.from; below = o.below }))

      -- a byte of h is the source's, or as it was, and zero in either case
      both_zero : (ss : List ℕ) (b : ℕ → ℕ → ℕ) (i : ℕ) → b f i ≡ 0 → b h i ≡ 0 → copied-bytes size f h ss b h i ≡ 0
      both_zero ss b i at_f at-h = alike_stays size f h i apart_fh ss b (at-h ∙ sym at_f) ∙ at_f

      still_clear : (q i : ℕ) → (q ≡ f → ⊥) → ((k : ℕ) → Owns g L T k q i → ⊥) → (q ≡ h) ⊎ (q ≡ h → ⊥) → moved q i ≡ 0
      still_clear q i apart none (inl same) =
          let none_h : (k : ℕ) → Owns g L T k h i → ⊥ = subst (λ z. (k : ℕ) → Owns g L T k z i → ⊥) same none in
          ap (λ z. moved z i) same
          ∙ both_zero (set_places (places g) source.mask) m.bytes i (moves_owned i none_h) (stays_owned h i (λ e. apart_fh (sym e)) none_h)
      still_clear q i apart none (inr other) =
          ap (λ r. r i) (copied_other size f h (set_places (places g) source.mask) m.bytes q other) ∙ stays_owned q i apart none
