-- Each call but mesh is good.
use Rattle.std.proofs.Common.{◌≡◌, ℕ, ◌+◌, ◌-◌, ◌%◌, ◌<◌, ◌≤◌, Bool, true, false, eqb, List, length, set, replicate, is_some, Some, None, Ok, Err, Option, Result, sym, refl, ap, ◌∙◌, subst, arith}
use mathlib.Core.Path.{fun_ext}
use mathlib.Core.List.{Memᴰ}
use Rattle.std.proofs.lemmas.Bool.{eq-eqb, eqb-true, eqb-false, or_right, cond_both, cond-true, true≢false}
use Rattle.std.proofs.lemmas.List.{length-set}
use Rattle.std.proofs.lemmas.Nat.{mod_below}
use Rattle.refusal.specs.declared.Refusal.{Refusal}
use Rattle.refusal.specs.declared.Refusal.TheVariants.{Size, Address, Taken, Absent, Past, Spans, Frames, Stray}
use Rattle.bank.specs.Tables.{put, peek}
use Rattle.bank.specs.Model as bank
use Rattle.bank.specs.Model.{BankState, frame_bytes}
use Rattle.model.specs.declared.Patch.{Patch}
use Rattle.model.specs.declared.Row.{Row}
use Rattle.model.specs.declared.Span.{Span}
use Rattle.model.specs.declared.Span.TheVariants.{Home}
use Rattle.model.specs.declared.Event.TheVariants.{Empty}
use Rattle.model.specs.Geometry.{Geometry, class_of, slot_size, slots, slot_offset, longest, places, address_of}
use Rattle.model.specs.Masks.{bit, with_slot}
use Rattle.model.specs.State.{State, with_bank}
use Rattle.model.specs.Calls as calls
use Rattle.model.specs.Calls.{occupied, taking, leaving, picked, spans_after}
use Rattle.model.specs.Runs.{New, Write, Read, Fetch, Place, Delete, Count, Answer, to_new, to_write, to_read, to_fetch, to_place, to_delete, to_count, filled}
use Rattle.laws.specs.Book.{Book}
use Rattle.laws.specs.Shape.{Stands, Shape, Shaped, row_table, NoRowEmpty}
use Rattle.laws.proofs.Masks.{with_slot-bit, bit_nonzero, free_place-fits, set_bits_zero}
use Rattle.laws.proofs.Sizes.{class_below, slots_pos, slots_le_places}
use Rattle.laws.proofs.Tables.{put_same, put_other, put_some, put-none, put-put, set_table, none_some, some_is}
use Rattle.laws.proofs.Totals.{rows_out, rows_out-put, one_if}
use Rattle.laws.proofs.Facts.{out_of_row, frame_below}
use Rattle.laws.proofs.Taken.{span_opened, slot_taken}
use Rattle.laws.proofs.Cleared.{patch-written, slot_left, frame-emptied}
use Rattle.laws.proofs.Contents.{content, open_contents, new_contents, write_contents, leave_contents, empty_contents}
use Rattle.laws.proofs.Cases.{write_cases, read_cases, fetch_cases, delete_cases, new_cases}
use Rattle.laws.proofs.Good.{contents_of, Noted, Good, nothing_done}
use Rattle.draws.specs.Draws.{next}
use Rattle.laws.specs.Counts.{inner_in, inner, merges_in, emptied_in, opened_in}

-- a slot that a draw picks is free, and one of the row's
pub picked_fits : {g : Geometry} {L : ℕ → Option Patch} {S : ℕ → Span} {R : ℕ → Option Row} {m : BankState} → Shape g L S R m
    → (f r : ℕ) (row : Row) → R f ≡ Some row → occupied g row < slots g row.class
    → (picked g r row < slots g row.class) × (bit row.mask (picked g r row) ≡ false)
picked_fits {g} sh f r row has room =
    free_place-fits (places g) (slots g row.class) row.mask (r % (slots g row.class - occupied g row))
    (slots_le_places g row.class (sh.classed f row has)) (sh.masked f row has)
    (mod_below r (slots g row.class - occupied g row) (omega arith))

-- new, once a frame serves: the tables S, R and m are those of the pool s, perhaps with a span opened
module _ {C : Type 0} {g : Geometry} (s : State C) (l n f r : ℕ) (row : Row) (opened : Bool) (S : ℕ → Span) (R : ℕ → Option Row) (m : BankState)
    (sh : Shape g s.labels S R m) (fresh : s.labels l ≡ None) (is-label : l < g.labels) (low : 1 ≤ n) (high : n ≤ longest g)
    (has : R f ≡ Some row) (fits : row.class ≡ class_of g n) (room : occupied g row < slots g row.class)
    (long : length s.rows ≡ g.frames)
    (table : (v : Option Row) → put R f v ≡ put (row_table s.rows) f v)
    (full : (q : ℕ) → (q ≡ f → ⊥) → (row : Row) → R q ≡ Some row → row.mask ≡ 0 → ⊥)
    (same : (k : ℕ) → content g S m.bytes (s.labels k) ≡ contents_of g s k)
    (more : one_if (is_some (row_table s.rows f)) + one_if opened ≡ 1) (sizes : m.size ≡ s.bank.size) where
  slot : ℕ
  slot = picked g r row

  patch : Patch
  patch = record { span = row.home; slot = picked g r row; length = n }

  ok : (picked g r row < slots g row.class) × (bit row.mask (picked g r row) ≡ false)
  ok = picked_fits sh f r row has room

  below : f < g.frames
  below = frame_below sh f row has

  rows_now : row_table (set s.rows f (Some (taking row (picked g r row)))) ≡ put R f (Some (taking row (picked g r row)))
  rows_now = set_table s.rows f (Some (taking row (picked g r row))) (omega (arith, below, long)) ∙ sym (table (Some (taking row (picked g r row))))

  pub placed_good : Good g (New l n) s (to_new (Ok (record { address = address_of g (record { span = row.home; slot = picked g r row; length = n }); opened = opened })))
      (record {
        labels = put s.labels l (Some (record { span = row.home; slot = picked g r row; length = n }));
        spans = S;
        rows = set s.rows f (Some (taking row (picked g r row)));
        draw = r;
        pairing = s.pairing;
        bank = m;
      })
  unfolding slot patch
  placed_good =
      record {
        shaped =
            record {
              shape =
                  subst (λ rows. Shape g (put s.labels l (Some patch)) S rows m) (sym rows_now)
                  (slot_taken sh l n f slot row fresh is-label low high has fits ok.0 ok.1);
              long = length-set s.rows f (Some (taking row slot)) ∙ long;
              no_row_empty =
                  subst NoRowEmpty (sym rows_now)
                  (put_some (λ q row. row.mask ≡ 0 → ⊥) R f (taking row slot)
                  (bit_nonzero (with_slot row.mask slot) slot (with_slot-bit row.mask slot slot ∙ or_right (bit row.mask slot) (eqb slot slot) (eq-eqb slot slot refl)))
                  full);
            };
        contents = λ q. new_contents sh l n f slot row low high has fits ok.1 q ∙ ap (λ (b : Book). put b l (Some (replicate n 0)) q) (fun_ext same);
        noted = λ first h.
            put_some (λ k p. put first l (Some (address_of g patch)) k ≡ Some (address_of g p)) s.labels l patch
            (put_same first l (Some (address_of g patch)))
            (λ k apart p live. put_other first l (Some (address_of g patch)) k apart ∙ h k p live);
        kept = λ k p live other.
            put_other s.labels l (Some patch) k (λ same'. none_some (sym fresh ∙ ap s.labels (sym same') ∙ live)) ∙ live;
        refused = λ e. absurd (true≢false e);
        expected = refl;
        size = sizes;
        balanced =
            let now : rows_out g.frames (row_table (set s.rows f (Some (taking row slot)))) ≡ rows_out g.frames (put (row_table s.rows) f (Some (taking row slot))) =
            ap (rows_out g.frames) (set_table s.rows f (Some (taking row slot)) (omega (arith, below, long))) in
            let change : rows_out g.frames (put (row_table s.rows) f (Some (taking row slot))) + one_if (is_some (row_table s.rows f)) ≡ rows_out g.frames (row_table s.rows) + 1 =
            rows_out-put g.frames (row_table s.rows) f (Some (taking row slot)) below in
            omega (arith, now, change, more);
      }

module _ {C : Type 0} {g : Geometry} (s : State C) (shaped : Shaped g s) (short : g.frame ≤ frame_bytes) where
  refusing_new : (l n : ℕ) (e : Refusal) → inner e ≡ false → Good g (New l n) s (to_new (Err e)) s
  refusing_new l n e plain = nothing_done (New l n) s (to_new (Err e)) shaped (λ book. refl) (λ first. refl) plain refl refl refl

  pub new_good : (l n : ℕ) → l < g.labels → Good g (New l n) s (to_new (calls.new g l n s).0) (calls.new g l n s).1
  new_good l n is-label =
      new_cases s shaped short l n (λ r. Good g (New l n) s (to_new r.0) r.1)
      (refusing_new l n Size refl) (refusing_new l n Taken refl) (refusing_new l n Spans refl) (refusing_new l n Frames refl)
      (λ f row low high fresh serving.
      placed_good s l n f (next s.draw) row false s.spans (row_table s.rows) s.bank shaped.shape fresh is-label low high
      serving.has_row serving.of_class (subst (λ c. occupied g row < slots g c) (sym serving.of_class) serving.has_room) shaped.long
      (λ v. refl) (λ q apart. shaped.no_row_empty q) (λ k. refl)
      (omega (arith, ap one_if (some_is serving.has_row))) refl)
      (λ h f rest low high fresh idle is_span spare.
      let row : Row = record { class = class_of g n; mask = 0; home = h } in
      let is_class = class_below g n low high in
      let sh = span_opened shaped.shape h f (class_of g n) rest idle is_span is_class spare in
      let was : is_some (row_table s.rows f) ≡ false =
      shaped.shape.out_rows f ∙ shaped.shape.spare_in f (subst (λ xs. Memᴰ f xs) (sym spare) (Memᴰ.head refl)) in
      placed_good s l n f (next s.draw) row true (put s.spans h (Home f)) (put (row_table s.rows) f (Some row))
      (record { size = s.bank.size; opening = s.bank.opening; spare = rest; out = put s.bank.out f true; bytes = s.bank.bytes })
      sh fresh is-label low high (put_same (row_table s.rows) f (Some row)) refl
      (omega (arith, set_bits_zero (places g), slots_pos g (class_of g n) is_class))
      shaped.long (λ v. put-put (row_table s.rows) f (Some row) v)
      (λ q apart row' has'. shaped.no_row_empty q row' (sym (put_other (row_table s.rows) f (Some row) q apart) ∙ has'))
      (open_contents shaped.shape h f idle)
      (omega (arith, ap one_if was)) refl)

  pub write_good : (l o : ℕ) (bs : List ℕ) → Good g (Write l o bs) s (to_write (calls.write g l o bs s).0) (calls.write g l o bs s).1
  write_good l o bs =
      write_cases s shaped short l o bs (λ r. Good g (Write l o bs) s (to_write r.0) r.1)
      (λ absent. nothing_done (Write l o bs) s (to_write (Err Absent)) shaped (λ book. refl) (λ first. refl) refl refl refl refl)
      (λ p live long. nothing_done (Write l o bs) s (to_write (Err Past)) shaped (λ book. refl) (λ first. refl) refl refl refl refl)
      (λ p f live stands fits.
      record {
        shaped = record { shape = patch-written shaped.shape l f o p bs live stands fits; long = shaped.long; no_row_empty = shaped.no_row_empty };
        contents = write_contents shaped.shape l f o p bs live stands fits;
        noted = λ first h. h;
        kept = λ k q kq other. kq;
        refused = λ e. absurd (true≢false e);
        expected = refl;
        size = refl;
        balanced = omega arith;
      })

  pub read_good : (l o n : ℕ) → Good g (Read l o n) s (to_read (filled (calls.read g l o (replicate n 0) s))) s
  read_good l o n =
      read_cases s shaped short l o (replicate n 0) (λ r. Good g (Read l o n) s (to_read (filled r)) s)
      (λ absent. asked (to_read (Err Absent)) refl refl refl refl)
      (λ p live past. asked (to_read (Err Past)) refl refl refl refl)
      (λ p f live stands fits. asked (to_read (Ok (peek (s.bank.bytes f) (slot_offset g p.length p.slot + o) (length (replicate n 0))))) refl refl refl refl)
    where
      asked : (a : Answer) → inner_in a ≡ false → merges_in a ≡ 0 → emptied_in a ≡ 0 → opened_in a ≡ 0 → Good g (Read l o n) s a s
      asked a = nothing_done (Read l o n) s a shaped (λ book. refl) (λ first. refl)

  pub fetch_good : (a n : ℕ) → Good g (Fetch a n) s (to_fetch (filled (calls.fetch g a (replicate n 0) s))) s
  fetch_good a n =
      fetch_cases s shaped short a (replicate n 0) (λ r. Good g (Fetch a n) s (to_fetch (filled r)) s)
      (λ far. asked (to_fetch (Err Address)) refl refl refl refl)
      (λ stray. asked (to_fetch (Err Stray)) refl refl refl refl)
      (λ l f p live stands held. asked (to_fetch (Ok (peek (s.bank.bytes f) (slot_offset g p.length p.slot + (a - address_of g p)) (length (replicate n 0))))) refl refl refl refl)
    where
      asked : (x : Answer) → inner_in x ≡ false → merges_in x ≡ 0 → emptied_in x ≡ 0 → opened_in x ≡ 0 → Good g (Fetch a n) s x s
      asked x = nothing_done (Fetch a n) s x shaped (λ book. refl) (λ first. refl)

  pub place_good : (l : ℕ) → Good g (Place l) s (to_place (calls.place g l s)) s
  place_good l = by_label (s.labels l)
    where
      by_label : (o : Option Patch) → Good g (Place l) s (to_place (calls.placing g o)) s
      by_label None = nothing_done (Place l) s (to_place (Err Absent)) shaped (λ book. refl) (λ first. refl) refl refl refl refl
      by_label (Some p) = nothing_done (Place l) s (to_place (Ok (address_of g p))) shaped (λ book. refl) (λ first. refl) refl refl refl refl

  pub count_good : Good g Count s (to_count (calls.count g s)) s
  count_good = nothing_done Count s (to_count (calls.count g s)) shaped (λ book. refl) (λ first. refl) refl refl refl refl

  -- delete
  module _ (l f : ℕ) (p : Patch) (row : Row) (live : s.labels l ≡ Some p) (stands : Stands s.spans p f) (has : row_table s.rows f ≡ Some row) where
    wiped-bank : BankState
    wiped-bank = bank.written f (slot_offset g p.length p.slot) (replicate (slot_size g (class_of g p.length)) 0) s.bank

    left : Shape g (put s.labels l None) s.spans (put (row_table s.rows) f (Some (leaving row p.slot))) wiped-bank
    unfolding wiped-bank
    left = slot_left shaped.shape l f p row live stands has

    row_below : f < length s.rows
    row_below = omega (arith, frame_below shaped.shape f row has, shaped.long)

    frame_in : f < g.frames
    frame_in = frame_below shaped.shape f row has

    noted_still : (first : ℕ → Option ℕ) → Noted g first s.labels → Noted g first (put s.labels l None)
    noted_still first h = put-none (λ k p. first k ≡ Some (address_of g p)) s.labels l (λ k apart. h k)

    kept_still : (k : ℕ) (q : Patch) → s.labels k ≡ Some q → eqb k l ≡ false → put s.labels l None k ≡ Some q
    kept_still k q kq other = put_other s.labels l None k (eqb-false k l other) ∙ kq

    -- the frame stays out
    remains : ((leaving row p.slot).mask ≡ 0 → ⊥) → Good g (Delete l) s (to_delete (Ok false))
        (record {
          labels = put s.labels l None;
          spans = s.spans;
          rows = set s.rows f (Some (leaving row p.slot));
          draw = s.draw;
          pairing = s.pairing;
          bank = wiped-bank;
        })
    unfolding wiped-bank
    remains some =
        let rows_now = set_table s.rows f (Some (leaving row p.slot)) row_below in
        record {
          shaped =
              record {
                shape = subst (λ rows. Shape g (put s.labels l None) s.spans rows wiped-bank) (sym rows_now) left;
                long = length-set s.rows f (Some (leaving row p.slot)) ∙ shaped.long;
                no_row_empty =
                    subst NoRowEmpty (sym rows_now)
                    (put_some (λ q row. row.mask ≡ 0 → ⊥) (row_table s.rows) f (leaving row p.slot) some (λ q apart. shaped.no_row_empty q));
              };
          contents = leave_contents shaped.shape l f p live stands;
          noted = noted_still;
          kept = kept_still;
          refused = λ e. absurd (true≢false e);
          expected = refl;
          size = refl;
          balanced =
              omega (arith, ap (rows_out g.frames) rows_now, rows_out-put g.frames (row_table s.rows) f (Some (leaving row p.slot)) frame_in, ap one_if (some_is has));
        }

    -- the frame is given back
    gone : (leaving row p.slot).mask ≡ 0 → Good g (Delete l) s (to_delete (Ok true))
        (record {
          labels = put s.labels l None;
          spans = spans_after (Empty f) s.spans;
          rows = set s.rows f None;
          draw = s.draw;
          pairing = s.pairing;
          bank = bank.returned f wiped-bank;
        })
    unfolding wiped-bank
    gone none =
        let rows_now = set_table s.rows f None row_below in
        let still = put_same (row_table s.rows) f (Some (leaving row p.slot)) in
        record {
          shaped =
              record {
                shape =
                    subst (λ rows. Shape g (put s.labels l None) (spans_after (Empty f) s.spans) rows (bank.returned f wiped-bank))
                    (put-put (row_table s.rows) f (Some (leaving row p.slot)) None ∙ sym rows_now)
                    (frame-emptied left f (leaving row p.slot) still none);
                long = length-set s.rows f None ∙ shaped.long;
                no_row_empty =
                    subst NoRowEmpty (sym rows_now) (put-none (λ q row. row.mask ≡ 0 → ⊥) (row_table s.rows) f (λ q apart. shaped.no_row_empty q));
              };
          contents = λ q. empty_contents left f (leaving row p.slot) still none q ∙ leave_contents shaped.shape l f p live stands q;
          noted = noted_still;
          kept = kept_still;
          refused = λ e. absurd (true≢false e);
          expected = refl;
          size = refl;
          balanced =
              omega (arith, ap (rows_out g.frames) rows_now, rows_out-put g.frames (row_table s.rows) f None frame_in, ap one_if (some_is has));
        }

    freed_good : Good g (Delete l) s (to_delete (calls.freed g l f (leaving row p.slot) (with_bank wiped-bank s)).0) (calls.freed g l f (leaving row p.slot) (with_bank wiped-bank s)).1
    unfolding wiped-bank
    freed_good =
        cond_both (eqb (leaving row p.slot).mask 0) _ _ (λ (r : Result Bool Refusal × State C). Good g (Delete l) s (to_delete r.0) r.1)
        (λ none.
        subst (λ (z : Result (Unit {0}) Refusal × BankState). Good g (Delete l) s (to_delete (calls.emptied g l f z (with_bank wiped-bank s)).0) (calls.emptied g l f z (with_bank wiped-bank s)).1)
        (sym (cond-true (wiped-bank.out f) _ _ (out_of_row shaped.shape f row has)))
        (gone (eqb-true (leaving row p.slot).mask 0 none)))
        (λ some. remains (eqb-false (leaving row p.slot).mask 0 some))

  pub delete_good : (l : ℕ) → Good g (Delete l) s (to_delete (calls.delete g l s).0) (calls.delete g l s).1
  unfolding wiped-bank
  delete_good l =
      delete_cases s shaped short l (λ r. Good g (Delete l) s (to_delete r.0) r.1)
      (λ absent. nothing_done (Delete l) s (to_delete (Err Absent)) shaped (λ book. refl) (λ first. refl) refl refl refl refl)
      (λ p f row live stands has. freed_good l f p row live stands has)
