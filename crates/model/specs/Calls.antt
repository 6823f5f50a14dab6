-- What each call of a pool answers and leaves.
--
-- A call is cut into stages. A stage takes what the stage before it found as an argument, with a clause for each case,
-- so that refusals stand in the order in which they are checked.
use Rattle.std.specs.Prelude.{ℕ, ◌+◌, ◌-◌, ◌*◌, ◌%◌, Bool, true, false, cond, not, ◌&&◌, List, [], ◌∷◌, length, replicate, is_some, Some, None, Ok, Err, fold, Option, Result, ◌==◌, nat_le, nat_lt, slice_index_or, slice_set}
use Rattle.std.specs.List.{range_with_len, filter}
use Rattle.refusal.specs.declared.Refusal.{Refusal}
use Rattle.refusal.specs.declared.Refusal.TheVariants.{Size, Address, Taken, Absent, Past, Spans, Stray, NotOut}
use Rattle.bank.specs.Tables.{put}
use Rattle.bank.specs.Model as bank
use Rattle.bank.specs.Model.{BankState}
use Rattle.draws.specs.Draws.{next}
use Rattle.model.specs.declared.Patch.{Patch}
use Rattle.model.specs.declared.Row.{Row}
use Rattle.model.specs.declared.Span.{Span}
use Rattle.model.specs.declared.Event.{Event}
use Rattle.model.specs.declared.Event.TheVariants.{Open, Empty}
use Rattle.model.specs.declared.Made.{Made}
use Rattle.model.specs.declared.Counts.{Counts}
use Rattle.model.specs.Geometry.{Geometry, class_of, slot_size, slots, slot_offset, longest, places, address_of}
use Rattle.model.specs.Masks.{set_bits, free_place, with_slot, without_slot}
use Rattle.model.specs.State.{State, with_bank, frame_of, is_idle, after}

-- how many slots of a row are occupied
abbrev pub occupied : Geometry → Row → ℕ
occupied g row = set_bits (places g) row.mask

-- whether a row is of the class and has a free slot
abbrev pub serves : Geometry → ℕ → Row → Bool
serves g class row = row.class == class && nat_lt (occupied g row) (slots g class)

-- the better of the frame held so far and the frame f: the one with more occupied slots, and of equals the one held
abbrev pub better : Geometry → ℕ → ℕ → Option Row → Option (ℕ × Row) → Option (ℕ × Row)
better g class f None held = held
better g class f (Some row) None = cond (serves g class row) (Some (f, row)) None
better g class f (Some row) (Some (h, best)) =
    cond (serves g class row && nat_lt (occupied g best) (occupied g row)) (Some (f, row)) (Some (h, best))

-- the best of the first n frames
unfoldable pub best_below : Geometry → ℕ → List (Option Row) → ℕ → Option (ℕ × Row)
best_below g class rows n = fold (λ held f. better g class f (slice_index_or rows f None) held) None (range_with_len 0 n)

-- the frame that serves a class, with its row: of the frames of the class with a free slot, the one with most occupied
-- slots, and of equals the one with the lowest number
abbrev pub serving : Geometry → ℕ → List (Option Row) → Option (ℕ × Row)
serving g class rows = best_below g class rows g.frames

-- the first element, if there is one
abbrev pub first_of : {A : Type 0} → List A → Option A
first_of [] = None
first_of (x ∷ xs) = Some x

-- the lowest idle one of the first n spans
unfoldable pub lowest_idle : (ℕ → Span) → ℕ → Option ℕ
lowest_idle spans n = first_of (filter (λ h. is_idle (spans h)) (range_with_len 0 n))

-- the row with one more slot occupied
abbrev pub taking : Row → ℕ → Row
taking row slot = record { class = row.class; mask = with_slot row.mask slot; home = row.home }

-- the free slot that a draw r picks in a row: the one with r mod (free slots) free slots below it
abbrev pub picked : Geometry → ℕ → Row → ℕ
picked g r row = free_place (places g) row.mask (r % (slots g row.class - occupied g row))

module _ {C : Type 0} (g : Geometry) where
  -- new: the slot is taken in the frame f, and the label is live
  abbrev pub placed : ℕ → ℕ → ℕ → Row → Bool → ℕ → State C → Result Made Refusal × State C
  placed label n f row opened r s =
      let slot = picked g r row in
      let patch : Patch = record { span = row.home; slot = slot; length = n } in (
        Ok (record { address = address_of g patch; opened = opened }),
        record {
          labels = put s.labels label (Some patch);
          spans = s.spans;
          rows = slice_set s.rows f (Some (taking row slot));
          draw = r;
          pairing = s.pairing;
          bank = s.bank;
        },
      )

  -- new: the idle span h becomes home of the frame that was granted
  abbrev pub homed : ℕ → ℕ → ℕ → Result ℕ Refusal × BankState → State C → Result Made Refusal × State C
  homed label n h (Err e, m) s = (Err e, with_bank m s)
  homed label n h (Ok f, m) s =
      placed label n f (record { class = class_of g n; mask = 0; home = h }) true (next s.draw) (record {
        labels = s.labels;
        spans = put s.spans h (after (Open f) (s.spans h));
        rows = s.rows;
        draw = s.draw;
        pairing = s.pairing;
        bank = m;
      })

  -- new: no frame serves, and a span is wanted
  abbrev pub opening : ℕ → ℕ → Option ℕ → State C → Result Made Refusal × State C
  opening label n None s = (Err Spans, s)
  opening label n (Some h) s = homed label n h (bank.grant s.bank) s

  abbrev pub served : ℕ → ℕ → Option (ℕ × Row) → State C → Result Made Refusal × State C
  served label n (Some (f, row)) s = placed label n f row false (next s.draw) s
  served label n None s = opening label n (lowest_idle s.spans g.spans) s

  abbrev pub labelled : ℕ → ℕ → Option Patch → State C → Result Made Refusal × State C
  labelled label n (Some p) s = (Err Taken, s)
  labelled label n None s = served label n (serving g (class_of g n) s.rows) s

  -- new: a patch of n zeros under a label
  abbrev pub new : ℕ → ℕ → State C → Result Made Refusal × State C
  new label n s = cond (nat_le 1 n && nat_le n (longest g)) (labelled label n (s.labels label) s) (Err Size, s)

  -- write: how many bytes were taken, once the bank has answered
  abbrev pub stored : ℕ → Result (Unit {0}) Refusal × BankState → State C → Result ℕ Refusal × State C
  stored n (Ok u, m) s = (Ok n, with_bank m s)
  stored n (Err e, m) s = (Err e, with_bank m s)

  -- write into the frame of a patch's span. (In no run is the span of a live patch idle.)
  abbrev pub written : Patch → ℕ → List ℕ → Option ℕ → State C → Result ℕ Refusal × State C
  written p o bytes None s = (Err NotOut, s)
  written p o bytes (Some f) s =
      stored (length bytes) (bank.write f (slot_offset g p.length p.slot + o) bytes s.bank) s

  abbrev pub writing : ℕ → List ℕ → Option Patch → State C → Result ℕ Refusal × State C
  writing o bytes None s = (Err Absent, s)
  writing o bytes (Some p) s =
      cond (nat_le (o + length bytes) p.length) (written p o bytes (frame_of (s.spans p.span)) s) (Err Past, s)

  -- write: the bytes lie over those of the label's patch from the offset o on
  abbrev pub write : ℕ → ℕ → List ℕ → State C → Result ℕ Refusal × State C
  write label o bytes s = writing o bytes (s.labels label) s

  -- read from the frame of a patch's span
  abbrev pub reached : Patch → ℕ → List ℕ → Option ℕ → State C → Result (Unit {0}) Refusal × List ℕ
  reached p o buffer None s = (Err NotOut, buffer)
  reached p o buffer (Some f) s = bank.read f (slot_offset g p.length p.slot + o) buffer s.bank

  abbrev pub reading : ℕ → List ℕ → Option Patch → State C → Result (Unit {0}) Refusal × List ℕ
  reading o buffer None s = (Err Absent, buffer)
  reading o buffer (Some p) s =
      cond (nat_le (o + length buffer) p.length) (reached p o buffer (frame_of (s.spans p.span)) s) (Err Past, buffer)

  -- read: what the buffer holds afterwards, the bytes of the label's patch from the offset o on. The pool stays.
  abbrev pub read : ℕ → ℕ → List ℕ → State C → Result (Unit {0}) Refusal × List ℕ
  read label o buffer s = reading o buffer (s.labels label) s

abbrev pub placing : Geometry → Option Patch → Result ℕ Refusal
placing g None = Err Absent
placing g (Some p) = Ok (address_of g p)

-- place: the address of the label's patch. The pool stays.
abbrev pub place : {C : Type 0} → Geometry → ℕ → State C → Result ℕ Refusal
place g label s = placing g (s.labels label)

-- how many of the first n places pass a test
unfoldable pub tally : ℕ → (ℕ → Bool) → ℕ
tally n test = length (filter test (range_with_len 0 n))

-- count: frames out, spans that are not idle, live labels. The pool stays.
abbrev pub count : {C : Type 0} → Geometry → State C → Counts
count g s =
    record {
      frames = tally g.frames (λ f. is_some (slice_index_or s.rows f None));
      spans = tally g.spans (λ h. not (is_idle (s.spans h)));
      labels = tally g.labels (λ l. is_some (s.labels l));
    }

-- whether a patch's bytes include the address a and the n bytes from there
abbrev pub holds : Geometry → ℕ → ℕ → Option Patch → Bool
holds g a n None = false
holds g a n (Some p) =
    nat_le (address_of g p) a && (nat_lt a (address_of g p + p.length) && nat_le (a + n) (address_of g p + p.length))

-- the lowest label whose patch holds the n bytes from the address a on. (In no run are there two.)
unfoldable pub owner : Geometry → ℕ → ℕ → (ℕ → Option Patch) → Option ℕ
owner g a n labels = first_of (filter (λ l. holds g a n (labels l)) (range_with_len 0 g.labels))

-- every span after an event
abbrev pub spans_after : Event → (ℕ → Span) → ℕ → Span
spans_after e spans h = after e (spans h)

-- the row with one slot less occupied
abbrev pub leaving : Row → ℕ → Row
leaving row slot = record { class = row.class; mask = without_slot row.mask slot; home = row.home }

module _ {C : Type 0} (g : Geometry) where
  abbrev pub fetched : ℕ → List ℕ → Option Patch → State C → Result (Unit {0}) Refusal × List ℕ
  fetched a buffer None s = (Err Stray, buffer)
  fetched a buffer (Some p) s = reached g p (a - address_of g p) buffer (frame_of (s.spans p.span)) s

  abbrev pub owned : ℕ → List ℕ → Option ℕ → State C → Result (Unit {0}) Refusal × List ℕ
  owned a buffer None s = (Err Stray, buffer)
  owned a buffer (Some l) s = fetched a buffer (s.labels l) s

  -- fetch: what the buffer holds afterwards, the bytes from the address on. The pool stays.
  abbrev pub fetch : ℕ → List ℕ → State C → Result (Unit {0}) Refusal × List ℕ
  fetch a buffer s =
      cond (nat_lt a (g.frame * g.spans)) (owned a buffer (owner g a (length buffer) s.labels) s) (Err Address, buffer)

  -- delete: the frame holds no patch any more, and the bank was asked to take it back
  abbrev pub emptied : ℕ → ℕ → Result (Unit {0}) Refusal × BankState → State C → Result Bool Refusal × State C
  emptied label f (Err e, m) s = (Err e, with_bank m s)
  emptied label f (Ok u, m) s = (
    Ok true,
    record {
      labels = put s.labels label None;
      spans = spans_after (Empty f) s.spans;
      rows = slice_set s.rows f None;
      draw = s.draw;
      pairing = s.pairing;
      bank = m;
    },
  )

  -- delete: the slot is clear, and the row has it no more
  abbrev pub freed : ℕ → ℕ → Row → State C → Result Bool Refusal × State C
  freed label f row s =
      cond (row.mask == 0) (emptied label f (bank.give_back f s.bank) s) (
        Ok false,
        record {
          labels = put s.labels label None;
          spans = s.spans;
          rows = slice_set s.rows f (Some row);
          draw = s.draw;
          pairing = s.pairing;
          bank = s.bank;
        },
      )

  abbrev pub wiped : ℕ → ℕ → ℕ → Row → Result (Unit {0}) Refusal × BankState → State C → Result Bool Refusal × State C
  wiped label f slot row (Err e, m) s = (Err e, with_bank m s)
  wiped label f slot row (Ok u, m) s = freed label f (leaving row slot) (with_bank m s)

  -- delete: the whole slot is cleared in the frame. (In no run has the frame of a live patch no row.)
  abbrev pub clearing : ℕ → Patch → ℕ → Option Row → State C → Result Bool Refusal × State C
  clearing label p f None s = (Err NotOut, s)
  clearing label p f (Some row) s =
      wiped label f p.slot row
      (bank.write f (slot_offset g p.length p.slot) (replicate (slot_size g (class_of g p.length)) 0) s.bank) s

  abbrev pub framed : ℕ → Patch → Option ℕ → State C → Result Bool Refusal × State C
  framed label p None s = (Err NotOut, s)
  framed label p (Some f) s = clearing label p f (slice_index_or s.rows f None) s

  abbrev pub deleting : ℕ → Option Patch → State C → Result Bool Refusal × State C
  deleting label None s = (Err Absent, s)
  deleting label (Some p) s = framed label p (frame_of (s.spans p.span)) s

  -- delete: whether the patch's frame was emptied and given back
  abbrev pub delete : ℕ → State C → Result Bool Refusal × State C
  delete label s = deleting label (s.labels label) s
