-- What each call comes to in a pool of the right shape: its ways, for whatever is to be shown of its answer and of the
-- pool afterwards. The ways that the definitions have only to be total are not among them.
use Rattle.std.proofs.Common.{◌≡◌, ℕ, ◌+◌, ◌-◌, ◌*◌, ◌<◌, ◌≤◌, Bool, true, false, ◌&&◌, eqb, ltb, leb, List, [], ◌∷◌, length, get_or, replicate, Some, None, Ok, Err, fold, filter, Option, Result, sym, refl, ap, subst, arith}
use Rattle.std.specs.List.{range_with_len, AllByRecursion}
use Rattle.std.proofs.lemmas.Bool.{eqb-true, leb-true, leb-false, ltb-true, ltb-false, and_parts, cond_both}
use Rattle.std.proofs.lemmas.List.{length-replicate}
use Rattle.std.proofs.ByRecursion.{all_kept_by, kept_by_passes}
use Rattle.refusal.specs.declared.Refusal.{Refusal}
use Rattle.refusal.specs.declared.Refusal.TheVariants.{Size, Address, Taken, Absent, Past, Spans, Frames, Stray}
use Rattle.bank.specs.Tables.{put, peek}
use Rattle.bank.specs.Model as bank
use Rattle.bank.specs.Model.{frame_bytes}
use Rattle.draws.specs.Draws.{next}
use Rattle.model.specs.declared.Patch.{Patch}
use Rattle.model.specs.declared.Row.{Row}
use Rattle.model.specs.declared.Span.{Span}
use Rattle.model.specs.declared.Span.TheVariants.{Idle, Home, Alias}
use Rattle.model.specs.declared.Event.TheVariants.{Open}
use Rattle.model.specs.declared.Made.{Made}
use Rattle.model.specs.Geometry.{Geometry, class_of, slot_size, slots, slot_offset, longest, address_of}
use Rattle.model.specs.State.{State, with_bank, frame_of, is_idle, after}
use Rattle.model.specs.Calls as calls
use Rattle.model.specs.Calls.{occupied, serves, better, best_below, serving, first_of, lowest_idle, holds, owner, leaving}
use Rattle.laws.specs.Shape.{Stands, Shape, Shaped, row_table}
use Rattle.laws.proofs.Masks.{counting_within}
use Rattle.laws.proofs.Tables.{some_same, none_some}
use Rattle.laws.proofs.Facts.{out_of_row, patch-within}
use Rattle.laws.proofs.Copies.{write-is, read_is}

-- a frame that serves has a row of the class with a free slot
pub record Serving (g : Geometry) (class : ℕ) (rows : List (Option Row)) (f : ℕ) (row : Row) : Type 0 where
  pub has_row : row_table rows f ≡ Some row
  pub of_class : row.class ≡ class
  pub has_room : occupied g row < slots g class

Serves : Geometry → ℕ → List (Option Row) → Option (ℕ × Row) → Type 0
Serves g class rows None = Unit {0}
Serves g class rows (Some (f, row)) = Serving g class rows f row

from_test : (g : Geometry) (class : ℕ) (rows : List (Option Row)) (f : ℕ) (row : Row) → row_table rows f ≡ Some row → serves g class row ≡ true
    → Serving g class rows f row
from_test g class rows f row has test =
    let p = and_parts (eqb row.class class) (ltb (occupied g row) (slots g class)) test in
    record { has_row = has; of_class = eqb-true row.class class p.0; has_room = ltb-true (occupied g row) (slots g class) p.1 }

better-serves : (g : Geometry) (class : ℕ) (rows : List (Option Row)) (f : ℕ) (o : Option Row) (held : Option (ℕ × Row)) → row_table rows f ≡ o
    → Serves g class rows held
    → Serves g class rows (better g class f o held)
unfolding Serves
better-serves g class rows f None held e h = h
better-serves g class rows f (Some row) None e h =
    cond_both (serves g class row) (Some (f, row)) None (Serves g class rows) (λ yes. from_test g class rows f row e yes) (λ no'. tt)
better-serves g class rows f (Some row) (Some (k, best)) e h =
    cond_both (serves g class row && ltb (occupied g best) (occupied g row)) (Some (f, row)) (Some (k, best)) (Serves g class rows)
    (λ yes. from_test g class rows f row e (and_parts (serves g class row) (ltb (occupied g best) (occupied g row)) yes).0)
    (λ no'. h)

folded_keeps : {A B : Type 0} (P : B → Type 0) (f : B → A → B) → ((b : B) (a : A) → P b → P (f b a)) → (xs : List A) (b : B) → P b → P (fold f b xs)
folded_keeps P f keeps [] b h = h
folded_keeps P f keeps (x ∷ xs) b h = folded_keeps P f keeps xs (f b x) (keeps b x h)

serving-serves : (g : Geometry) (class : ℕ) (rows : List (Option Row)) → Serves g class rows (serving g class rows)
unfolding best_below
serving-serves g class rows =
    folded_keeps (Serves g class rows) (λ held f. better g class f (get_or rows f None) held)
    (λ held f h. better-serves g class rows f (get_or rows f None) held refl h) (range_with_len 0 g.frames) None (unfold Serves in tt)

pub first_all : {A : Type 0} (P : A → Type 0) (xs : List A) (x : A) → AllByRecursion P xs → first_of xs ≡ Some x → P x
first_all P [] x all e = absurd (none_some e)
first_all P (y ∷ ys) x all e = subst P (some_same e) all.0

idle_is : (s : Span) → is_idle s ≡ true → s ≡ Idle
idle_is Idle e = refl
idle_is (Home f) e = absurd (let z : ◌≡◌ {A = ℕ} 0 1 = cc in omega arith)
idle_is (Alias f) e = absurd (let z : ◌≡◌ {A = ℕ} 0 1 = cc in omega arith)

pub lowest_idle-is : (S : ℕ → Span) (n h : ℕ) → lowest_idle S n ≡ Some h → (S h ≡ Idle) × (h < n)
unfolding lowest_idle
lowest_idle-is S n h e =
    let idle = λ (k : ℕ). is_idle (S k) in (
      idle_is (S h) (first_all (λ k. idle k ≡ true) (filter idle (range_with_len 0 n)) h (kept_by_passes idle (range_with_len 0 n)) e),
      omega (arith, first_all (λ k. (0 ≤ k) × (k < 0 + n)) (filter idle (range_with_len 0 n)) h (all_kept_by idle (λ k. (0 ≤ k) × (k < 0 + n)) (range_with_len 0 n) (counting_within 0 n)) e),
    )

pub owner-is : (g : Geometry) (a n : ℕ) (L : ℕ → Option Patch) (l : ℕ) → owner g a n L ≡ Some l → holds g a n (L l) ≡ true
unfolding owner
owner-is g a n L l e =
    first_all (λ k. holds g a n (L k) ≡ true) (filter (λ k. holds g a n (L k)) (range_with_len 0 g.labels)) l (kept_by_passes (λ k. holds g a n (L k)) (range_with_len 0 g.labels)) e

module _ {C : Type 0} {g : Geometry} (s : State C) (shaped : Shaped g s) (short : g.frame ≤ frame_bytes) where
  sh : Shape g s.labels s.spans (row_table s.rows) s.bank
  sh = shaped.shape

  -- write
  module _ (l o : ℕ) (bs : List ℕ) (Q : Result ℕ Refusal × State C → Type 0)
      (absent : s.labels l ≡ None → Q (Err Absent, s))
      (past : (p : Patch) → s.labels l ≡ Some p → p.length < o + length bs → Q (Err Past, s))
      (done : (p : Patch) (f : ℕ) → s.labels l ≡ Some p → Stands s.spans p f → o + length bs ≤ p.length
      → Q (Ok (length bs), with_bank (bank.written f (slot_offset g p.length p.slot + o) bs s.bank) s)) where
    written_way : (p : Patch) → s.labels l ≡ Some p → o + length bs ≤ p.length → Q (calls.written g p o bs (frame_of (s.spans p.span)) s)
    written_way p live fits =
        let w = sh.placed l p live in
        let start = slot_offset g p.length p.slot in
        subst (λ z. Q (calls.written g p o bs z s)) (sym w.stands)
        (subst (λ z. Q (calls.stored g (length bs) z s)) (sym (write-is w.frame (start + o) bs s.bank (omega (arith, fits, short, patch-within sh l p live)) (out_of_row sh w.frame w.row w.has_row)))
        (done p w.frame live w.stands fits))

    by_label : (e : Option Patch) → s.labels l ≡ e → Q (calls.writing g o bs e s)
    by_label None e = absent e
    by_label (Some p) e =
        cond_both (leb (o + length bs) p.length) _ _ Q
        (λ fits. written_way p e (leb-true (o + length bs) p.length fits))
        (λ long. past p e (leb-false (o + length bs) p.length long))

    pub write_cases : Q (calls.write g l o bs s)
    write_cases = by_label (s.labels l) refl

  -- the bytes from an offset of a patch on
  reached_way : (l o : ℕ) (p : Patch) (buffer : List ℕ) (Q : Result (Unit {0}) Refusal × List ℕ → Type 0) → s.labels l ≡ Some p → o + length buffer ≤ p.length
      → ((f : ℕ) → Stands s.spans p f → Q (Ok tt, peek (s.bank.bytes f) (slot_offset g p.length p.slot + o) (length buffer)))
      → Q (calls.reached g p o buffer (frame_of (s.spans p.span)) s)
  reached_way l o p buffer Q live fits done =
      let w = sh.placed l p live in
      let start = slot_offset g p.length p.slot in
      subst (λ z. Q (calls.reached g p o buffer z s)) (sym w.stands)
      (subst Q (sym (read_is w.frame (start + o) buffer s.bank (omega (arith, fits, short, patch-within sh l p live)) (out_of_row sh w.frame w.row w.has_row)))
      (done w.frame w.stands))

  -- read
  module _ (l o : ℕ) (buffer : List ℕ) (Q : Result (Unit {0}) Refusal × List ℕ → Type 0)
      (absent : s.labels l ≡ None → Q (Err Absent, buffer))
      (past : (p : Patch) → s.labels l ≡ Some p → p.length < o + length buffer → Q (Err Past, buffer))
      (done : (p : Patch) (f : ℕ) → s.labels l ≡ Some p → Stands s.spans p f → o + length buffer ≤ p.length
      → Q (Ok tt, peek (s.bank.bytes f) (slot_offset g p.length p.slot + o) (length buffer))) where
    read_by_label : (e : Option Patch) → s.labels l ≡ e → Q (calls.reading g o buffer e s)
    read_by_label None e = absent e
    read_by_label (Some p) e =
        cond_both (leb (o + length buffer) p.length) _ _ Q
        (λ fits. reached_way l o p buffer Q e (leb-true (o + length buffer) p.length fits) (λ f stands. done p f e stands (leb-true (o + length buffer) p.length fits)))
        (λ long. past p e (leb-false (o + length buffer) p.length long))

    pub read_cases : Q (calls.read g l o buffer s)
    read_cases = read_by_label (s.labels l) refl

  -- fetch
  module _ (a : ℕ) (buffer : List ℕ) (Q : Result (Unit {0}) Refusal × List ℕ → Type 0)
      (far : g.frame * g.spans ≤ a → Q (Err Address, buffer))
      (stray : owner g a (length buffer) s.labels ≡ None → Q (Err Stray, buffer))
      (done : (l f : ℕ) (p : Patch) → s.labels l ≡ Some p → Stands s.spans p f → holds g a (length buffer) (Some p) ≡ true
      → Q (Ok tt, peek (s.bank.bytes f) (slot_offset g p.length p.slot + (a - address_of g p)) (length buffer))) where
    fetched_way : (l : ℕ) (e : Option Patch) → s.labels l ≡ e → holds g a (length buffer) e ≡ true → Q (calls.fetched g a buffer e s)
    fetched_way l None e held = absurd (let z : ◌≡◌ {A = ℕ} 0 1 = cc in omega arith)
    fetched_way l (Some p) e held =
        let one = and_parts (leb (address_of g p) a) (ltb a (address_of g p + p.length) && leb (a + length buffer) (address_of g p + p.length)) held in
        let two = and_parts (ltb a (address_of g p + p.length)) (leb (a + length buffer) (address_of g p + p.length)) one.1 in
        reached_way l (a - address_of g p) p buffer Q e
        (omega (arith, leb-true (address_of g p) a one.0, leb-true (a + length buffer) (address_of g p + p.length) two.1))
        (λ f stands. done l f p e stands held)

    owned_way : (e : Option ℕ) → owner g a (length buffer) s.labels ≡ e → Q (calls.owned g a buffer e s)
    owned_way None e = stray e
    owned_way (Some l) e = fetched_way l (s.labels l) refl (owner-is g a (length buffer) s.labels l e)

    pub fetch_cases : Q (calls.fetch g a buffer s)
    fetch_cases =
        cond_both (ltb a (g.frame * g.spans)) _ _ Q (λ near. owned_way (owner g a (length buffer) s.labels) refl)
        (λ past. far (ltb-false a (g.frame * g.spans) past))

  -- delete
  module _ (l : ℕ) (Q : Result Bool Refusal × State C → Type 0)
      (absent : s.labels l ≡ None → Q (Err Absent, s))
      (done : (p : Patch) (f : ℕ) (row : Row) → s.labels l ≡ Some p → Stands s.spans p f → row_table s.rows f ≡ Some row
      → Q (calls.freed g l f (leaving row p.slot) (with_bank (bank.written f (slot_offset g p.length p.slot) (replicate (slot_size g (class_of g p.length)) 0) s.bank) s))) where
    cleared_way : (p : Patch) → s.labels l ≡ Some p → Q (calls.framed g l p (frame_of (s.spans p.span)) s)
    cleared_way p live =
        let w = sh.placed l p live in
        let start = slot_offset g p.length p.slot in
        let size = slot_size g (class_of g p.length) in
        subst (λ z. Q (calls.framed g l p z s)) (sym w.stands)
        (subst (λ z. Q (calls.clearing g l p w.frame z s)) (sym w.has_row)
        (subst (λ z. Q (calls.wiped g l w.frame p.slot w.row z s))
        (sym (write-is w.frame start (replicate size 0) s.bank (omega (arith, short, patch-within sh l p live, length-replicate {A = ℕ} size 0)) (out_of_row sh w.frame w.row w.has_row)))
        (done p w.frame w.row live w.stands w.has_row)))

    delete_by_label : (e : Option Patch) → s.labels l ≡ e → Q (calls.deleting g l e s)
    delete_by_label None e = absent e
    delete_by_label (Some p) e = cleared_way p e

    pub delete_cases : Q (calls.delete g l s)
    delete_cases = delete_by_label (s.labels l) refl

  -- new
  module _ (l n : ℕ) (Q : Result Made Refusal × State C → Type 0)
      (sized : Q (Err Size, s))
      (taken : Q (Err Taken, s))
      (no_span : Q (Err Spans, s))
      (no_frame : Q (Err Frames, s))
      (served : (f : ℕ) (row : Row) → 1 ≤ n → n ≤ longest g → s.labels l ≡ None → Serving g (class_of g n) s.rows f row
      → Q (calls.placed g l n f row false (next s.draw) s))
      (opened : (h f : ℕ) (rest : List ℕ) → 1 ≤ n → n ≤ longest g → s.labels l ≡ None → s.spans h ≡ Idle → h < g.spans → s.bank.spare ≡ f ∷ rest
      → Q (calls.placed g l n f (record { class = class_of g n; mask = 0; home = h }) true (next s.draw) (record {
        labels = s.labels;
        spans = put s.spans h (Home f);
        rows = s.rows;
        draw = s.draw;
        pairing = s.pairing;
        bank = record { size = s.bank.size; opening = s.bank.opening; spare = rest; out = put s.bank.out f true; bytes = s.bank.bytes };
      }))) where
    homed_way : (h : ℕ) (spare : List ℕ) → 1 ≤ n → n ≤ longest g → s.labels l ≡ None → s.spans h ≡ Idle → h < g.spans → s.bank.spare ≡ spare
        → Q (calls.homed g l n h (bank.granting spare s.bank) s)
    homed_way h [] low high fresh idle is_span e = no_frame
    homed_way h (f ∷ rest) low high fresh idle is_span e =
        subst (λ (t : Span). Q (calls.placed g l n f (record { class = class_of g n; mask = 0; home = h }) true (next s.draw) (record {
          labels = s.labels;
          spans = put s.spans h t;
          rows = s.rows;
          draw = s.draw;
          pairing = s.pairing;
          bank = record { size = s.bank.size; opening = s.bank.opening; spare = rest; out = put s.bank.out f true; bytes = s.bank.bytes };
        }))) (sym (ap (after (Open f)) idle))
        (opened h f rest low high fresh idle is_span e)

    opening_way : (e : Option ℕ) → lowest_idle s.spans g.spans ≡ e → 1 ≤ n → n ≤ longest g → s.labels l ≡ None → Q (calls.opening g l n e s)
    opening_way None e low high fresh = no_span
    opening_way (Some h) e low high fresh =
        let idle = lowest_idle-is s.spans g.spans h e in
        homed_way h s.bank.spare low high fresh idle.0 idle.1 refl

    served_way : (e : Option (ℕ × Row)) → Serves g (class_of g n) s.rows e → 1 ≤ n → n ≤ longest g → s.labels l ≡ None → Q (calls.served g l n e s)
    unfolding Serves
    served_way (Some (f, row)) serving low high fresh = served f row low high fresh serving
    served_way None serving low high fresh = opening_way (lowest_idle s.spans g.spans) refl low high fresh

    labelled_way : (e : Option Patch) → s.labels l ≡ e → 1 ≤ n → n ≤ longest g → Q (calls.labelled g l n e s)
    labelled_way (Some p) e low high = taken
    labelled_way None e low high = served_way (serving g (class_of g n) s.rows) (serving-serves g (class_of g n) s.rows) low high e

    pub new_cases : Q (calls.new g l n s)
    new_cases =
        cond_both (leb 1 n && leb n (longest g)) _ _ Q
        (λ ok.
        let p = and_parts (leb 1 n) (leb n (longest g)) ok in
        labelled_way (s.labels l) refl (leb-true 1 n p.0) (leb-true n (longest g) p.1))
        (λ bad. sized)
