-- Mesh: each merge does what it says, and so does the whole.
use Rattle.std.proofs.Common.{◌≡◌, ℕ, zero, suc, ◌+◌, ◌*◌, ◌<◌, ◌≤◌, true, ◌&&◌, eqb, ltb, ◌⊎◌, List, [], ◌∷◌, length, get_or, set, Some, None, Ok, Err, Option, Result, sym, refl, ap, ◌∙◌, subst, inl, inr, mul-add, arith}
use lib.Bits.{bit_and, bit_or, and_comm}
use Rattle.std.specs.List.{AllByRecursion}
use Rattle.std.proofs.lemmas.Bool.{eq-eqb, eqb-true, ltb-true, ltb-false, or_left, or_cases, or_parts, and_parts, cond_both, cond-true, cases_eq, true≢false}
use Rattle.std.proofs.lemmas.List.{length-set}
use Rattle.std.proofs.lemmas.Nat.{mul-le}
use Rattle.std.proofs.ByRecursion.{All-weaker}
use Rattle.refusal.specs.declared.Refusal.{Refusal}
use Rattle.refusal.specs.declared.Refusal.TheVariants.{Class}
use Rattle.bank.specs.Tables.{put}
use Rattle.bank.specs.Model as bank
use Rattle.bank.specs.Model.{BankState, frame_bytes}
use Rattle.joining.specs.Kinds.{masks_join}
use Rattle.model.specs.declared.Patch.{Patch}
use Rattle.model.specs.declared.Row.{Row}
use Rattle.model.specs.declared.Event.TheVariants.{Merge}
use Rattle.model.specs.declared.Meshed.{Meshed}
use Rattle.model.specs.Geometry.{Geometry, slot_size, slots, places}
use Rattle.model.specs.Masks.{bit, set_places}
use Rattle.model.specs.State.{State}
use Rattle.model.specs.Calls.{occupied, spans_after}
use Rattle.model.specs.Mesh as meshes
use Rattle.model.specs.Mesh.{Meaning, both, no_merge, receives, listed, masks_of}
use Rattle.model.specs.Runs.{Mesh, to_mesh, Lawful}
use Rattle.laws.specs.Shape.{Shape, Shaped, row_table, NoRowEmpty}
use Rattle.laws.specs.Counts.{total, lost_at, lost, ToldTruly}
use Rattle.laws.proofs.Masks.{bit-bit_or, some_bit, bit_nonzero, set_bits_or, set_bits_narrow, set_places-set}
use Rattle.laws.proofs.Sizes.{slots_fill}
use Rattle.laws.proofs.Tables.{put_same, put_other, put_all, put_some, put-none, set_table, some_same, none_some, some_is}
use Rattle.laws.proofs.Totals.{total_same, total_change, rows_out, rows_out-put, one_if}
use Rattle.laws.proofs.Facts.{out_of_row, frame_below}
use Rattle.laws.proofs.Copies.{with_bytes, copied-bytes, copies_are}
use Rattle.laws.proofs.Merged.{joined_row, source-slots, frame-merged}
use Rattle.laws.proofs.Contents.{merge_contents}
use Rattle.laws.proofs.Good.{contents_of, Good, nothing_done}
use Rattle.laws.proofs.Pairs.{PairReady, ClearOf, Ready, Agree, agree_same, agree_put, ready_from}

-- the pool after the frame f was laid onto the frame h
abbrev pub laid_state : {C : Type 0} → Geometry → ℕ → Row → ℕ → Row → State C → State C
laid_state g f source h destination s =
    record {
      labels = s.labels;
      spans = spans_after (Merge f h) s.spans;
      rows = set (set s.rows h (Some (joined_row destination source))) f None;
      draw = s.draw;
      pairing = s.pairing;
      bank = bank.returned f (with_bytes (copied-bytes (slot_size g source.class) f h (set_places (places g) source.mask) s.bank.bytes) s.bank);
    }

abbrev pub one_merge : Geometry → Row → Meshed
one_merge g source = record { merges = 1; bytes = slot_size g source.class * occupied g source }

-- of the rows before and now, a frame that had the row w and has none now
lost_more : (g : Geometry) (number : Row → ℕ) (before now : ℕ → Option Row) (f h : ℕ) (source destination joined : Row) → f < g.frames
    → (f ≡ h → ⊥)
    → before f ≡ Some source
    → now f ≡ Some source
    → before h ≡ Some destination
    → now h ≡ Some destination
    → lost g number before (put (put now h (Some joined)) f None) ≡ lost g number before now + number source
lost_more g number before now f h source destination joined below apart before-f now_f before-h now_h =
    let after = put (put now h (Some joined)) f None in
    let change = total_change g.frames (λ q. lost_at number (before q) (after q)) (λ q. lost_at number (before q) (now q)) f below others in
    let gone : lost_at number (before f) (after f) ≡ number source = ap (λ o. lost_at number o (after f)) before-f ∙ ap (lost_at number (Some source)) (put_same (put now h (Some joined)) f None) in
    let there : lost_at number (before f) (now f) ≡ 0 = ap (λ o. lost_at number o (now f)) before-f ∙ ap (lost_at number (Some source)) now_f in
    omega (arith, change, gone, there)
  where
    others : (q : ℕ) → (q ≡ f → ⊥) → lost_at number (before q) (put (put now h (Some joined)) f None q) ≡ lost_at number (before q) (now q)
    others q not_f =
        ap (lost_at number (before q)) (put_other (put now h (Some joined)) f None q not_f)
        ∙ put_all (λ q o. lost_at number (before q) o ≡ lost_at number (before q) (now q)) now h (Some joined)
        (ap (λ o. lost_at number o (Some joined)) before-h ∙ sym (ap (λ o. lost_at number o (now h)) before-h ∙ ap (lost_at number (Some destination)) now_h))
        (λ q not-h. refl) q

-- a sum of nothing
lost-none : (g : Geometry) (number : Row → ℕ) (rows : ℕ → Option Row) → lost g number rows rows ≡ 0
lost-none g number rows = total_same g.frames (λ q. lost_at number (rows q) (rows q)) (λ q. 0) (λ q h. none (rows q)) ∙ zeros g.frames
  where
    none : (o : Option Row) → lost_at number o o ≡ 0
    none None = refl
    none (Some row) = refl

    zeros : (n : ℕ) → total n (λ q. 0) ≡ 0
    zeros zero = refl
    zeros (suc n) = omega (arith, zeros n)

-- what the merges so far, from the pool s on, have come to
pub record SoFar {C : Type 0} (g : Geometry) (s : State C) (done : Meshed) (t : State C) : Type 0 where
  pub shaped : Shaped g t
  pub labels : t.labels ≡ s.labels
  pub size : t.bank.size ≡ s.bank.size
  pub contents : (l : ℕ) → contents_of g t l ≡ contents_of g s l
  pub out : rows_out g.frames (row_table t.rows) + done.merges ≡ rows_out g.frames (row_table s.rows)
  pub told : ToldTruly g (row_table s.rows) (row_table t.rows) done

-- what is left after a pair was merged, whichever of its frames is the destination
pub record FarAfter {C : Type 0} (g : Geometry) (s : State C) (frames : List ℕ) (pairs : List (ℕ × ℕ)) (done : Meshed) (r : Result Meshed Refusal × State C) : Type 0 where
  pub more : Meshed
  pub now : State C
  pub is : r ≡ (Ok more, now)
  pub one : more.merges ≡ 1
  pub far : SoFar g s (both done more) now
  pub agree : Agree (row_table s.rows) (row_table now.rows) frames pairs

module _ {C : Type 0} (g : Geometry) (short : g.frame ≤ frame_bytes) (s : State C) where
  -- one merge
  module _ (done : Meshed) (t : State C) (far : SoFar g s done t) (f h : ℕ) (source destination : Row)
      (now_f : row_table t.rows f ≡ Some source) (now_h : row_table t.rows h ≡ Some destination) (apart : f ≡ h → ⊥)
      (alike : source.class ≡ destination.class) (joins : bit_and destination.mask source.mask ≡ 0) where
    sh : Shape g t.labels t.spans (row_table t.rows) t.bank
    sh = far.shaped.shape

    pub merge_into-is : meshes.merge_into g f source h destination t ≡ (Ok (one_merge g source), laid_state g f source h destination t)
    merge_into-is =
        let size = slot_size g source.class in
        let ss = set_places (places g) source.mask in
        let fit : AllByRecursion (λ k. size * k + size ≤ frame_bytes) ss =
        All-weaker (λ k. bit source.mask k ≡ true) (λ k. size * k + size ≤ frame_bytes)
        (λ k set. omega (arith, short, source-slots sh f h source destination now_f now_h apart alike joins k set)) ss (set_places-set (places g) source.mask) in
        cond-true (masks_join destination.mask source.mask) _ _ (eq-eqb (bit_and destination.mask source.mask) 0 joins)
        ∙ ap (λ (r : Result (Unit {0}) Refusal × BankState). meshes.moved g f source h destination r t)
        (copies_are size f h ss t.bank fit (out_of_row sh f source now_f) (out_of_row sh h destination now_h))
        ∙ ap (λ (r : Result (Unit {0}) Refusal × BankState). meshes.laid g f source h destination r t)
        (cond-true (t.bank.out f) _ _ (out_of_row sh f source now_f))

    below_f : f < length t.rows
    below_f = omega (arith, frame_below sh f source now_f, far.shaped.long)

    below_h : h < length t.rows
    below_h = omega (arith, frame_below sh h destination now_h, far.shaped.long)

    pub rows-laid : row_table (set (set t.rows h (Some (joined_row destination source))) f None)
        ≡ put (put (row_table t.rows) h (Some (joined_row destination source))) f None
    rows-laid =
        set_table (set t.rows h (Some (joined_row destination source))) f None (omega (arith, below_f, length-set t.rows h (Some (joined_row destination source))))
        ∙ ap (λ rows. put rows f None) (set_table t.rows h (Some (joined_row destination source)) below_h)

    -- half a frame at most
    half : occupied g source ≤ occupied g destination → slot_size g source.class * occupied g source + slot_size g source.class * occupied g source ≤ g.frame
    half fewer =
        let size = slot_size g source.class in
        let n = occupied g source in
        let wide = set_bits_narrow (places g) (slots g destination.class) (bit_or destination.mask source.mask)
        ((frame-merged sh f h source destination now_f now_h apart alike joins).masked h (joined_row destination source) (put_other (put (row_table t.rows) h (Some (joined_row destination source))) f None h (λ e. apart (sym e)) ∙ put_same (row_table t.rows) h (Some (joined_row destination source)))) in
        let both_bits = set_bits_or (places g) destination.mask source.mask joins in
        let few : n + n ≤ slots g source.class = subst (λ c. n + n ≤ slots g c) (sym alike) (omega (arith, wide, both_bits, fewer)) in
        omega (arith, mul-add size n n, mul-le size (n + n) size (slots g source.class) (omega arith) few, slots_fill g source.class (sh.classed f source now_f))

    pub merge_far : row_table s.rows f ≡ Some source → row_table s.rows h ≡ Some destination → occupied g source ≤ occupied g destination
        → SoFar g s (both done (one_merge g source)) (laid_state g f source h destination t)
    merge_far was-f was-h fewer =
        record {
          shaped =
              record {
                shape =
                    subst (λ rows. Shape g t.labels (spans_after (Merge f h) t.spans) rows
                    (bank.returned f (with_bytes (copied-bytes (slot_size g source.class) f h (set_places (places g) source.mask) t.bank.bytes) t.bank)))
                    (sym rows-laid) (frame-merged sh f h source destination now_f now_h apart alike joins);
                long =
                    length-set (set t.rows h (Some (joined_row destination source))) f None ∙ length-set t.rows h (Some (joined_row destination source)) ∙ far.shaped.long;
                no_row_empty =
                    subst NoRowEmpty (sym rows-laid)
                    (put-none (λ q row. row.mask ≡ 0 → ⊥) (put (row_table t.rows) h (Some (joined_row destination source))) f
                    (λ q not_f.
                    put_some (λ q row. row.mask ≡ 0 → ⊥) (row_table t.rows) h (joined_row destination source)
                    (λ none.
                    let b = some_bit destination.mask (far.shaped.no_row_empty h destination now_h) in
                    bit_nonzero (bit_or destination.mask source.mask) b.0
                    (bit-bit_or destination.mask source.mask b.0 ∙ or_left (bit destination.mask b.0) (bit source.mask b.0) b.1) none)
                    (λ q not-h. far.shaped.no_row_empty q) q));
              };
          labels = far.labels;
          size = far.size;
          contents = λ l. merge_contents sh f h source destination now_f now_h apart alike joins l ∙ far.contents l;
          out =
              let first = rows_out-put g.frames (row_table t.rows) h (Some (joined_row destination source)) (frame_below sh h destination now_h) in
              let second = rows_out-put g.frames (put (row_table t.rows) h (Some (joined_row destination source))) f None (frame_below sh f source now_f) in
              let at_f = ap one_if (some_is (put_other (row_table t.rows) h (Some (joined_row destination source)) f apart ∙ now_f)) in
              omega (arith, ap (rows_out g.frames) rows-laid, first, second, at_f, ap one_if (some_is now_h), far.out);
          told =
              record {
                merges =
                    omega (arith, far.told.merges, ap (lost g (λ row. 1) (row_table s.rows)) rows-laid, more (λ row. 1));
                bytes =
                    omega (arith, far.told.bytes, ap (lost g (λ row. slot_size g row.class * occupied g row) (row_table s.rows)) rows-laid, more (λ row. slot_size g row.class * occupied g row));
                half_each = λ q row was none. still_half q row was (cases_eq q f) (ap (λ (rows : ℕ → Option Row). rows q) (sym rows-laid) ∙ none);
                half_in_all = omega (arith, far.told.half_in_all, half fewer, mul-add g.frame done.merges 1);
              };
        }
      where
        -- a frame lost before this merge, or by it
        still_half : (q : ℕ) (row : Row) → row_table s.rows q ≡ Some row → (q ≡ f) ⊎ (q ≡ f → ⊥)
            → put (put (row_table t.rows) h (Some (joined_row destination source))) f None q ≡ None
            → slot_size g row.class * occupied g row + slot_size g row.class * occupied g row ≤ g.frame
        still_half q row was (inl same) none =
            subst (λ (r : Row). slot_size g r.class * occupied g r + slot_size g r.class * occupied g r ≤ g.frame) (some_same (sym was-f ∙ ap (row_table s.rows) (sym same) ∙ was)) (half fewer)
        still_half q row was (inr not_f) none =
            put_all (λ q o. row_table s.rows q ≡ Some row → o ≡ None → slot_size g row.class * occupied g row + slot_size g row.class * occupied g row ≤ g.frame)
            (row_table t.rows) h (Some (joined_row destination source)) (λ was e. absurd (none_some (sym e))) (λ q not-h was e. far.told.half_each q row was e) q was
            (sym (put_other (put (row_table t.rows) h (Some (joined_row destination source))) f None q not_f) ∙ none)

        more : (number : Row → ℕ) → lost g number (row_table s.rows) (put (put (row_table t.rows) h (Some (joined_row destination source))) f None)
            ≡ lost g number (row_table s.rows) (row_table t.rows) + number source
        more number =
            lost_more g number (row_table s.rows) (row_table t.rows) f h source destination (joined_row destination source) (frame_below sh f source now_f) apart was-f now_f was-h now_h

  module _ (frames : List ℕ) (class : ℕ) where
    laid_far : (pairs : List (ℕ × ℕ)) (done : Meshed) (t : State C) (far : SoFar g s done t) (f h : ℕ) (source destination : Row)
        → row_table s.rows f ≡ Some source → row_table s.rows h ≡ Some destination
        → row_table t.rows f ≡ Some source → row_table t.rows h ≡ Some destination
        → (f ≡ h → ⊥) → source.class ≡ destination.class → bit_and destination.mask source.mask ≡ 0
        → occupied g source ≤ occupied g destination
        → ClearOf f frames pairs → ClearOf h frames pairs
        → Agree (row_table s.rows) (row_table t.rows) frames pairs
        → FarAfter g s frames pairs done (meshes.merge_into g f source h destination t)
    laid_far pairs done t far f h source destination was-f was-h now_f now_h apart alike joins fewer clear-f clear-h agree =
        record {
          more = one_merge g source;
          now = laid_state g f source h destination t;
          is = merge_into-is done t far f h source destination now_f now_h apart alike joins;
          one = refl;
          far = merge_far done t far f h source destination now_f now_h apart alike joins was-f was-h fewer;
          agree =
              subst (λ rows. Agree (row_table s.rows) rows frames pairs) (sym (rows-laid done t far f h source destination now_f now_h apart alike joins))
              (agree_put (row_table s.rows) (put (row_table t.rows) h (Some (joined_row destination source))) frames pairs f None clear-f
              (agree_put (row_table s.rows) (row_table t.rows) frames pairs h (Some (joined_row destination source)) clear-h agree));
        }

    pub pair_far : (pairs : List (ℕ × ℕ)) (done : Meshed) (t : State C) (far : SoFar g s done t) (f h : ℕ) (p : PairReady (row_table s.rows) class f h)
        → row_table t.rows f ≡ row_table s.rows f → row_table t.rows h ≡ row_table s.rows h
        → ClearOf f frames pairs → ClearOf h frames pairs
        → Agree (row_table s.rows) (row_table t.rows) frames pairs
        → FarAfter g s frames pairs done (meshes.merge g f h (row_table t.rows f) (row_table t.rows h) t)
    pair_far pairs done t far f h p same-f same-h clear-f clear-h agree =
        subst (λ o. FarAfter g s frames pairs done (meshes.merge g f h o (row_table t.rows h) t)) (sym (same-f ∙ p.has_first))
        (subst (λ o. FarAfter g s frames pairs done (meshes.merge g f h (Some p.first) o t)) (sym (same-h ∙ p.has_second))
        (cond_both (receives g f p.first h p.second) _ _ (FarAfter g s frames pairs done)
        (λ yes'.
        laid_far pairs done t far h f p.second p.first p.has_second p.has_first (same-h ∙ p.has_second) (same-f ∙ p.has_first) (λ e. p.apart (sym e)) (p.second_class ∙ sym p.first_class) p.joins
        (at_least (or_cases (ltb (occupied g p.second) (occupied g p.first)) (eqb (occupied g p.second) (occupied g p.first) && ltb f h) yes')) clear-h clear-f agree)
        (λ no'.
        laid_far pairs done t far f h p.first p.second p.has_first p.has_second (same-f ∙ p.has_first) (same-h ∙ p.has_second) p.apart (p.first_class ∙ sym p.second_class) (and_comm p.second.mask p.first.mask ∙ p.joins)
        (ltb-false (occupied g p.second) (occupied g p.first) (or_parts (ltb (occupied g p.second) (occupied g p.first)) (eqb (occupied g p.second) (occupied g p.first) && ltb f h) no').0) clear-f clear-h agree)))
      where
        at_least : (ltb (occupied g p.second) (occupied g p.first) ≡ true) ⊎ ((eqb (occupied g p.second) (occupied g p.first) && ltb f h) ≡ true) → occupied g p.second ≤ occupied g p.first
        at_least (inl more) = omega (arith, ltb-true (occupied g p.second) (occupied g p.first) more)
        at_least (inr level) = omega (arith, eqb-true (occupied g p.second) (occupied g p.first) (and_parts (eqb (occupied g p.second) (occupied g p.first)) (ltb f h) level).0)

    -- all pairs merged
    pub merged_far : (pairs : List (ℕ × ℕ)) (done : Meshed) (t : State C) → SoFar g s done t → Ready (row_table s.rows) frames class pairs
        → Agree (row_table s.rows) (row_table t.rows) frames pairs
        → (Q : Result Meshed Refusal × State C → Type 0)
        → ((end : Meshed) (u : State C) → SoFar g s end u → end.merges ≡ done.merges + length pairs → Q (Ok end, u))
        → Q (meshes.merged g frames pairs done t)
    merged_far [] done t far ready agree Q q = q done t far (omega arith)
    merged_far ((i, j) ∷ pairs) done t far ready agree Q q =
        let step = pair_far pairs done t far (get_or frames i 0) (get_or frames j 0) ready.0 agree.0 agree.1 ready.1 ready.2 agree.2 in
        subst (λ r. Q (meshes.merged_then g (meshes.merged g frames pairs) done r)) (sym step.is)
        (merged_far pairs (both done step.more) step.now step.far ready.3 step.agree Q (λ end u far' count. q end u far' (omega (arith, count, step.one))))

  -- nothing merged yet, though the pairing has another condition
  pub so_far_none : Shaped g s → (condition : C)
      → SoFar g s no_merge (record { labels = s.labels; spans = s.spans; rows = s.rows; draw = s.draw; pairing = condition; bank = s.bank })
  so_far_none shaped condition =
      record {
        shaped = record { shape = shaped.shape; long = shaped.long; no_row_empty = shaped.no_row_empty };
        labels = refl;
        size = refl;
        contents = λ l. refl;
        out = omega arith;
        told =
            record {
              merges = sym (lost-none g (λ row. 1) (row_table s.rows));
              bytes = sym (lost-none g (λ row. slot_size g row.class * occupied g row) (row_table s.rows));
              half_each = λ f row was none. absurd (none_some (sym none ∙ was));
              half_in_all = omega arith;
            };
      }

  -- mesh
  module _ (shaped : Shaped g s) (meaning : Meaning C) (lawful : Lawful meaning) (class : ℕ) where
    pub mesh_cases : (Q : Result Meshed Refusal × State C → Type 0)
        → Q (Err Class, s)
        → ((end : Meshed) (u : State C) → SoFar g s end u → end.merges ≡ length (meaning.pairs s.pairing (masks_of s.rows (listed g class s.rows))) → Q (Ok end, u))
        → Q (meshes.mesh g meaning class s)
    mesh_cases Q refused done =
        let frames = listed g class s.rows in
        let masks = masks_of s.rows frames in
        let pairs = meaning.pairs s.pairing masks in
        cond_both (ltb class (length g.sizes)) _ _ Q
        (λ is_class.
        merged_far frames class pairs no_merge
        (record { labels = s.labels; spans = s.spans; rows = s.rows; draw = s.draw; pairing = meaning.next s.pairing masks; bank = s.bank })
        (so_far_none shaped (meaning.next s.pairing masks))
        (ready_from g class s.rows pairs (lawful s.pairing masks))
        (agree_same (row_table s.rows) frames pairs) Q
        (λ end u far count. done end u far (omega (arith, count))))
        (λ none. refused)

    pub mesh_good : Good g (Mesh class) s (to_mesh (meshes.mesh g meaning class s).0) (meshes.mesh g meaning class s).1
    mesh_good =
        mesh_cases (λ r. Good g (Mesh class) s (to_mesh r.0) r.1)
        (nothing_done (Mesh class) s (to_mesh (Err Class)) shaped (λ book. refl) (λ first. refl) refl refl refl refl)
        (λ end u far count.
        record {
          shaped = far.shaped;
          contents = far.contents;
          noted = λ first h l p live. h l p (sym (ap (λ (labels : ℕ → Option Patch). labels l) far.labels) ∙ live);
          kept = λ l p live other. ap (λ (labels : ℕ → Option Patch). labels l) far.labels ∙ live;
          refused = λ e. absurd (true≢false e);
          expected = refl;
          size = far.size;
          balanced = omega (arith, far.out);
        })
