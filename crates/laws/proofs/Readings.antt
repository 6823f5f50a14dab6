-- The reading is as the book says.
use Rattle.std.proofs.Common.{◌≡◌, ℕ, zero, suc, ◌+◌, ◌-◌, ◌*◌, ◌<◌, ◌≤◌, Bool, true, false, cond, ◌&&◌, ltb, leb, ◌⊎◌, List, [], ◌∷◌, length, replicate, is_some, Some, None, filter, Option, sym, refl, ap, ◌∙◌, subst, inl, inr, mul-suc, arith}
use mathlib.Core.List.Memᴰ
use mathlib.Core.List.{Memᴰ}
use Rattle.std.specs.List.{range_with_len}
use Rattle.std.proofs.lemmas.Bool.{le-leb, lt-ltb, leb-true, ltb-true, and_parts, and_from, both_ways, cases_eq, cases_lt, cond-true, cond-false}
use Rattle.std.proofs.lemmas.List.{length-replicate}
use Rattle.std.proofs.lemmas.Nat.{mul-le}
use Rattle.bank.specs.Tables.{peek}
use Rattle.bank.specs.Model.{frame_bytes}
use Rattle.model.specs.declared.Patch.{Patch}
use Rattle.model.specs.Geometry.{Geometry, slot_offset, longest, address_of}
use Rattle.model.specs.State.{State, frame_of}
use Rattle.model.specs.Calls.{holds, owner, first_of}
use Rattle.model.specs.Mesh.{Meaning}
use Rattle.model.specs.Runs.{to_read, to_fetch, filled}
use Rattle.laws.specs.Book.{Addresses}
use Rattle.laws.specs.Reading.{next_of, bytes_in, by_read, by_fetch, largest, longest_read, Heard, reading_of, as_heard, AsBooked}
use Rattle.laws.specs.Shape.{Stands, Shape, Shaped, row_table}
use Rattle.laws.specs.Laws.{end, next, book, first, ReadingLaw, SameReadingsLaw}
use Rattle.laws.proofs.Masks.{kept_member}
use Rattle.laws.proofs.Sizes.{same_slot}
use Rattle.laws.proofs.Tables.{some_same, none_some, length-peek}
use Rattle.laws.proofs.Facts.{patch-within, same_owner}
use Rattle.laws.proofs.Contents.{content, content_at}
use Rattle.laws.proofs.Cases.{read_cases, fetch_cases}
use Rattle.laws.proofs.Good.{contents_of, Noted}
use Rattle.laws.proofs.Plays.{played_well, noted_well}

-- the largest number that passes, where none above it does
largest-is : (test : ℕ → Bool) (limit k : ℕ) → k ≤ limit → test k ≡ true → ((n : ℕ) → k < n → test n ≡ false) → largest test limit ≡ k
largest-is test zero k within passes above = omega arith
largest-is test (suc n) k within passes above = by_place (cases_eq k (suc n)) (λ h. largest-is test n k h passes above)
  where
    by_place : (k ≡ suc n) ⊎ (k ≡ suc n → ⊥) → (k ≤ n → largest test n ≡ k) → cond (test (suc n)) (suc n) (largest test n) ≡ k
    by_place (inl last) rest = cond-true (test (suc n)) (suc n) (largest test n) (subst (λ z. test z ≡ true) last passes) ∙ sym last
    by_place (inr earlier) rest =
        cond-false (test (suc n)) (suc n) (largest test n) (above (suc n) (omega (arith, within, earlier))) ∙ rest (omega (arith, within, earlier))

first_none : {A : Type 0} (xs : List A) (x : A) → first_of xs ≡ None → Memᴰ x xs → ⊥
first_none [] x e mem = Memᴰ.not-nil mem
first_none (y ∷ ys) x e mem = none_some (sym e)

-- a label that holds the stretch has an owner found
owner_found : (g : Geometry) (a n : ℕ) (L : ℕ → Option Patch) (l : ℕ) → l < g.labels → holds g a n (L l) ≡ true → owner g a n L ≡ None → ⊥
unfolding owner
owner_found g a n L l below held none =
    first_none (filter (λ k. holds g a n (L k)) (range_with_len 0 g.labels)) l none (kept_member (λ k. holds g a n (L k)) 0 g.labels l (omega arith) (omega arith) held)

module _ {C : Type 0} {g : Geometry} (meaning : Meaning C) (s : State C) (shaped : Shaped g s) (short : g.frame ≤ frame_bytes) where
  sh : Shape g s.labels s.spans (row_table s.rows) s.bank
  sh = shaped.shape

  -- what a read of n bytes would give
  read_none : (l n : ℕ) → s.labels l ≡ None → by_read (next_of g meaning s) l n ≡ None
  read_none l n absent =
      read_cases s shaped short l 0 (replicate n 0) (λ r. bytes_in (to_read (filled r)) ≡ None) (λ e. refl) (λ p live past. refl)
      (λ p f live stands fits. absurd (none_some (sym absent ∙ live)))

  module _ (l f : ℕ) (p : Patch) (live : s.labels l ≡ Some p) (stands : Stands s.spans p f) where
    same_patch : (q : Patch) → s.labels l ≡ Some q → q ≡ p
    same_patch q e = some_same (sym e ∙ live)

    same_frame : (q : Patch) (h : ℕ) → s.labels l ≡ Some q → Stands s.spans q h → h ≡ f
    same_frame q h e at = some_same (sym (subst (λ (x : Patch). Stands s.spans x h) (same_patch q e) at) ∙ stands)

    read_some : (n : ℕ) → n ≤ p.length → by_read (next_of g meaning s) l n ≡ Some (peek (s.bank.bytes f) (slot_offset g p.length p.slot) n)
    read_some n fits =
        let long : length {A = ℕ} (replicate n 0) ≡ n = length-replicate {A = ℕ} n 0 in
        read_cases s shaped short l 0 (replicate n 0) (λ r. bytes_in (to_read (filled r)) ≡ Some (peek (s.bank.bytes f) (slot_offset g p.length p.slot) n))
        (λ absent. absurd (none_some (sym absent ∙ live)))
        (λ q e past. absurd (omega (arith, ap (λ (x : Patch). x.length) (same_patch q e), past, long, fits)))
        (λ q h e at fits'.
        ap (λ (x : Patch). Some (peek (s.bank.bytes h) (slot_offset g x.length x.slot + 0) (length {A = ℕ} (replicate n 0)))) (same_patch q e)
        ∙ ap (λ z. Some (peek (s.bank.bytes z) (slot_offset g p.length p.slot + 0) (length {A = ℕ} (replicate n 0)))) (same_frame q h e at)
        ∙ ap (λ z. Some (peek (s.bank.bytes f) z (length {A = ℕ} (replicate n 0)))) (let e : slot_offset g p.length p.slot + 0 ≡ slot_offset g p.length p.slot = omega arith in e)
        ∙ ap (λ z. Some (peek (s.bank.bytes f) (slot_offset g p.length p.slot) z)) long)

    read_past : (n : ℕ) → p.length < n → by_read (next_of g meaning s) l n ≡ None
    read_past n long =
        read_cases s shaped short l 0 (replicate n 0) (λ r. bytes_in (to_read (filled r)) ≡ None) (λ absent. refl) (λ q e past. refl)
        (λ q h e at fits. absurd (omega (arith, ap (λ (x : Patch). x.length) (same_patch q e), fits, length-replicate {A = ℕ} n 0, long)))

    longest-is : longest_read (next_of g meaning s) (longest g) l ≡ p.length
    unfolding longest_read
    longest-is =
        largest-is (λ n. is_some (by_read (next_of g meaning s) l n)) (longest g) p.length (sh.sized l p live).1 (ap is_some (read_some p.length (omega arith)))
        (λ n long. ap is_some (read_past n long))

    -- two live patches that hold one address are one
    same_holder : (k h : ℕ) (q : Patch) → s.labels k ≡ Some q → Stands s.spans q h → address_of g q ≤ address_of g p → address_of g p < address_of g q + q.length → k ≡ l
    same_holder k h q kq at from below =
        let mine = patch-within sh l p live in
        let theirs = patch-within sh k q kq in
        let some = (sh.sized l p live).0 in
        let span : p.span ≡ q.span =
        same_slot g.frame p.span q.span (address_of g p) (omega arith) (omega (arith, mine, some)) (omega (arith, from)) (omega (arith, below, theirs)) in
        let in_f : Stands s.spans q f = ap (λ z. frame_of (s.spans z)) (sym span) ∙ stands in
        let base : g.frame * p.span ≡ g.frame * q.span = ap (λ z. g.frame * z) span in
        same_owner sh k l f (slot_offset g p.length p.slot) q p kq live in_f stands (omega (arith, base, from), omega (arith, base, below, theirs)) (omega arith, omega (arith, mine, some))

    fetch_some : by_fetch (next_of g meaning s) (Some (address_of g p)) p.length ≡ Some (peek (s.bank.bytes f) (slot_offset g p.length p.slot) p.length)
    fetch_some =
        let a = address_of g p in
        let n = p.length in
        let long : length {A = ℕ} (replicate n 0) ≡ n = length-replicate {A = ℕ} n 0 in
        let mine = patch-within sh l p live in
        let some = (sh.sized l p live).0 in
        fetch_cases s shaped short a (replicate n 0) (λ r. bytes_in (to_fetch (filled r)) ≡ Some (peek (s.bank.bytes f) (slot_offset g p.length p.slot) p.length))
        (λ far.
        absurd (omega (arith, far, mine, some, mul-le g.frame (suc p.span) g.frame g.spans (omega arith) (sh.mapped p.span f stands).0, mul-suc g.frame p.span)))
        (λ stray.
        absurd (owner_found g a (length {A = ℕ} (replicate n 0)) s.labels l (sh.named l p live)
        (ap (holds g a (length {A = ℕ} (replicate n 0))) live
        ∙ and_from (leb a a) (ltb a (a + n) && leb (a + length {A = ℕ} (replicate n 0)) (a + n)) (le-leb a a (omega arith))
        (and_from (ltb a (a + n)) (leb (a + length {A = ℕ} (replicate n 0)) (a + n)) (lt-ltb a (a + n) (omega (arith, some))) (le-leb (a + length {A = ℕ} (replicate n 0)) (a + n) (omega (arith, long)))))
        stray))
        (λ k h q kq at held.
        let one = and_parts (leb (address_of g q) a) (ltb a (address_of g q + q.length) && leb (a + length {A = ℕ} (replicate n 0)) (address_of g q + q.length)) held in
        let two = and_parts (ltb a (address_of g q + q.length)) (leb (a + length {A = ℕ} (replicate n 0)) (address_of g q + q.length)) one.1 in
        let k_l : k ≡ l = same_holder k h q kq at (leb-true (address_of g q) a one.0) (ltb-true a (address_of g q + q.length) two.0) in
        let lq : s.labels l ≡ Some q = ap s.labels (sym k_l) ∙ kq in
        ap (λ (x : Patch). Some (peek (s.bank.bytes h) (slot_offset g x.length x.slot + (a - address_of g x)) (length {A = ℕ} (replicate n 0)))) (same_patch q lq)
        ∙ ap (λ z. Some (peek (s.bank.bytes z) (slot_offset g p.length p.slot + (a - a)) (length {A = ℕ} (replicate n 0)))) (same_frame q h lq at)
        ∙ ap (λ z. Some (peek (s.bank.bytes f) z (length {A = ℕ} (replicate n 0)))) (let e : slot_offset g p.length p.slot + (address_of g p - address_of g p) ≡ slot_offset g p.length p.slot = omega arith in e)
        ∙ ap (λ z. Some (peek (s.bank.bytes f) (slot_offset g p.length p.slot) z)) long)

  -- the reading of a pool of the right shape, whose addresses are noted, is its contents
  module _ (first : Addresses) (noted : Noted g first s.labels) where
    heard_at : (l : ℕ) (o : Option Patch) → s.labels l ≡ o → reading_of (next_of g meaning s) first (longest g) l ≡ as_heard (contents_of g s l)
    heard_at l None e =
        cond-false (is_some (by_read (next_of g meaning s) l 0)) _ _ (ap is_some (read_none l 0 e)) ∙ sym (ap (λ o. as_heard (content g s.spans s.bank.bytes o)) e)
    heard_at l (Some p) e =
        let w = sh.placed l p e in
        let f = w.frame in
        let bytes = peek (s.bank.bytes f) (slot_offset g p.length p.slot) p.length in
        let n = longest-is l f p e w.stands in
        cond-true (is_some (by_read (next_of g meaning s) l 0)) _ _ (ap is_some (read_some l f p e w.stands 0 (omega arith)))
        ∙ ap (λ k. Some (record { length = k; read = by_read (next_of g meaning s) l k; fetched = by_fetch (next_of g meaning s) (first l) k })) n
        ∙ ap (λ a. Some (record { length = p.length; read = by_read (next_of g meaning s) l p.length; fetched = by_fetch (next_of g meaning s) a p.length })) (noted l p e)
        ∙ ap (λ r. Some (record { length = p.length; read = r; fetched = by_fetch (next_of g meaning s) (Some (address_of g p)) p.length })) (read_some l f p e w.stands p.length (omega arith))
        ∙ ap (λ r. Some (record { length = p.length; read = Some bytes; fetched = r })) (fetch_some l f p e w.stands)
        ∙ ap (λ k. Some (record { length = k; read = Some bytes; fetched = Some bytes })) (sym (length-peek (s.bank.bytes f) (slot_offset g p.length p.slot) p.length))
        ∙ sym (ap as_heard (content_at g s.spans s.bank.bytes f (s.labels l) p e w.stands))

    limited_at : (l n : ℕ) (o : Option Patch) → s.labels l ≡ o → is_some (by_read (next_of g meaning s) l n) ≡ true → n ≤ longest g
    limited_at l n None e some = absurd (both_ways (is_some (by_read (next_of g meaning s) l n)) (ap is_some (read_none l n e)) some)
    limited_at l n (Some p) e some = by_length (cases_lt p.length n)
      where
        by_length : (p.length < n) ⊎ (n ≤ p.length) → n ≤ longest g
        by_length (inl long) = absurd (both_ways (is_some (by_read (next_of g meaning s) l n)) (ap is_some (read_past l (sh.placed l p e).frame p e (sh.placed l p e).stands n long)) some)
        by_length (inr fits) = omega (arith, fits, sh.sized l p e)

    pub as_booked : AsBooked (next_of g meaning s) first (longest g) (contents_of g s)
    as_booked = record { heard = λ l. heard_at l (s.labels l) refl; limited = λ l n. limited_at l n (s.labels l) refl }

pub reading_law : (C : Type 0) → ReadingLaw C
reading_law C g play =
    let ran = played_well play in
    subst (AsBooked (next play) (first play) (longest g)) ran.contents
    (as_booked play.meaning (end play) ran.shaped play.frames_fit (first play) (noted_well play))

-- a book says one thing of each label
heard_same : (a b : Option (List ℕ)) → as_heard a ≡ as_heard b → a ≡ b
heard_same None None e = refl
heard_same None (Some y) e = absurd (none_some e)
heard_same (Some x) None e = absurd (none_some (sym e))
heard_same (Some x) (Some y) e = ap (λ (h : Heard). h.read) (some_same e)

pub same_readings_law : (C D : Type 0) → SameReadingsLaw C D
same_readings_law C D g one two =
    let first = reading_law C g one in
    let second = reading_law D g two in
    (λ same l. heard_same (book one l) (book two l) (sym (first.heard l) ∙ same l ∙ second.heard l), λ same l. first.heard l ∙ ap as_heard (same l) ∙ sym (second.heard l))
