-- Stretches of a row of bytes, in the row and in the frames that lie in it.
use Rattle.std.proofs.Common.{◌≡◌, ℕ, zero, suc, ◌+◌, ◌-◌, ◌*◌, ◌/◌, ◌%◌, ◌<◌, ◌≤◌, cond, ◌&&◌, eqb, ltb, leb, List, ◌∷◌, ◌++◌, map, length, get_or, take, drop, replicate, sym, refl, ap, ◌∙◌, ⊎_elim, arith, rules}
use mathlib.Core.Path.{fun_ext}
use borrow.Rule.Slice.PartMut.{put_mid}
use Rattle.std.specs.List.{range_with_len}
use Rattle.std.proofs.lemmas.List.{length-replicate, get_or-replicate, get_or_past, drop_more, drop-drop, places}
use Rattle.std.proofs.lemmas.Bool.{cases_eq, cases_lt, lt-ltb, le-ltb, le-leb, lt-leb, leb-true, and_from, and_parts, and_left, and_right, cond-true, cond-false, cond_both, eq-eqb, ne_eqb}
use Rattle.bank.specs.Tables.{put, peek, poke}
use Rattle.banks.specs.Memory.{whole_frames, lane_frames, cleared, framed, place}

-- zeros, at every place
abbrev pub zeros : ℕ → List ℕ
zeros n = replicate n 0

pub length-zeros : (n : ℕ) → length (zeros n) ≡ n
length-zeros n = length-replicate n 0

pub get_or-zeros : (n k : ℕ) → get_or (zeros n) k 0 ≡ 0
get_or-zeros n k =
    ⊎_elim (λ (l : k < n). get_or-replicate n k 0 0 l)
    (λ (h : n ≤ k). get_or_past (zeros n) k 0 (omega (arith, length-zeros n)))
    (cases_lt k n)

-- what a stretch holds that lies over a row, within it and outside of it
pub poke-within : (row : ℕ → ℕ) (o : ℕ) (bs : List ℕ) (i : ℕ) → o ≤ i → i < o + length bs → poke row o bs i ≡ get_or bs (i - o) 0
poke-within row o bs i low high =
    cond-true _ _ _ (and_from (leb o i) (ltb i (o + length bs)) (le-leb o i low) (lt-ltb i (o + length bs) high))

pub poke-before : (row : ℕ → ℕ) (o : ℕ) (bs : List ℕ) (i : ℕ) → i < o → poke row o bs i ≡ row i
poke-before row o bs i h = cond-false _ _ _ (and_left (leb o i) (ltb i (o + length bs)) (lt-leb o i h))

pub poke-after : (row : ℕ → ℕ) (o : ℕ) (bs : List ℕ) (i : ℕ) → o + length bs ≤ i → poke row o bs i ≡ row i
poke-after row o bs i h = cond-false _ _ _ (and_right (leb o i) (ltb i (o + length bs)) (le-ltb i (o + length bs) h))

pub framed_in : (n : ℕ) (byte : ℕ → ℕ) (f i : ℕ) → f < n → i < 1024 → framed n byte f i ≡ byte (place f i)
framed_in n byte f i l h = cond-true _ _ _ (and_from (ltb f n) (ltb i 1024) (lt-ltb f n l) (lt-ltb i 1024 h))

pub framed_beyond : (n : ℕ) (byte : ℕ → ℕ) (f i : ℕ) → n ≤ f → framed n byte f i ≡ 0
framed_beyond n byte f i h = cond-false _ _ _ (and_left (ltb f n) (ltb i 1024) (le-ltb f n h))

pub framed_past : (n : ℕ) (byte : ℕ → ℕ) (f i : ℕ) → 1024 ≤ i → framed n byte f i ≡ 0
framed_past n byte f i h = cond-false _ _ _ (and_right (ltb f n) (ltb i 1024) (le-ltb i 1024 h))

-- a stretch over the row, within one frame, is a stretch over that frame's bytes
pub framed-poke : (n : ℕ) (byte : ℕ → ℕ) (f o : ℕ) (bs : List ℕ) → f < n → o + length bs ≤ 1024 → framed n (poke byte (place f o) bs) ≡ put (framed n byte) f (poke (framed n byte f) o bs)
framed-poke n byte f o bs l fits = fun_ext (λ g. fun_ext (λ i. at g i))
  where
    inside : (i : ℕ) → i < 1024 → poke byte (place f o) bs (place f i) ≡ poke (framed n byte f) o bs i
    inside i h =
        ⊎_elim
        (λ (b : i < o). poke-before byte (place f o) bs (place f i) (omega arith) ∙
        sym (poke-before (framed n byte f) o bs i b ∙ framed_in n byte f i l h))
        (λ (a : o ≤ i). ⊎_elim
        (λ (b : i < o + length bs). poke-within byte (place f o) bs (place f i) (omega arith) (omega arith) ∙
        (ap (λ k. get_or bs k 0) (let e : place f i - place f o ≡ i - o = omega arith in e) ∙
        sym (poke-within (framed n byte f) o bs i a b)))
        (λ (b : o + length bs ≤ i). poke-after byte (place f o) bs (place f i) (omega arith) ∙
        sym (poke-after (framed n byte f) o bs i b ∙ framed_in n byte f i l h))
        (cases_lt i (o + length bs)))
        (cases_lt i o)

    here : (i : ℕ) → framed n (poke byte (place f o) bs) f i ≡ poke (framed n byte f) o bs i
    here i =
        ⊎_elim
        (λ (h : i < 1024). framed_in n (poke byte (place f o) bs) f i l h ∙ inside i h)
        (λ (h : 1024 ≤ i). framed_past n (poke byte (place f o) bs) f i h ∙
        sym (poke-after (framed n byte f) o bs i (omega arith) ∙ framed_past n byte f i h))
        (cases_lt i 1024)

    elsewhere : (g i : ℕ) → (g ≡ f → ⊥) → framed n (poke byte (place f o) bs) g i ≡ framed n byte g i
    elsewhere g i differ =
        ⊎_elim
        (λ (h : i < 1024).
        let same : poke byte (place f o) bs (place g i) ≡ byte (place g i) =
        ⊎_elim
        (λ (b : g < f). poke-before byte (place f o) bs (place g i) (omega arith))
        (λ (b : f ≤ g). poke-after byte (place f o) bs (place g i) (omega arith))
        (cases_lt g f) in
        ap (λ v. cond (ltb g n && ltb i 1024) v 0) same)
        (λ (h : 1024 ≤ i). framed_past n (poke byte (place f o) bs) g i h ∙ sym (framed_past n byte g i h))
        (cases_lt i 1024)

    at : (g i : ℕ) → framed n (poke byte (place f o) bs) g i ≡ put (framed n byte) f (poke (framed n byte f) o bs) g i
    at g i =
        ⊎_elim
        (λ (same : g ≡ f). ap (λ q. framed n (poke byte (place f o) bs) q i) same ∙
        (here i ∙ sym (ap (λ (row : ℕ → ℕ). row i) (cond-true (eqb g f) (poke (framed n byte f) o bs) (framed n byte g) (eq-eqb g f same)))))
        (λ (differ : g ≡ f → ⊥). elsewhere g i differ ∙
        sym (ap (λ (row : ℕ → ℕ). row i) (cond-false (eqb g f) (poke (framed n byte f) o bs) (framed n byte g) (ne_eqb g f differ))))
        (cases_eq g f)

-- a frame's worth of zeros over a frame
pub framed-clear : (n : ℕ) (byte : ℕ → ℕ) (f : ℕ) → f < n → framed n (poke byte (place f 0) (zeros 1024)) ≡ put (framed n byte) f (λ i. 0)
framed-clear n byte f l =
    framed-poke n byte f 0 (zeros 1024) l (omega (arith, length-zeros 1024)) ∙
    ap (put (framed n byte) f) (fun_ext (λ i. cleared i))
  where
    cleared : (i : ℕ) → poke (framed n byte f) 0 (zeros 1024) i ≡ 0
    cleared i =
        let e = length-zeros 1024 in
        ⊎_elim
        (λ (h : i < 1024). poke-within (framed n byte f) 0 (zeros 1024) i (omega arith) (omega arith) ∙ get_or-zeros 1024 (i - 0))
        (λ (h : 1024 ≤ i). poke-after (framed n byte f) 0 (zeros 1024) i (omega arith) ∙ framed_past n byte f i h)
        (cases_lt i 1024)

-- zeros over all frames
pub framed-clear_all : (n : ℕ) (byte : ℕ → ℕ) → framed n (poke byte 0 (zeros (place n 0))) ≡ (λ f i. 0)
framed-clear_all n byte = fun_ext (λ f. fun_ext (λ i. cleared f i))
  where
    cleared : (f i : ℕ) → framed n (poke byte 0 (zeros (place n 0))) f i ≡ 0
    cleared f i =
        let e = length-zeros (place n 0) in
        ⊎_elim
        (λ (l : f < n). ⊎_elim
        (λ (h : i < 1024). framed_in n (poke byte 0 (zeros (place n 0))) f i l h ∙
        (poke-within byte 0 (zeros (place n 0)) (place f i) (omega arith) (omega arith) ∙ get_or-zeros (place n 0) (place f i - 0)))
        (λ (h : 1024 ≤ i). framed_past n (poke byte 0 (zeros (place n 0))) f i h)
        (cases_lt i 1024))
        (λ (l : n ≤ f). framed_beyond n (poke byte 0 (zeros (place n 0))) f i l)
        (cases_lt f n)

-- a byte within a stretch of zeros
pub zero_within : (before after : ℕ → ℕ) (count k : ℕ) → after ≡ poke before 0 (replicate count 0) → k < count → after k ≡ 0
zero_within before after count k e l =
    let long = length-zeros count in
    ap (λ (row : ℕ → ℕ). row k) e ∙ (poke-within before 0 (zeros count) k (omega arith) (omega arith) ∙ get_or-zeros count (k - 0))

-- a stretch of the row, within one frame, is a stretch of that frame's bytes
pub framed-peek : (n : ℕ) (byte : ℕ → ℕ) (f o k : ℕ) → f < n → o + k ≤ 1024 → peek byte (place f o) k ≡ peek (framed n byte f) o k
unfolding peek
framed-peek n byte f o zero l fits = refl
framed-peek n byte f o (suc k) l fits =
    let here : byte (place f o) ≡ framed n byte f o = sym (framed_in n byte f o l (omega arith)) in
    let on : place f o + 1 ≡ place f (o + 1) = omega arith in
    let rest : map byte (range_with_len (place f (o + 1)) k) ≡ map (framed n byte f) (range_with_len (o + 1) k) =
    framed-peek n byte f (o + 1) k l (omega arith) in
    let there : map byte (range_with_len (place f o + 1) k) ≡ map byte (range_with_len (place f (o + 1)) k) = ap (λ a. map byte (range_with_len a k)) on in
    cc

-- what a row holds after a part of it was copied over
get_or_poked : (xs bs ys : List ℕ) (o : ℕ) → o + length bs ≤ length xs → ys ≡ take o xs ++ (bs ++ drop (o + length bs) xs) → (λ k. get_or ys k 0) ≡ poke (λ k. get_or xs k 0) o bs
get_or_poked xs bs ys o h e = fun_ext (λ k. ap (λ l. get_or l k 0) e ∙ at k)
  where
    at : (k : ℕ) → get_or (take o xs ++ (bs ++ drop (o + length bs) xs)) k 0 ≡ poke (λ k. get_or xs k 0) o bs k
    at k =
        ⊎_elim
        (λ (b : k < o).
        let v : get_or (take o xs ++ (bs ++ drop (o + length bs) xs)) k 0 ≡ get_or xs k 0 = search (rules, places) in
        v ∙ sym (poke-before (λ k. get_or xs k 0) o bs k b))
        (λ (a : o ≤ k). ⊎_elim
        (λ (b : k < o + length bs).
        let v : get_or (take o xs ++ (bs ++ drop (o + length bs) xs)) k 0 ≡ get_or bs (k - o) 0 = search (rules, places) in
        v ∙ sym (poke-within (λ k. get_or xs k 0) o bs k a b))
        (λ (b : o + length bs ≤ k).
        let v : get_or (take o xs ++ (bs ++ drop (o + length bs) xs)) k 0 ≡ get_or xs k 0 = search (rules, places) in
        v ∙ sym (poke-after (λ k. get_or xs k 0) o bs k b))
        (cases_lt k (o + length bs)))
        (cases_lt k o)

-- a part of a row that is copied out
pub peeked : (xs : List ℕ) (o k : ℕ) → o + k ≤ length xs → take k (drop o xs) ≡ peek (λ i. get_or xs i 0) o k
unfolding peek
peeked xs o zero h = refl
peeked xs o (suc k) h =
    ap (take (suc k)) (drop_more xs o 0 (omega arith)) ∙
    ap (λ rest. get_or xs o 0 ∷ rest) (peeked xs (o + 1) k (omega arith))

-- the frames of a memory lie within it
pub whole-within : (n : ℕ) → 1024 * whole_frames n ≤ n
whole-within n =
    cond_both _ (n / 1024) 0 (λ f. 1024 * f ≤ n) (λ e. omega arith) (λ e. omega arith)

-- a memory after a part of it was written over
pub part_bytes : (xs bs ys : List ℕ) (o k : ℕ) → o + length bs ≤ length xs → ys ≡ bs → k ≡ length bs → (λ i. get_or (put_mid o k xs ys) i 0) ≡ poke (λ i. get_or xs i 0) o bs
part_bytes xs bs ys o k h e size =
    get_or_poked xs bs (put_mid o k xs ys) o h
    (ap (λ l. take o xs ++ (l ++ drop k (drop o xs))) e ∙
    ap (λ l. take o xs ++ (bs ++ l)) (ap (λ m. drop m (drop o xs)) size ∙ drop-drop (length bs) o xs))

pub whole-few : (n : ℕ) → whole_frames n ≤ 64
whole-few n =
    cond_both (eqb (n % 1024) 0 && leb (n / 1024) 64) (n / 1024) 0 (λ f. f ≤ 64)
    (λ e. leb-true (n / 1024) 64 (and_parts (eqb (n % 1024) 0) (leb (n / 1024) 64) e).1) (λ e. omega arith)

-- clearing keeps a memory's length, and leaves zeros where it has frames
pub length-cleared : (n : ℕ) (xs : List ℕ) → length (cleared n xs) ≡ length xs
length-cleared n xs =
    cond_both (eqb n 0) xs (zeros (length xs)) (λ l. length l ≡ length xs) (λ e. refl) (λ e. length-zeros (length xs))

pub get_or-cleared : (n : ℕ) (xs : List ℕ) (k : ℕ) → 0 < n → get_or (cleared n xs) k 0 ≡ 0
get_or-cleared n xs k some =
    ap (λ l. get_or l k 0) (cond-false (eqb n 0) xs (zeros (length xs)) (ne_eqb n 0 (omega arith))) ∙ get_or-zeros (length xs) k

pub lane_few : (a b : ℕ) → lane_frames a b ≤ 64
lane_few a b = cond_both (eqb a b) (whole_frames (a + b)) 0 (λ f. f ≤ 64) (λ e. whole-few (a + b)) (λ e. omega arith)
