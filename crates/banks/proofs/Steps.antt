-- What each step on the spare frames and on the store does to the meaning of the bank.
use Rattle.std.proofs.Common.{◌≡◌, ℕ, zero, suc, ◌+◌, ◌/◌, ◌%◌, ◌<◌, ◌≤◌, Bool, true, false, ◌&&◌, eqb, ltb, leb, List, [], ◌∷◌, length, get_or, set, replicate, Some, None, Option, is_none, unwrap_or, Ok, Err, Result, sym, refl, ap, ◌∙◌, subst, ⊎_elim, arith}
use mathlib.Core.Path.{fun_ext}
use mathlib.Core.List.{Memᴰ}
use Rattle.std.specs.List.{range_with_len}
use Rattle.refusal.specs.declared.Refusal.{Refusal}
use Rattle.refusal.specs.declared.Refusal.TheVariants.{Frames, Edge, NotOut}
use Rattle.std.proofs.lemmas.List.{get_or_default, get_or-set_same, get_or-set_other, get_or-replicate, get_or_past, length-replicate}
use Rattle.std.proofs.lemmas.Bool.{cases_eq, cases_lt, cases_Bool, lt-ltb, ltb-true, and_from, and_parts, le-leb, leb-true, cond-true, cond-false, cond_both}
use Rattle.bank.specs.Tables.{put, peek, poke}
use Rattle.bank.specs.Model.{BankState, give_back, write}
use Rattle.bank.specs.Sound.{Proper, Sound}
use Rattle.bank.proofs.Puts.{put_at, put_same, put_other}
use Rattle.bank.proofs.Soundness.{reset_sound}
use Rattle.banks.specs.declared.spares.Spares.{Spares}
use Rattle.banks.specs.Memory.{whole_frames, lane_frames, woven, cleared, framed, place}
use Rattle.banks.specs.Chain.{chain}
use Rattle.banks.specs.Spares.{marked, link, listed, taken}
use Rattle.banks.specs.Frames.{bank_of, placed, fresh, flat_bank, lane_bank}
use Rattle.banks.proofs.Chains.{chain_past, chain_blocked, chain_goes, chain_unlinked, chain_first, chain-rises}
use Rattle.banks.proofs.Stretches.{framed-poke, framed-clear, framed-peek, whole-few, lane_few, length-cleared, get_or-cleared}

-- a list with one element set, as a function from places
pub get_or-put : {A : Type 0} (xs : List A) (i : ℕ) (v d : A) → i < length xs → (λ k. get_or (set xs i v) k d) ≡ put (λ k. get_or xs k d) i v
get_or-put xs i v d l =
    fun_ext (λ k. ⊎_elim
    (λ (same : k ≡ i). ap (λ q. get_or (set xs i v) q d) same ∙
    (get_or-set_same xs i v d l ∙ sym (ap (put (λ q. get_or xs q d) i v) same ∙ put_same (λ q. get_or xs q d) i v)))
    (λ (differ : k ≡ i → ⊥). get_or-set_other xs i k v d differ ∙ sym (put_other (λ q. get_or xs q d) i v k differ))
    (cases_eq k i))

-- the links with one of them set: which frames are out then, and what comes after each
marked-put : (n : ℕ) (links : List (Option ℕ)) (f : ℕ) (v : Option ℕ) → f < n → f < length links → (λ q. ltb q n && is_none (get_or (set links f v) q (Some 0))) ≡ put (λ q. ltb q n && is_none (get_or links q (Some 0))) f (is_none v)
marked-put n links f v l h =
    fun_ext (λ q. ⊎_elim
    (λ (same : q ≡ f).
    let here : get_or (set links f v) q (Some 0) ≡ v = ap (λ p. get_or (set links f v) p (Some 0)) same ∙ get_or-set_same links f v (Some 0) h in
    let low : ltb q n ≡ true = lt-ltb q n (omega arith) in
    ap (λ t. t && is_none (get_or (set links f v) q (Some 0))) low ∙
    (ap is_none here ∙ sym (put_at (λ p. ltb p n && is_none (get_or links p (Some 0))) f (is_none v) q same)))
    (λ (differ : q ≡ f → ⊥). ap (λ o. ltb q n && is_none o) (get_or-set_other links f q v (Some 0) differ) ∙
    sym (put_other (λ p. ltb p n && is_none (get_or links p (Some 0))) f (is_none v) q differ))
    (cases_eq q f))

linked-put : (links : List (Option ℕ)) (f : ℕ) (v : Option ℕ) → f < length links → (λ q. unwrap_or (get_or (set links f v) q (Some 0)) 0) ≡ put (λ q. unwrap_or (get_or links q (Some 0)) 0) f (unwrap_or v 0)
linked-put links f v h =
    fun_ext (λ q. ⊎_elim
    (λ (same : q ≡ f). ap (λ p. unwrap_or (get_or (set links f v) p (Some 0)) 0) same ∙
    (ap (λ o. unwrap_or o 0) (get_or-set_same links f v (Some 0) h) ∙
    sym (put_at (λ p. unwrap_or (get_or links p (Some 0)) 0) f (unwrap_or v 0) q same)))
    (λ (differ : q ≡ f → ⊥). ap (λ o. unwrap_or o 0) (get_or-set_other links f q v (Some 0) differ) ∙
    sym (put_other (λ p. unwrap_or (get_or links p (Some 0)) 0) f (unwrap_or v 0) q differ))
    (cases_eq q f))

-- a frame that is out is one of the bank's
pub marked_below : (n : ℕ) (s : Spares) (f : ℕ) → marked n s f ≡ true → f < n
marked_below n s f on = ltb-true f n (and_parts (ltb f n) (is_none (get_or s.links f (Some 0))) on).0

-- of marks that are all off, none is on
get_or-unmarked : (n f : ℕ) → get_or (replicate n false) f false ≡ false
get_or-unmarked n f =
    ⊎_elim (λ (l : f < n). get_or-replicate n f false false l)
    (λ (h : n ≤ f). get_or_past (replicate n false) f false (omega (arith, length-replicate n false)))
    (cases_lt f n)

-- opening
pub opening-marks : (n : ℕ) (links : List (Option ℕ)) → length links ≡ 64 → ((k : ℕ) → k < 64 → get_or links k (Some 0) ≡ Some (k + 1)) → marked n (record { head = 0; links = links }) ≡ (λ f. false)
opening-marks n links long up =
    fun_ext (λ f. elim (ltb f n) as (λ t. (t && is_none (get_or links f (Some 0))) ≡ false) [ true ↦ linked f | false ↦ refl ])
  where
    linked : (f : ℕ) → is_none (get_or links f (Some 0)) ≡ false
    linked f =
        ⊎_elim (λ (l : f < 64). ap is_none (up f l))
        (λ (h : 64 ≤ f). ap is_none (get_or_past links f (Some 0) (omega arith)))
        (cases_lt f 64)

pub opening_list : (n : ℕ) (links : List (Option ℕ)) → n ≤ 64 → length links ≡ 64 → ((k : ℕ) → k < 64 → get_or links k (Some 0) ≡ Some (k + 1)) → listed n (record { head = 0; links = links }) ≡ range_with_len 0 n
opening_list n links few long up =
    chain-rises n (λ f. ltb f n && is_none (get_or links f (Some 0))) (λ k. unwrap_or (get_or links k (Some 0)) 0)
    (λ f. ap (λ (m : ℕ → Bool). m f) (opening-marks n links long up))
    (λ k l. ap (λ o. unwrap_or o 0) (up k (omega arith)))

-- taking where none is spare
taken_none : (l : List ℕ) (out : ℕ → Bool) → l ≡ [] → ◌≡◌ {A = Result ℕ Refusal × List ℕ × (ℕ → Bool)} (Err Frames, l, out) (taken l out)
taken_none [] out e = refl
taken_none (x ∷ l) out e = cc

pub taken_past : (n : ℕ) (s : Spares) → n ≤ s.head → ◌≡◌ {A = Result ℕ Refusal × List ℕ × (ℕ → Bool)} (Err Frames, listed n s, marked n s) (taken (listed n s) (marked n s))
taken_past n s h = taken_none (listed n s) (marked n s) (chain_past n (marked n s) (link s) s.head h)

pub taken_out : (n : ℕ) (s : Spares) (d : Option ℕ) → s.head < n → s.head < length s.links → get_or s.links s.head d ≡ None → ◌≡◌ {A = Result ℕ Refusal × List ℕ × (ℕ → Bool)} (Err Frames, listed n s, marked n s) (taken (listed n s) (marked n s))
taken_out n s d l inside h =
    let none : get_or s.links s.head (Some 0) ≡ None = sym (get_or_default s.links s.head d (Some 0) inside) ∙ h in
    let on : marked n s s.head ≡ true = and_from (ltb s.head n) (is_none (get_or s.links s.head (Some 0))) (lt-ltb s.head n l) (ap is_none none) in
    taken_none (listed n s) (marked n s) (chain_blocked n (marked n s) (link s) s.head on)

-- taking the first spare frame
taking : (n head next : ℕ) (links : List (Option ℕ)) → head < n → head < length links → get_or links head (Some 0) ≡ Some next → ◌≡◌ {A = Result ℕ Refusal × List ℕ × (ℕ → Bool)} (Ok head, listed n (record { head = next; links = set links head None }), marked n (record { head = next; links = set links head None })) (taken (listed n (record { head = head; links = links })) (marked n (record { head = head; links = links })))
taking n head next links l h is =
    let marks : ℕ → Bool = λ q. ltb q n && is_none (get_or links q (Some 0)) in
    let after : ℕ → ℕ = λ q. unwrap_or (get_or links q (Some 0)) 0 in
    let off : marks head ≡ false = ap (λ t. t && is_none (get_or links head (Some 0))) (lt-ltb head n l) ∙ ap is_none is in
    let follows : after head ≡ next = ap (λ o. unwrap_or o 0) is in
    let goes : chain n marks after head ≡ head ∷ chain n (put marks head true) after next =
    chain_goes n marks after head l off ∙ ap (λ k. head ∷ chain n (put marks head true) after k) follows in
    let cut : chain n (put marks head true) (put after head 0) next ≡ chain n (put marks head true) after next =
    chain_unlinked n (put marks head true) after head 0 next (put_same marks head true) in
    let made : (ℕ → Bool) → (ℕ → ℕ) → Result ℕ Refusal × List ℕ × (ℕ → Bool) = λ m k. (Ok head, chain n m k next, m) in
    ap (λ (m : ℕ → Bool). made m (λ q. unwrap_or (get_or (set links head None) q (Some 0)) 0)) (marked-put n links head None l h) ∙
    (ap (made (put marks head true)) (linked-put links head None h) ∙
    (ap (λ rest. (Ok head, rest, put marks head true)) cut ∙ sym (ap (λ rest. taken rest marks) goes)))

pub taken_next : (n : ℕ) (s : Spares) (f next : ℕ) (d : Option ℕ) → f ≡ s.head → s.head < n → s.head < length s.links → get_or s.links s.head d ≡ Some next → ◌≡◌ {A = Result ℕ Refusal × List ℕ × (ℕ → Bool)} (Ok f, listed n (record { head = next; links = set s.links s.head None }), marked n (record { head = next; links = set s.links s.head None })) (taken (listed n s) (marked n s))
taken_next n s f next d e l inside is =
    rw e (taking n s.head next s.links l inside (sym (get_or_default s.links s.head d (Some 0) inside) ∙ is))

-- putting a frame first that was out
pub first_list : (n f head : ℕ) (links : List (Option ℕ)) → f < length links → marked n (record { head = head; links = links }) f ≡ true → listed n (record { head = f; links = set links f (Some head) }) ≡ f ∷ listed n (record { head = head; links = links })
first_list n f head links h on =
    let marks : ℕ → Bool = λ q. ltb q n && is_none (get_or links q (Some 0)) in
    let after : ℕ → ℕ = λ q. unwrap_or (get_or links q (Some 0)) 0 in
    let l : f < n = marked_below n (record { head = head; links = links }) f on in
    ap (λ (m : ℕ → Bool). chain n m (λ q. unwrap_or (get_or (set links f (Some head)) q (Some 0)) 0) f) (marked-put n links f (Some head) l h) ∙
    (ap (λ (k : ℕ → ℕ). chain n (put marks f false) k f) (linked-put links f (Some head) h) ∙
    chain_first n marks after f head l on)

-- what is known of a stretch that has a place
pub record Stretch (n : ℕ) (s : Spares) (f o k at : ℕ) : Type 0 where
  pub low : f < n
  pub on : marked n s f ≡ true
  pub fits : o + k ≤ 1024
  pub begins : at ≡ place f o

pub placed_at : (n : ℕ) (s : Spares) (f o k at : ℕ) → Ok at ≡ placed n s f o k → Stretch n s f o k at
placed_at n s f o k at e =
    ⊎_elim
    (λ (fits : leb (o + k) 1024 ≡ true). ⊎_elim
    (λ (on : marked n s f ≡ true).
    let here : Ok at ≡ Ok (place f o) = e ∙ (cond-true (leb (o + k) 1024) _ _ fits ∙ cond-true (marked n s f) _ _ on) in
    record { low = marked_below n s f on; on = on; fits = leb-true (o + k) 1024 fits; begins = cc })
    (λ (off : marked n s f ≡ false).
    let none : Ok at ≡ Err NotOut = e ∙ (cond-true (leb (o + k) 1024) _ _ fits ∙ cond-false (marked n s f) _ _ off) in cc)
    (cases_Bool (marked n s f)))
    (λ (past : leb (o + k) 1024 ≡ false).
    let none : Ok at ≡ Err Edge = e ∙ cond-false (leb (o + k) 1024) _ _ past in cc)
    (cases_Bool (leb (o + k) 1024))

-- the bank after a frame came back
pub bank-give_back : (n n' r : ℕ) (byte byte' : ℕ → ℕ) (s t : Spares) (f : ℕ) → r ≡ n → n' ≡ n → true ≡ marked r s f → byte' ≡ poke byte (place f 0) (replicate 1024 0) → listed r t ≡ f ∷ listed r s → marked r t ≡ put (marked r s) f false → ◌≡◌ {A = Result (Unit {0}) Refusal × BankState} (Ok tt, bank_of n' byte' t) (give_back f (bank_of n byte s))
bank-give_back n n' r byte byte' s t f e e' on bytes list marks =
    let on_n : marked n s f ≡ true = subst (λ k. marked k s f ≡ true) e (sym on) in
    let list_n : listed n t ≡ f ∷ listed n s = subst (λ k. listed k t ≡ f ∷ listed k s) e list in
    let marks_n : marked n t ≡ put (marked n s) f false = subst (λ k. marked k t ≡ put (marked k s) f false) e marks in
    let bytes_n : framed n byte' ≡ put (framed n byte) f (λ i. 0) = ap (framed n) bytes ∙ framed-clear n byte f (marked_below n s f on_n) in
    ap (λ k. (Ok tt, bank_of k byte' t)) e' ∙
    ((λ i. (Ok tt, record { size = n; opening = range_with_len 0 n; spare = list_n i; out = marks_n i; bytes = bytes_n i })) ∙
    sym (cond-true (marked n s f) _ _ on_n))

-- the same, where the frame's stretch has a place
pub give_back_placed : (n n' : ℕ) (byte byte' : ℕ → ℕ) (s t : Spares) (f at : ℕ) → Stretch n s f 0 1024 at → n' ≡ n → byte' ≡ poke byte at (replicate 1024 0) → listed n t ≡ f ∷ listed n s → marked n t ≡ put (marked n s) f false → ◌≡◌ {A = Result (Unit {0}) Refusal × BankState} (Ok tt, bank_of n' byte' t) (give_back f (bank_of n byte s))
give_back_placed n n' byte byte' s t f at here e' bytes list marks =
    bank-give_back n n' n byte byte' s t f refl e' (sym here.on) (bytes ∙ ap (λ p. poke byte p (replicate 1024 0)) here.begins) list marks

-- the bank after a write
pub bank-write : (n n' : ℕ) (byte byte' : ℕ → ℕ) (s : Spares) (f o at : ℕ) (buffer : List ℕ) → Stretch n s f o (length buffer) at → n' ≡ n → byte' ≡ poke byte at buffer → ◌≡◌ {A = Result (Unit {0}) Refusal × BankState} (Ok tt, bank_of n' byte' s) (write f o buffer (bank_of n byte s))
bank-write n n' byte byte' s f o at buffer here e' bytes =
    let written : framed n byte' ≡ put (framed n byte) f (poke (framed n byte f) o buffer) =
    ap (framed n) (bytes ∙ ap (λ p. poke byte p buffer) here.begins) ∙ framed-poke n byte f o buffer here.low here.fits in
    ap (λ k. (Ok tt, bank_of k byte' s)) e' ∙
    ((λ i. (Ok tt, record { size = n; opening = range_with_len 0 n; spare = listed n s; out = marked n s; bytes = written i })) ∙
    sym (cond-true (leb (o + length buffer) 1024) _ _ (le-leb (o + length buffer) 1024 here.fits) ∙ cond-true (marked n s f) _ _ here.on))

-- a read of a stretch that has a place
pub read_placed : (n : ℕ) (byte : ℕ → ℕ) (s : Spares) (f o k at : ℕ) → Ok at ≡ placed n s f o k → peek (framed n byte f) o k ≡ peek byte at k
read_placed n byte s f o k at answer =
    let here = placed_at n s f o k at answer in
    sym (ap (λ p. peek byte p k) here.begins ∙ framed-peek n byte f o k here.low here.fits)

-- the bank after a write of a stretch that has a place
pub write_placed : (n n' : ℕ) (byte byte' : ℕ → ℕ) (s : Spares) (f o at : ℕ) (buffer : List ℕ) → Ok at ≡ placed n s f o (length buffer) → n' ≡ n → byte' ≡ poke byte at buffer → ◌≡◌ {A = Result (Unit {0}) Refusal × BankState} (Ok tt, bank_of n' byte' s) (write f o buffer (bank_of n byte s))
write_placed n n' byte byte' s f o at buffer answer same bytes =
    bank-write n n' byte byte' s f o at buffer (placed_at n s f o (length buffer) at answer) same bytes

-- rising numbers are proper
counting_above : (k a f : ℕ) → Memᴰ f (range_with_len a k) → a ≤ f
counting_above zero a f m = absurd (mathlib.Core.List.Memᴰ.not-nil m)
counting_above (suc k) a f m =
    ⊎_elim (λ (same : f ≡ a). omega arith)
    (λ (later : Memᴰ f (range_with_len (a + 1) k)). let h = counting_above k (a + 1) f later in omega arith)
    (mathlib.Core.List.Memᴰ.cases_cons m)

pub counting_proper : (n k a : ℕ) → a + k ≤ n → Proper n (range_with_len a k)
counting_proper n zero a h = tt
counting_proper n (suc k) a h =
    (omega arith, (λ m. let h = counting_above k (a + 1) a m in omega arith), counting_proper n k (a + 1) (omega arith))

-- a bank that is made over cleared frames
pub bank-fresh : (n m : ℕ) (byte : ℕ → ℕ) (s : Spares) → m ≡ n → n ≤ 64 → ((f i : ℕ) → f < n → i < 1024 → byte (place f i) ≡ 0) → ((k : ℕ) → k ≤ 64 → listed k s ≡ range_with_len 0 k) → ((k : ℕ) → marked k s ≡ (λ f. false)) → bank_of m byte s ≡ fresh n
bank-fresh n m byte s e few clear list none =
    let zeros : framed n byte ≡ (λ f i. 0) =
    fun_ext (λ f. fun_ext (λ i. cond_both (ltb f n && ltb i 1024) (byte (place f i)) 0 (λ v. v ≡ 0)
    (λ (inside : (ltb f n && ltb i 1024) ≡ true).
    let parts = and_parts (ltb f n) (ltb i 1024) inside in
    clear f i (ltb-true f n parts.0) (ltb-true i 1024 parts.1))
    (λ outside. refl))) in
    ap (λ k. bank_of k byte s) e ∙
    (λ i. record { size = n; opening = range_with_len 0 n; spare = list n few i; out = none n i; bytes = zeros i })

pub fresh_sound : (n : ℕ) → n ≤ 64 → Sound (fresh n)
fresh_sound n few = reset_sound (fresh n) few (counting_proper n n 0 (omega arith))

pub flat_fresh : (xs ys : List ℕ) (s : Spares) → ys ≡ cleared (whole_frames (length xs)) xs → ((k : ℕ) → k ≤ 64 → listed k s ≡ range_with_len 0 k) → ((k : ℕ) → marked k s ≡ (λ f. false)) → flat_bank ys s ≡ fresh (whole_frames (length xs))
flat_fresh xs ys s e list none =
    let n = whole_frames (length xs) in
    bank-fresh n (whole_frames (length ys)) (λ k. get_or ys k 0) s (ap (λ l. whole_frames (length l)) e ∙ ap whole_frames (length-cleared n xs))
    (whole-few (length xs))
    (λ f i l h. ap (λ m. get_or m (place f i) 0) e ∙ get_or-cleared n xs (place f i) (omega arith)) list none

pub lane_fresh : (xs ys xs' ys' : List ℕ) (s : Spares) → xs' ≡ cleared (lane_frames (length xs) (length ys)) xs → ys' ≡ cleared (lane_frames (length xs) (length ys)) ys → ((k : ℕ) → k ≤ 64 → listed k s ≡ range_with_len 0 k) → ((k : ℕ) → marked k s ≡ (λ f. false)) → lane_bank xs' ys' s ≡ fresh (lane_frames (length xs) (length ys))
lane_fresh xs ys xs' ys' s e e' list none =
    let n = lane_frames (length xs) (length ys) in
    let same : length xs' ≡ length xs = ap length e ∙ length-cleared n xs in
    let same' : length ys' ≡ length ys = ap length e' ∙ length-cleared n ys in
    bank-fresh n (lane_frames (length xs') (length ys')) (woven xs' ys') s
    (ap (λ k. lane_frames k (length ys')) same ∙ ap (lane_frames (length xs)) same')
    (lane_few (length xs) (length ys))
    (λ f i l h.
    cond_both (eqb (place f i % 2) 0) (get_or xs' (place f i / 2) 0) (get_or ys' (place f i / 2) 0) (λ v. v ≡ 0)
    (λ even. ap (λ m. get_or m (place f i / 2) 0) e ∙ get_or-cleared n xs (place f i / 2) (omega arith))
    (λ odd. ap (λ m. get_or m (place f i / 2) 0) e' ∙ get_or-cleared n ys (place f i / 2) (omega arith)))
    list none
