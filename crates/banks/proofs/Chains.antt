-- The walk along links: how it begins, goes on and ends.
use Rattle.std.proofs.Common.{◌≡◌, ℕ, zero, suc, ◌+◌, ◌<◌, ◌≤◌, Bool, true, false, cond, not, ◌&&◌, ltb, [], ◌∷◌, length, sym, refl, ap, ◌∙◌, ⊎_elim, arith}
use mathlib.Core.Path.{fun_ext}
use Rattle.std.specs.List.{range_with_len}
use Rattle.std.proofs.lemmas.Bool.{cases_eq, cases_Bool, both_ways, lt-ltb, le-ltb, and_left, and_right, and_from, and_parts, not_from_false, not_from_true, not-true, cond-true, cond-false}
use Rattle.bank.specs.Tables.{put}
use Rattle.bank.proofs.Puts.{put_same, put_other}
use Rattle.banks.specs.Chain.{open_places, walk, chain}

-- open places only depend on what is blocked below n
pub open_same : (n : ℕ) (b c : ℕ → Bool) → ((k : ℕ) → k < n → b k ≡ c k) → open_places n b ≡ open_places n c
unfolding open_places
open_same zero b c h = refl
open_same (suc n) b c h =
    let here : b n ≡ c n = h n (omega arith) in
    let below : open_places n b ≡ open_places n c = open_same n b c (λ k l. h k (omega arith)) in cc

-- to block one more place takes one from the open ones
pub open_block : (n : ℕ) (b : ℕ → Bool) (x : ℕ) → x < n → b x ≡ false → open_places n b ≡ suc (open_places n (put b x true))
unfolding open_places
open_block zero b x l e = absurd (omega arith)
open_block (suc n) b x l e =
    ⊎_elim
    (λ (same : n ≡ x).
    let p : put b x true n ≡ true = ap (put b x true) same ∙ put_same b x true in
    let q : b n ≡ false = ap b same ∙ e in
    let r : open_places n (put b x true) ≡ open_places n b =
    open_same n (put b x true) b (λ k h. put_other b x true k (omega arith)) in
    let s : ◌≡◌ {A = ℕ} (cond (put b x true n) 0 1) 0 = ap (λ v. cond {A = ℕ} v 0 1) p in
    let t : ◌≡◌ {A = ℕ} (cond (b n) 0 1) 1 = ap (λ v. cond {A = ℕ} v 0 1) q in omega arith)
    (λ (differ : n ≡ x → ⊥).
    let p : put b x true n ≡ b n = put_other b x true n differ in
    let r : open_places n b ≡ suc (open_places n (put b x true)) = open_block n b x (omega arith) e in
    let s : ◌≡◌ {A = ℕ} (cond (put b x true n) 0 1) (cond (b n) 0 1) = ap (λ v. cond {A = ℕ} v 0 1) p in omega arith)
    (cases_eq n x)

pub open_none : (n : ℕ) (b : ℕ → Bool) → ((k : ℕ) → b k ≡ false) → open_places n b ≡ n
unfolding open_places
open_none zero b h = refl
open_none (suc n) b h =
    let s : ◌≡◌ {A = ℕ} (cond (b n) 0 1) 1 = ap (λ v. cond {A = ℕ} v 0 1) (h n) in
    let r : open_places n b ≡ n = open_none n b h in omega arith

open_le : (n : ℕ) (b : ℕ → Bool) → open_places n b ≤ n
unfolding open_places
open_le zero b = omega arith
open_le (suc n) b =
    let r : open_places n b ≤ n = open_le n b in
    let s : cond (b n) 0 1 ≤ 1 =
    elim (b n) as (λ v. cond v 0 1 ≤ 1) [ true ↦ omega arith | false ↦ omega arith ] in omega arith

length-walk : (steps n : ℕ) (b : ℕ → Bool) (next : ℕ → ℕ) (x : ℕ) → length (walk steps n b next x) ≤ steps
unfolding walk
length-walk zero n b next x = omega arith
length-walk (suc steps) n b next x =
    let rest = length-walk steps n (put b x true) next (next x) in
    elim (ltb x n && not (b x)) as
    (λ v. length (cond v (x ∷ walk steps n (put b x true) next (next x)) []) ≤ suc steps)
    [ true ↦ omega arith | false ↦ omega arith ]

pub length-chain : (n : ℕ) (b : ℕ → Bool) (next : ℕ → ℕ) (x : ℕ) → length (chain n b next x) ≤ n
unfolding chain
length-chain n b next x =
    let short = length-walk (open_places n b) n b next x in omega (arith, open_le n b)

walk_ends : (steps n : ℕ) (b : ℕ → Bool) (next : ℕ → ℕ) (x : ℕ) → (ltb x n && not (b x)) ≡ false → walk steps n b next x ≡ []
unfolding walk
walk_ends zero n b next x e = refl
walk_ends (suc steps) n b next x e = cond-false _ _ _ e

pub chain_past : (n : ℕ) (b : ℕ → Bool) (next : ℕ → ℕ) (x : ℕ) → n ≤ x → chain n b next x ≡ []
unfolding chain
chain_past n b next x h =
    walk_ends (open_places n b) n b next x (and_left (ltb x n) (not (b x)) (le-ltb x n h))

pub chain_blocked : (n : ℕ) (b : ℕ → Bool) (next : ℕ → ℕ) (x : ℕ) → b x ≡ true → chain n b next x ≡ []
unfolding chain
chain_blocked n b next x h =
    walk_ends (open_places n b) n b next x (and_right (ltb x n) (not (b x)) (not_from_true (b x) h))

-- one step of the walk
pub chain_goes : (n : ℕ) (b : ℕ → Bool) (next : ℕ → ℕ) (x : ℕ) → x < n → b x ≡ false → chain n b next x ≡ x ∷ chain n (put b x true) next (next x)
unfolding chain walk
chain_goes n b next x l e =
    ap (λ steps. walk steps n b next x) (open_block n b x l e) ∙
    cond-true _ _ _ (and_from (ltb x n) (not (b x)) (lt-ltb x n l) (not_from_false (b x) e))

-- the link of a blocked place is never followed
walk_unlinked : (steps n : ℕ) (b : ℕ → Bool) (next : ℕ → ℕ) (f v x : ℕ) → b f ≡ true → walk steps n b (put next f v) x ≡ walk steps n b next x
unfolding walk
walk_unlinked zero n b next f v x e = refl
walk_unlinked (suc steps) n b next f v x e =
    ⊎_elim
    (λ (on : (ltb x n && not (b x)) ≡ true).
    let clear : b x ≡ false = not-true (b x) (and_parts (ltb x n) (not (b x)) on).1 in
    let differ : x ≡ f → ⊥ = λ same. both_ways (b x) clear (ap b same ∙ e) in
    let still : put b x true f ≡ true = put_other b x true f (λ same. differ (sym same)) ∙ e in
    let link : put next f v x ≡ next x = put_other next f v x differ in
    let rest : walk steps n (put b x true) (put next f v) (next x) ≡ walk steps n (put b x true) next (next x) =
    walk_unlinked steps n (put b x true) next f v (next x) still in
    let all : walk steps n (put b x true) (put next f v) (put next f v x) ≡ walk steps n (put b x true) next (next x) =
    ap (walk steps n (put b x true) (put next f v)) link ∙ rest in
    ap (λ rest. cond (ltb x n && not (b x)) (x ∷ rest) []) all)
    (λ (off : (ltb x n && not (b x)) ≡ false). cond-false _ _ _ off ∙ sym (cond-false _ _ _ off))
    (cases_Bool (ltb x n && not (b x)))

pub chain_unlinked : (n : ℕ) (b : ℕ → Bool) (next : ℕ → ℕ) (f v x : ℕ) → b f ≡ true → chain n b (put next f v) x ≡ chain n b next x
unfolding chain
chain_unlinked n b next f v x e = walk_unlinked (open_places n b) n b next f v x e

-- a blocked place that is opened, linked to the walk's start and made the start itself
pub chain_first : (n : ℕ) (b : ℕ → Bool) (next : ℕ → ℕ) (f x : ℕ) → f < n → b f ≡ true → chain n (put b f false) (put next f x) f ≡ f ∷ chain n b next x
unfolding chain
chain_first n b next f x l e =
    let back : put (put b f false) f true ≡ b =
    fun_ext (λ q. ⊎_elim
    (λ (same : q ≡ f). ap (put (put b f false) f true) same ∙ (put_same (put b f false) f true ∙ (sym e ∙ ap b (sym same))))
    (λ (differ : q ≡ f → ⊥). put_other (put b f false) f true q differ ∙ put_other b f false q differ)
    (cases_eq q f)) in
    let go = chain_goes n (put b f false) (put next f x) f l (put_same b f false) in
    let link : chain n (put (put b f false) f true) (put next f x) (put next f x f) ≡ chain n b (put next f x) x =
    ap (λ c. chain n c (put next f x) (put next f x f)) back ∙ ap (chain n b (put next f x)) (put_same next f x) in
    go ∙ ap (λ rest. f ∷ rest) (link ∙ walk_unlinked (open_places n b) n b next f x x e)

-- where each place links to the next number, the walk rises
walk-rises : (steps n : ℕ) (b : ℕ → Bool) (next : ℕ → ℕ) (x : ℕ) → x + steps ≡ n → ((k : ℕ) → x ≤ k → b k ≡ false) → ((k : ℕ) → k < n → next k ≡ k + 1) → walk steps n b next x ≡ range_with_len x steps
unfolding walk
walk-rises zero n b next x e clear up = refl
walk-rises (suc steps) n b next x e clear up =
    let low : x < n = omega arith in
    let link : next x ≡ x + 1 = up x low in
    let rest : walk steps n (put b x true) next (x + 1) ≡ range_with_len (x + 1) steps =
    walk-rises steps n (put b x true) next (x + 1) (omega arith)
    (λ k h. put_other b x true k (omega arith) ∙ clear k (omega arith)) up in
    cond-true _ _ _ (and_from (ltb x n) (not (b x)) (lt-ltb x n low) (not_from_false (b x) (clear x (omega arith)))) ∙
    ap (λ rest. x ∷ rest) (ap (walk steps n (put b x true) next) link ∙ rest)

pub chain-rises : (n : ℕ) (b : ℕ → Bool) (next : ℕ → ℕ) → ((k : ℕ) → b k ≡ false) → ((k : ℕ) → k < n → next k ≡ k + 1) → chain n b next 0 ≡ range_with_len 0 n
unfolding chain
chain-rises n b next clear up =
    ap (λ steps. walk steps n b next 0) (open_none n b clear) ∙
    walk-rises n n b next 0 (omega arith) (λ k h. clear k) up
