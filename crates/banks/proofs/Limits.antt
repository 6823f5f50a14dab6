-- A quota's steps, from those of the bank below.
use Rattle.std.proofs.Common.{◌≡◌, ℕ, zero, suc, ◌+◌, ◌<◌, ◌≤◌, min, Bool, true, false, cond, ltb, List, [], ◌∷◌, length, take, Ok, Err, Result, sym, refl, ap, ◌∙◌, subst, ⊎_elim, add-one, arith}
use mathlib.Core.List.{Memᴰ}
use Rattle.refusal.specs.declared.Refusal.{Refusal}
use Rattle.refusal.specs.declared.Refusal.TheVariants.{Frames, NotOut}
use Rattle.std.proofs.lemmas.List.{take_all}
use Rattle.std.proofs.lemmas.Bool.{cases_eq, cases_lt, cases_Bool, lt-ltb, le-ltb, cond-true, cond-false}
use Rattle.bank.specs.Tables.{put}
use Rattle.bank.specs.Model.{BankState, granting, grant, returned, give_back}
use Rattle.bank.specs.Sound.{Proper, Sound}
use Rattle.banks.specs.declared.quota.Quota.{Quota}
use Rattle.bank.proofs.Puts.{put_at, put_same, put_other}
use Rattle.bank.proofs.Soundness.{proper-below, proper-take, member_take}
use Rattle.banks.specs.Chain.{open_places}
use Rattle.banks.proofs.Chains.{open_same, open_block, open_none}
use Rattle.banks.specs.Quota.{limited, one_more, quota_of, marks_below, Balanced, KeepsQuota, QuotaSound}

-- an accepted answer is no refusal
accepted_refused : {A : Type 0} {C : Type 0} (x : A) (e : Refusal) (m m' : BankState) → ◌≡◌ {A = Result A Refusal × BankState} (Ok x, m') (Err e, m) → C
accepted_refused {A} x e m m' h =
    let first : ◌≡◌ {A = Result A Refusal} (Ok x) (Err e) = ap (λ (y : Result A Refusal × BankState). y.0) h in cc

-- a grant below that was accepted, with one more left of the limit, and one that was refused
granted : (limit n : ℕ) (l : List ℕ) (m m' : BankState) (f : ℕ) → ◌≡◌ {A = Result ℕ Refusal × BankState} (Ok f, m') (granting l m) → ◌≡◌ {A = Result ℕ Refusal × BankState} (Ok f, limited limit n m') (granting (take (suc n) l) (limited limit (suc n) m))
granted limit n [] m m' f e = accepted_refused f Frames m m' e
granted limit n (x ∷ rest) m m' f e = ap (λ (y : Result ℕ Refusal × BankState). (y.0, limited limit n y.1)) e

refused : (limit n : ℕ) (l : List ℕ) (m m' : BankState) (r : Refusal) → ◌≡◌ {A = Result ℕ Refusal × BankState} (Err r, m') (granting l m) → ◌≡◌ {A = Result ℕ Refusal × BankState} (Err r, limited limit n m') (granting (take n l) (limited limit n m))
refused limit zero [] m m' r e = ap (λ (y : Result ℕ Refusal × BankState). (y.0, limited limit zero y.1)) e
refused limit (suc n) [] m m' r e = ap (λ (y : Result ℕ Refusal × BankState). (y.0, limited limit (suc n) y.1)) e
refused limit n (x ∷ rest) m m' r e =
    accepted_refused x r m' _ (sym e)

pub limited-grant_refused : (limit left : ℕ) (m m' : BankState) (r : Refusal) → ◌≡◌ {A = Result ℕ Refusal × BankState} (Err r, m') (grant m) → ◌≡◌ {A = Result ℕ Refusal × BankState} (Err r, limited limit left m') (grant (limited limit left m))
limited-grant_refused limit left m m' r e = refused limit left m.spare m m' r e

-- a frame that came back is first in the front of the spare list too
take-one_more : (left f : ℕ) (spare : List ℕ) → length spare ≤ 64 → take (one_more left) (f ∷ spare) ≡ f ∷ take left spare
take-one_more left f spare short =
    ⊎_elim
    (λ (low : left < 255).
    ap (λ k. take k (f ∷ spare)) (cond-true (ltb left 255) (left + 1) left (lt-ltb left 255 low) ∙ add-one left))
    (λ (high : 255 ≤ left).
    ap (λ k. take k (f ∷ spare)) (cond-false (ltb left 255) (left + 1) left (le-ltb left 255 high)) ∙
    (take_all left (f ∷ spare) (omega arith) ∙ sym (ap (λ l. f ∷ l) (take_all left spare (omega arith)))))
    (cases_lt left 255)

-- how a frame came back below
came_back : (m m' : BankState) (f : ℕ) → ◌≡◌ {A = Result (Unit {0}) Refusal × BankState} (Ok tt, m') (give_back f m) → (m.out f ≡ true) × (m' ≡ returned f m)
came_back m m' f e =
    ⊎_elim
    (λ (on : m.out f ≡ true).
    (on, ap (λ (y : Result (Unit {0}) Refusal × BankState). y.1) (e ∙ cond-true (m.out f) (Ok tt, returned f m) (Err NotOut, m) on)))
    (λ (off : m.out f ≡ false). accepted_refused tt NotOut m m' (e ∙ cond-false (m.out f) (Ok tt, returned f m) (Err NotOut, m) off))
    (cases_Bool (m.out f))

stayed : (m m' : BankState) (f : ℕ) (r : Refusal) → ◌≡◌ {A = Result (Unit {0}) Refusal × BankState} (Err r, m') (give_back f m) → (m.out f ≡ false) × (◌≡◌ {A = Result (Unit {0}) Refusal × BankState} (Err r, m') (Err NotOut, m))
stayed m m' f r e =
    ⊎_elim
    (λ (on : m.out f ≡ true). accepted_refused tt r m' (returned f m) (sym (e ∙ cond-true (m.out f) (Ok tt, returned f m) (Err NotOut, m) on)))
    (λ (off : m.out f ≡ false). (off, e ∙ cond-false (m.out f) (Ok tt, returned f m) (Err NotOut, m) off))
    (cases_Bool (m.out f))

pub limited-give_back : (limit left left' : ℕ) (m m' : BankState) (f : ℕ) → left' ≡ one_more left → length m.spare ≤ 64 → ◌≡◌ {A = Result (Unit {0}) Refusal × BankState} (Ok tt, m') (give_back f m) → ◌≡◌ {A = Result (Unit {0}) Refusal × BankState} (Ok tt, limited limit left' m') (give_back f (limited limit left m))
limited-give_back limit left left' m m' f more short e =
    let back = came_back m m' f e in
    let spare : take left' (f ∷ m.spare) ≡ f ∷ take left m.spare =
    ap (λ k. take k (f ∷ m.spare)) more ∙ take-one_more left f m.spare short in
    ap (λ k. (Ok tt, limited limit left' k)) back.1 ∙
    ((λ i. (Ok tt, record { size = m.size; opening = take limit m.opening; spare = spare i; out = put m.out f false; bytes = put m.bytes f (λ i. 0) })) ∙
    sym (cond-true (m.out f) _ _ back.0))

pub limited-give_back_refused : (limit left : ℕ) (m m' : BankState) (f : ℕ) (r : Refusal) → ◌≡◌ {A = Result (Unit {0}) Refusal × BankState} (Err r, m') (give_back f m) → ◌≡◌ {A = Result (Unit {0}) Refusal × BankState} (Err r, limited limit left m') (give_back f (limited limit left m))
limited-give_back_refused limit left m m' f r e =
    let as_was = stayed m m' f r e in
    ap (λ (y : Result (Unit {0}) Refusal × BankState). (y.0, limited limit left y.1)) as_was.1 ∙
    sym (cond-false (m.out f) _ _ as_was.0)

-- marks are the places that are not open
marks_open : (n : ℕ) (b : ℕ → Bool) → marks_below n b + open_places n b ≡ n
unfolding marks_below open_places
marks_open zero b = refl
marks_open (suc n) b =
    let rest : marks_below n b + open_places n b ≡ n = marks_open n b in
    let here : ◌≡◌ {A = ℕ} (cond (b n) 1 0 + cond (b n) 0 1) 1 =
    elim (b n) as (λ t. ◌≡◌ {A = ℕ} (cond t 1 0 + cond t 0 1) 1) [ true ↦ refl | false ↦ refl ] in
    omega arith

marks_on : (n : ℕ) (b : ℕ → Bool) (f : ℕ) → f < n → b f ≡ false → marks_below n (put b f true) ≡ marks_below n b + 1
marks_on n b f l off =
    omega (arith, open_block n b f l off, marks_open n b, marks_open n (put b f true))

marks_off : (n : ℕ) (b : ℕ → Bool) (f : ℕ) → f < n → b f ≡ true → marks_below n (put b f false) + 1 ≡ marks_below n b
marks_off n b f l on =
    let again : open_places n (put (put b f false) f true) ≡ open_places n b =
    open_same n (put (put b f false) f true) b (λ k h.
    ⊎_elim
    (λ (same : k ≡ f). put_at (put b f false) f true k same ∙ (sym on ∙ ap b (sym same)))
    (λ (differ : k ≡ f → ⊥). put_other (put b f false) f true k differ ∙ put_other b f false k differ)
    (cases_eq k f)) in
    omega (arith, open_block n (put b f false) f l (put_same b f false), marks_open n b, marks_open n (put b f false))

-- a bank with no frame out
pub marks_none : (n : ℕ) (b : ℕ → Bool) → b ≡ (λ f. false) → marks_below n b ≡ 0
marks_none n b e =
    omega (arith, marks_open n b, open_none n b (λ k. ap (λ (c : ℕ → Bool). c k) e))

balance_granting : (limit left left' : ℕ) (l : List ℕ) (m m' : BankState) (f : ℕ) → m.spare ≡ l → left' + 1 ≡ left → Sound m → Balanced limit left m → ◌≡◌ {A = Result ℕ Refusal × BankState} (Ok f, m') (granting l m) → Balanced limit left' m'
balance_granting limit left left' [] m m' f spare less s b e = accepted_refused f Frames m m' e
balance_granting limit left left' (x ∷ rest) m m' f spare less s b e =
    let member : Memᴰ x m.spare = subst (λ l. Memᴰ x l) (sym spare) (mathlib.Core.List.Memᴰ.head refl) in
    let low : x < m.size = proper-below m.size m.spare x s.spare_proper member in
    let more = marks_on m.size m.out x low (s.spare_in x member) in
    let out : marks_below m'.size m'.out ≡ marks_below m.size (put m.out x true) =
    ap (λ (y : Result ℕ Refusal × BankState). marks_below y.1.size y.1.out) e in
    let small = b.0 in
    let sum = b.1 in (small, omega arith)

balance_refusing : (limit left : ℕ) (l : List ℕ) (m m' : BankState) (r : Refusal) → ◌≡◌ {A = Result ℕ Refusal × BankState} (Err r, m') (granting l m) → Balanced limit left m → Balanced limit left m'
balance_refusing limit left [] m m' r e b =
    subst (Balanced limit left) (sym (ap (λ (y : Result ℕ Refusal × BankState). y.1) e)) b
balance_refusing limit left (x ∷ rest) m m' r e b = accepted_refused x r m' _ (sym e)

pub balance-grant_refused : (limit left : ℕ) (m m' : BankState) (r : Refusal) → ◌≡◌ {A = Result ℕ Refusal × BankState} (Err r, m') (grant m) → Balanced limit left m → Balanced limit left m'
balance-grant_refused limit left m m' r e b = balance_refusing limit left m.spare m m' r e b

pub balance_give_back : (limit left left' : ℕ) (m m' : BankState) (f : ℕ) → left' ≡ min (left + 1) 255 → ◌≡◌ {A = Result (Unit {0}) Refusal × BankState} (Ok tt, m') (give_back f m) → Sound m → Balanced limit left m → Balanced limit left' m'
balance_give_back limit left left' m m' f more e s b =
    let back = came_back m m' f e in
    let less = marks_off m.size m.out f (s.out_below f back.0) back.0 in
    let small = b.0 in
    let sum = b.1 in
    let out : marks_below m'.size m'.out ≡ marks_below m.size (put m.out f false) =
    ap (λ (x : BankState). marks_below x.size x.out) back.1 in
    (small, omega arith)

pub balance-give_back : (limit left left' : ℕ) (m m' : BankState) (f : ℕ) → left' ≡ one_more left → ◌≡◌ {A = Result (Unit {0}) Refusal × BankState} (Ok tt, m') (give_back f m) → Sound m → Balanced limit left m → Balanced limit left' m'
balance-give_back limit left left' m m' f more e s b =
    let small = b.0 in
    let sum = b.1 in
    let capped : one_more left ≡ min (left + 1) 255 =
    ⊎_elim
    (λ (low : left < 255). cond-true (ltb left 255) (left + 1) left (lt-ltb left 255 low) ∙ (let e : left + 1 ≡ min (left + 1) 255 = omega arith in e))
    (λ (high : 255 ≤ left). cond-false (ltb left 255) (left + 1) left (le-ltb left 255 high) ∙ (let e : left ≡ min (left + 1) 255 = omega arith in e))
    (cases_lt left 255) in
    balance_give_back limit left left' m m' f (more ∙ capped) e s b

pub balance-give_back_refused : (limit left : ℕ) (m m' : BankState) (f : ℕ) (r : Refusal) → ◌≡◌ {A = Result (Unit {0}) Refusal × BankState} (Err r, m') (give_back f m) → Balanced limit left m → Balanced limit left m'
balance-give_back_refused limit left m m' f r e b =
    subst (Balanced limit left) (sym (ap (λ (y : Result (Unit {0}) Refusal × BankState). y.1) (stayed m m' f r e).1)) b

-- a quota after a grant below that was accepted: what it answers, and what it keeps
pub quota_granted : {B : Type 0} (model : B → BankState) (s t : Quota B) (f : ℕ) → t.limit ≡ s.limit → t.left + 1 ≡ s.left → ◌≡◌ {A = Result ℕ Refusal × BankState} (Ok f, model t.below) (grant (model s.below)) → ◌≡◌ {A = Result ℕ Refusal × BankState} (Ok f, quota_of model t) (grant (quota_of model s))
quota_granted model s t f same less e =
    let more : suc t.left ≡ s.left = omega arith in
    ap {B = Result ℕ Refusal × BankState} (λ k. (Ok f, limited k t.left (model t.below))) same ∙
    subst (λ k. ◌≡◌ {A = Result ℕ Refusal × BankState} (Ok f, limited s.limit t.left (model t.below)) (grant (limited s.limit k (model s.below)))) more
    (granted s.limit t.left (model s.below).spare (model s.below) (model t.below) f e)

pub quota_grant : {B : Type 0} (model : B → BankState) (s t : Quota B) (f : ℕ) → t.limit ≡ s.limit → t.left + 1 ≡ s.left → ◌≡◌ {A = Result ℕ Refusal × BankState} (Ok f, model t.below) (grant (model s.below)) → KeepsQuota model s t
quota_grant model s t f same less e =
    record {
      same_limit = same;
      balance = λ sound b. subst (λ k. Balanced k t.left (model t.below)) (sym same)
          (balance_granting s.limit s.left t.left (model s.below).spare (model s.below) (model t.below) f refl less sound b e);
    }

-- what a quota keeps when a frame came back
pub quota_give_back : {B : Type 0} (model : B → BankState) (s : Quota B) (below : B) (left f : ℕ) → left ≡ min (s.left + 1) 255 → ◌≡◌ {A = Result (Unit {0}) Refusal × BankState} (Ok tt, model below) (give_back f (model s.below)) → KeepsQuota model s (record { below = below; limit = s.limit; left = left })
quota_give_back model s below left f more e =
    record { same_limit = refl; balance = balance_give_back s.limit s.left left (model s.below) (model below) f more e }

-- the front of an opening list is proper, too
pub proper_front : (n k : ℕ) (fs : List ℕ) → Proper n fs → Proper n (take k fs)
proper_front n k fs p = proper-take n k fs p

pub quota_sound : QuotaSound
quota_sound limit left m s =
    record {
      few = s.few;
      opening_proper = proper-take m.size limit m.opening s.opening_proper;
      spare_proper = proper-take m.size left m.spare s.spare_proper;
      spare_in = λ f h. s.spare_in f (member_take left m.spare f h);
      out_below = s.out_below;
      in_clear = s.in_clear;
    }
