-- The proofs of the laws of banks.
use Rattle.std.proofs.Common.{◌≡◌, ℕ, zero, suc, ◌+◌, ◌<◌, ◌≤◌, Bool, true, false, cond, leb, List, [], ◌∷◌, map, length, take, replicate, Ok, Err, Result, sym, refl, ap, ◌∙◌, subst, ⊎_elim, arith}
use mathlib.Core.List.Memᴰ
use mathlib.Core.List.{Memᴰ}
use Rattle.std.specs.List.{range_with_len}
use Rattle.refusal.specs.declared.Refusal.{Refusal}
use Rattle.refusal.specs.declared.Refusal.TheVariants.{Edge, NotOut}
use Rattle.std.proofs.lemmas.Bool.{cases_eq, both_ways, cond-true, cond_both, le-leb}
use Rattle.bank.specs.Tables.{put, peek, poke}
use Rattle.bank.specs.Model.{BankState, granting, grant, returned, read, written}
use Rattle.bank.specs.Sound.{Proper, Sound}
use Rattle.bank.proofs.Puts.{put_at, put_other}
use Rattle.bank.specs.Laws.{ResetSound, StaysSound, Regrants, GrantsZeros, RefusalsKeep}

-- each member of a proper list is below its bound
pub proper-below : (n : ℕ) (fs : List ℕ) (f : ℕ) → Proper n fs → Memᴰ f fs → f < n
proper-below n [] f p m = absurd (Memᴰ.not-nil m)
proper-below n (x ∷ fs) f p m =
    ⊎_elim (λ (same : f ≡ x). let low = p.0 in omega arith)
    (λ (later : Memᴰ f fs). proper-below n fs f p.2 later)
    (Memᴰ.cases_cons m)

-- a front of a list has no other members
pub member_take : (k : ℕ) (fs : List ℕ) (f : ℕ) → Memᴰ f (take k fs) → Memᴰ f fs
member_take zero fs f m = absurd (Memᴰ.not-nil m)
member_take (suc k) [] f m = absurd (Memᴰ.not-nil m)
member_take (suc k) (x ∷ fs) f m =
    ⊎_elim (λ (same : f ≡ x). Memᴰ.head same)
    (λ (later : Memᴰ f (take k fs)). Memᴰ.tail (member_take k fs f later))
    (Memᴰ.cases_cons m)

pub proper-take : (n k : ℕ) (fs : List ℕ) → Proper n fs → Proper n (take k fs)
proper-take n zero fs p = tt
proper-take n (suc k) [] p = tt
proper-take n (suc k) (x ∷ fs) p = (p.0, (λ m. p.1 (member_take k fs x m)), proper-take n k fs p.2)

pub reset_sound : ResetSound
reset_sound m few proper =
    record {
      few = few;
      opening_proper = proper;
      spare_proper = proper;
      spare_in = λ f m. refl;
      out_below = λ f e. absurd (both_ways false refl e);
      in_clear = λ f i e. refl;
    }

granted_sound : (l : List ℕ) (m : BankState) → m.spare ≡ l → Sound m → Sound (granting l m).1
granted_sound [] m e s = s
granted_sound (f ∷ rest) m e s =
    let proper : Proper m.size (f ∷ rest) = subst (λ l. Proper m.size l) e s.spare_proper in
    record {
      few = s.few;
      opening_proper = s.opening_proper;
      spare_proper = proper.2;
      spare_in = λ g h.
          ⊎_elim
          (λ (same : g ≡ f). absurd (proper.1 (subst (λ q. Memᴰ q rest) same h)))
          (λ (differ : g ≡ f → ⊥). put_other m.out f true g differ ∙
          s.spare_in g (subst (λ l. Memᴰ g l) (sym e) (Memᴰ.tail h)))
          (cases_eq g f);
      out_below = λ g h.
          ⊎_elim
          (λ (same : g ≡ f). let low = proper.0 in omega arith)
          (λ (differ : g ≡ f → ⊥). s.out_below g (sym (put_other m.out f true g differ) ∙ h))
          (cases_eq g f);
      in_clear = λ g i h.
          ⊎_elim
          (λ (same : g ≡ f). absurd (both_ways (put m.out f true g) h (put_at m.out f true g same)))
          (λ (differ : g ≡ f → ⊥). s.in_clear g i (sym (put_other m.out f true g differ) ∙ h))
          (cases_eq g f);
    }

returned_sound : (f : ℕ) (m : BankState) → m.out f ≡ true → Sound m → Sound (returned f m)
returned_sound f m on s =
    record {
      few = s.few;
      opening_proper = s.opening_proper;
      spare_proper = (s.out_below f on, (λ h. both_ways (m.out f) (s.spare_in f h) on), s.spare_proper);
      spare_in = λ g h.
          ⊎_elim
          (λ (same : g ≡ f). put_at m.out f false g same)
          (λ (differ : g ≡ f → ⊥). put_other m.out f false g differ ∙
          s.spare_in g (⊎_elim (λ (same : g ≡ f). absurd (differ same)) (λ (later : Memᴰ g m.spare). later) (Memᴰ.cases_cons h)))
          (cases_eq g f);
      out_below = λ g h.
          ⊎_elim
          (λ (same : g ≡ f). absurd (both_ways (put m.out f false g) (put_at m.out f false g same) h))
          (λ (differ : g ≡ f → ⊥). s.out_below g (sym (put_other m.out f false g differ) ∙ h))
          (cases_eq g f);
      in_clear = λ g i h.
          ⊎_elim
          (λ (same : g ≡ f). ap (λ (row : ℕ → ℕ). row i) (put_at m.bytes f (λ i. 0) g same))
          (λ (differ : g ≡ f → ⊥). ap (λ (row : ℕ → ℕ). row i) (put_other m.bytes f (λ i. 0) g differ) ∙
          s.in_clear g i (sym (put_other m.out f false g differ) ∙ h))
          (cases_eq g f);
    }

written_sound : (f o : ℕ) (bs : List ℕ) (m : BankState) → m.out f ≡ true → Sound m → Sound (written f o bs m)
written_sound f o bs m on s =
    record {
      few = s.few;
      opening_proper = s.opening_proper;
      spare_proper = s.spare_proper;
      spare_in = s.spare_in;
      out_below = s.out_below;
      in_clear = λ g i h.
          ⊎_elim
          (λ (same : g ≡ f). absurd (both_ways (m.out f) (ap m.out (sym same) ∙ h) on))
          (λ (differ : g ≡ f → ⊥).
          ap (λ (row : ℕ → ℕ). row i) (put_other m.bytes f (poke (m.bytes f) o bs) g differ) ∙ s.in_clear g i h)
          (cases_eq g f);
    }

pub stays_sound : StaysSound
stays_sound m s =
    let sound : Result (Unit {0}) Refusal × BankState → Type 0 = λ r. Sound r.1 in
    record {
      after_reset = reset_sound m s.few s.opening_proper;
      after_grant = granted_sound m.spare m refl s;
      after_give_back = λ f. cond_both (m.out f) _ _ sound (λ on. returned_sound f m on s) (λ off. s);
      after_write = λ f o bs.
          cond_both (leb (o + length bs) 1024) _ _ sound
          (λ fits. cond_both (m.out f) _ _ sound (λ on. written_sound f o bs m on s) (λ off. s))
          (λ edge. s);
    }

pub regrants : Regrants
regrants m f on = ap (λ (x : Result (Unit {0}) Refusal × BankState). (grant x.1).0) (cond-true (m.out f) (Ok tt, returned f m) (Err NotOut, m) on)

-- a row of zeros reads as zeros
peek-zeros : (row : ℕ → ℕ) (o n : ℕ) → ((i : ℕ) → row i ≡ 0) → peek row o n ≡ replicate n 0
unfolding peek
peek-zeros row o zero h = refl
peek-zeros row o (suc n) h =
    let here : row o ≡ 0 = h o in
    let rest : map row (range_with_len (o + 1) n) ≡ replicate n 0 = peek-zeros row (o + 1) n h in cc

granted_zeros : (l : List ℕ) (m : BankState) (f o : ℕ) (buffer : List ℕ) → m.spare ≡ l → Sound m → (granting l m).0 ≡ Ok f → o + length buffer ≤ 1024 → read f o buffer (granting l m).1 ≡ (Ok tt, replicate (length buffer) 0)
granted_zeros [] m f o buffer e s h fits = cc
granted_zeros (g ∷ rest) m f o buffer e s h fits =
    let same : f ≡ g = cc in
    let clear : (i : ℕ) → m.bytes f i ≡ 0 =
    λ i. s.in_clear f i (s.spare_in f (subst (λ l. Memᴰ f l) (sym e) (Memᴰ.head same))) in
    cond-true (leb (o + length buffer) 1024) _ _ (le-leb (o + length buffer) 1024 fits) ∙
    (cond-true (put m.out g true f) _ _ (put_at m.out g true f same) ∙
    ap (λ b. (Ok tt, b)) (peek-zeros (m.bytes f) o (length buffer) clear))

pub grants_zeros : GrantsZeros
grants_zeros m f o buffer s h fits = granted_zeros m.spare m f o buffer refl s h fits

-- what a refused call leaves, where one way of its test is accepted
refused_at : {A B : Type 0} (b : Bool) (x : A) (y : B) (w : Result A Refusal × B) (e : Refusal) → (w.0 ≡ Err e → w.1 ≡ y) → (r : Refusal) → (cond b w (Err r, y)).0 ≡ Err e → (cond b w (Err r, y)).1 ≡ y
refused_at true x y w e inner r h = inner h
refused_at false x y w e inner r h = refl

accepted_not : {A B : Type 0} (x : A) (b y : B) (e : Refusal) → ◌≡◌ {A = Result A Refusal} (Ok x) (Err e) → b ≡ y
accepted_not x b y e h = cc

grant_keeping : (l : List ℕ) (m : BankState) (e : Refusal) → (granting l m).0 ≡ Err e → (granting l m).1 ≡ m
grant_keeping [] m e h = refl
grant_keeping (f ∷ rest) m e h = accepted_not f _ _ e h

pub refusals_keep : RefusalsKeep
refusals_keep m e =
    record {
      grant_keeps = grant_keeping m.spare m e;
      give_back_keeps = λ f h. refused_at (m.out f) tt m (Ok tt, returned f m) e (accepted_not tt (returned f m) m e) NotOut h;
      read_keeps = λ f o buffer h.
          refused_at (leb (o + length buffer) 1024) tt buffer (cond (m.out f) (Ok tt, peek (m.bytes f) o (length buffer)) (Err NotOut, buffer)) e
          (refused_at (m.out f) tt buffer (Ok tt, peek (m.bytes f) o (length buffer)) e (accepted_not tt _ _ e) NotOut)
          Edge h;
      write_keeps = λ f o bs h.
          refused_at (leb (o + length bs) 1024) tt m (cond (m.out f) (Ok tt, written f o bs m) (Err NotOut, m)) e
          (refused_at (m.out f) tt m (Ok tt, written f o bs m) e (accepted_not tt _ _ e) NotOut)
          Edge h;
    }
