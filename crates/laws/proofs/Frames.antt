-- Equal frames and equal readings.
use Rattle.std.proofs.Common.{◌≡◌, ℕ, zero, suc, ◌+◌, ◌-◌, ◌<◌, ◌≤◌, false, ◌⊎◌, map, get_or, Some, None, Option, sym, refl, ap, ◌∙◌, subst, subst₂, inl, inr, arith}
use Rattle.std.proofs.lemmas.Bool.{cases_eq, cases_lt}
use Rattle.bank.specs.Tables.{peek}
use Rattle.draws.specs.Draws.{begun}
use Rattle.model.specs.declared.Patch.{Patch}
use Rattle.model.specs.declared.Span.{Span}
use Rattle.model.specs.Geometry.{Geometry, slot_offset}
use Rattle.model.specs.State.{State, frame_of}
use Rattle.laws.specs.Likeness.{blank}
use Rattle.laws.specs.Book.{Book}
use Rattle.laws.specs.Shape.{Stands, Owns, Shaped}
use Rattle.laws.specs.Laws.{Play, start, end, Alike, FrameLaw}
use Rattle.laws.proofs.Tables.{some_same, none_some, get_or-peek, peek_same}
use Rattle.laws.proofs.Facts.{patch-within, out_of_row}
use Rattle.laws.proofs.Contents.{content, content_at}
use Rattle.laws.proofs.Good.{contents_of}
use Rattle.laws.proofs.Plays.{opened_shaped, played_well}
use Rattle.laws.proofs.Readings.{same_readings_law}
use Rattle.laws.proofs.Bare.{Strategy, bare, bare_run, blank-run, run-bare}

-- whether a byte belongs to a live label
module _ (g : Geometry) (L : ℕ → Option Patch) (S : ℕ → Span) (f i : ℕ) where
  owned_by : (l : ℕ) (p : Patch) → L l ≡ Some p → (o : Option ℕ) → frame_of (S p.span) ≡ o → Owns g L S l f i ⊎ (Owns g L S l f i → ⊥)
  owned_by l p live None at = inr (λ w. none_some (sym at ∙ subst (λ (x : Patch). Stands S x f) (some_same (sym w.live ∙ live)) w.stands))
  owned_by l p live (Some q) at = by_places (cases_eq q f) (cases_lt i (slot_offset g p.length p.slot)) (cases_lt i (slot_offset g p.length p.slot + p.length))
    where
      by_places : (q ≡ f) ⊎ (q ≡ f → ⊥) → (i < slot_offset g p.length p.slot) ⊎ (slot_offset g p.length p.slot ≤ i)
          → (i < slot_offset g p.length p.slot + p.length) ⊎ (slot_offset g p.length p.slot + p.length ≤ i)
          → Owns g L S l f i ⊎ (Owns g L S l f i → ⊥)
      by_places (inl same) (inr from) (inl below) =
          inl (record { patch = p; live = live; stands = at ∙ ap (λ z. Some z) same; from = from; below = below })
      by_places (inl same) (inr from) (inr past) =
          inr (λ w.
          let below = subst (λ (x : Patch). i < slot_offset g x.length x.slot + x.length) (some_same (sym w.live ∙ live)) w.below in
          omega (arith, past, below))
      by_places (inl same) (inl early) within =
          inr (λ w.
          let from = subst (λ (x : Patch). slot_offset g x.length x.slot ≤ i) (some_same (sym w.live ∙ live)) w.from in
          omega (arith, early, from))
      by_places (inr apart) from within =
          inr (λ w. apart (some_same (sym at ∙ subst (λ (x : Patch). Stands S x f) (some_same (sym w.live ∙ live)) w.stands)))

  owned_at : (l : ℕ) (o : Option Patch) → L l ≡ o → Owns g L S l f i ⊎ (Owns g L S l f i → ⊥)
  owned_at l None e = inr (λ w. none_some (sym e ∙ w.live))
  owned_at l (Some p) e = owned_by l p e (frame_of (S p.span)) refl

  owned_below : (n : ℕ) → ((l : ℕ) × Owns g L S l f i) ⊎ ((l : ℕ) → l < n → Owns g L S l f i → ⊥)
  owned_below zero = inr (λ l below. absurd (omega arith))
  owned_below (suc n) = both (owned_at n (L n) refl) (owned_below n)
    where
      both : Owns g L S n f i ⊎ (Owns g L S n f i → ⊥) → ((l : ℕ) × Owns g L S l f i) ⊎ ((l : ℕ) → l < n → Owns g L S l f i → ⊥)
          → ((l : ℕ) × Owns g L S l f i) ⊎ ((l : ℕ) → l < suc n → Owns g L S l f i → ⊥)
      both (inl w) rest = inl (n, w)
      both (inr none) (inl found) = inl found
      both (inr none) (inr below) = inr (λ l h w. last l h w (cases_eq l n))
        where
          last : (l : ℕ) → l < suc n → Owns g L S l f i → (l ≡ n) ⊎ (l ≡ n → ⊥) → ⊥
          last l h w (inl same) = none (subst (λ z. Owns g L S z f i) same w)
          last l h w (inr apart) = below l (omega (arith, h, apart)) w

-- two pools with the same labels and spans
module _ {C D : Type 0} {g : Geometry} (s : State C) (t : State D) (shaped_s : Shaped g s) (shaped_t : Shaped g t)
    (labels : s.labels ≡ t.labels) (spans : s.spans ≡ t.spans) where
  live_in_t : (l : ℕ) (p : Patch) → s.labels l ≡ Some p → t.labels l ≡ Some p
  live_in_t l p live = sym (ap (λ (L : ℕ → Option Patch). L l) labels) ∙ live

  stands_in_t : (p : Patch) (f : ℕ) → Stands s.spans p f → Stands t.spans p f
  stands_in_t p f stands = sym (ap (λ (S : ℕ → Span). frame_of (S p.span)) spans) ∙ stands

  -- equal strings make equal frames
  bytes_same : ((l : ℕ) → contents_of g s l ≡ contents_of g t l) → (f i : ℕ) → s.bank.bytes f i ≡ t.bank.bytes f i
  bytes_same same f i = by_owner (owned_below g s.labels s.spans f i g.labels)
    where
      by_owner : ((l : ℕ) × Owns g s.labels s.spans l f i) ⊎ ((l : ℕ) → l < g.labels → Owns g s.labels s.spans l f i → ⊥) → s.bank.bytes f i ≡ t.bank.bytes f i
      by_owner (inl found) =
          let l = found.0 in
          let w = found.1 in
          let p = w.patch in
          let from = slot_offset g p.length p.slot in
          let strings : peek (s.bank.bytes f) from p.length ≡ peek (t.bank.bytes f) from p.length =
          some_same (sym (content_at g s.spans s.bank.bytes f (s.labels l) p w.live w.stands) ∙ same l ∙ content_at g t.spans t.bank.bytes f (t.labels l) p (live_in_t l p w.live) (stands_in_t p f w.stands)) in
          let here : from + (i - from) ≡ i = omega (arith, w.from) in
          let inside : i - from < p.length = omega (arith, w.from, w.below) in
          ap (s.bank.bytes f) (sym here)
          ∙ sym (get_or-peek (s.bank.bytes f) from p.length (i - from) 0 inside)
          ∙ ap (λ xs. get_or xs (i - from) 0) strings
          ∙ get_or-peek (t.bank.bytes f) from p.length (i - from) 0 inside
          ∙ ap (t.bank.bytes f) here
      by_owner (inr none) =
          let none_s : (l : ℕ) → Owns g s.labels s.spans l f i → ⊥ = λ l w. none l (shaped_s.shape.named l w.patch w.live) w in
          shaped_s.shape.clear f i none_s
          ∙ sym (shaped_t.shape.clear f i (λ l w. none_s l (subst₂ (λ (L : ℕ → Option Patch) (S : ℕ → Span). Owns g L S l f i) (sym labels) (sym spans) w)))

  -- equal frames make equal strings
  strings_same : ((f i : ℕ) → f < s.bank.size → i < g.frame → s.bank.bytes f i ≡ t.bank.bytes f i) → (l : ℕ) → contents_of g s l ≡ contents_of g t l
  strings_same same l = by_label (s.labels l) refl
    where
      by_label : (o : Option Patch) → s.labels l ≡ o → contents_of g s l ≡ contents_of g t l
      by_label None e =
          ap (content g s.spans s.bank.bytes) e
          ∙ sym (ap (content g t.spans t.bank.bytes) (sym (ap (λ (L : ℕ → Option Patch). L l) labels) ∙ e))
      by_label (Some p) e =
          let w = shaped_s.shape.placed l p e in
          let f = w.frame in
          let below = shaped_s.shape.out_below f (out_of_row shaped_s.shape f w.row w.has_row) in
          let within = patch-within shaped_s.shape l p e in
          content_at g s.spans s.bank.bytes f (s.labels l) p e w.stands
          ∙ ap (λ string. Some string) (peek_same (s.bank.bytes f) (t.bank.bytes f) (slot_offset g p.length p.slot) p.length (λ i from to. same f i below (omega (arith, to, within))))
          ∙ sym (content_at g t.spans t.bank.bytes f (t.labels l) p (live_in_t l p e) (stands_in_t p f w.stands))

-- two plays that are alike end alike, but for their bytes
ends_alike : {C D : Type 0} {g : Geometry} (one : Play C g) (two : Play D g) → Alike one two → bare one.meaning (end one) ≡ bare two.meaning (end two)
ends_alike {C} {D} {g} one two alike =
    run-bare g one.meaning one.frames_fit one.lawful one.calls (start one) (opened_shaped g one.bank one.condition one.seed one.few_frames one.proper) one.known
    ∙ blank-run g one.calls (bare one.meaning (start one))
    ∙ ap (λ cs. bare_run g cs (bare one.meaning (start one))) alike.calls
    ∙ ap (bare_run g (map blank two.calls)) starts
    ∙ sym (blank-run g two.calls (bare two.meaning (start two)))
    ∙ sym (run-bare g two.meaning two.frames_fit two.lawful two.calls (start two) (opened_shaped g two.bank two.condition two.seed two.few_frames two.proper) two.known)
  where
    starts : bare one.meaning (start one) ≡ bare two.meaning (start two)
    starts = λ j. record {
      labels = (start one).labels;
      spans = (start one).spans;
      rows = (start one).rows;
      draw = begun (alike.seeds j);
      pairing = λ seen masks. alike.pairings seen masks j;
      bank = record {
        size = alike.sizes j;
        opening = alike.openings j;
        spare = alike.openings j;
        out = λ f. false;
        bytes = λ f i. 0;
      };
    }

pub frame_law : (C D : Type 0) → FrameLaw C D
frame_law C D g one two alike =
    let ran = played_well one in
    let ran' = played_well two in
    let ends = ends_alike one two alike in
    let labels = ap (λ (b : State Strategy). b.labels) ends in
    let spans = ap (λ (b : State Strategy). b.spans) ends in
    let laws = same_readings_law C D g one two in
    let book_one = λ (l : ℕ). ap (λ (b : Book). b l) ran.contents in
    let book_two = λ (l : ℕ). ap (λ (b : Book). b l) ran'.contents in (
      λ frames. laws.1 (λ l. sym (book_one l) ∙ strings_same (end one) (end two) ran.shaped ran'.shaped labels spans (λ f i below. frames f i (subst (λ n. f < n) ran.size below)) l ∙ book_two l),
      λ readings f i below within. bytes_same (end one) (end two) ran.shaped ran'.shaped labels spans (λ l. book_one l ∙ laws.0 readings l ∙ sym (book_two l)) f i,
    )
