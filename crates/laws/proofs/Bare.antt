-- A pool without its bytes, and without what its pairing keeps but for what that proposes: what each call makes of it
-- hangs on nothing else.
use Rattle.std.proofs.Common.{◌≡◌, ℕ, ◌+◌, ◌≤◌, Bool, true, false, cond, ◌&&◌, eqb, ltb, leb, List, [], ◌∷◌, map, length, get_or, set, replicate, Some, None, Ok, Err, Option, Result, sym, refl, ap, ◌∙◌, subst}
use lib.Bits.{and_comm}
use Rattle.refusal.specs.declared.Refusal.{Refusal}
use Rattle.refusal.specs.declared.Refusal.TheVariants.{Size, NotOut, Edge, Class}
use Rattle.bank.specs.Model as bank
use Rattle.bank.specs.Model.{BankState, frame_bytes}
use Rattle.model.specs.declared.Patch.{Patch}
use Rattle.model.specs.declared.Row.{Row}
use Rattle.model.specs.declared.Meshed.{Meshed}
use Rattle.model.specs.Geometry.{Geometry, class_of, slot_size, slot_offset, longest}
use Rattle.model.specs.State.{State, with_bank, frame_of}
use Rattle.model.specs.Calls as calls
use Rattle.model.specs.Calls.{serving, lowest_idle, leaving}
use Rattle.model.specs.Mesh as meshes
use Rattle.model.specs.Mesh.{Meaning, both, no_merge, receives, listed, masks_of}
use Rattle.model.specs.Runs.{Call, New, Write, Read, Fetch, Place, Delete, Mesh, Count, step, run, KnownLabels, Lawful}
use Rattle.laws.specs.Likeness.{conditioned, blank}
use Rattle.laws.specs.Shape.{Shaped, row_table}
use Rattle.laws.proofs.Copies.{with_bytes}
use Rattle.laws.proofs.Cases.{write_cases}
use Rattle.laws.proofs.Pairs.{PairReady, Ready, Agree, agree_same, ready_from}
use Rattle.laws.proofs.Meshes.{laid_state, SoFar, merge_into-is, pair_far, so_far_none}
use Rattle.laws.proofs.Plays.{step_good}
use Rattle.bank.specs.Tables.{put}

-- what a pairing proposes, by what it has seen
abbrev pub Strategy : Type 0
Strategy = List (List ℕ) → List ℕ → List (ℕ × ℕ)

abbrev pub erased : BankState → BankState
erased m = with_bytes (λ f i. 0) m

abbrev pub bare : {C : Type 0} → Meaning C → State C → State Strategy
bare meaning s =
    record {
      labels = s.labels;
      spans = s.spans;
      rows = s.rows;
      draw = s.draw;
      pairing = λ seen. meaning.pairs (conditioned meaning s.pairing seen);
      bank = erased s.bank;
    }

abbrev stripped : State Strategy → State Strategy
stripped b = with_bank (erased b.bank) b

-- a frame laid onto another
abbrev bare_laid : Geometry → ℕ → Row → ℕ → Row → State Strategy → State Strategy
bare_laid g f source h destination b = stripped (laid_state g f source h destination b)

abbrev bare_merge : Geometry → ℕ → ℕ → Option Row → Option Row → State Strategy → State Strategy
bare_merge g f h None other b = b
bare_merge g f h (Some row) None b = b
bare_merge g f h (Some row) (Some other) b = cond (receives g f row h other) (bare_laid g h other f row b) (bare_laid g f row h other b)

abbrev bare_merged : Geometry → List ℕ → List (ℕ × ℕ) → State Strategy → State Strategy
bare_merged g frames [] b = b
bare_merged g frames ((i, j) ∷ pairs) b =
    bare_merged g frames pairs (bare_merge g (get_or frames i 0) (get_or frames j 0) (row_table b.rows (get_or frames i 0)) (row_table b.rows (get_or frames j 0)) b)

abbrev bare_meshing : Geometry → List ℕ → State Strategy → State Strategy
bare_meshing g frames b =
    bare_merged g frames (b.pairing [] (masks_of b.rows frames)) (record {
      labels = b.labels;
      spans = b.spans;
      rows = b.rows;
      draw = b.draw;
      pairing = λ seen. b.pairing (masks_of b.rows frames ∷ seen);
      bank = b.bank;
    })

-- what a call makes of a bare pool
abbrev pub bare_step : Geometry → Call → State Strategy → State Strategy
bare_step g (New l n) b = (calls.new g l n b).1
bare_step g (Write l o bytes) b = b
bare_step g (Read l o n) b = b
bare_step g (Fetch a n) b = b
bare_step g (Place l) b = b
bare_step g (Delete l) b = stripped (calls.delete g l b).1
bare_step g (Mesh class) b = cond (ltb class (length g.sizes)) (bare_meshing g (listed g class b.rows) b) b
bare_step g Count b = b

abbrev pub bare_run : Geometry → List Call → State Strategy → State Strategy
bare_run g [] b = b
bare_run g (c ∷ cs) b = bare_run g cs (bare_step g c b)

blank_step : (g : Geometry) (c : Call) (b : State Strategy) → bare_step g c b ≡ bare_step g (blank c) b
blank_step g (New l n) b = refl
blank_step g (Write l o bytes) b = refl
blank_step g (Read l o n) b = refl
blank_step g (Fetch a n) b = refl
blank_step g (Place l) b = refl
blank_step g (Delete l) b = refl
blank_step g (Mesh class) b = refl
blank_step g Count b = refl

-- the bytes written do not matter
pub blank-run : (g : Geometry) (cs : List Call) (b : State Strategy) → bare_run g cs b ≡ bare_run g (map blank cs) b
blank-run g [] b = refl
blank-run g (c ∷ cs) b = blank-run g cs (bare_step g c b) ∙ ap (bare_run g (map blank cs)) (blank_step g c b)

module _ {C : Type 0} (g : Geometry) (meaning : Meaning C) (s : State C) where
  -- new
  module _ (l n : ℕ) where
    bare-homed : (h : ℕ) (spare : List ℕ) → bare meaning (calls.homed g l n h (bank.granting spare s.bank) s).1 ≡ (calls.homed g l n h (bank.granting spare (erased s.bank)) (bare meaning s)).1
    bare-homed h [] = refl
    bare-homed h (f ∷ rest) = refl

    bare-opening : (o : Option ℕ) → bare meaning (calls.opening g l n o s).1 ≡ (calls.opening g l n o (bare meaning s)).1
    bare-opening None = refl
    bare-opening (Some h) = bare-homed h s.bank.spare

    bare-served : (o : Option (ℕ × Row)) → bare meaning (calls.served g l n o s).1 ≡ (calls.served g l n o (bare meaning s)).1
    bare-served (Some (f, row)) = refl
    bare-served None = bare-opening (lowest_idle s.spans g.spans)

    bare-labelled : (o : Option Patch) → bare meaning (calls.labelled g l n o s).1 ≡ (calls.labelled g l n o (bare meaning s)).1
    bare-labelled (Some p) = refl
    bare-labelled None = bare-served (serving g (class_of g n) s.rows)

    bare-sized : (t : Bool) → bare meaning (cond t (calls.labelled g l n (s.labels l) s) (Err Size, s)).1
        ≡ (cond t (calls.labelled g l n (s.labels l) (bare meaning s)) (Err Size, bare meaning s)).1
    bare-sized true = bare-labelled (s.labels l)
    bare-sized false = refl

    bare-new : bare meaning (calls.new g l n s).1 ≡ (calls.new g l n (bare meaning s)).1
    bare-new = bare-sized (leb 1 n && leb n (longest g))

  -- delete
  module _ (l : ℕ) where
    bare-wiped : (f slot o : ℕ) (row : Row) (bs : List ℕ) (fits out : Bool)
        → bare meaning (calls.wiped g l f slot row (cond fits (cond out (Ok tt, bank.written f o bs s.bank) (Err NotOut, s.bank)) (Err Edge, s.bank)) s).1
        ≡ stripped (calls.wiped g l f slot row (cond fits (cond out (Ok tt, bank.written f o bs (erased s.bank)) (Err NotOut, erased s.bank)) (Err Edge, erased s.bank)) (bare meaning s)).1
    bare-wiped f slot o row bs true true = freed_again (eqb (leaving row slot).mask 0) (s.bank.out f)
      where
        freed_again : (t out : Bool)
            → bare meaning (cond t (calls.emptied g l f (cond out (Ok tt, bank.returned f (bank.written f o bs s.bank)) (Err NotOut, bank.written f o bs s.bank)) (with_bank (bank.written f o bs s.bank) s)) (
              Ok false,
              record { labels = put s.labels l None; spans = s.spans; rows = set s.rows f (Some (leaving row slot)); draw = s.draw; pairing = s.pairing; bank = bank.written f o bs s.bank },
            )).1
            ≡ stripped (cond t (calls.emptied g l f (cond out (Ok tt, bank.returned f (bank.written f o bs (erased s.bank))) (Err NotOut, bank.written f o bs (erased s.bank))) (with_bank (bank.written f o bs (erased s.bank)) (bare meaning s))) (
              Ok false,
              record { labels = put s.labels l None; spans = s.spans; rows = set s.rows f (Some (leaving row slot)); draw = s.draw; pairing = (bare meaning s).pairing; bank = bank.written f o bs (erased s.bank) },
            )).1
        freed_again true true = refl
        freed_again true false = refl
        freed_again false out = refl
    bare-wiped f slot o row bs true false = refl
    bare-wiped f slot o row bs false out = refl

    bare-clearing : (p : Patch) (f : ℕ) (o : Option Row) → bare meaning (calls.clearing g l p f o s).1 ≡ stripped (calls.clearing g l p f o (bare meaning s)).1
    bare-clearing p f None = refl
    bare-clearing p f (Some row) =
        let size = slot_size g (class_of g p.length) in
        bare-wiped f p.slot (slot_offset g p.length p.slot) row (replicate size 0) (leb (slot_offset g p.length p.slot + length {A = ℕ} (replicate size 0)) frame_bytes) (s.bank.out f)

    bare-framed : (p : Patch) (o : Option ℕ) → bare meaning (calls.framed g l p o s).1 ≡ stripped (calls.framed g l p o (bare meaning s)).1
    bare-framed p None = refl
    bare-framed p (Some f) = bare-clearing p f (row_table s.rows f)

    bare-deleting : (o : Option Patch) → bare meaning (calls.deleting g l o s).1 ≡ stripped (calls.deleting g l o (bare meaning s)).1
    bare-deleting None = refl
    bare-deleting (Some p) = bare-framed p (frame_of (s.spans p.span))

    bare-delete : bare meaning (calls.delete g l s).1 ≡ stripped (calls.delete g l (bare meaning s)).1
    bare-delete = bare-deleting (s.labels l)

-- mesh
module _ {C : Type 0} (g : Geometry) (meaning : Meaning C) (short : g.frame ≤ frame_bytes) (s : State C) (frames : List ℕ) (class : ℕ) where
  pair-bare : (done : Meshed) (t : State C) → SoFar g s done t → (f h : ℕ) (p : PairReady (row_table s.rows) class f h)
      → row_table t.rows f ≡ row_table s.rows f
      → row_table t.rows h ≡ row_table s.rows h
      → bare meaning (meshes.merge g f h (row_table t.rows f) (row_table t.rows h) t).1 ≡ bare_merge g f h (row_table t.rows f) (row_table t.rows h) (bare meaning t)
  pair-bare done t far f h p same-f same-h =
      subst (λ o. bare meaning (meshes.merge g f h o (row_table t.rows h) t).1 ≡ bare_merge g f h o (row_table t.rows h) (bare meaning t)) (sym (same-f ∙ p.has_first))
      (subst (λ o. bare meaning (meshes.merge g f h (Some p.first) o t).1 ≡ bare_merge g f h (Some p.first) o (bare meaning t)) (sym (same-h ∙ p.has_second))
      (by_test (receives g f p.first h p.second)))
    where
      by_test : (b : Bool) → bare meaning (cond b (meshes.merge_into g h p.second f p.first t) (meshes.merge_into g f p.first h p.second t)).1
          ≡ cond b (bare_laid g h p.second f p.first (bare meaning t)) (bare_laid g f p.first h p.second (bare meaning t))
      by_test true =
          ap (λ (r : Result Meshed Refusal × State C). bare meaning r.1)
          (merge_into-is g short s done t far h f p.second p.first (same-h ∙ p.has_second) (same-f ∙ p.has_first) (λ e. p.apart (sym e)) (p.second_class ∙ sym p.first_class) p.joins)
      by_test false =
          ap (λ (r : Result Meshed Refusal × State C). bare meaning r.1)
          (merge_into-is g short s done t far f h p.first p.second (same-f ∙ p.has_first) (same-h ∙ p.has_second) p.apart (p.first_class ∙ sym p.second_class) (and_comm p.second.mask p.first.mask ∙ p.joins))

  merged-bare : (pairs : List (ℕ × ℕ)) (done : Meshed) (t : State C) → SoFar g s done t → Ready (row_table s.rows) frames class pairs
      → Agree (row_table s.rows) (row_table t.rows) frames pairs
      → bare meaning (meshes.merged g frames pairs done t).1 ≡ bare_merged g frames pairs (bare meaning t)
  merged-bare [] done t far ready agree = refl
  merged-bare ((i, j) ∷ pairs) done t far ready agree =
      let a = get_or frames i 0 in
      let b = get_or frames j 0 in
      let step = pair_far g short s frames class pairs done t far a b ready.0 agree.0 agree.1 ready.1 ready.2 agree.2 in
      let now_bare : bare meaning step.now ≡ bare_merge g a b (row_table t.rows a) (row_table t.rows b) (bare meaning t) =
      sym (ap (λ (r : Result Meshed Refusal × State C). bare meaning r.1) step.is) ∙ pair-bare done t far a b ready.0 agree.0 agree.1 in
      ap (λ (r : Result Meshed Refusal × State C). bare meaning (meshes.merged_then g (meshes.merged g frames pairs) done r).1) step.is
      ∙ merged-bare pairs (both done step.more) step.now step.far ready.3 step.agree
      ∙ ap (bare_merged g frames pairs) now_bare

module _ {C : Type 0} (g : Geometry) (meaning : Meaning C) (short : g.frame ≤ frame_bytes) (lawful : Lawful meaning) where
  mesh-bare : (class : ℕ) (s : State C) → Shaped g s → bare meaning (meshes.mesh g meaning class s).1 ≡ bare_step g (Mesh class) (bare meaning s)
  mesh-bare class s shaped = by_test (ltb class (length g.sizes))
    where
      frames : List ℕ
      frames = listed g class s.rows

      masks : List ℕ
      masks = masks_of s.rows (listed g class s.rows)

      by_test : (t : Bool) → bare meaning (cond t (meshes.meshing g meaning (listed g class s.rows) s) (Err Class, s)).1
          ≡ cond t (bare_meshing g (listed g class s.rows) (bare meaning s)) (bare meaning s)
      by_test true =
          merged-bare g meaning short s frames class (meaning.pairs s.pairing masks) no_merge
          (record { labels = s.labels; spans = s.spans; rows = s.rows; draw = s.draw; pairing = meaning.next s.pairing masks; bank = s.bank })
          (so_far_none g short s shaped (meaning.next s.pairing masks))
          (ready_from g class s.rows (meaning.pairs s.pairing masks) (lawful s.pairing masks))
          (agree_same (row_table s.rows) frames (meaning.pairs s.pairing masks))
      by_test false = refl

  step-bare : (c : Call) (s : State C) → Shaped g s → bare meaning (step g meaning c s).1 ≡ bare_step g c (bare meaning s)
  step-bare (New l n) s shaped = bare-new g meaning s l n
  step-bare (Write l o bytes) s shaped =
      write_cases s shaped short l o bytes (λ r. bare meaning r.1 ≡ bare meaning s) (λ absent. refl) (λ p live past. refl) (λ p f live stands fits. refl)
  step-bare (Read l o n) s shaped = refl
  step-bare (Fetch a n) s shaped = refl
  step-bare (Place l) s shaped = refl
  step-bare (Delete l) s shaped = bare-delete g meaning s l
  step-bare (Mesh class) s shaped = mesh-bare class s shaped
  step-bare Count s shaped = refl

  -- a run without its bytes is the run of the pool without its bytes
  pub run-bare : (cs : List Call) (s : State C) → Shaped g s → KnownLabels g cs → bare meaning (run g meaning cs s).1 ≡ bare_run g cs (bare meaning s)
  run-bare [] s shaped known = refl
  run-bare (c ∷ cs) s shaped known =
      run-bare cs (step g meaning c s).1 (step_good g meaning short lawful c s shaped known.0).shaped known.1
      ∙ ap (bare_run g cs) (step-bare c s shaped)
