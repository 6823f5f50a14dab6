-- Every call of a run is good, and so what holds of each call holds of the run.
use Rattle.std.proofs.Common.{◌≡◌, ℕ, ◌+◌, ◌<◌, ◌≤◌, true, false, ◌⊎◌, List, [], ◌∷◌, get_or, replicate, Some, None, Ok, Option, Result, sym, refl, ap, ◌∙◌, subst, inl, inr, arith}
use mathlib.Core.Path.{fun_ext}
use Rattle.std.proofs.lemmas.List.{length-replicate, get_or-replicate, get_or_past}
use Rattle.std.proofs.lemmas.Bool.{cases_lt}
use Rattle.refusal.specs.declared.Refusal.{Refusal}
use Rattle.bank.specs.Model.{BankState, frame_bytes, reset}
use Rattle.bank.specs.Sound.{Proper}
use Rattle.model.specs.declared.Patch.{Patch}
use Rattle.model.specs.declared.Row.{Row}
use Rattle.model.specs.declared.Span.TheVariants.{Idle}
use Rattle.model.specs.declared.Meshed.{Meshed}
use Rattle.model.specs.Geometry.{Geometry, address_of}
use Rattle.model.specs.State.{State, opened}
use Rattle.model.specs.Calls as calls
use Rattle.model.specs.Mesh as meshes
use Rattle.model.specs.Mesh.{Meaning}
use Rattle.model.specs.Runs.{Call, New, Write, Read, Fetch, Place, Delete, Mesh, Count, to_mesh, to_place, History, accepted, step, run, KnownLabel, KnownLabels, Lawful}
use Rattle.laws.specs.Book.{Addresses, book_after, addresses_after}
use Rattle.laws.specs.Shape.{Shape, Shaped, row_table}
use Rattle.laws.specs.Counts.{summed, opened_in, merges_in, emptied_in, ToldTruly, proposed, deletes}
use Rattle.laws.specs.Laws.{Play, start, history, end, next, after, first, ShapeLaw, AddressLaw, TotalLaw, RefusalLaw, MergeLaw}
use Rattle.laws.proofs.Tables.{none_some}
use Rattle.laws.proofs.Totals.{rows_out}
use Rattle.laws.proofs.Facts.{owners_same}
use Rattle.laws.proofs.Taken.{opened-shape}
use Rattle.laws.proofs.Good.{contents_of, Noted, Good}
use Rattle.laws.proofs.Steps.{new_good, write_good, read_good, fetch_good, place_good, count_good, delete_good}
use Rattle.laws.proofs.Meshes.{mesh_good, mesh_cases}

-- a row of nothing
pub none_rows : (n : ℕ) → row_table (replicate n None) ≡ (λ f. None)
none_rows n = fun_ext (λ f. by_place f (cases_lt f n))
  where
    by_place : (f : ℕ) → (f < n) ⊎ (n ≤ f) → get_or {A = Option Row} (replicate n None) f None ≡ None
    by_place f (inl below) = get_or-replicate n f None None below
    by_place f (inr past) = get_or_past (replicate n None) f None (omega (arith, past, length-replicate {A = Option Row} n None))

pub opened_shaped : {C : Type 0} (g : Geometry) (bank : BankState) (condition : C) (seed : ℕ) → bank.size ≤ g.frames → Proper bank.size bank.opening
    → Shaped g (opened g bank condition seed)
opened_shaped g bank condition seed few proper =
    record {
      shape = subst (λ rows. Shape g (λ l. None) (λ h. Idle) rows (reset bank)) (sym (none_rows g.frames)) (opened-shape g bank few proper);
      long = length-replicate {A = Option Row} g.frames None;
      no_row_empty = λ f row has. absurd (none_some (sym (ap (λ (rows : ℕ → Option Row). rows f) (none_rows g.frames)) ∙ has));
    }

module _ {C : Type 0} (g : Geometry) (meaning : Meaning C) (short : g.frame ≤ frame_bytes) (lawful : Lawful meaning) where
  pub step_good : (c : Call) (s : State C) → Shaped g s → KnownLabel g c → Good g c s (step g meaning c s).0 (step g meaning c s).1
  step_good (New l n) s shaped known = new_good s shaped short l n known
  step_good (Write l o bytes) s shaped known = write_good s shaped short l o bytes
  step_good (Read l o n) s shaped known = read_good s shaped short l o n
  step_good (Fetch a n) s shaped known = fetch_good s shaped short a n
  step_good (Place l) s shaped known = place_good s shaped short l
  step_good (Delete l) s shaped known = delete_good s shaped short l
  step_good (Mesh class) s shaped known = mesh_good g short s shaped meaning lawful class
  step_good Count s shaped known = count_good s shaped short

  -- what a run comes to
  pub record Ran (s : State C) (h : History) (t : State C) : Type 0 where
    pub shaped : Shaped g t
    pub size : t.bank.size ≡ s.bank.size
    pub contents : contents_of g t ≡ book_after h (contents_of g s)
    pub noted : (first : Addresses) → Noted g first s.labels → Noted g (addresses_after h first) t.labels
    pub balanced :
        rows_out g.frames (row_table t.rows) + summed merges_in h + summed emptied_in h ≡ rows_out g.frames (row_table s.rows) + summed opened_in h

  pub run_good : (cs : List Call) (s : State C) → Shaped g s → KnownLabels g cs → Ran s (run g meaning cs s).0 (run g meaning cs s).1
  run_good [] s shaped known = record { shaped = shaped; size = refl; contents = refl; noted = λ first h. h; balanced = omega arith }
  run_good (c ∷ cs) s shaped known =
      let now = step_good c s shaped known.0 in
      let rest = run_good cs (step g meaning c s).1 now.shaped known.1 in
      record {
        shaped = rest.shaped;
        size = rest.size ∙ now.size;
        contents = rest.contents ∙ ap (book_after (run g meaning cs (step g meaning c s).1).0) (fun_ext now.contents);
        noted = λ first h. rest.noted _ (now.noted first h);
        balanced = omega (arith, now.balanced, rest.balanced);
      }

  pub mesh-told : (s : State C) → Shaped g s → (class : ℕ) (m : Meshed) → (meshes.mesh g meaning class s).0 ≡ Ok m
      → ToldTruly g (row_table s.rows) (row_table (meshes.mesh g meaning class s).1.rows) m
  mesh-told s shaped class m =
      mesh_cases g short s shaped meaning lawful class
      (λ r. r.0 ≡ Ok m → ToldTruly g (row_table s.rows) (row_table r.1.rows) m)
      (λ e. absurd (let z : ◌≡◌ {A = ℕ} 0 1 = cc in omega arith))
      (λ last u far count e.
      let same : last ≡ m = cc in
      subst (ToldTruly g (row_table s.rows) (row_table u.rows)) same far.told)

  pub mesh_all : (s : State C) → Shaped g s → (class : ℕ) → accepted (to_mesh (meshes.mesh g meaning class s).0) ≡ true
      → merges_in (to_mesh (meshes.mesh g meaning class s).0) ≡ proposed g meaning (Mesh class) s
  mesh_all s shaped class =
      mesh_cases g short s shaped meaning lawful class
      (λ r. accepted (to_mesh r.0) ≡ true → merges_in (to_mesh r.0) ≡ proposed g meaning (Mesh class) s)
      (λ e. absurd (let z : ◌≡◌ {A = ℕ} 0 1 = cc in omega arith))
      (λ last u far count e. count)

module _ {C : Type 0} {g : Geometry} (play : Play C g) where
  pub played_well : Ran g play.meaning play.frames_fit play.lawful (start play) (history play) (end play)
  played_well =
      run_good g play.meaning play.frames_fit play.lawful play.calls (start play)
      (opened_shaped g play.bank play.condition play.seed play.few_frames play.proper) play.known

  pub noted_well : Noted g (first play) (end play).labels
  noted_well = played_well.noted (λ l. None) (λ l p live. absurd (none_some live))

  pub next_good : (c : Call) → KnownLabel g c → Good g c (end play) (next play c) (after play c)
  next_good c known = step_good g play.meaning play.frames_fit play.lawful c (end play) played_well.shaped known

pub shape_law : (C : Type 0) → ShapeLaw C
shape_law C g play = ((played_well play).shaped, owners_same (played_well play).shaped.shape)

pub refusal_law : (C : Type 0) → RefusalLaw C
refusal_law C g play c known = (next_good play c known).refused

pub total_law : (C : Type 0) → TotalLaw C
total_law C g play c known = ((next_good play c known).expected, merges c)
  where
    merges : (c : Call) → accepted (next play c) ≡ true → merges_in (next play c) ≡ proposed g play.meaning c (end play)
    merges (New l n) e = refl
    merges (Write l o bytes) e = refl
    merges (Read l o n) e = refl
    merges (Fetch a n) e = refl
    merges (Place l) e = refl
    merges (Delete l) e = refl
    merges (Mesh class) e = mesh_all g play.meaning play.frames_fit play.lawful (end play) (played_well play).shaped class e
    merges Count e = refl

pub address_law : (C : Type 0) → AddressLaw C
address_law C g play l a placed = by_label ((end play).labels l) refl placed
  where
    same : (x : ℕ) → to_place (Ok x) ≡ to_place (Ok a) → x ≡ a
    same x e = cc

    by_label : (o : Option Patch) → (end play).labels l ≡ o → to_place (calls.placing g o) ≡ to_place (Ok a)
        → (first play l ≡ Some a)
        × ((c : Call) → KnownLabel g c → deletes l c ≡ false → to_place (calls.placing g ((after play c).labels l)) ≡ to_place (Ok a))
    by_label None e placed = absurd (let z : ◌≡◌ {A = ℕ} 0 1 = cc in omega arith)
    by_label (Some p) e placed = (
      noted_well play l p e ∙ ap (λ x. Some x) (same (address_of g p) placed),
      λ c known stays. ap (λ o. to_place (calls.placing g o)) ((next_good play c known).kept l p e stays) ∙ placed,
    )

pub merge_law : (C : Type 0) → MergeLaw C
merge_law C g play class m e =
    mesh-told g play.meaning play.frames_fit play.lawful (end play) (played_well play).shaped class m (same (meshes.mesh g play.meaning class (end play)).0 e)
  where
    same : (r : Result Meshed Refusal) → to_mesh r ≡ to_mesh (Ok m) → r ≡ Ok m
    same r e = cc
