-- Runs: lists of calls to a pool, and the history of what was answered.
use Rattle.std.specs.Prelude.{◌≡◌, ℕ, ◌<◌, Bool, true, false, List, [], ◌∷◌, length, replicate, Ok, Err, Result, ◌≢◌, slice_index}
use Rattle.refusal.specs.declared.Refusal.{Refusal}
use Rattle.joining.specs.Kinds.{masks_join}
use Rattle.model.specs.declared.Made.{Made}
use Rattle.model.specs.declared.Meshed.{Meshed}
use Rattle.model.specs.declared.Counts.{Counts}
use Rattle.model.specs.Geometry.{Geometry}
use Rattle.model.specs.State.{State}
use Rattle.model.specs.Calls as calls
use Rattle.model.specs.Mesh as meshes
use Rattle.model.specs.Mesh.{Meaning}

-- A call with its arguments. Read and Fetch have the number of bytes asked for.
pub data Call : Type 0 where
  New : ℕ → ℕ → Call
  Write : ℕ → ℕ → List ℕ → Call
  Read : ℕ → ℕ → ℕ → Call
  Fetch : ℕ → ℕ → Call
  Place : ℕ → Call
  Delete : ℕ → Call
  Mesh : ℕ → Call
  Count : Call

-- What a call answers. An accepted read or fetch answers the bytes that it put into its buffer.
pub data Answer : Type 0 where
  to_new : Result Made Refusal → Answer
  to_write : Result ℕ Refusal → Answer
  to_read : Result (List ℕ) Refusal → Answer
  to_fetch : Result (List ℕ) Refusal → Answer
  to_place : Result ℕ Refusal → Answer
  to_delete : Result Bool Refusal → Answer
  to_mesh : Result Meshed Refusal → Answer
  to_count : Counts → Answer

-- a history: each call with its answer
abbrev pub History : Type 0
History = List (Call × Answer)

-- the history of calls whose answers were kept beside them: each call with its answer, as far as there are both
abbrev pub told : List Call → List Answer → History
told [] answers = []
told (c ∷ calls) [] = []
told (c ∷ calls) (a ∷ answers) = (c, a) ∷ told calls answers

-- whether it is an answer and no refusal
abbrev pub is_ok : {A : Type 0} → Result A Refusal → Bool
is_ok (Ok a) = true
is_ok (Err e) = false

abbrev pub accepted : Answer → Bool
accepted (to_new r) = is_ok r
accepted (to_write r) = is_ok r
accepted (to_read r) = is_ok r
accepted (to_fetch r) = is_ok r
accepted (to_place r) = is_ok r
accepted (to_delete r) = is_ok r
accepted (to_mesh r) = is_ok r
accepted (to_count n) = true

-- the bytes of the buffer, where the call was accepted
abbrev pub filled : Result (Unit {0}) Refusal × List ℕ → Result (List ℕ) Refusal
filled (Ok u, bytes) = Ok bytes
filled (Err e, bytes) = Err e

abbrev pub answered : {A S : Type 0} → (A → Answer) → A × S → Answer × S
answered kind r = (kind r.0, r.1)

-- one call: its answer, and the pool afterwards
abbrev pub step : {C : Type 0} → Geometry → Meaning C → Call → State C → Answer × State C
step g meaning (New l n) s = answered to_new (calls.new g l n s)
step g meaning (Write l o bytes) s = answered to_write (calls.write g l o bytes s)
step g meaning (Read l o n) s = (to_read (filled (calls.read g l o (replicate n 0) s)), s)
step g meaning (Fetch a n) s = (to_fetch (filled (calls.fetch g a (replicate n 0) s)), s)
step g meaning (Place l) s = (to_place (calls.place g l s), s)
step g meaning (Delete l) s = answered to_delete (calls.delete g l s)
step g meaning (Mesh class) s = answered to_mesh (meshes.mesh g meaning class s)
step g meaning Count s = (to_count (calls.count g s), s)

-- a list of calls, one after the other: the history, and the pool afterwards
abbrev pub run : {C : Type 0} → Geometry → Meaning C → List Call → State C → History × State C
run g meaning [] s = ([], s)
run g meaning (c ∷ cs) s =
    let now = step g meaning c s in
    let rest = run g meaning cs now.1 in
    ((c, now.0) ∷ rest.0, rest.1)

-- the label of a call, if it has one, is one that the pool has
abbrev pub KnownLabel : Geometry → Call → Type 0
KnownLabel g (New l n) = l < g.labels
KnownLabel g (Write l o bytes) = l < g.labels
KnownLabel g (Read l o n) = l < g.labels
KnownLabel g (Fetch a n) = Unit {0}
KnownLabel g (Place l) = l < g.labels
KnownLabel g (Delete l) = l < g.labels
KnownLabel g (Mesh class) = Unit {0}
KnownLabel g Count = Unit {0}

abbrev pub KnownLabels : Geometry → List Call → Type 0
KnownLabels g [] = Unit {0}
KnownLabels g (c ∷ cs) = KnownLabel g c × KnownLabels g cs

-- the place k stands in none of the pairs
abbrev pub Unpaired : ℕ → List (ℕ × ℕ) → Type 0
Unpaired k [] = Unit {0}
Unpaired k ((i, j) ∷ pairs) = (k ≢ i) × (k ≢ j) × Unpaired k pairs

-- both places of each pair have masks, they differ and their masks join, and no place stands in two pairs
abbrev pub Fair : List ℕ → List (ℕ × ℕ) → Type 0
Fair masks [] = Unit {0}
Fair masks ((i, j) ∷ pairs) =
    (i < length masks) × (j < length masks) × (i ≢ j) × (masks_join (slice_index masks i) (slice_index masks j) ≡ true)
    × Unpaired i pairs
    × Unpaired j pairs
    × Fair masks pairs

-- a pairing is lawful when all that it proposes, in any condition and for any masks, is so
abbrev pub Lawful : {C : Type 0} → Meaning C → Type 0
Lawful {C} meaning = (c : C) (masks : List ℕ) → Fair masks (meaning.pairs c masks)
